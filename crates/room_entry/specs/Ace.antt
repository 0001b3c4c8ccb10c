-- An access control entry as contracts see it (RFC 8881, section 6.2.1).
use Rattle.std.specs.Prelude.{ℕ, Bool, true, not, List}
use Rattle.room_entry.specs.declared.entry.EntryKind.{EntryKind}
use Rattle.room_entry.specs.declared.flags.EntryFlags.{EntryFlags}
use Rattle.room_entry.specs.declared.entry.Who.{Who}
use Rattle.room_entry.specs.declared.entry.Who.TheVariants.{Owner, Group, Everyone, Anonymous}
use Rattle.room_entry.specs.declared.entry.Who.TheVariants.{Authenticated, User, Members}

pub record Ace : Type 0 where
  pub kind : EntryKind
  pub flags : EntryFlags
  pub who : Who
  pub mask : List ℕ

-- the flag IDENTIFIER_GROUP stands with a group's name and not with a user's
abbrev pub fits_who : Who → Bool → Bool
fits_who Owner group = true
fits_who Group group = true
fits_who Everyone group = true
fits_who Anonymous group = true
fits_who Authenticated group = true
fits_who (User name) group = not group
fits_who (Members name) group = group
