-- What holds of each entry and of each name.
use Rattle.std.specs.Prelude.{◌≡◌, ℕ, Bool, true, List, filter, IsTrue}
use Rattle.room_entry.specs.Bits.{all_bits, has}
use Rattle.room_entry.specs.Names.{is_name}
use Rattle.room_entry.specs.Ace.{Ace, fits_who}
use Rattle.room_entry.specs.Utf8.{is_utf8}
use Rattle.room_entry.specs.declared.entry.Who.{Who}
use Rattle.room_entry.specs.declared.entry.Who.TheVariants.{Owner, Group, Everyone, Anonymous}
use Rattle.room_entry.specs.declared.entry.Who.TheVariants.{Authenticated, User, Members}

abbrev pub has_name : Who → Bool
has_name Owner = true
has_name Group = true
has_name Everyone = true
has_name Anonymous = true
has_name Authenticated = true
has_name (User name) = is_name name
has_name (Members name) = is_name name

-- an entry with a name where its who has one, with the group flag that fits it, and with known bits
-- in order
pub record IsEntry (entry : Ace) : Type 0 where
  pub name : IsTrue (has_name entry.who)
  pub group : IsTrue (fits_who entry.who entry.flags.identifier_group)
  pub mask : filter (has entry.mask) all_bits ≡ entry.mask

-- A name is a text.
abbrev pub NamesAreText : Type 0
NamesAreText = (name : List ℕ) → IsTrue (is_name name) → IsTrue (is_utf8 name)
