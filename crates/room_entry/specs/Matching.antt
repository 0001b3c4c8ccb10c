-- Which entries speak of a caller (RFC 8881, section 6.2.1).
use Rattle.std.specs.Prelude.{ℕ, ◌&&◌, Bool, true, false, not, List, is_none, is_some}
use Rattle.std.specs.List.{list_any}
use Rattle.std.specs.Option.{option_map_or}
use Rattle.room_entry.specs.Pieces.{same_text}
use Rattle.room_entry.specs.Ace.{Ace}
use Rattle.room_entry.specs.declared.parties.Caller.{Caller}
use Rattle.room_entry.specs.declared.parties.Owners.{Owners}
use Rattle.room_entry.specs.declared.entry.Who.{Who}
use Rattle.room_entry.specs.declared.entry.Who.TheVariants.{Owner, Group, Everyone, Anonymous}
use Rattle.room_entry.specs.declared.entry.Who.TheVariants.{Authenticated, User, Members}

-- the caller has this name
abbrev pub is_user : Caller → List ℕ → Bool
is_user caller name = option_map_or (λ user. same_text user name) caller.user false

-- the caller has a name, and is in the group
abbrev pub is_member : Caller → List ℕ → Bool
is_member caller group =
    is_some caller.user && list_any (λ other. same_text other group) caller.groups

-- the who speaks of the caller at an object of these owners
abbrev pub is_named : Who → Caller → Owners → Bool
is_named Owner caller owners = is_user caller owners.owner
is_named Group caller owners = is_member caller owners.group
is_named Everyone caller owners = true
is_named Anonymous caller owners = is_none caller.user
is_named Authenticated caller owners = is_some caller.user
is_named (User name) caller owners = is_user caller name
is_named (Members group) caller owners = is_member caller group

-- The entry matches the caller, by its who alone: the flag IDENTIFIER_GROUP changes nothing here.
abbrev pub is_match : Ace → Caller → Owners → Bool
is_match entry caller owners = is_named entry.who caller owners

-- an entry with INHERIT_ONLY isn't in force on the object that it stands on
abbrev pub is_in_force : Ace → Bool
is_in_force entry = not entry.flags.inherit_only
