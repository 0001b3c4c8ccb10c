-- Who owns an object of a question (own).
use Rattle.std.specs.Prelude.{ℕ, Bool, true, false, List, unwrap_or}
use Rattle.room_entry.specs.declared.parties.Owners.{Owners}
use Rattle.room_question.specs.declared.question.Object.{Object}
use Rattle.room_question.specs.declared.question.Owner.{Owner}
use Rattle.room_question.specs.declared.question.Owner.TheVariants.{User, Unread, Each}

-- each caller is to have made it themselves
abbrev pub is_each : Owner → Bool
is_each (User name) = false
is_each Unread = false
is_each Each = true

-- the owner, or this name where there is none, or no single one
abbrev pub owner_of : List ℕ → Owner → List ℕ
owner_of unread (User name) = name
owner_of unread Unread = unread
owner_of unread Each = unread

abbrev pub owners_of : List ℕ → Object → Owners
owners_of unread object =
    record { owner = owner_of unread object.owner; group = unwrap_or object.group unread }
