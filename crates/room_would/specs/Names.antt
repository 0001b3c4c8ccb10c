-- The names of a question (own).
use Rattle.std.specs.Prelude.{◌≡◌, ℕ, false, List, [], ◌∷◌, ◌++◌, map}
use Rattle.std.specs.List.{flat_map}
use Rattle.std.specs.Option.{option_to_list}
use Rattle.room_entry.specs.Ace.{Ace}
use Rattle.room_entry.specs.declared.entry.Who.{Who}
use Rattle.room_entry.specs.declared.entry.Who.TheVariants.{Members}
use Rattle.room_question.specs.declared.question.Change.{Change}
use Rattle.room_question.specs.declared.question.Change.TheVariants.{Sets, Moves, Comes}
use Rattle.room_question.specs.declared.question.Listed.{Listed}
use Rattle.room_question.specs.declared.question.Listed.TheVariants as listed
use Rattle.room_question.specs.declared.question.Object.{Object}
use Rattle.room_question.specs.declared.question.Owner.{Owner}
use Rattle.room_question.specs.declared.question.Owner.TheVariants as owner
use Rattle.room_question.specs.declared.question.Question.{Question}
use Rattle.room_question.specs.declared.question.Supposed.{Supposed}
use Rattle.room_review.specs.Users.{is_listed, user_in}

-- ---- users

abbrev pub owner_in : Owner → List (List ℕ)
owner_in (owner.User name) = name ∷ []
owner_in owner.Unread = []
owner_in owner.Each = []

-- the users whom entries name
abbrev pub users_in : List Ace → List (List ℕ)
users_in entries = flat_map (λ entry. user_in entry.who) entries

abbrev pub users_listed : Listed → List (List ℕ)
users_listed listed.Follows = []
users_listed listed.Unread = []
users_listed (listed.Text sent) = users_in sent.entries

abbrev pub users_of_object : Object → List (List ℕ)
users_of_object object = owner_in object.owner ++ users_listed object.list

abbrev pub users_of_change : Change → List (List ℕ)
users_of_change (Sets setting) = users_in setting.list.entries
users_of_change (Moves moving) = []
users_of_change (Comes object) = users_of_object object

-- The users whom a question names: those of pairs, owners, and those whom lists name.
abbrev pub users_named : Question → List (List ℕ)
users_named question =
    map (λ pair. pair.1) question.members
    ++ (flat_map users_of_object question.objects ++ flat_map users_of_change question.changes)

-- ---- all other names

-- the group that an entry names
abbrev pub group_in : Who → List (List ℕ)
group_in (Members name) = name ∷ []
group_in _ = []

abbrev pub groups_in : List Ace → List (List ℕ)
groups_in entries = flat_map (λ entry. group_in entry.who) entries

abbrev pub groups_listed : Listed → List (List ℕ)
groups_listed listed.Follows = []
groups_listed listed.Unread = []
groups_listed (listed.Text sent) = groups_in sent.entries

abbrev pub groups_of_object : Object → List (List ℕ)
groups_of_object object = option_to_list object.group ++ groups_listed object.list

abbrev pub groups_of_change : Change → List (List ℕ)
groups_of_change (Sets setting) = groups_in setting.list.entries
groups_of_change (Moves moving) = []
groups_of_change (Comes object) = groups_of_object object

-- the user and the groups of a caller who may be
abbrev pub names_of_supposed : Supposed → List (List ℕ)
names_of_supposed supposed =
    option_to_list supposed.user ++ flat_map (λ name. name ∷ []) supposed.groups

-- the groups that a question names: those of pairs, owning groups, and those that lists name
abbrev pub groups_named : Question → List (List ℕ)
groups_named question =
    flat_map (λ pair. pair.0 ∷ []) question.members
    ++ (flat_map groups_of_object question.objects ++ flat_map groups_of_change question.changes)

abbrev pub others_named : Question → List (List ℕ)
others_named question =
    groups_named question ++ flat_map names_of_supposed question.supposed

abbrev pub names_in : Question → List (List ℕ)
names_in question = users_named question ++ others_named question

-- ---- names that are in no question

-- One for an owner or a group that isn't known, and another one for a caller whom nothing names.
pub record AreFree (question : Question) (unread stranger : List ℕ) : Type 0 where
  pub unread_is : is_listed unread (names_in question) ≡ false
  pub stranger_is : is_listed stranger (names_in question ++ unread ∷ []) ≡ false
