-- The names that a review has rows of (own).
use Rattle.std.specs.Prelude.{◌≡◌, ℕ, ◌&&◌, ◌||◌, Bool, true, List, [], ◌∷◌, IsTrue}
use Rattle.std.specs.List.{flat_map, list_all, list_any}
use Rattle.room_entry.specs.Names.{is_name}
use Rattle.room_entry.specs.Pieces.{same_text}
use Rattle.room_entry.specs.declared.entry.Who.{Who}
use Rattle.room_entry.specs.declared.entry.Who.TheVariants.{User}
use Rattle.room_rows.specs.declared.node.Node.{Node}
use Rattle.room_rows.specs.Content.{is_before}
use Rattle.room_rows.specs.Held.{full_of}

-- the user whom an entry names
abbrev pub user_in : Who → List (List ℕ)
user_in (User name) = name ∷ []
user_in _ = []

-- the owner of an object, and the users whom its dacl names
abbrev pub users_at : Node → List (List ℕ)
users_at node = node.owners.owner ∷ flat_map (λ entry. user_in entry.who) (full_of node.dacl)

abbrev pub is_listed : List ℕ → List (List ℕ) → Bool
is_listed name names = list_any (λ other. same_text other name) names

-- the names rise in order of their bytes, so none stands twice
abbrev pub are_apart : List (List ℕ) → Bool
are_apart [] = true
are_apart (name ∷ []) = true
are_apart (name ∷ next ∷ names) = is_before name next && are_apart (next ∷ names)

-- a list of names has got these as well
abbrev pub Gathers : List (List ℕ) → List (List ℕ) → List (List ℕ) → Type 0
Gathers old more new =
    (name : List ℕ) → is_listed name new ≡ is_listed name old || is_listed name more

-- These users are the names, in order of their bytes, each once. Each is a user's name, so none is
-- called as one of the special names or `*`.
pub record AreUsers (names users : List (List ℕ)) : Type 0 where
  pub apart : IsTrue (are_apart users)
  pub valid : IsTrue (list_all is_name users)
  pub same : (name : List ℕ) → is_listed name users ≡ is_listed name names
