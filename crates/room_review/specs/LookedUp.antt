-- What is looked up in a table, and the law that this is what the room allows (own).
use Rattle.std.specs.Prelude.{◌≡◌, ◌⊎◌, ℕ, ◌&&◌, Bool, true, false, List, [], ◌∷◌, ◌++◌, take}
use Rattle.std.specs.Prelude.{drop, Option, Some, None, codes, IsTrue, if◌then◌else◌}
use Rattle.std.specs.List.{list_any, AllByRecursion as Each}
use Rattle.std.specs.Option.{option_map_or, option_or}
use Rattle.csv.specs.Reading.{default_config, records}
use Rattle.room_entry.specs.Letters.{mask_text}
use Rattle.room_entry.specs.Names.{is_name}
use Rattle.room_entry.specs.Pieces.{same_text}
use Rattle.room_import.specs.Exports.{rows_text}
use Rattle.room_rows.specs.Content.{Content}
use Rattle.room_rows.specs.Meaning.{meaning}
use Rattle.room_rows.specs.Paths.{path_text}
use Rattle.room_rows.specs.Rows.{AreRows, Rows}
use Rattle.room_rows.specs.Sound.{AreSound}
use Rattle.room_machine.specs.Rights.{may_remove_at, rights_at}
use Rattle.room_machine.specs.Site.{Site, site_at, sites_along}
use Rattle.room_review.specs.declared.question.Scope.{Scope}
use Rattle.room_review.specs.declared.question.Reviewed.{Reviewed}
use Rattle.room_review.specs.declared.question.Reviewed.TheVariants.{Table}
use Rattle.room_review.specs.Table.{IsReview, header, kind_word, yes_or_no}

-- ---- how a table is read

-- A row has five columns: path, kind, user, rights, remove.

-- what a row says, if it is of this path and this user: its rights, and its `remove`
abbrev pub said_by : List ℕ → List ℕ → List (List ℕ) → Option (List ℕ × List ℕ)
said_by path user (at ∷ kind ∷ name ∷ rights ∷ remove ∷ []) =
    if same_text at path && same_text name user then Some (rights, remove) else None
said_by path user _ = None

-- what the first such row says
abbrev pub said_in : List (List (List ℕ)) → List ℕ → List ℕ → Option (List ℕ × List ℕ)
said_in [] path user = None
said_in (row ∷ rows) path user = option_or (said_by path user row) (said_in rows path user)

-- what is said at the longest front of the path `first ++ names` that has such a row; no front is
-- shorter than `first`
abbrev pub nearest : List (List (List ℕ)) → List ℕ → List (List ℕ) → List (List ℕ)
    → Option (List ℕ × List ℕ)
nearest table user first [] = said_in table (path_text first) user
nearest table user first (name ∷ names) =
    option_or (nearest table user (first ++ name ∷ []) names)
    (said_in table (path_text first) user)

-- What is looked up of a user at a path: what the user's row there says, or else that of the
-- nearest folder above.
abbrev pub looked_up : List (List (List ℕ)) → List (List ℕ) → List ℕ → Option (List ℕ × List ℕ)
looked_up table path user = nearest table user [] path

-- the row is this user's
abbrev pub is_row_of : List ℕ → List (List ℕ) → Bool
is_row_of user (at ∷ kind ∷ name ∷ rights ∷ remove ∷ []) = same_text name user
is_row_of user _ = false

-- whose rows are looked up for a caller: those of its name, if it has rows, and else those of `*`
abbrev pub label_in : List (List (List ℕ)) → Option (List ℕ) → List ℕ
label_in table None = codes "ANONYMOUS@"
label_in table (Some name) = if list_any (is_row_of name) table then name else codes "*"

-- ---- the law

-- a name, or none
abbrev pub is_caller : Option (List ℕ) → Bool
is_caller user = option_map_or is_name user true

-- the callers that a review is asked for: each, or one
abbrev pub IsAskedFor : Option (List ℕ) → Option (List ℕ) → Type 0
IsAskedFor None user = Unit {0}
IsAskedFor (Some name) user = user ≡ Some name

-- a walk along the path finds the object
abbrev pub StandsAt : Content → List (List ℕ) → Site → Type 0
StandsAt room path site = site_at (sites_along room path) path ≡ Some site

-- What is looked up of each caller that is asked for, at each object from the path on, is what the
-- room allows there.
abbrev pub SaysTheRoom : Content → Scope → List (List (List ℕ)) → Type 0
SaysTheRoom room question table =
    (user : Option (List ℕ)) (more : List (List ℕ)) (site : Site) →
    IsTrue (is_caller user) → IsAskedFor question.user user →
    StandsAt room (question.path ++ more) site →
    looked_up table (question.path ++ more) (label_in table user)
    ≡ Some (
      mask_text (rights_at room user (question.path ++ more)),
      yes_or_no (may_remove_at room user (question.path ++ more)),
    )

-- the label of a caller that is asked for: of each, a name among them, or of the one
abbrev pub IsLabel : Option (List ℕ) → List ℕ → Type 0
IsLabel None label = (label ≡ codes "*")
    ⊎ ((label ≡ codes "ANONYMOUS@") ⊎ IsTrue (is_name label))
IsLabel (Some name) label = label ≡ name

-- The row is of an object from the path on that is there, says its kind, and is of a caller that is
-- asked for. It says what the room allows there to each caller for whom rows with its label are
-- looked up.
pub record IsRow (room : Content) (question : Scope) (table : List (List (List ℕ)))
    (row : List (List ℕ)) : Type 0 where
  pub more : List (List ℕ)
  pub site : Site
  pub label : List ℕ
  pub stands : StandsAt room (question.path ++ more) site
  pub is_asked : IsLabel question.user label
  pub begins : take 3 row
      ≡ path_text (question.path ++ more) ∷ kind_word site.node.kind ∷ label ∷ []
  pub says : (user : Option (List ℕ)) → IsTrue (is_caller user) → IsAskedFor question.user user
      → label_in table user ≡ label
      → drop 3 row
      ≡ mask_text (rights_at room user (question.path ++ more))
      ∷ yes_or_no (may_remove_at room user (question.path ++ more)) ∷ []

-- A review of sound rows is the room. At a path where an object stands it is a table, whose text is
-- that of a header and rows, and is read as these. Each caller is found in them at each object with
-- what the room allows. So no object is missing and no caller, a row that is left out would say
-- what is found in its place, and `*` speaks for all others. Each row is of an object that is there
-- and of a caller that is asked for, and none says anything else than what the room allows.
abbrev pub TableIsTheRoom : Type 0
TableIsTheRoom =
    (rows : Rows) (question : Scope) (reviewed : Reviewed) (site : Site) →
    AreRows rows → AreSound rows → IsReview rows.read.members question rows reviewed →
    StandsAt (meaning rows.read) question.path site →
    (text : List ℕ) × (table : List (List (List ℕ))) × (reviewed ≡ Table text)
    × (text ≡ rows_text (header ∷ table)) × (records default_config text ≡ header ∷ table)
    × SaysTheRoom (meaning rows.read) question table
    × Each (IsRow (meaning rows.read) question table) table
