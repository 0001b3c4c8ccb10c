-- What the functions of a review promise one another.
use Rattle.std.specs.Prelude.{◌≡◌, ℕ, ◌-◌, Bool, true, List, [], ◌∷◌, ◌++◌, length, map, take}
use Rattle.std.specs.Prelude.{Option, Some}
use Rattle.std.specs.List.{flat_map, AllByRecursion as Each}
use Rattle.room_import.specs.Exports.{rows_text}
use Rattle.room_entry.specs.Bytes.{slash}
use Rattle.room_entry.specs.declared.object.ObjKind.{ObjKind}
use Rattle.room_entry.specs.declared.object.ObjKind.TheVariants.{Document, Folder}
use Rattle.room_rows.specs.declared.node.Node.{Node}
use Rattle.room_rows.specs.Keep.{HasNoRoot, IsUnreadable}
use Rattle.room_rows.specs.Rows.{Rows, numbers_of}
use Rattle.room_rows.specs.Walk.{walk_of}
use Rattle.room_dump.specs.declared.visiting.Below.{Below}
use Rattle.room_dump.specs.declared.visiting.Visit.{Visit}
use Rattle.room_dump.specs.Visits.{GoesOn, coming}
use Rattle.room_machine.specs.declared.reply.Reason.TheVariants.{NoSuch, NotFolder}
use Rattle.room_machine.specs.Site.{Site, site_at}
use Rattle.room_machine.specs.Stored.{stored_along, stored_site}
use Rattle.room_review.specs.declared.parties.Party.{Party}
use Rattle.room_review.specs.declared.question.Scope.{Scope}
use Rattle.room_review.specs.declared.question.Reviewed.{Reviewed}
use Rattle.room_review.specs.declared.question.Reviewed.TheVariants.{Refused, Table}
use Rattle.room_review.specs.declared.question.Start.{Start}
use Rattle.room_review.specs.declared.standing.Standing.{Standing}
use Rattle.room_review.specs.declared.telling.Audience.{Audience}
use Rattle.room_review.specs.Standing.{standings}
use Rattle.room_review.specs.Table.{AreAsked, IsReview, IsTable, Place, object_rows}
use Rattle.room_review.specs.Table.{site_of, table_rows}
use Rattle.room_review.specs.Table.{table_text, users_below, users_of}
use Rattle.room_review.specs.Users.{Gathers, users_at}

-- The object stands at the path, and it is known how many rows there are.
pub record StartsAt (most : ℕ) (path : List (List ℕ)) (node : Node) (rows : Rows) : Type 0 where
  pub most_is : most ≡ length (numbers_of rows)
  pub is_there : site_at (stored_along rows.read path) path ≡ Some (stored_site path node)

-- ---- names

-- all users at an object that waits alone, and at all below it
abbrev pub GathersAll : ℕ → List Node → List (List ℕ) → List (List ℕ) → Rows → Unit {0} → Type 0
GathersAll most waiting old new rows answer =
    (path : List (List ℕ)) (node : Node) → StartsAt most path node rows → waiting ≡ node ∷ []
    → Gathers old (users_below rows node) new

abbrev pub IsLost : ℕ → List Node → Rows → ℕ → Type 0
IsLost most waiting rows row =
    (path : List (List ℕ)) (node : Node) → StartsAt most path node rows → waiting ≡ node ∷ []
    → HasNoRoot rows row

-- the users at all that is still to come
abbrev pub GathersComing : Below → List (List ℕ) → List (List ℕ) → Rows → Unit {0} → Type 0
GathersComing walk old new rows answer =
    GoesOn rows walk → Gathers old (flat_map (λ visit. users_at visit.node) (coming rows walk)) new

-- ---- rows

-- the text of a path, but nothing for the root: what stands before a child's `/`
abbrev pub parent_path : List (List ℕ) → List ℕ
parent_path path = flat_map (λ name. slash ∷ name) path

-- an object at a place, where a walk comes to it
abbrev pub visit_at : Place → Node → Visit
visit_at place node = record {
  path = parent_path place.path;
  depth = length place.above;
  node = node;
}

abbrev pub start_visit : Start → Visit
start_visit start = record {
  path = parent_path start.path;
  depth = length start.above;
  node = start.node;
}

abbrev pub visits_at : List (Place × Node) → List Visit
visits_at objects = flat_map (λ object. visit_at object.0 object.1 ∷ []) objects

-- all callers at each of the objects behind others
abbrev pub along : List Party → List Site → List Site → List (List Standing)
along parties before [] = []
along parties before (site ∷ sites) =
    standings parties before site ∷ along parties (before ++ site ∷ []) sites

-- The first of these are on the way to the first object, and those together with it in the same way
-- to the next.
abbrev pub InOrder : List Site → List (Place × Node) → Type 0
InOrder sites [] = Unit {0}
InOrder sites (object ∷ objects) =
    (take (length object.0.above) sites ≡ object.0.above)
    × InOrder (object.0.above ++ site_of object.0 object.1 ∷ []) objects

-- the rows of objects, of the first all of them
abbrev pub rows_of : Audience → Bool → List (Place × Node) → List (List (List ℕ))
rows_of asked all [] = []
rows_of asked all (object ∷ objects) =
    object_rows all asked.parties.items object.0 object.1
    ++ flat_map (λ next. object_rows asked.all asked.parties.items next.0 next.1) objects

-- The rows of an object, where the first of these callers are on the way to it. Then those at it
-- stand behind them.
abbrev pub TellsOne : List Party → Bool → Visit → List (List Standing) → List (List Standing)
    → List ℕ → List ℕ → Type 0
TellsOne parties all visit old new text more =
    (place : Place) (node : Node) → visit ≡ visit_at place node
    → take (length place.above) old ≡ along parties [] place.above
    → (more ≡ text ++ rows_text (object_rows all parties place node))
    × (new ≡ along parties [] (place.above ++ site_of place node ∷ []))

-- These objects are still to come of a walk, and callers stand at those on the way to the first.
pub record Comes (parties : List Party) (rows : Rows) (walk : Below) (way : List (List Standing))
    (sites : List Site) (objects : List (Place × Node)) : Type 0 where
  pub goes : GoesOn rows walk
  pub visits : coming rows walk ≡ visits_at objects
  pub way_is : way ≡ along parties [] sites
  pub ordered : InOrder sites objects

-- the rows of all that is still to come, of the first object all of them
abbrev pub TellsComing : Audience → Below → List (List Standing) → List ℕ → List ℕ → Rows
    → Unit {0} → Type 0
TellsComing asked walk way text more rows answer =
    (sites : List Site) (objects : List (Place × Node))
    → Comes asked.parties.items rows walk way sites objects
    → more ≡ text ++ rows_text (rows_of asked true objects)

abbrev pub IsStray : Audience → Below → List (List Standing) → Rows → ℕ → Type 0
IsStray asked walk way rows row =
    (sites : List Site) (objects : List (Place × Node))
    → Comes asked.parties.items rows walk way sites objects → IsUnreadable rows row

-- ---- the way

-- the sites have the lists that these objects store
abbrev pub AreOn : List Node → List Site → Type 0
AreOn nodes sites =
    (nodes ≡ map (λ site. site.node) sites)
    × Each (λ site. site ≡ stored_site site.path site.node) sites

-- The object stands at the path, these are on the way to it, and it is known how many rows there
-- are.
pub record Starts (most : ℕ) (start : Start) (sites : List Site) (rows : Rows) : Type 0 where
  pub there : StartsAt most start.path start.node rows
  pub way : AreOn start.above sites

-- what follows where a review starts at an object
abbrev pub IfStarts : ℕ → Start → Rows → (List Site → Type 0) → Type 0
IfStarts most start rows P = (sites : List Site) → Starts most start sites rows → P sites

abbrev pub IsAstray : ℕ → Start → Rows → ℕ → Type 0
IsAstray most start rows row = IfStarts most start rows (λ sites. HasNoRoot rows row)

-- the place of the object that a review starts at
abbrev pub place_at : Start → List Site → Place
place_at start sites = record { path = start.path; above = sites }

-- all users that the review names
abbrev pub GathersUsers : ℕ → Start → List (List ℕ × List ℕ) → Rows → List (List ℕ) → Type 0
GathersUsers most start pairs rows users =
    IfStarts most start rows (λ sites. Gathers [] (users_of rows pairs sites start.node) users)

abbrev pub GivesParties : ℕ → Start → List (List ℕ × List ℕ) → Option (List ℕ) → Rows
    → List Party → Type 0
GivesParties most start pairs user rows parties =
    IfStarts most start rows
    (λ sites. AreAsked user rows (users_of rows pairs sites start.node) parties)

-- the table without its header
abbrev pub TellsTable : ℕ → Start → Audience → List ℕ → List ℕ → Rows → Unit {0} → Type 0
TellsTable most start asked text more rows answer =
    IfStarts most start rows (λ sites. more ≡ text
    ++ rows_text (table_rows rows asked.all asked.parties.items (place_at start sites) start.node))

abbrev pub GivesTable : ℕ → Start → Audience → Rows → List ℕ → Type 0
GivesTable most start asked rows bytes =
    IfStarts most start rows (λ sites. bytes
    ≡ table_text rows asked.all asked.parties.items (place_at start sites) start.node)

-- why a path leads nowhere, by the last object that the walk found and how many names are left over
abbrev pub ended_at : List (List ℕ) → ObjKind → ℕ → Reviewed
ended_at path Document rest = Refused (take (length path - rest) path) NotFolder
ended_at path Folder rest = Refused (take (length path - (rest - 1)) path) NoSuch

-- the review of the object at the start
abbrev pub GivesReview : List (List ℕ × List ℕ) → Scope → Start → Rows → List ℕ → Type 0
GivesReview pairs question start rows bytes =
    (sites : List Site)
    → site_at (stored_along rows.read start.path) start.path
    ≡ Some (stored_site start.path start.node)
    → AreOn start.above sites
    → IsTable pairs question sites (stored_site start.path start.node) rows (Table bytes)

abbrev pub IsLostAt : Start → Rows → ℕ → Type 0
IsLostAt start rows row =
    (sites : List Site)
    → site_at (stored_along rows.read start.path) start.path
    ≡ Some (stored_site start.path start.node)
    → AreOn start.above sites → HasNoRoot rows row

-- A walk along the path ended at the start, with this many names left over.
abbrev pub IfWalked : Scope → Start → ℕ → Rows → Type 0 → Type 0
IfWalked question start rest rows P =
    start.path ≡ question.path
    → record { chain = start.above ++ start.node ∷ []; rest = rest }
    ≡ walk_of rows.read question.path
    → P

abbrev pub GivesAnswer : List (List ℕ × List ℕ) → Scope → Start → ℕ → Rows → Reviewed → Type 0
GivesAnswer pairs question start rest rows reviewed =
    IfWalked question start rest rows (IsReview pairs question rows reviewed)

abbrev pub IsStranded : Scope → Start → ℕ → Rows → ℕ → Type 0
IsStranded question start rest rows row = IfWalked question start rest rows (HasNoRoot rows row)
