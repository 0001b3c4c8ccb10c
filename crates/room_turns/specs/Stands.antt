-- What is kept of an object for each caller, and what the functions promise one another.
use Rattle.std.specs.Prelude.{◌≡◌, ℕ, ◌==◌, Bool, List, [], ◌∷◌, ◌++◌, length}
use Rattle.std.specs.Prelude.{map, take, nat_eq, Option}
use Rattle.std.specs.HashMap.{get}
use Rattle.std.specs.HashSet.{contains}
use Rattle.std.specs.List.{find}
use Rattle.std.specs.Option.{option_map, option_map_or}
use Rattle.room_entry.specs.Pieces.{is_among}
use Rattle.room_entry.specs.declared.parties.Caller.{Caller}
use Rattle.room_rows.specs.declared.node.Node.{Node}
use Rattle.room_rows.specs.Keep.{HasNoRoot}
use Rattle.room_rows.specs.Rows.{Rows}
use Rattle.room_rows.specs.Walk.{walk_of}
use Rattle.room_dump.specs.declared.visiting.Below.{Below}
use Rattle.room_dump.specs.declared.visiting.Visit.{Visit}
use Rattle.room_dump.specs.Visits.{GoesOn, coming}
use Rattle.room_machine.specs.Rights.{last_of}
use Rattle.room_machine.specs.Site.{Site}
use Rattle.room_change.specs.Changes.{Turn}
use Rattle.room_review.specs.declared.parties.Party.{Party}
use Rattle.room_review.specs.declared.standing.Standing.{Standing}
use Rattle.room_review.specs.Standing.{before_last, standing}
use Rattle.room_review.specs.Table.{Place, site_of}
use Rattle.room_review.specs.Laws.{told_of}
use Rattle.room_review.specs.Telling.{IfStarts, InOrder, parent_path, visit_at}
use Rattle.room_review.specs.Telling.{visits_at}
use Rattle.room_turns.specs.declared.asked.Asked.{Asked}
use Rattle.room_turns.specs.declared.earlier.Scene.{Scene}
use Rattle.room_turns.specs.declared.spot.Spot.{Spot}
use Rattle.room_turns.specs.declared.spot.Stand.{Stand}
use Rattle.room_turns.specs.declared.spot.Told.{Told}
use Rattle.room_turns.specs.declared.standing.Here.{Here}
use Rattle.room_turns.specs.declared.walking.Start.{Start}
use Rattle.room_turns.specs.declared.walking.Stood.{Stood}
use Rattle.room_turns.specs.Turns.{View, found_by, granted_to, is_clear, is_known, is_said}
use Rattle.room_turns.specs.Turns.{follows_clear, object_of, objects_from, rows_of, turn_at}
use Rattle.room_import.specs.Exports.{rows_text}
use Rattle.room_answer.specs.Answer.{header}

-- ---- one caller

-- the caller at an object behind others, as it finds them
abbrev pub standing_to : List ℕ → Caller → List Site → Site → Standing
standing_to own caller above target =
    standing caller (map (found_by own caller) above) (found_by own caller target)

abbrev pub stand_of : View → Caller → List Site → Site → Stand
stand_of view caller above target = record {
  standing = standing_to view.own caller above target;
  had_rights = (turn_at view caller above target).had.0;
  had_remove = (turn_at view caller above target).had.1;
  repeats = is_said view caller above target;
}

abbrev pub turn_of : Stand → Turn
turn_of stand = record {
  had = (stand.had_rights, stand.had_remove);
  has = (stand.standing.rights, stand.standing.remove);
}

-- what the caller may do in the state in which it stands there
abbrev pub grant_of : Stand → List ℕ × Bool
grant_of stand = (stand.standing.rights, stand.standing.remove)

abbrev pub granted_by : List ℕ → Caller → Place × Node → List ℕ × Bool
granted_by own caller object = granted_to own caller object.0.above (site_of object.0 object.1)

-- what is known of an object before callers are looked at there
pub record HasHere (view : View) (above : List Site) (node : Node) (here : Here) : Type 0 where
  pub own : here.own ≡ is_among view.own node.id
  pub follows : here.follows ≡ follows_clear view above
  pub looks : here.looks ≡ view.looks

-- ---- all callers

abbrev pub stands_of : View → List Party → List Site → Site → List Stand
stands_of view parties above target = map (λ party. stand_of view party.caller above target) parties

abbrev pub spot_of : View → List Party → List Site → Site → Spot
spot_of view parties above target = record {
  known = is_known view.hidden above target;
  clear = is_clear view above target;
  follows = follows_clear view above;
  stands = stands_of view parties above target;
}

-- what is kept of an object in the earlier state, as far as it is asked for
abbrev pub noted : Spot → Bool × List (List ℕ × Bool)
noted spot = (spot.known, map grant_of spot.stands)

abbrev pub noted_by : List ℕ → List ℕ → List Party → Place × Node → Bool × List (List ℕ × Bool)
noted_by own hidden parties object = (
  is_known hidden object.0.above (site_of object.0 object.1),
  map (λ party. granted_by own party.caller object) parties,
)

-- the scene has what the view says
pub record Shows (asked : Asked) (scene : Scene) (view : View) : Type 0 where
  pub own : (number : ℕ) → contains nat_eq scene.own number ≡ is_among view.own number
  pub looks : asked.looks ≡ view.looks
  pub hidden : (number : ℕ) → contains nat_eq scene.hidden number ≡ is_among view.hidden number
  pub earlier : (number : ℕ) → option_map noted (get nat_eq scene.earlier number)
      ≡ option_map (noted_by view.own view.hidden_earlier asked.parties.items)
      (view.earlier number)

-- all callers at the folder, and at the object in the earlier state
pub record AreBeside (view : View) (parties : List Party) (above : List Site) (number : ℕ)
    (folder earlier : List Stand) : Type 0 where
  pub at_folder : folder
      ≡ option_map_or (stands_of view parties (before_last above)) (last_of above) []
  pub were : map grant_of earlier
      ≡ option_map_or (λ object. map (λ party. granted_by view.own party.caller object) parties)
      (view.earlier number) []

-- all callers at each of the objects behind others
abbrev pub along : View → List Party → List Site → List Site → List Spot
along view parties before [] = []
along view parties before (site ∷ sites) =
    spot_of view parties before site ∷ along view parties (before ++ site ∷ []) sites

-- ---- objects

abbrev pub entry_at : Visit → Spot → Told
entry_at visit spot = record {
  id = visit.node.id;
  path = visit.path;
  kind = visit.node.kind;
  spot = spot;
}

abbrev pub entry_of : View → List Party → Place × Node → Told
entry_of view parties object =
    entry_at (visit_at object.0 object.1)
    (spot_of view parties object.0.above (site_of object.0 object.1))

-- the spot of a number
abbrev pub spot_in : List Told → ℕ → Option Spot
spot_in objects number =
    option_map (λ told. told.spot) (find (λ told. told.id == number) objects)

-- ---- a walk

abbrev pub first_visit : Start → Visit
first_visit start = record {
  path = parent_path start.path;
  depth = length start.above;
  node = start.node;
}

-- one object more
abbrev pub TellsOne : Asked → Scene → Visit → Stood → Stood → Type 0
TellsOne asked scene visit old new =
    (view : View) (place : Place) (node : Node) → Shows asked scene view
    → visit ≡ visit_at place node
    → take (length place.above) old.way.items ≡ along view asked.parties.items [] place.above
    → (new.all.items ≡ old.all.items ++ entry_of view asked.parties.items (place, node) ∷ [])
    × (new.way.items
    ≡ along view asked.parties.items [] (place.above ++ site_of place node ∷ []))

-- These objects are still to come of a walk, and callers stand at those on the way to the first.
pub record Comes (view : View) (parties : List Party) (rows : Rows) (walk : Below)
    (way : List Spot) (sites : List Site) (objects : List (Place × Node)) : Type 0 where
  pub goes : GoesOn rows walk
  pub visits : coming rows walk ≡ visits_at objects
  pub way_is : way ≡ along view parties [] sites
  pub ordered : InOrder sites objects

abbrev pub TellsComing : Asked → Scene → Below → Stood → Stood → Rows → Unit {0} → Type 0
TellsComing asked scene walk old new rows answer =
    (view : View) (sites : List Site) (objects : List (Place × Node)) → Shows asked scene view
    → Comes view asked.parties.items rows walk old.way.items sites objects
    → new.all.items ≡ old.all.items ++ map (entry_of view asked.parties.items) objects

-- ---- where a walk starts

abbrev pub IsAstray : ℕ → Start → Rows → ℕ → Type 0
IsAstray most start rows row =
    IfStarts most (record { path = start.path; above = start.above; node = start.node }) rows
    (λ sites. HasNoRoot rows row)

-- all callers at the object and at all below it
abbrev pub TellsAll : ℕ → Start → Asked → Scene → Rows → List Told → Type 0
TellsAll most start asked scene rows all =
    (view : View) → Shows asked scene view
    → IfStarts most (record { path = start.path; above = start.above; node = start.node }) rows
    (λ sites. all ≡ map (entry_of view asked.parties.items)
    (told_of rows (record { path = start.path; above = sites }) start.node))

-- a walk along the path ended at the start, with this many names left over
abbrev pub IfWalked : Start → ℕ → Rows → Type 0 → Type 0
IfWalked start rest rows P =
    record { chain = start.above ++ start.node ∷ []; rest = rest } ≡ walk_of rows.read start.path
    → P

abbrev pub IsStranded : Start → ℕ → Rows → ℕ → Type 0
IsStranded start rest rows row = IfWalked start rest rows (HasNoRoot rows row)

-- all callers at the objects from the path on
abbrev pub GivesFrom : List (List ℕ) → Asked → Scene → Rows → List Told → Type 0
GivesFrom path asked scene rows all =
    (view : View) → Shows asked scene view
    → all ≡ map (entry_of view asked.parties.items) (objects_from rows path)

abbrev pub GivesAll : Start → ℕ → Asked → Scene → Rows → List Told → Type 0
GivesAll start rest asked scene rows all =
    IfWalked start rest rows (GivesFrom start.path asked scene rows all)

-- the objects of a state by their numbers, as far as they are asked for
abbrev pub IsTable : Asked → Rows → (ℕ → Option Spot) → Type 0
IsTable asked rows table =
    (number : ℕ) → option_map noted (table number)
    ≡ option_map (noted_by asked.own asked.hidden_before asked.parties.items)
    (object_of (objects_from rows []) number)

-- the rows of the state
abbrev pub GivesText : Asked → Scene → Rows → List ℕ → Type 0
GivesText asked scene rows text =
    (view : View) → Shows asked scene view
    → text ≡ rows_text (header ∷ rows_of view asked.parties.items (objects_from rows asked.path))
