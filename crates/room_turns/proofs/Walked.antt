-- All callers at the objects of a walk.
use Rattle.std.proofs.Common.{◌≡◌, ℕ, List, [], ◌∷◌, ◌++◌, map, length, take, refl, sym, ap, ◌∙◌}
use Rattle.std.proofs.Common.{append_assoc, true, arith, zero, suc, ◌<◌, Option, None, subst}
use Rattle.std.{proofs.lemmas.List.append-nil, specs.Option.option_map_or}
use Rattle.room_rows.specs.{declared.node.Node.Node, Rows.{AreRows, Rows, numbers_of}, Walk.walk_of}
use Rattle.room_dump.specs.{declared.visiting.{Below.Below, Visit.Visit}, Visits.{GoesOn, IsFrom}}
use Rattle.room_dump.specs.Visits.{coming, IsNext}
use Rattle.room_machine.specs.{Site.Site, Stored.stored_along}
use Rattle.room_review.specs.{Laws.{told_of, told_at}, Table.{Place, site_of}, Telling.InOrder}
use Rattle.room_review.specs.Telling.{Starts, visit_at, visits_at, along as standing_along}
use Rattle.room_review.proofs.{Told.come, Ending.{ended, strayed}}
use Rattle.room_turns.specs.{Turns.{View, objects_from}, Stands.{Comes, Shows, TellsOne, along}}
use Rattle.room_turns.specs.{Stands.{entry_of, first_visit}, declared.asked.Asked.Asked}
use Rattle.room_turns.specs.declared.{earlier.Scene.Scene, spot.{Spot.Spot, Told.Told}}
use Rattle.room_turns.{specs.declared.walking.{Start.Start, Stood.Stood}, proofs.Way.along_front}

-- ---- so far

pub record Standing (asked : Asked) (scene : Scene) (view : View) (rows : Rows) (walk : Below)
    (way : List Spot) (before all : List Told) (whole : List (Place × Node)) : Type 0 where
  pub sites : List Site
  pub objects : List (Place × Node)
  pub comes : Comes view asked.parties.items rows walk way sites objects
  pub told : all ++ map (entry_of view asked.parties.items) objects
      ≡ before ++ map (entry_of view asked.parties.items) whole

-- one object further
pub stands_next : (asked : Asked) (scene : Scene) (view : View) → Shows asked scene view
    → (rows : Rows) (old new : Below) (was is : Stood) (before : List Told)
    (whole : List (Place × Node)) (visit : Visit)
    → Standing asked scene view rows old was.way.items before was.all.items whole
    → coming rows old ≡ visit ∷ coming rows new → GoesOn rows new
    → TellsOne asked scene visit was is
    → Standing asked scene view rows new is.way.items before is.all.items whole
stands_next asked scene view shows rows old new was is before whole visit t comes goes one =
    on t.objects (sym comes ∙ t.comes.visits) t.comes.ordered t.told
  where
    on : (objects : List (Place × Node)) → visit ∷ coming rows new ≡ visits_at objects
        → InOrder t.sites objects
        → was.all.items ++ map (entry_of view asked.parties.items) objects
        ≡ before ++ map (entry_of view asked.parties.items) whole
        → Standing asked scene view rows new is.way.items before is.all.items whole
    on [] visits ordered told = absurd (let wrong : ⊥ = cc in wrong)
    on ((place, node) ∷ objects) visits ordered told =
        let parties = asked.parties.items in
        let first : visit ≡ visit_at place node = cc in
        let rest : coming rows new ≡ visits_at objects = cc in
        let n = length place.above in
        let done = one view place node shows first
        (ap (take n) t.comes.way_is ∙ along_front view parties n [] t.sites
        ∙ ap (along view parties []) ordered.0) in
        record {
          sites = place.above ++ site_of place node ∷ [];
          objects = objects;
          comes = record { goes = goes; visits = rest; way_is = done.1; ordered = ordered.1 };
          told =
              ap (λ (l : List Told). l ++ map (entry_of view parties) objects) done.0
              ∙ append_assoc was.all.items (entry_of view parties (place, node) ∷ [])
              (map (entry_of view parties) objects)
              ∙ told;
        }

-- nothing more comes
pub stands_end : (asked : Asked) (scene : Scene) (view : View) (rows : Rows) (walk : Below)
    (way : List Spot) (before all : List Told) (whole : List (Place × Node))
    → Standing asked scene view rows walk way before all whole → coming rows walk ≡ []
    → all ≡ before ++ map (entry_of view asked.parties.items) whole
stands_end asked scene view rows walk way before all whole t none =
    on t.objects (sym none ∙ t.comes.visits) t.told
  where
    on : (objects : List (Place × Node)) → [] ≡ visits_at objects
        → all ++ map (entry_of view asked.parties.items) objects
        ≡ before ++ map (entry_of view asked.parties.items) whole
        → all ≡ before ++ map (entry_of view asked.parties.items) whole
    on [] is told = sym (append-nil all) ∙ told
    on (object ∷ objects) is told = absurd (let wrong : ⊥ = cc in wrong)

-- ---- from the object of the start

module _ (asked : Asked) (scene : Scene) (rows : Rows) (are : AreRows rows) (most : ℕ)
    (start : Start) (sites : List Site)
    (starts : Starts most
    (record { path = start.path; above = start.above; node = start.node }) sites rows)
    (walk : Below) (from : IsFrom most (first_visit start) walk) where
  abbrev pub objects : List (Place × Node)
  objects = told_of rows (record { path = start.path; above = sites }) start.node

  pub goes_all : GoesOn rows walk
  goes_all =
      (come (record { alloc = scene.alloc; parties = asked.parties; all = true }) rows are most
      (record { path = start.path; above = start.above; node = start.node }) sites starts walk from
      (standing_along asked.parties.items [] sites) refl).goes

  pub comes_all : (view : View) (way : List Spot)
      → way ≡ along view asked.parties.items [] sites
      → Comes view asked.parties.items rows walk way sites objects
  comes_all view way is =
      let came = come
      (record { alloc = scene.alloc; parties = asked.parties; all = true }) rows are most
      (record { path = start.path; above = start.above; node = start.node }) sites starts walk from
      (standing_along asked.parties.items [] sites) refl in
      record { goes = came.goes; visits = came.visits; way_is = is; ordered = came.ordered }

-- ---- where a walk along a path ended

module _ (rows : Rows) (start : Start) where
  abbrev Ended : ℕ → Type 0
  Ended rest =
      record { chain = start.above ++ start.node ∷ []; rest = rest } ≡ walk_of rows.read start.path

  abbrev pub way : List Site
  way = take (length start.path) (stored_along rows.read start.path)

  -- before the end of the path
  pub none_from : (rest : ℕ) → 0 < rest → Ended rest → objects_from rows start.path ≡ []
  none_from zero some ended = absurd (omega (arith, some))
  none_from (suc rest) some ended =
      ap (λ (o : Option Site). option_map_or (told_at rows start.path) o [])
      (strayed rows start.path start.above start.node rest ended).0

  -- at its end
  pub all_from : Ended 0
      → objects_from rows start.path
      ≡ told_of rows (record { path = start.path; above = way }) start.node
  all_from is =
      ap (λ (o : Option Site). option_map_or (told_at rows start.path) o [])
      (ended rows start.path start.above start.node is).0

  pub starts_there : (most : ℕ) → most ≡ length (numbers_of rows) → Ended 0
      → Starts most (record { path = start.path; above = start.above; node = start.node }) way rows
  starts_there most many is =
      let end = ended rows start.path start.above start.node is in
      record { there = record { most_is = many; is_there = end.0 }; way = end.1 }

-- ---- the end of a walk

pub none_comes : (rows : Rows) (old new : Below) (next : Option Visit) → IsNext old new rows next
    → next ≡ None → GoesOn rows old → coming rows old ≡ []
none_comes rows old new next is none =
    subst (λ (o : Option Visit). IsNext old new rows o) none is
