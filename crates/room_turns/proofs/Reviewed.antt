-- In sound rows, what is kept of objects is what a review says of the room at their paths.
use Rattle.std.proofs.Common.{◌≡◌, ℕ, ◌&&◌, false, List, [], ◌∷◌, ◌++◌, map, length}
use Rattle.std.proofs.Common.{take, Option, Some, None, refl, sym, ap, ◌∙◌, arith}
use Rattle.std.proofs.{Common.◌==◌, lemmas.{Bool.Decides.nat_tests, List.take-map}}
use Rattle.std.specs.{List.{AllByRecursion as Each}, Option.{option_map, option_map_or}}
use Rattle.room_entry.{specs.declared.parties.Caller.Caller, proofs.Facts.Members.each_weaker}
use Rattle.room_rows.specs.{declared.node.Node.Node, Content.{Content, child_of, root_of}}
use Rattle.room_rows.specs.{Meaning.meaning, Rows.{AreRows, Rows}, Sound.AreSound}
use Rattle.room_machine.specs.{Judge.passes, Plan.Deletion, Site.{Site, site_at, sites_along}}
use Rattle.room_machine.specs.{Stored.{stored_along, stored_from, stored_site}, Rights.last_of}
use Rattle.room_machine.specs.Rights.{lets_through, may_remove, reaches, rights}
use Rattle.room_sound.proofs.{Filled.site_filled, Sites.{fill, sites_filled}}
use Rattle.room_sound.proofs.SoundParts.{sound_parts}
use Rattle.room_change.specs.Changes.{grant_at, grant_along, came_from, turn_at as turn_by}
use Rattle.room_review.specs.{Laws.{stored_above, told_at}, Standing.granted, Table.Place}
use Rattle.room_review.{specs.Table.site_of, proofs.{Named.all_named, Visited.Stands}}
use Rattle.room_review.proofs.Visited.{each_stands, ends_along}
use Rattle.room_turns.{proofs.Behind.or_mapped, specs.Laws.{RowsAreTheChange, RowsAreTheReview}}
use Rattle.room_dump.proofs.Counting.{each_both, each_found}
use Rattle.room_turns.specs.{Laws.reviewed, Turns.{found_by, granted_to, object_of, objects_from}}
use Rattle.room_turns.specs.Turns.{turn_at, view_of}

-- ---- each object stands at the end of its path

pub all_stand : (rows : Rows) → AreRows rows → AreSound rows → (path : List (List ℕ))
    → Each (λ (it : Place × Node). Stands rows.read it.0 it.1) (objects_from rows path)
all_stand rows are sound path = on (site_at (stored_along rows.read path) path) refl
  where
    on : (o : Option Site) → site_at (stored_along rows.read path) path ≡ o
        → Each (λ (it : Place × Node). Stands rows.read it.0 it.1)
        (option_map_or (told_at rows path) o [])
    on None found = tt
    on (Some target) found =
        grind (arith, nat_tests, all_named, each_stands, each_weaker, ends_along, sound_parts)

-- ---- what the stored lists grant, and those computed from the root

module _ (caller : Caller) where
  same_reach : (sites : List Site) → reaches caller (map fill sites) ≡ reaches caller sites
  same_reach [] = refl
  same_reach (site ∷ sites) = ap (λ b. lets_through caller site && b) (same_reach sites)

  same_last : (sites : List Site) → last_of (map fill sites) ≡ option_map fill (last_of sites)
  same_last [] = refl
  same_last (site ∷ []) = refl
  same_last (site ∷ next ∷ sites) = same_last (next ∷ sites)

  same_pass : (target folder : Site)
      → passes caller (Deletion (fill target) (fill folder))
      ≡ passes caller (Deletion target folder)
  same_pass target folder = grind (arith, nat_tests, fill)

  same_grant : (above : List Site) (target : Site)
      → granted caller (map fill above) (fill target) ≡ granted caller above target
  same_grant above target = grind (arith, nat_tests, fill, same_last, same_pass, same_reach)

  -- the object at a path
  pub stored_grants : (rows : Rows) → AreRows rows → AreSound rows → (path : List (List ℕ))
      (target : Site) → site_at (stored_along rows.read path) path ≡ Some target
      → granted caller (stored_above rows path) target
      ≡ grant_at (meaning rows.read) caller path
  stored_grants rows are sound path target found =
      on (site_at sites path) refl
      (sym (site_filled sites path) ∙ ap (λ l. site_at l path) filled ∙ found)
    where
      sites : List Site
      sites = sites_along (meaning rows.read) path

      filled : map fill sites ≡ stored_along rows.read path
      filled = sites_filled rows are (sound_parts rows sound) path

      on : (o : Option Site) → site_at sites path ≡ o → option_map fill o ≡ Some target
          → granted caller (take (length path) (stored_along rows.read path)) target
          ≡ grant_along caller sites path
      on None at is = absurd (let wrong : ⊥ = cc in wrong)
      on (Some site) at is =
          let same : fill site ≡ target = cc in
          ap (granted caller (take (length path) (stored_along rows.read path))) (sym same)
          ∙ ap (λ l. granted caller (take (length path) l) (fill site)) (sym filled)
          ∙ ap (λ l. granted caller l (fill site)) (take-map fill (length path) sites)
          ∙ same_grant (take (length path) sites) site
          ∙ ap (λ o. (
            option_map_or (rights caller (take (length path) sites)) o [],
            option_map_or (may_remove caller (take (length path) sites)) o false,
          )) (sym at)

  -- ---- the caller finds each object as it is, where none is its own

  abbrev pub found : Site → Site
  found site = found_by [] caller site

  found_from : (content : Content) (names path : List (List ℕ)) (node : Node)
      → map found (stored_from content path node names) ≡ stored_from content path node names
  found_from content [] path node = refl
  found_from content (name ∷ names) path node =
      ap (λ (sites : List Site). stored_site path node ∷ sites)
      (on (λ child. found_from content names (path ++ name ∷ []) child)
      (child_of content node.id name))
    where
      on : ((child : Node)
          → map found (stored_from content (path ++ name ∷ []) child names)
          ≡ stored_from content (path ++ name ∷ []) child names)
          → (o : Option Node)
          → map found
          (option_map_or (λ child. stored_from content (path ++ name ∷ []) child names) o
          [])
          ≡ option_map_or (λ child. stored_from content (path ++ name ∷ []) child names) o []
      on each None = refl
      on each (Some child) = each child

  pub found_along : (content : Content) (path : List (List ℕ))
      → map found (stored_along content path) ≡ stored_along content path
  found_along content path = on (root_of content)
    where
      on : (o : Option Node)
          → map found (option_map_or (λ root. stored_from content [] root path) o [])
          ≡ option_map_or (λ root. stored_from content [] root path) o []
      on None = refl
      on (Some root) = found_from content path [] root

  -- ---- the objects of a state

  abbrev Says : Rows → Place × Node → Type 0
  Says rows object =
      granted_to [] caller object.0.above (site_of object.0 object.1)
      ≡ grant_at (meaning rows.read) caller object.0.path

  says_at : (rows : Rows) → AreRows rows → AreSound rows → (place : Place) (node : Node)
      → Stands rows.read place node → Says rows (place, node)
  says_at rows are sound place node stands =
      ap (λ (sites : List Site). granted caller (map found sites) (site_of place node))
      (sym stands.way)
      ∙ ap (λ (sites : List Site). granted caller sites (site_of place node))
      (sym (take-map found (length place.path) (stored_along rows.read place.path))
      ∙ ap (take (length place.path)) (found_along rows.read place.path))
      ∙ stored_grants rows are sound place.path (site_of place node) stands.at

  say_all : (rows : Rows) → AreRows rows → AreSound rows → (path : List (List ℕ))
      → Each (Says rows) (objects_from rows path)
  say_all rows are sound path =
      each_weaker (λ (it : Place × Node). Stands rows.read it.0 it.1) (Says rows)
      (λ it stands. says_at rows are sound it.0 it.1 stands) (objects_from rows path)
      (all_stand rows are sound path)

-- ---- both rooms

pub rows_are_the_review : RowsAreTheReview
rows_are_the_review asked before after are sound are' sound' none caller =
    each_weaker (Says caller after) Reviewed each (objects_from after asked.path)
    (say_all caller after are' sound' asked.path)
  where
    was : List (Place × Node)
    was = objects_from before []

    Reviewed : Place × Node → Type 0
    Reviewed object =
        turn_at (view_of asked before) caller object.0.above (site_of object.0 object.1)
        ≡ reviewed before after caller object

    had : (number : ℕ) (o : Option (Place × Node)) → object_of was number ≡ o
        → option_map_or (λ object. granted_to asked.own caller object.0.above
        (site_of object.0 object.1)) o ([], false)
        ≡ option_map_or (λ object. grant_at (meaning before.read) caller object.0.path) o
        ([], false)
    had number None found = refl
    had number (Some object) found =
        ap (λ (own : List ℕ). granted_to own caller object.0.above (site_of object.0 object.1)) none
        ∙ each_found (Says caller before) (λ it. it.1.id == number) was object
        (say_all caller before are sound []) found

    each : (object : Place × Node) → Says caller after object → Reviewed object
    each object says i = record {
      had = had object.1.id (object_of was object.1.id) refl i;
      has = (ap (λ (own : List ℕ). granted_to own caller object.0.above
          (site_of object.0 object.1)) none ∙ says) i;
    }

-- ---- the state after changes

pub rows_are_the_change : RowsAreTheChange
rows_are_the_change asked before after changes are sound are' sound' none changed caller =
    each_both Reviewed Came Told joins (objects_from after asked.path)
    (rows_are_the_review asked before after are sound are' sound' none caller) changed.came
  where
    was : List (Place × Node)
    was = objects_from before []

    Reviewed : Place × Node → Type 0
    Reviewed object =
        turn_at (view_of asked before) caller object.0.above (site_of object.0 object.1)
        ≡ reviewed before after caller object

    Came : Place × Node → Type 0
    Came object =
        option_map (λ (it : Place × Node). it.0.path) (object_of was object.1.id)
        ≡ came_from changes object.0.path

    Told : Place × Node → Type 0
    Told object =
        turn_at (view_of asked before) caller object.0.above (site_of object.0 object.1)
        ≡ turn_by (meaning before.read) changes caller object.0.path

    joins : (object : Place × Node) → Reviewed object → Came object → Told object
    joins object says came =
        says
        ∙ (λ i. record {
          had = (sym (or_mapped (λ (it : Place × Node). it.0.path)
              (grant_at (meaning before.read) caller) ([], false) (object_of was object.1.id))
              ∙ ap (λ (o : Option (List (List ℕ))).
              option_map_or (grant_at (meaning before.read) caller) o ([], false)) came) i;
          has = grant_at (changed.changed i) caller object.0.path;
        })
