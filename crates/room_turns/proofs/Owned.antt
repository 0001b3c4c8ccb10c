-- In sound rows, what is kept of objects is what a review says of the rooms as a caller finds them.
use Rattle.std.proofs.Common.{◌≡◌, ℕ, ◌==◌, Bool, true, false, List, [], ◌∷◌, ◌++◌, map, length}
use Rattle.std.proofs.{Common.{take, Option, Some, None, refl, sym, ap, ◌∙◌}, lemmas.List.take-map}
use Rattle.std.specs.{List.AllByRecursion as Each, Option.{option_map, option_map_or}}
use Rattle.std.specs.Prelude.{if◌then◌else◌}
use Rattle.room_entry.specs.{Pieces.is_among, declared.parties.Caller.Caller}
use Rattle.room_entry.proofs.Facts.Members.{each_weaker}
use Rattle.room_rows.specs.{declared.node.Node.Node, Content.{Content, child_of, root_of}}
use Rattle.room_rows.specs.{Content.with_each, Meaning.meaning, Rows.{AreRows, Rows}}
use Rattle.room_rows.{specs.Sound.AreSound, proofs.InPlace.{child_of-with_each, keeps_places}}
use Rattle.room_rows.proofs.{InPlace.root_of-with_each, SamePlace.IsSamePlace}
use Rattle.room_machine.specs.{Site.{Site, site_at}, Stored.{stored_along, stored_from}}
use Rattle.room_machine.specs.Stored.{stored_site}
use Rattle.room_dump.proofs.Counting.{each_found}
use Rattle.room_change.specs.Changes.{grant_at}
use Rattle.room_review.{specs.{Standing.granted, Table.{Place, site_of}}, proofs.Visited.Stands}
use Rattle.room_turns.specs.{Laws.{OwnRowsAreTheReview, rows_for}, Turns.{found_by, granted_to}}
use Rattle.room_turns.specs.Turns.{object_of, objects_from, owned_by, turn_at, view_of}
use Rattle.room_turns.proofs.Reviewed.{all_stand, stored_grants}

module _ (own : List ℕ) (caller : Caller) where
  abbrev change : Node → Node
  change node = owned_by own caller node

  abbrev mine : Site → Site
  mine site = found_by own caller site

  stays : (node : Node) → IsSamePlace (change node) node
  stays node = on (is_among own node.id) caller.user
    where
      on : (t : Bool) (user : Option (List ℕ))
          → IsSamePlace (if t then option_map_or
          (λ name. record node { owners = record node.owners { owner = name } }) user node
          else node) node
      on true None = record { number = refl; parent = refl; name = refl }
      on true (Some name) = record { number = refl; parent = refl; name = refl }
      on false user = record { number = refl; parent = refl; name = refl }

  module _ (content : Content) where
    -- the child of a name, as the caller finds it
    child_owned : (node : Node) (name : List ℕ)
        → option_map change (child_of content node.id name)
        ≡ child_of (with_each content change) (change node).id name
    child_owned node name =
        sym (child_of-with_each content change (keeps_places content change stays) node.id name)
        ∙ ap (λ id. child_of (with_each content change) id name) (sym (stays node).number)

    way_from : (names path : List (List ℕ)) (node : Node)
        → map mine (stored_from content path node names)
        ≡ stored_from (with_each content change) path (change node) names
    way_from [] path node = refl
    way_from (name ∷ names) path node =
        ap (λ (sites : List Site). stored_site path (change node) ∷ sites)
        (on (λ child. way_from names (path ++ name ∷ []) child) (child_of content node.id name)
        ∙ ap (λ (o : Option Node). option_map_or (λ child.
        stored_from (with_each content change) (path ++ name ∷ []) child names) o [])
        (child_owned node name))
      where
        on : ((child : Node)
            → map mine (stored_from content (path ++ name ∷ []) child names)
            ≡ stored_from (with_each content change) (path ++ name ∷ []) (change child) names)
            → (o : Option Node)
            → map mine
            (option_map_or (λ child. stored_from content (path ++ name ∷ []) child names) o [])
            ≡ option_map_or (λ child.
            stored_from (with_each content change) (path ++ name ∷ []) child names)
            (option_map change o) []
        on each None = refl
        on each (Some child) = each child

    way_along : (path : List (List ℕ))
        → map mine (stored_along content path) ≡ stored_along (with_each content change) path
    way_along path =
        on (root_of content)
        ∙ ap (λ (o : Option Node). option_map_or (λ root.
        stored_from (with_each content change) [] root path) o [])
        (sym (root_of-with_each content change (keeps_places content change stays)))
      where
        on : (o : Option Node)
            → map mine (option_map_or (λ root. stored_from content [] root path) o [])
            ≡ option_map_or (λ root. stored_from (with_each content change) [] root path)
            (option_map change o) []
        on None = refl
        on (Some root) = way_from path [] root

  site_owned : (sites : List Site) (names : List (List ℕ))
      → site_at (map mine sites) names ≡ option_map mine (site_at sites names)
  site_owned [] names = refl
  site_owned (site ∷ sites) [] = refl
  site_owned (site ∷ sites) (name ∷ names) = site_owned sites names

  -- ---- the objects of a state

  abbrev Tells : Rows → Place × Node → Type 0
  Tells rows object =
      granted_to own caller object.0.above (site_of object.0 object.1)
      ≡ grant_at (meaning (rows_for own caller rows).read) caller object.0.path

  module _ (rows : Rows) (are : AreRows rows) (sound : AreSound rows)
      (are_mine : AreRows (rows_for own caller rows))
      (sound_mine : AreSound (rows_for own caller rows)) where
    tells_at : (place : Place) (node : Node) → Stands rows.read place node
        → Tells rows (place, node)
    tells_at place node stands =
        let sites = stored_along rows.read place.path in
        let target = mine (site_of place node) in
        ap (λ (above : List Site). granted caller (map mine above) target) (sym stands.way)
        ∙ ap (λ (above : List Site). granted caller above target)
        (sym (take-map mine (length place.path) sites)
        ∙ ap (take (length place.path)) (way_along rows.read place.path))
        ∙ stored_grants caller (rows_for own caller rows) are_mine sound_mine place.path target
        (ap (λ (l : List Site). site_at l place.path) (sym (way_along rows.read place.path))
        ∙ site_owned sites place.path ∙ ap (option_map mine) stands.at)

    tell_all : (path : List (List ℕ)) → Each (Tells rows) (objects_from rows path)
    tell_all path =
        each_weaker (λ (it : Place × Node). Stands rows.read it.0 it.1) (Tells rows)
        (λ it stands. tells_at it.0 it.1 stands) (objects_from rows path)
        (all_stand rows are sound path)

pub own_rows_are_the_review : OwnRowsAreTheReview
own_rows_are_the_review asked before after are sound are' sound' caller am soundly am' soundly' =
    each_weaker (Tells asked.own caller after) Says each (objects_from after asked.path)
    (tell_all asked.own caller after are' sound' am' soundly' asked.path)
  where
    was : List (Place × Node)
    was = objects_from before []

    room : Content
    room = meaning (rows_for asked.own caller before).read

    Says : Place × Node → Type 0
    Says object =
        turn_at (view_of asked before) caller object.0.above (site_of object.0 object.1)
        ≡ record {
          had = option_map_or (λ stood. grant_at room caller stood.0.path)
              (object_of was object.1.id) ([], false);
          has = grant_at (meaning (rows_for asked.own caller after).read) caller object.0.path;
        }

    had : (number : ℕ) (o : Option (Place × Node)) → object_of was number ≡ o
        → option_map_or (λ object. granted_to asked.own caller object.0.above
        (site_of object.0 object.1)) o ([], false)
        ≡ option_map_or (λ object. grant_at room caller object.0.path) o ([], false)
    had number None found = refl
    had number (Some object) found =
        each_found (Tells asked.own caller before) (λ it. it.1.id == number) was object
        (tell_all asked.own caller before are sound am soundly []) found

    each : (object : Place × Node) → Tells asked.own caller after object → Says object
    each object says i = record {
      had = had object.1.id (object_of was object.1.id) refl i;
      has = says i;
    }
