-- The rows that are left out are those that say what the row above says.
use Rattle.std.proofs.Common.{◌≡◌, ℕ, zero, suc, ◌&&◌, false, List, [], ◌∷◌, ◌++◌, length, Option}
use Rattle.std.{proofs.Common.{Some, None, refl, ap, ◌∙◌}, specs.List.flat_map}
use Rattle.std.specs.{List.AllByRecursion as Each, Option.option_map_or}
use Rattle.room_entry.{specs.declared.parties.Caller.Caller}
use Rattle.room_entry.proofs.Facts.Members.{each_back, each_front}
use Rattle.room_rows.specs.{declared.node.Node.Node, Content.{Content, children_of}}
use Rattle.room_rows.specs.{Meaning.meaning, Rows.{Rows, numbers_of}}
use Rattle.room_machine.specs.{Site.{Site, front, site_at}, Stored.stored_along}
use Rattle.room_dump.specs.Dump.{tree_of}
use Rattle.room_change.specs.Changes.{Turn, same_turn, turn_at as turn_by}
use Rattle.room_review.specs.{Laws.told_at, Table.{Place, place_below, site_of}}
use Rattle.room_review.proofs.{Ending.{before_after, last_after}, Visited.each_flat}
use Rattle.room_turns.specs.{Laws.{RowsRepeat, below_first}, Turns.{View, follows_clear, is_said}}
use Rattle.room_turns.specs.Turns.{objects_from, says_alike, turn_at, view_of}
use Rattle.room_turns.proofs.Reviewed.{rows_are_the_change}

front_after : (path : List (List ℕ)) (name : List ℕ) → path ≡ front (path ++ name ∷ [])
front_after [] name = refl
front_after (first ∷ []) name = refl
front_after (first ∷ next ∷ path) name =
    ap (λ (names : List (List ℕ)). first ∷ names) (front_after (next ∷ path) name)

-- ---- what holds of each object holds of it and of its folder

each_inside : {A B : Type 0} (P : B → Type 0) (R : A → Type 0) (f : A → List B)
    → ((x : A) → Each P (f x) → R x) → (xs : List A) → Each P (flat_map f xs) → Each R xs
each_inside P R f joins [] all = tt
each_inside P R f joins (x ∷ xs) all = (
  joins x (each_front P (f x) (flat_map f xs) all),
  each_inside P R f joins xs (each_back P (f x) (flat_map f xs) all),
)

module _ (content : Content) (P R : Place × Node → Type 0)
    (step : (place : Place) (node child : Node) → P (place, node)
    → P (place_below place node child, child) → R (place_below place node child, child)) where
  abbrev tree : ℕ → Place → Node → List (Place × Node)
  tree depth place node = tree_of place_below (λ p n. (p, n) ∷ []) depth content place node

  whole : (depth : ℕ) (place : Place) (node : Node) → (P (place, node) → R (place, node))
      → Each P (tree depth place node) → Each R (tree depth place node)
  whole zero place node first all = tt
  whole (suc depth) place node first all = (
    first all.0,
    each_flat R (λ child. tree depth (place_below place node child) child)
        (children_of content node.id)
        (each_inside P (λ child. Each R (tree depth (place_below place node child) child))
        (λ child. tree depth (place_below place node child) child)
        (λ child below. whole depth (place_below place node child) child
        (step place node child all.0) below) (children_of content node.id) all.1),
  )

  below : (depth : ℕ) (place : Place) (node : Node) → Each P (tree depth place node)
      → Each R (below_first (tree depth place node))
  below zero place node all = tt
  below (suc depth) place node all =
      each_flat R (λ child. tree depth (place_below place node child) child)
      (children_of content node.id)
      (each_inside P (λ child. Each R (tree depth (place_below place node child) child))
      (λ child. tree depth (place_below place node child) child)
      (λ child under. whole depth (place_below place node child) child
      (step place node child all.0) under) (children_of content node.id) all.1)

-- ---- the rows

module _ (view : View) (plain : view.looks ≡ false) (caller : Caller)
    (turn : List (List ℕ) → Turn) where
  abbrev Turns : Place × Node → Type 0
  Turns object =
      turn_at view caller object.0.above (site_of object.0 object.1) ≡ turn object.0.path

  abbrev Repeats : Place × Node → Type 0
  Repeats object =
      is_said view caller object.0.above (site_of object.0 object.1)
      ≡ (follows_clear view object.0.above
      && same_turn (turn object.0.path) (turn (front object.0.path)))

  repeats_below : (place : Place) (node child : Node) → Turns (place, node)
      → Turns (place_below place node child, child) → Repeats (place_below place node child, child)
  repeats_below place node child folder own =
      let under = place_below place node child in
      let target = site_of under child in
      let clear = follows_clear view under.above in
      (λ i. option_map_or (λ site. clear && says_alike (plain i)
      (turn_at view caller under.above target)
      (turn_at view caller (before_after place.above (site_of place node) i) site))
      (last_after place.above (site_of place node) i) false)
      ∙ (λ i. clear && same_turn (own i) (folder i))
      ∙ ap (λ (path : List (List ℕ)). clear && same_turn (turn under.path) (turn path))
      (front_after place.path child.name)

  all_repeat : (rows : Rows) (path : List (List ℕ)) → Each Turns (objects_from rows path)
      → Each Repeats (below_first (objects_from rows path))
  all_repeat rows path all = on (site_at (stored_along rows.read path) path) all
    where
      on : (o : Option Site) → Each Turns (option_map_or (told_at rows path) o [])
          → Each Repeats (below_first (option_map_or (told_at rows path) o []))
      on None all = tt
      on (Some target) all =
          below rows.read Turns Repeats repeats_below (length (numbers_of rows))
          (record { path = target.path; above = _ }) target.node all

pub rows_repeat : RowsRepeat
rows_repeat asked before after changes are sound are' sound' none plain changed caller =
    all_repeat (view_of asked before) plain caller (turn_by (meaning before.read) changes caller)
    after asked.path
    (rows_are_the_change asked before after changes are sound are' sound' none changed caller)
