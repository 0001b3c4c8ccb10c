-- One object taken from those that wait, and its children renewed.
use Rattle.std.proofs.Common.{◌≡◌, ℕ, zero, suc, ◌+◌, ◌==◌, Bool, true, false, ◌||◌, List, [], ◌∷◌}
use Rattle.std.proofs.Common.{◌++◌, filter, length, Some, sym, ap, ◌∙◌, inl, inr, ◌⊎◌, arith}
use Rattle.std.proofs.lemmas.Bool.{or_cases, or_parts, false_from_ne_true, Decides.nat_tests}
use Rattle.std.proofs.{lemmas.List.length-map, Math.Bool.or-false}
use Rattle.std.specs.List.{AllByRecursion as Each}
use Rattle.room_entry.specs.{Ace.Ace, declared.object.Which.Which}
use Rattle.room_entry.proofs.Facts.Members.{each_append, each_front, each_back, each_weaker}
use Rattle.room_entry.proofs.Facts.Members.{each_map, each_filter, count}
use Rattle.room_rows.specs.{declared.node.Node.Node, Content.{Content, node_at, has_parent}}
use Rattle.room_rows.specs.{Content.{children_of, is_rising, with_each}, Finding.find_id}
use Rattle.room_rows.proofs.InPlace.{with_inh-id}
use Rattle.room_inherit.specs.{Spread.{with_lists, is_changed, IsLinkedBelow}, Turn.brought_up}
use Rattle.room_inherit.specs.Turn.{next_of, renewals, renewed_below, is_met_again, meets_again}
use Rattle.room_inherit.specs.{Turn.waits_next, declared.descent.Reach.TheVariants.Renewed}
use Rattle.room_inherit.proofs.Children.{has_id, Apart, ids_of, apart_rising, apart_filter}
use Rattle.room_inherit.proofs.Children.{apart_map, has_id_map, each_child, apart_children}
use Rattle.room_inherit.proofs.{Children.{is_such_child, no_child}, Outdated.parent_found}
use Rattle.room_inherit.proofs.Outdated.{same_above, has_either, apart_join, apart_front}
use Rattle.room_inherit.proofs.{Outdated.{apart_last, has_last, base_of}, Frontier.{set, set_id}}
use Rattle.room_inherit.proofs.Frontier.{set_parent, find_set, links, passes, is_reached, There}
use Rattle.room_inherit.proofs.Frontier.{Waits, Came, Frontier}
use Rattle.room_inherit.proofs.Outdated as step

module _ (which : Which) (start : ℕ) (old : Content)
    (rises : is_rising (0 ∷ ids_of old.nodes) ≡ true) (f : Node → List Ace) (rest : List Node)
    (w : Node)
    (front : Frontier which start old f (rest ++ w ∷ []))
    (not_met : meets_again which start w (children_of (with_lists which f old) w.id)
    ≡ false) where
  abbrev now : Content
  now = with_lists which f old

  apart_old : Apart old.nodes
  apart_old = apart_rising 0 old.nodes rises

  apart_now : Apart now.nodes
  apart_now = apart_map (set which f) (set_id which f) old.nodes apart_old

  there_now : (n : Node) → There which start old n
      → node_at now (set which f n).id ≡ Some (set which f n)
  there_now n there = grind (arith, nat_tests, find_set, set, set_id)

  -- ---- the object that is taken

  pub waits : Waits which start old f w
  waits = (each_back (Waits which start old f) rest (w ∷ []) front.known).0

  abbrev w0 : Node
  w0 = waits.base

  w_id : w.id ≡ w0.id
  w_id = ap (λ (n : Node). n.id) waits.is ∙ set_id which f w0

  -- ---- the lists afterwards

  abbrev stale : Node → Bool
  stale n = step.stale which f w w0 n

  abbrev pub after : Node → List Ace
  after n = step.after which f w w0 n

  pub rows_after : with_each now (renewed_below which w) ≡ with_lists which after old
  rows_after = step.rows_renewed which f w w0 waits.is old

  keeps : (n : Node) → stale n ≡ false → after n ≡ f n
  keeps = step.keeps which f w w0

  stale_parts : (n : Node) → stale n ≡ true → step.StaleParts which f w w0 n
  stale_parts = step.stale_parts which f w w0

  -- ---- what is known of children

  child_unchanged : (n : Node) → There which start old n → has_parent w.id n ≡ true
      → is_changed which f n ≡ false
  child_unchanged n there has = grind (arith, nat_tests, has_id, has_last, same_above)

  no_start : (n : Node) → There which start old n → has_parent w.id n ≡ true
      → links which w0 n ≡ true → (n.id == start) ≡ false
  no_start n there has link = false_from_ne_true (n.id == start) (λ is.
      let met = no_child now apart_now (is_met_again which start w) w.id not_met (set which f n)
      (there_now n there) (set_parent which f w.id n ∙ has) in
      grind (arith, nat_tests, set, set_id, step.linked_is, waits))

  -- what was reached isn't outdated
  reached_fresh : (n : Node) → There which start old n → is_reached which start f n ≡ true
      → stale n ≡ false
  reached_fresh n there reached = grind (arith, nat_tests, child_unchanged, no_start, stale_parts)

  reached_on : (n : Node) → There which start old n → is_reached which start f n ≡ true
      → is_reached which start after n ≡ true
  reached_on n there reached = grind (arith, nat_tests, keeps, reached_fresh)

  changed_is : (n : Node) → There which start old n
      → is_changed which after n ≡ (is_changed which f n || stale n)
  changed_is = step.changed_is which f w w0 old child_unchanged

  -- ---- those that wait next

  abbrev pub kids : List Node
  kids = next_of Renewed which w (children_of now w.id)

  abbrev going : Node → Bool
  going = waits_next Renewed which w

  abbrev goes_on : List Node
  goes_on = filter going (children_of now w.id)

  kept_id : (n : Node) → (brought_up which w n).id ≡ n.id
  kept_id n = grind (arith, nat_tests, with_inh-id)

  kids_has : (n : Node) → There which start old n → has_id n.id kids ≡ stale n
  kids_has n there =
      cc (
        has_id_map (brought_up which w) kept_id n.id goes_on,
        set_id which f n,
        is_such_child now apart_now going w.id (set which f n) (there_now n there),
        step.stale_is which f w w0 waits.is n,
      )

  no_kid : (n : Node) → There which start old n → stale n ≡ false → has_id n.id kids ≡ false
  no_kid n there fresh = kids_has n there ∙ fresh

  kids_apart : Apart kids
  kids_apart = search (apart_children, apart_filter, apart_map, apart_now, kept_id)

  kid_waits : (m : Node) → node_at now m.id ≡ Some m → has_parent w.id m ≡ true → going m ≡ true
      → Waits which start old after (brought_up which w m)
  kid_waits m there has is =
      let b = base_of which f m (find_id m.id old.nodes)
      (sym (find_set which f m.id old.nodes) ∙ there) in
      let n = b.0 in
      let there' : There which start old n = grind (arith, nat_tests, set_id) in
      record {
        base = n;
        there = there';
        is = grind (arith, nat_tests, step.renewed_is, step.takes, waits);
        reached = grind (arith, nat_tests, child_unchanged, step.changed_stale);
      }

  kids_wait : Each (Waits which start old after) kids
  kids_wait = search (apart_now, each_child, each_filter, each_map, kid_waits)

  rest_waits : (r : Node) → Waits which start old f r → Waits which start old after r
  rest_waits r known = grind (arith, nat_tests, keeps, reached_fresh, reached_on)

  rest_apart : (r : Node) → Waits which start old f r → has_id r.id kids ≡ false
  rest_apart r known = grind (arith, nat_tests, has_id, no_kid, reached_fresh, set_id)

  -- a reached object that didn't wait together with the one that was taken
  taken_on : (p : Node) → There which start old p → is_reached which start f p ≡ true
      → has_id p.id rest ≡ false → has_id p.id (rest ++ kids) ≡ false
  taken_on p there reached none =
      grind (arith, nat_tests, has_either, has_id, no_kid, reached_fresh)

  passed_on : (n p : Node) → There which start old p → is_reached which start f p ≡ true
      → passes which f p n ≡ passes which after p n
  passed_on n p there reached = grind (arith, nat_tests, keeps, reached_fresh)

  came_before : (n : Node) → There which start old n → is_changed which f n ≡ true
      → Came which start old f (rest ++ w ∷ []) n → Came which start old after (rest ++ kids) n
  came_before n there changed c = record {
    isnt_start = c.isnt_start;
    below = c.below;
    parent = c.parent;
    there = c.there;
    has = c.has;
    reached = reached_on c.parent c.there c.reached;
    taken =
        cc (taken_on c.parent c.there c.reached
        (or_parts (has_id c.parent.id rest) (has_id c.parent.id (w ∷ []))
        (sym (has_either c.parent.id rest (w ∷ [])) ∙ c.taken)).0);
    agrees = grind (arith, nat_tests, keeps, passed_on, reached_fresh);
  }

  below_now : (n : Node) → has_parent w0.id n ≡ true → links which w0 n ≡ true
      → IsLinkedBelow old which start n
  below_now n has link =
      elim (or_cases (w0.id == start) (is_changed which f w0) waits.reached) [
        | inl is ↦ (
          suc zero,
          grind (arith, nat_tests),
        )
        | inr changed ↦
            let c = (front.came w0 waits.there changed).below in (
              suc c.0,
              grind (arith, nat_tests),
            )
      ]

  came_now : (n : Node) → There which start old n → stale n ≡ true
      → Came which start old after (rest ++ kids) n
  came_now n there is =
      grind (
        arith,
        nat_tests,
        apart_last,
        below_now,
        has_id,
        no_start,
        passed_on,
        reached_on,
        stale_parts,
        taken_on,
        w_id,
        waits,
      )

  abbrev Goal : Node → Node → Type 0
  Goal n p = (has_id p.id (rest ++ kids) ≡ true) ⊎ (after n ≡ passes which after p n)

  -- a child of the object that was taken agrees with it now
  child_agrees : (n p : Node) → There which start old p → has_parent p.id n ≡ true
      → links which p n ≡ true → p.id ≡ w.id → after n ≡ passes which after p n
  child_agrees = grind (arith, nat_tests, reached_fresh, step.child_agrees, w_id, waits)

  -- any other object stays as it was
  other_agrees : (n p : Node) → There which start old n → There which start old p
      → has_parent p.id n ≡ true → (p.id == w.id) ≡ false
      → (has_id p.id (rest ++ w ∷ []) ≡ true) ⊎ (f n ≡ passes which f p n) → Goal n p
  other_agrees n p there there' has other given =
      grind (arith, nat_tests, has_either, has_id, keeps, kids_has, or-false, same_above)

  pub frontier_after : Frontier which start old after (rest ++ kids)
  frontier_after = record {
    known = search (each_append, each_front, each_weaker, kids_wait, rest_waits);
    apart =
        search (apart_front, apart_join, each_front, each_weaker, has_id, kids_apart, rest_apart);
    came =
        λ n there changed. elim
        (or_cases (is_changed which f n) (stale n) (sym (changed_is n there) ∙ changed)) [
          | inl before ↦ came_before n there before (front.came n there before)
          | inr st ↦ came_now n there st
        ];
    law = grind (arith, nat_tests, child_agrees, other_agrees);
  }

  -- ---- counts

  -- as many wait next as are renewed
  pub as_many : length kids ≡ length (renewals which w (children_of now w.id))
  as_many = grind (arith, nat_tests, length-map)

  pub count_after : count (is_changed which after) old.nodes
      ≡ count (is_changed which f) old.nodes + length (renewals which w (children_of now w.id))
  count_after = step.count_renewed which f w w0 old child_unchanged waits.is apart_old
