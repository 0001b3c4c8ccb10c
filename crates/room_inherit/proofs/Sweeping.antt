-- The tree gone through from the root down.
use Rattle.std.proofs.Common.{rules, ◌≡◌, ◌+◌, ◌≤◌, ◌==◌, Bool, true, false, not, ◌&&◌, ◌||◌, List}
use Rattle.std.proofs.Common.{[], ◌∷◌, ◌++◌, map, filter, length, Some, None, sym, ap, ◌∙◌, inl}
use Rattle.std.proofs.{Common.{inr, ◌⊎◌, arith}, lemmas.Bool.{cases_Bool, and_left, or_cases}}
use Rattle.std.proofs.lemmas.Bool.{or_left, false≢true, false_from_ne_true, Decides.nat_tests}
use Rattle.std.{proofs.Math.Bool.or-false, specs.List.AllByRecursion as Each}
use Rattle.room_entry.specs.{Ace.Ace, Same.same_entries, declared.object.Which.Which}
use Rattle.room_entry.proofs.Facts.Members.{each_append, each_front, each_back, each_filter}
use Rattle.room_entry.proofs.Facts.Members.{each_weaker, filter_map, count, count_ends}
use Rattle.room_entry.proofs.Facts.Members.{count_length, count_map, count_agree, count_either}
use Rattle.room_rows.specs.{declared.node.Node.Node, Content.{Content, node_at, has_parent}}
use Rattle.room_rows.specs.Content.{children_of, is_folder, is_linked_in, is_rising, with_each}
use Rattle.room_rows.{specs.{Held.held_of, Keep.with_inh, Pass.pass}, proofs.Frames.parent_is}
use Rattle.room_inherit.specs.{Spread.{with_lists, is_changed}, Turn.{next_of, renewals}}
use Rattle.room_inherit.specs.Turn.{brought_up, renewed_below, is_met_again, meets_again}
use Rattle.room_inherit.{specs.declared.descent.Reach.TheVariants.All, proofs.Kinship.same_kind}
use Rattle.room_inherit.proofs.{Kinship.{same_name, same_parent}, Children.{has_id, Apart, ids_of}}
use Rattle.room_inherit.proofs.Children.{each_there, apart_rising, apart_filter, apart_map}
use Rattle.room_inherit.proofs.Children.{each_child, apart_children, some_child, is_such_child}
use Rattle.room_inherit.proofs.{Children.{length_children, children_map}, Renewing.map_agree}
use Rattle.room_inherit.proofs.{Renewing.one_object, Frontier.{set, set_folder, set_id, set_parent}}
use Rattle.room_inherit.proofs.{Frontier.{find_set, links, passes}, Outdated.parent_found}
use Rattle.room_inherit.proofs.Outdated.{same_above, has_either, apart_join, apart_front}
use Rattle.room_inherit.proofs.Outdated.{apart_last, has_last, base_of}
use Rattle.room_inherit.proofs.Outdated as step

module _ (which : Which) (old : Content) (root : Node) where
  abbrev pub There : Node → Type 0
  There node = node_at old node.id ≡ Some node

  -- an object that waits, with its list
  pub record Visits (f : Node → List Ace) (seen : Node → Bool) (waiting : Node) : Type 0 where
    pub base : Node
    pub there : There base
    pub is : waiting ≡ set which f base
    pub seen_is : seen base ≡ true

  -- an object was met below one that was taken, and agrees with it
  pub record WasMet (f : Node → List Ace) (seen : Node → Bool) (waiting : List Node)
      (node : Node) : Type 0 where
    pub parent : Node
    pub there : There parent
    pub has : has_parent parent.id node ≡ true
    pub seen_is : seen parent ≡ true
    pub taken : has_id parent.id waiting ≡ false
    pub agrees : links which parent node ≡ true → f node ≡ passes which f parent node

  -- the children of a folder that was taken were met, and agree with it
  abbrev pub Closed : (Node → List Ace) → (Node → Bool) → List Node → Type 0
  Closed f seen waiting =
      (n p : Node) → There n → There p → is_folder p ≡ true → has_parent p.id n ≡ true
      → seen p ≡ true → (has_id p.id waiting ≡ true)
      ⊎ ((seen n ≡ true) × (links which p n ≡ true → f n ≡ passes which f p n))

  pub record Sweep (f : Node → List Ace) (seen : Node → Bool) (waiting : List Node) : Type 0 where
    pub known : Each (Visits f seen) waiting
    pub apart : Apart waiting
    pub came : (node : Node) → There node → seen node ≡ true → (node ≡ root)
        ⊎ WasMet f seen waiting node
    pub closed : Closed f seen waiting
    pub fresh : (node : Node) → There node → seen node ≡ false → is_changed which f node ≡ false
    pub linked : (node : Node) → There node → is_changed which f node ≡ true
        → is_linked_in old which node ≡ true
    pub from_root : seen root ≡ true

module _ (which : Which) (old : Content) (rises : is_rising (0 ∷ ids_of old.nodes) ≡ true)
    (root : Node) (top : root.parent ≡ None) (f : Node → List Ace) (seen : Node → Bool)
    (rest : List Node) (w : Node)
    (front : Sweep which old root f seen (rest ++ w ∷ [])) where
  abbrev now : Content
  now = with_lists which f old

  apart_old : Apart old.nodes
  apart_old = apart_rising 0 old.nodes rises

  apart_now : Apart now.nodes
  apart_now = apart_map (set which f) (set_id which f) old.nodes apart_old

  -- ---- the object that is taken

  pub waits : Visits which old root f seen w
  waits = (each_back (Visits which old root f seen) rest (w ∷ []) front.known).0

  abbrev w0 : Node
  w0 = waits.base

  w_id : w.id ≡ w0.id
  w_id = ap (λ (n : Node). n.id) waits.is ∙ set_id which f w0

  -- ---- the lists afterwards

  abbrev stale : Node → Bool
  stale n = step.stale which f w w0 n

  abbrev pub after : Node → List Ace
  after n = step.after which f w w0 n

  pub rows_after : with_each now (renewed_below which w) ≡ with_lists which after old
  rows_after = step.rows_renewed which f w w0 waits.is old

  keeps : (n : Node) → stale n ≡ false → after n ≡ f n
  keeps = step.keeps which f w w0

  -- ---- what is known of children

  abbrev child : Node → Bool
  child n = has_parent w.id n

  abbrev pub seen_after : Node → Bool
  seen_after n = seen n || child n

  unseen_child : (n : Node) → There which old root n → child n ≡ true → seen n ≡ false
  unseen_child n there has = grind (arith, nat_tests, has_id, has_last, parent_is, same_above)

  seen_apart : (n : Node) → There which old root n → seen n ≡ true → child n ≡ false
  seen_apart n there is =
      false_from_ne_true (child n) (λ has. false≢true (sym (unseen_child n there has) ∙ is))

  child_unchanged : (n : Node) → There which old root n → child n ≡ true
      → is_changed which f n ≡ false
  child_unchanged n there has = front.fresh n there (unseen_child n there has)

  not_stale : (n : Node) → child n ≡ false → stale n ≡ false
  not_stale n isnt =
      and_left (child n) (links which w0 n && not (same_entries (f n) (passes which f w0 n))) isnt

  changed_is : (n : Node) → There which old root n
      → is_changed which after n ≡ (is_changed which f n || stale n)
  changed_is = step.changed_is which f w w0 old child_unchanged

  -- ---- those that wait next

  abbrev later : Content
  later = with_lists which after old

  apart_later : Apart later.nodes
  apart_later = apart_map (set which after) (set_id which after) old.nodes apart_old

  there_later : (n : Node) → There which old root n
      → node_at later (set which after n).id ≡ Some (set which after n)
  there_later n there = grind (arith, nat_tests, find_set, set, set_id)

  abbrev pub kids : List Node
  kids = filter is_folder (children_of later w.id)

  -- the children with what they inherit
  all_are : map (brought_up which w) (children_of now w.id) ≡ children_of later w.id
  all_are =
      map_agree (brought_up which w) (renewed_below which w) (children_of now w.id)
      (each_child now apart_now (λ n. brought_up which w n ≡ renewed_below which w n) w.id
      (grind (arith, nat_tests)))
      ∙ sym (children_map (renewed_below which w)
      (λ n. one (λ (m : Node). m.name) (λ e m. same_name which e m) n)
      (grind (arith, nat_tests, one, same_parent)) now w.id)
      ∙ ap (λ (c : Content). children_of c w.id) rows_after
    where
      one : {A : Type 0} (part : Node → A)
          → ((e : List Ace) (m : Node) → part (with_inh which e m) ≡ part m) → (n : Node)
          → part (renewed_below which w n) ≡ part n
      one part same n = grind (arith, nat_tests)

  same_folder : (n : Node) → is_folder (brought_up which w n) ≡ is_folder n
  same_folder n = grind (arith, nat_tests, same_kind)

  -- those of them that wait next
  pub kids_are : next_of All which w (children_of now w.id) ≡ kids
  kids_are = grind (arith, nat_tests, all_are, filter_map, same_folder)

  kids_has : (n : Node) → There which old root n → has_id n.id kids ≡ (child n && is_folder n)
  kids_has n there =
      ap (λ i. has_id i kids) (sym (set_id which after n))
      ∙ is_such_child later apart_later is_folder w.id (set which after n) (there_later n there)
      ∙ (λ i. set_parent which after w.id n i && set_folder which after n i)

  no_kid : (n : Node) → There which old root n → child n ≡ false → has_id n.id kids ≡ false
  no_kid n there isnt = kids_has n there ∙ and_left (child n) (is_folder n) isnt

  kids_visit : Each (Visits which old root after seen_after) kids
  kids_visit = search (apart_later, each_child, each_filter, each_weaker, kid)
    where
      kid : (m : Node) → node_at later m.id ≡ Some m → has_parent w.id m ≡ true
          → Visits which old root after seen_after m
      kid m there has = grind (arith, nat_tests, base_of, find_set, set_id, set_parent)

  keeps_seen : (n : Node) → There which old root n → seen n ≡ true → after n ≡ f n
  keeps_seen n there is = keeps n (not_stale n (seen_apart n there is))

  rest_visits : (r : Node) → Visits which old root f seen r
      → Visits which old root after seen_after r
  rest_visits r known = grind (arith, nat_tests, keeps_seen)

  rest_apart : (r : Node) → Visits which old root f seen r → has_id r.id kids ≡ false
  rest_apart r known = grind (arith, nat_tests, has_id, no_kid, seen_apart, set_id)

  taken_on : (p : Node) → There which old root p → seen p ≡ true → has_id p.id rest ≡ false
      → has_id p.id (rest ++ kids) ≡ false
  taken_on p there is none = grind (arith, nat_tests, has_either, has_id, no_kid, seen_apart)

  abbrev Came : Node → Type 0
  Came n = (n ≡ root) ⊎ WasMet which old root after seen_after (rest ++ kids) n

  -- what an object passes that was seen stays
  passed_on : (n p : Node) → There which old root p → seen p ≡ true
      → passes which f p n ≡ passes which after p n
  passed_on n p there is =
      ap (λ l. pass n.kind ((held_of which p).own ++ l)) (sym (keeps_seen p there is))

  came_before : (n : Node) → There which old root n → seen n ≡ true → (n ≡ root)
      ⊎ WasMet which old root f seen (rest ++ w ∷ []) n → Came n
  came_before n there is given =
      grind (arith, nat_tests, has_either, has_id, keeps_seen, passed_on, taken_on)

  child_agrees : (n p : Node) → There which old root p → has_parent p.id n ≡ true
      → links which p n ≡ true → p.id ≡ w.id → after n ≡ passes which after p n
  child_agrees = grind (arith, nat_tests, not_stale, seen_apart, step.child_agrees, w_id, waits)

  came_now : (n : Node) → child n ≡ true → Came n
  came_now n has = grind (arith, nat_tests, apart_last, child_agrees, has_id, taken_on, w_id, waits)

  abbrev Goal : Node → Node → Type 0
  Goal n p = (has_id p.id (rest ++ kids) ≡ true)
      ⊎ ((seen_after n ≡ true) × (links which p n ≡ true → after n ≡ passes which after p n))

  other_agrees : (n p : Node) → There which old root n → There which old root p
      → has_parent p.id n ≡ true → seen p ≡ true → (p.id == w.id) ≡ false
      → (has_id p.id (rest ++ w ∷ []) ≡ true)
      ⊎ ((seen n ≡ true) × (links which p n ≡ true → f n ≡ passes which f p n)) → Goal n p
  other_agrees n p there there' has is other given =
      grind (
        arith,
        nat_tests,
        has_either,
        has_id,
        keeps,
        not_stale,
        or-false,
        passed_on,
        same_above,
      )

  closed_after : Closed which old root after seen_after (rest ++ kids)
  closed_after n p there there' folder has is = elim (cases_Bool (p.id == w.id)) [
    | inl same ↦ grind (arith, nat_tests, child_agrees)
    | inr other ↦ elim (or_cases (seen p) (child p) is) [
      | inl before ↦ search (rules, other_agrees, n, p, there, there', has, before, other, folder)
      | inr now_met ↦ search (rules, has_either, has_id, kids_has)
    ]
  ]

  linked_now : (n : Node) → stale n ≡ true → is_linked_in old which n ≡ true
  linked_now n is = grind (arith, nat_tests, parent_found, w_id, waits)

  pub sweep_after : Sweep which old root after seen_after (rest ++ kids)
  sweep_after = record {
    known = search (each_append, each_front, each_weaker, kids_visit, rest_visits);
    apart =
        search (
          apart_children,
          apart_filter,
          apart_front,
          apart_join,
          apart_later,
          each_front,
          each_weaker,
          has_id,
          rest_apart,
        );
    came = grind (arith, nat_tests, came_before, came_now);
    closed = closed_after;
    fresh = grind (arith, nat_tests, keeps, not_stale);
    linked = grind (arith, nat_tests, changed_is, linked_now);
    from_root = or_left (seen root) (child root) front.from_root;
  }

  -- ---- counts

  pub count_seen : count seen old.nodes + length kids ≤ count seen_after old.nodes
  count_seen = grind (arith, nat_tests, all_seen, count_ends, count_length)
    where
      every : (xs : List Node) → Each (λ n. has_parent w.id (set which after n) ≡ child n) xs
      every [] = tt
      every (x ∷ xs) = (set_parent which after w.id x, every xs)

      number : length (children_of later w.id) ≡ count child old.nodes
      number = search (apart_later, count_agree, count_map, every, length_children, set)

      all_seen : count seen_after old.nodes ≡ count seen old.nodes + length (children_of later w.id)
      all_seen = search (apart_old, count, count_either, each_there, number, unseen_child)

  abbrev pub written : List Node
  written = renewals which w (children_of now w.id)

  pub count_after : count (is_changed which after) old.nodes
      ≡ count (is_changed which f) old.nodes + length written
  count_after = step.count_renewed which f w w0 old child_unchanged waits.is apart_old

  -- ---- no loop

  pub not_met_again : There which old root root
      → meets_again which root.id w (children_of now w.id) ≡ false
  not_met_again there =
      false_from_ne_true (meets_again which root.id w (children_of now w.id))
      (λ met. some_child now apart_now (is_met_again which root.id w) w.id ⊥ found met)
    where
      no_parent : None ≡ Some w.id → ⊥
      no_parent e = cc

      found : (m : Node) → node_at now m.id ≡ Some m → has_parent w.id m ≡ true
          → is_met_again which root.id w m ≡ true → ⊥
      found m there_m has met_m =
          grind (
            arith,
            nat_tests,
            base_of,
            find_set,
            no_parent,
            one_object,
            parent_is,
            set_id,
            set_parent,
          )
