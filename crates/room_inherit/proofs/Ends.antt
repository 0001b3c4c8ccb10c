-- Where carrying a change down begins, and where it ends.
use Rattle.std.proofs.Common.{rules, ◌≡◌, ℕ, zero, suc, ◌≤◌, ◌==◌, Bool, true, false, not, ◌||◌}
use Rattle.std.proofs.Common.{List, [], ◌∷◌, ◌++◌, map, length, Option, Some, None, refl, sym, ap}
use Rattle.std.proofs.{Common.{◌∙◌, inl, inr, arith}, lemmas.Bool.{and_parts, or_cases, or_left}}
use Rattle.std.proofs.lemmas.{Bool.{or_right, false≢true, Decides.nat_tests}, List.length-map}
use Rattle.std.{proofs.lemmas.List.map-id, specs.{Prelude.option_and_then, List.list_all}}
use Rattle.std.specs.{List.AllByRecursion as Each, Option.{option_map, option_map_or}}
use Rattle.room_entry.{specs.{Ace.Ace, declared.object.Which.Which}, proofs.Same.entries_equal}
use Rattle.room_entry.proofs.{Alike.{equal_entries, entries_themselves}, Facts.Members.each_back}
use Rattle.room_entry.proofs.Facts.Members.{each_map, each_weaker, all_each, one_if, count}
use Rattle.room_entry.proofs.Facts.Members.{count_ends}
use Rattle.room_rows.specs.{declared.node.Node.Node, Content.{Content, node_at, parent_of}}
use Rattle.room_rows.specs.Content.{has_parent, children_of, is_linked_in, is_rising}
use Rattle.room_rows.specs.{Finding.find_id, Held.held_of, Rows.{Rows, numbers_of}, Law.AllAgree}
use Rattle.room_rows.{specs.Law.{AllAgreeBut, agrees, agrees_with}, proofs.Lookups.found_number}
use Rattle.room_rows.proofs.{Lookups.length_numbers, Frames.parent_is}
use Rattle.room_inherit.specs.Spread.{ChangedAgree, stores_as_before, with_lists, is_changed}
use Rattle.room_inherit.specs.Spread.{is_linked_within, is_within, IsOwnAncestor}
use Rattle.room_inherit.{specs.Turn.{is_met_again, meets_again}, proofs.Kinship.same_parent}
use Rattle.room_inherit.proofs.{Kinship.{same_kind, with_own}, Children.{ids_of, each_found}}
use Rattle.room_inherit.proofs.Children.{each_there, apart_rising, apart_map, some_child}
use Rattle.room_inherit.proofs.{Renewing.{map_agree, one_object}, Frontier.{set, set_id}}
use Rattle.room_inherit.proofs.Frontier.{set_parent, set_held, find_set, links, passes, There}
use Rattle.room_inherit.proofs.{Frontier.{Waits, AgreesOrWaits, Frontier}, Outdated.same_above}
use Rattle.room_inherit.proofs.Outdated.{parent_found, base_of}

-- where a test of all objects is passed, each object passes it
pub each_all : (p : Node → Bool) (xs : List Node) → list_all p xs ≡ true → Each (λ x. p x ≡ true) xs
each_all p [] all = tt
each_all p (x ∷ xs) all = let parts = and_parts (p x) (list_all p xs) all in
    (parts.0, each_all p xs parts.1)

-- ---- the lists as they are stored

-- the inherited entries that an object stores before anything is carried down
abbrev pub own_lists : Which → Node → List Ace
own_lists which node = (held_of which node).inh

-- objects that are given the lists they store leave the content as it is
pub with_own_lists : (which : Which) (old : Content) → with_lists which (own_lists which) old ≡ old
with_own_lists which old = search (map-id, map_agree, set, with_own)

-- an object that is given the list it stores doesn't count as changed
pub own_unchanged : (which : Which) (n : Node) → is_changed which (own_lists which) n ≡ false
own_unchanged which n = ap not (entries_themselves (held_of which n).inh)

-- so at the beginning the number of changed objects is 0
pub count_own : (which : Which) (nodes : List Node)
    → count (is_changed which (own_lists which)) nodes ≡ 0
count_own which [] = refl
count_own which (x ∷ xs) = search (rules, one_if, count, which, own_unchanged, count_own which xs)

changed_own : (which : Which) (n : Node) (X : Type 0) → is_changed which (own_lists which) n ≡ true
    → X
changed_own which n X changed = absurd (false≢true (sym (own_unchanged which n) ∙ changed))

-- what the law says of an object and its parent
law_of_two : (which : Which) (old : Content) (n p : Node) → There which 0 old p
    → has_parent p.id n ≡ true → links which p n ≡ true → agrees old which n ≡ true
    → (held_of which n).inh ≡ passes which (own_lists which) p n
law_of_two which old n p there has link agree =
    grind (arith, nat_tests, entries_equal, links, parent_found, passes)

module _ (which : Which) (start : ℕ) (old : Content)
    (rises : is_rising (0 ∷ ids_of old.nodes) ≡ true) where
  -- ---- the beginning

  -- at the beginning the object itself is all that waits, and no list has changed
  pub frontier_first : (s : Node) → node_at old start ≡ Some s
      → Frontier which start old (own_lists which) (s ∷ [])
  frontier_first s found =
      let same : s.id ≡ start = found_number start old.nodes s found in
      record {
        known = grind (arith, nat_tests, with_own);
        apart = (refl, tt);
        came = search (changed_own);
        law = λ but n p there there' has link.
            let either = each_found
            (λ m. (has_parent start m || agrees old which m) ≡ true) n.id old.nodes n
            (each_all (λ m. has_parent start m || agrees old which m) old.nodes but) there in
            grind (arith, nat_tests, law_of_two, parent_is);
      }

  -- where the object isn't there, nothing is linked to it
  pub law_without : node_at old start ≡ None → AllAgreeBut old which start → AllAgree old which
  law_without none but = grind (arith, nat_tests, all_each, each_all, each_weaker, parent_is)

  -- ---- the end

  module _ (f : Node → List Ace) where
    agrees_now : (n : Node)
        → ((p : Node) → There which start old p → has_parent p.id n ≡ true → links which p n ≡ true
        → f n ≡ passes which f p n) → agrees (with_lists which f old) which (set which f n) ≡ true
    agrees_now n law = search (on, same_parent, set)
      where
        linked_or : (t u : Bool) → (t ≡ true → u ≡ true) → (not t || u) ≡ true
        linked_or t u same = grind (arith, nat_tests)

        with_parent : (q : Node) (p : ℕ) → n.parent ≡ Some p → node_at old p ≡ Some q
            → agrees_with which (set which f n) (set which f q) ≡ true
        with_parent q p up found =
            grind (
              arith,
              nat_tests,
              equal_entries,
              found_number,
              linked_or,
              links,
              passes,
              same_kind,
              set_held,
            )

        found_or : (p : ℕ) (o : Option Node) → node_at old p ≡ o → n.parent ≡ Some p
            → option_map_or (agrees_with which (set which f n)) (option_map (set which f) o) true
            ≡ true
        found_or p None found up = refl
        found_or p (Some q) found up = with_parent q p up found

        on : (o : Option ℕ) → n.parent ≡ o
            → option_map_or (agrees_with which (set which f n))
            (option_and_then (node_at (with_lists which f old)) o) true ≡ true
        on None up = refl
        on (Some p) up = grind (arith, nat_tests, find_set, found_or, set)

    -- once no object waits any more, each object agrees with its parent by the new lists
    pub law_at_end : AgreesOrWaits which start old f [] → AllAgree (with_lists which f old) which
    law_at_end law =
        all_each (agrees (with_lists which f old) which) (map (set which f) old.nodes)
        (grind (arith, nat_tests, agrees_now, apart_rising, each_map, each_there, set))

    -- Where each object with another list than before agrees with a parent, each agrees or stores
    -- what it did.
    pub changed_agree : ((n : Node) → There which start old n → is_changed which f n ≡ true
        → (p : Node) × There which start old p × (has_parent p.id n ≡ true)
        × (f n ≡ passes which f p n)) → ChangedAgree which old (with_lists which f old)
    changed_agree came =
        all_each either (map (set which f) old.nodes)
        (
        grind (
          arith,
          nat_tests,
          agrees_now,
          apart_rising,
          each_map,
          each_there,
          either,
          one_object,
          passes,
          same_above,
          set,
          set_held,
          set_id,
        ))
      where
        either : Node → Bool
        either m = stores_as_before old which m || agrees (with_lists which f old) which m

    -- ---- a loop

    below_of : (m : ℕ) (n : Node) → is_linked_within m old which start n ≡ true
        → is_within m old start n ≡ true
    below_of zero n is = absurd (false≢true is)
    below_of (suc m) n is =
        let parts = and_parts (is_linked_in old which n)
        (has_parent start n || option_map_or (is_linked_within m old which start)
        (parent_of old n) false) is in
        elim
        (or_cases (has_parent start n)
        (option_map_or (is_linked_within m old which start) (parent_of old n) false) parts.1) [
          | inl child ↦ or_left (has_parent start n) _ child
          | inr further ↦
              or_right (has_parent start n) _ (on (parent_of old n) (λ q. below_of m q) further)
        ]
      where
        on : (o : Option Node)
            → ((q : Node) → is_linked_within m old which start q ≡ true
            → is_within m old start q ≡ true)
            → option_map_or (is_linked_within m old which start) o false ≡ true
            → option_map_or (is_within m old start) o false ≡ true
        on o goes is = grind (arith, nat_tests)

    -- the first object, met again as a linked child of the last that waits, is its own ancestor
    pub loop_found : (rest : List Node) (w : Node) → Frontier which start old f (rest ++ w ∷ [])
        → meets_again which start w (children_of (with_lists which f old) w.id) ≡ true
        → IsOwnAncestor old start
    loop_found rest w front met =
        some_child (with_lists which f old)
        (apart_map (set which f) (set_id which f) old.nodes (apart_rising 0 old.nodes rises))
        (is_met_again which start w) w.id (IsOwnAncestor old start) found met
      where
        waits : Waits which start old f w
        waits = (each_back (Waits which start old f) rest (w ∷ []) front.known).0

        found : (m : Node) → node_at (with_lists which f old) m.id ≡ Some m
            → has_parent w.id m ≡ true → is_met_again which start w m ≡ true
            → IsOwnAncestor old start
        found m there has met_m =
            let b = base_of which f m (find_id m.id old.nodes)
            (sym (find_set which f m.id old.nodes) ∙ there) in
            let n = b.0 in
            let is_start : m.id ≡ start = grind (arith, nat_tests) in
            let w_id : w.id ≡ waits.base.id = grind (arith, nat_tests, set_id, waits) in
            let has_n : has_parent waits.base.id n ≡ true =
            grind (arith, nat_tests, set_parent) in (
              n,
              ap (node_at old) (sym is_start) ∙ b.1,
              elim (or_cases (waits.base.id == start) (is_changed which f waits.base) waits.reached) [
                | inl first ↦ (
                  suc zero,
                  grind (arith, nat_tests, waits),
                )
                | inr changed ↦
                    let c = (front.came waits.base waits.there changed).below in (
                      suc c.0,
                      search (rules, or_right, n, below_of, parent_found),
                    )
              ],
            )

-- ---- counts

-- where an object that fails a test is found, fewer pass the test than there are objects
pub count_less : (p : Node → Bool) (id : ℕ) (nodes : List Node) (s : Node)
    → find_id id nodes ≡ Some s → p s ≡ false → suc (count p nodes) ≤ length nodes
count_less p id [] s found isnt = absurd (let wrong : ⊥ = cc in wrong)
count_less p id (x ∷ xs) s found isnt =
    grind (arith, nat_tests, count, count_ends, one_if, count_less p id xs s)

-- there are at least as many numbers in use as objects that can be read
pub as_many_numbers : (rows : Rows) → length rows.read.nodes ≤ length (numbers_of rows)
as_many_numbers rows = grind (arith, nat_tests, ids_of, length-map, length_numbers)
