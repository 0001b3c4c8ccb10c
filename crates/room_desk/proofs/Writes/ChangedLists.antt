-- How many objects store other inherited entries than before.
use Rattle.std.proofs.Common.{◌≡◌, ◌∙◌, ℕ, ◌+◌, ◌≤◌, ◌==◌, Bool, true, false, cond, not, List, []}
use Rattle.std.proofs.Common.{◌∷◌, map, Option, Some, None, refl, sym, ap, subst, inl, inr, arith}
use Rattle.std.proofs.lemmas.Bool.{and_parts, cases_Bool, false_from_ne_true, or_cases, or_left}
use Rattle.std.proofs.lemmas.{Bool.{or_right, Decides.nat_tests}, Option.none-some}
use Rattle.std.specs.{Prelude.{zero, suc, ◌||◌, ◌⊎◌}, List.AllByRecursion as Each}
use Rattle.std.specs.Option.{option_map_or}
use Rattle.room_entry.specs.{Ace.Ace, Same.same_entries, declared.object.Which.Which}
use Rattle.room_entry.proofs.{Facts.Members.{count, count-is, one_if}, Same.entries_equal}
use Rattle.room_rows.specs.{declared.node.Node.Node, Content.{Content, has_parent, is_linked_in}}
use Rattle.room_rows.specs.{Content.{node_at, parent_of, with_each}, Finding.find_id, Held.held_of}
use Rattle.room_rows.{specs.{Keep.{Changes, with_inh}, Rows.Rows}, proofs.Frames.Rises}
use Rattle.room_rows.proofs.{Frames.node_at-number, InPlace.{held_of-with_inh, with_inh-id}}
use Rattle.room_inherit.specs.Spread.{IsLinkedBelow, IsSpread, is_changed, is_linked_within}
use Rattle.room_inherit.{specs.Spread.is_within, proofs.Children.{apart_rising, each_there}}
use Rattle.room_inherit.proofs.Rooted.{rooted_no_loop}
use Rattle.room_desk.specs.{Carrying.{IsCarriedDown, IsRooted}, Counted.changed_lists}
use Rattle.room_desk.{specs.Counted.has_other_list, proofs.Lists.HandedDown.put_one}
use Rattle.room_desk.proofs.{Placed.Climbing.node_at-changed, Sound.Anchored.rooted_changed}

-- ---- counts

count_map : (p : Node → Bool) (f : Node → Node) (xs : List Node)
    → count p (map f xs) ≡ count (λ x. p (f x)) xs
count_map p f [] = refl
count_map p f (x ∷ xs) = ap (λ n. one_if (p (f x)) + n) (count_map p f xs)

count_same : (p q : Node → Bool) (xs : List Node) → Each (λ x. p x ≡ q x) xs
    → count p xs ≡ count q xs
count_same p q [] all = refl
count_same p q (x ∷ xs) all = cc (all.0, count_same p q xs all.1)

one_less : (t u : Bool) → (t ≡ true → u ≡ true) → one_if t ≤ one_if u
one_less true u implies = subst (λ v. 1 ≤ one_if v) (sym (implies refl)) (omega arith)
one_less false u implies = omega arith

-- where each member that passes a test passes another
count_less : (p q : Node → Bool) (xs : List Node) → Each (λ x. p x ≡ true → q x ≡ true) xs
    → count p xs ≤ count q xs
count_less p q [] all = omega arith
count_less p q (x ∷ xs) all =
    let here = one_less (p x) (q x) all.0 in
    let rest = count_less p q xs all.1 in
    omega arith

-- and one of them passes only the other
count_one_less : (p q : Node → Bool) (id : ℕ) (node : Node) (xs : List Node)
    → Each (λ x. p x ≡ true → q x ≡ true) xs → find_id id xs ≡ Some node → p node ≡ false
    → q node ≡ true → count p xs + 1 ≤ count q xs
count_one_less p q id node [] all found fails passes = absurd (none-some node found)
count_one_less p q id node (x ∷ xs) all found fails passes =
    on (x.id == id) (λ there. count_one_less p q id node xs all.1 there fails passes) found
  where
    on : (t : Bool) → (find_id id xs ≡ Some node → count p xs + 1 ≤ count q xs)
        → cond t (Some x) (find_id id xs) ≡ Some node
        → one_if (p x) + count p xs + 1 ≤ one_if (q x) + count q xs
    on t rest same = grind (arith, nat_tests, count_less, one_if, one_less)

-- what holds of each object that is there
each_here : (content : Content) → Rises content → (P : Node → Type 0)
    → ((n : Node) → node_at content n.id ≡ Some n → P n) → Each P content.nodes
each_here content rises P all = search (apart_rising, each_there)

-- ---- other lists

module _ (which : Which) (change : Node → Node) (number : (n : Node) → (change n).id ≡ n.id)
    (same : (n : Node) → (held_of which (change n)).inh ≡ (held_of which n).inh) where
  each_before : (new : Content) (xs : List Node)
      → Each (λ n. has_other_list which new (change n) ≡ has_other_list which new n) xs
  each_before new [] = tt
  each_before new (n ∷ xs) = grind (arith, nat_tests, each_before new xs)

  -- before a change that leaves these lists
  pub changed_before : (old mid new : Rows) → mid.read ≡ with_each old.read change
      → changed_lists which mid new ≡ changed_lists which old new
  changed_before old mid new is =
      grind (arith, nat_tests, count-is, count_map, count_same, each_before)

  after_it : (content : Content) (n : Node)
      → has_other_list which (with_each content change) n ≡ has_other_list which content n
  after_it content n = grind (arith, nat_tests, node_at-changed)

  each_after : (content : Content) (xs : List Node)
      → Each (λ n. has_other_list which (with_each content change) n
      ≡ has_other_list which content n) xs
  each_after content [] = tt
  each_after content (n ∷ xs) = (after_it content n, each_after content xs)

  -- after a change that leaves them
  pub changed_after : (old mid new : Rows) → new.read ≡ with_each mid.read change
      → changed_lists which old new ≡ changed_lists which old mid
  changed_after old mid new is =
      cc (
        is,
        count-is (has_other_list which (with_each mid.read change)) old.read.nodes,
        count_same (has_other_list which (with_each mid.read change))
            (has_other_list which mid.read)
            old.read.nodes (each_after mid.read old.read.nodes),
        count-is (has_other_list which mid.read) old.read.nodes,
      )

-- ---- lists that are carried down

module _ (which : Which) (id changed : ℕ) (old new : Rows)
    (spread : IsSpread which id old new changed) where
  abbrev change : Node → Node
  change n = with_inh which (spread.lists n) n

  spread_number : (n : Node) → (change n).id ≡ n.id
  spread_number n = with_inh-id which (spread.lists n) n

  read_is : new.read ≡ with_each old.read change
  read_is = ap (λ (r : Rows). r.read) spread.becomes

  now_other : (n m : Node) → node_at old.read n.id ≡ Some m
      → has_other_list which new.read n
      ≡ not (same_entries (spread.lists m) (held_of which n).inh)
  now_other n m there =
      grind (arith, nat_tests, held_of-with_inh, node_at-changed, read_is, spread_number)

  -- as many are other as are counted
  pub spread_changes : Rises old.read → changed_lists which old new ≡ changed
  spread_changes rises =
      count-is (has_other_list which new.read) old.read.nodes
      ∙ count_same (has_other_list which new.read) (is_changed which spread.lists) old.read.nodes
      (search (each_here, now_other))
      ∙ sym (count-is (is_changed which spread.lists) old.read.nodes) ∙ sym spread.counted

-- what is linked below is below
linked_within : (n : ℕ) (content : Content) (which : Which) (id : ℕ) (node : Node)
    → is_linked_within n content which id node ≡ true → is_within n content id node ≡ true
linked_within zero content which id node is = is
linked_within (suc n) content which id node is =
    let parts = and_parts (is_linked_in content which node) (has_parent id node
    || option_map_or (is_linked_within n content which id) (parent_of content node) false) is in
    elim (or_cases (has_parent id node)
    (option_map_or (is_linked_within n content which id) (parent_of content node) false)
    parts.1) [
      | inl child ↦ search (or_left)
      | inr further ↦
          or_right (has_parent id node)
          (option_map_or (is_within n content id) (parent_of content node) false)
          (on (parent_of content node) (λ above. linked_within n content which id above) further)
    ]
  where
    on : (o : Option Node) → ((above : Node) → is_linked_within n content which id above ≡ true
        → is_within n content id above ≡ true)
        → option_map_or (is_linked_within n content which id) o false ≡ true
        → option_map_or (is_within n content id) o false ≡ true
    on None rest is = is
    on (Some above) rest is = rest above is

-- ---- from an object whose list was changed before

module _ (which : Which) (id : ℕ) (change : Node → Node)
    (number : (n : Node) → (change n).id ≡ n.id)
    (parent : (n : Node) → (change n).parent ≡ n.parent) (old mid new : Rows)
    (changes : Changes id change old mid) (rooted : IsRooted id old)
    (down : IsCarriedDown which id mid tt new) where
  abbrev node : Node
  node = rooted.node

  abbrev first : Node → Node
  first n = cond (n.id == id) (change n) n

  mid_is : mid.read ≡ with_each old.read first
  mid_is =
      ap (λ (r : Rows). r.read) (changes node rooted.there)
      ∙ put_one old.read rooted.rises id node rooted.there change number

  first_number : (n : Node) → (first n).id ≡ n.id
  first_number n = grind (arith, nat_tests)

  named : node.id ≡ id
  named = node_at-number old.read id node rooted.there

  is_here : first node ≡ change node
  is_here = grind (arith, nat_tests, named)

  -- it stands there with the changed list, and isn't below itself
  now_there : node_at mid.read id ≡ Some (change node)
  now_there = grind (arith, nat_tests, first_number, is_here, mid_is, node_at-changed)

  abbrev lists : Node → List Ace
  lists = down.1.lists

  unchanged : is_changed which lists (change node) ≡ false
  unchanged = false_from_ne_true (is_changed which lists (change node)) (λ is.
      let below : IsLinkedBelow mid.read which id (change node) = down.1.below (change node)
      (ap (node_at mid.read) (number node ∙ named) ∙ now_there) is in
      let now = (rooted_changed id old mid change number parent changes rooted).rooted rooted in
      search (linked_within, now_there, rooted_no_loop))

  -- so it has that list in the end
  kept : lists (change node) ≡ (held_of which (change node)).inh
  kept = grind (arith, nat_tests, entries_equal, unchanged)

  other_first : has_other_list which new.read (first node) ≡ false
  other_first =
      cc (
        is_here,
        now_other which id down.0 mid new down.1 (change node) (change node)
            (ap (node_at mid.read) (number node ∙ named) ∙ now_there),
        unchanged,
      )

  -- whether it had another one
  pub other_node : has_other_list which new.read node
      ≡ not (same_entries (held_of which (change node)).inh (held_of which node).inh)
  other_node =
      cc (
        now_other which id down.0 mid new down.1 node (change node)
            (ap (node_at mid.read) named ∙ now_there),
        kept,
      )

  each_less : Each (λ n. has_other_list which new.read (first n) ≡ true
      → has_other_list which new.read n ≡ true) old.read.nodes
  each_less = each_here old.read rooted.rises
      (λ n. has_other_list which new.read (first n) ≡ true → has_other_list which new.read n ≡ true)
      (λ n there. on n there (cases_Bool (n.id == id)))
    where
      on : (n : Node) → node_at old.read n.id ≡ Some n
          → ((n.id == id) ≡ true) ⊎ ((n.id == id) ≡ false)
          → has_other_list which new.read (first n) ≡ true → has_other_list which new.read n ≡ true
      on n there given is = grind (arith, nat_tests, other_first)

  -- the lists below it
  below_it : changed_lists which mid new
      ≡ count (λ n. has_other_list which new.read (first n)) old.read.nodes
  below_it = grind (arith, nat_tests, count-is, count_map, mid_is)

  pub fewer : changed_lists which mid new ≤ changed_lists which old new
  fewer = grind (arith, nat_tests, below_it, count-is, count_less, each_less)

  -- and its own, where that is another one
  pub one_fewer : has_other_list which new.read node ≡ true
      → changed_lists which mid new + 1 ≤ changed_lists which old new
  one_fewer other =
      grind (arith, nat_tests, below_it, count-is, count_one_less, each_less, other_first)
