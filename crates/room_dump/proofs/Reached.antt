-- Which objects a walk has still to come to, while others wait.
use Rattle.std.proofs.Common.{rules, ◌≡◌, ℕ, ◌+◌, ◌<◌, ◌≤◌, ◌==◌, ◌&&◌, Bool, true, false, cond}
use Rattle.std.proofs.Common.{not, List, [], ◌∷◌, ◌++◌, map, filter, reverse, length, Option, Some}
use Rattle.std.proofs.Common.{None, nat_lt, refl, sym, ap, subst, ◌∙◌, arith}
use Rattle.std.proofs.lemmas.Bool.{false≢true, and_parts, eqb-true, eq-eqb, ne_eqb, ltb-true}
use Rattle.std.{proofs.{lemmas.List.length-map, Math.Nat.le_trans}, specs.Prelude.is_none}
use Rattle.std.specs.{List.{find, flat_map, AllByRecursion as Each}, Option.option_map_or}
use Rattle.room_rows.specs.{declared.node.Node.Node, Content.{Content, child_of, children_of}}
use Rattle.room_rows.specs.{Content.{has_parent, is_rising, root_of}, Finding.find_id, Rows.AreRows}
use Rattle.room_rows.{specs.Rows.{Rows, numbers_of, unread_numbers}, proofs.Lookups.each-sorted}
use Rattle.room_rows.proofs.Lookups.{count_sorted, length_numbers}
use Rattle.room_entry.{specs.Pieces.same_text, proofs.Facts.Members.{each_append, each_front}}
use Rattle.room_entry.proofs.Facts.{Members.{each_weaker, one_if, count}, Lists.filter_weaker}
use Rattle.room_dump.specs.{Dump.tree_of, Visits.{Fits, HasAll, IsThere, Reached, always}}
use Rattle.room_dump.{specs.Visits.is_number, proofs.Counting.{count_all, count_append}}
use Rattle.room_dump.proofs.Counting.{count_found, count_parts, count_reverse, each_always}
use Rattle.room_dump.proofs.Counting.{each_both, each_filter, each_found, each_last, each_reverse}
use Rattle.room_dump.proofs.{Counting.none_counted, Depth.{all_still, goes_on, others}}

-- ---- rows

abbrev Above : ℕ → Node → Type 0
Above k node = k < node.id

above_next : (k m n : ℕ) → k < m → m < n → k < n
above_next k m n e f = omega (arith, e, f)

apart_above : (k n : ℕ) → k < n → k ≡ n → ⊥
apart_above k n e f = omega (arith, e, f)

-- rising numbers are above what comes before them
rises_above : (k : ℕ) (nodes : List Node) → is_rising (k ∷ map (λ (n : Node). n.id) nodes) ≡ true
    → Each (Above k) nodes
rises_above k [] rises = tt
rises_above k (x ∷ xs) rises =
    let parts = and_parts (nat_lt k x.id) (is_rising (x.id ∷ map (λ (n : Node). n.id) xs)) rises in
    let up = ltb-true k x.id parts.0 in (
      up,
      each_weaker (Above x.id) (Above k) (λ n higher. above_next k x.id n.id up higher) xs
          (rises_above x.id xs parts.1),
    )

found_later : (x : Node) (xs : List Node) (y : Node) → x.id < y.id → find_id y.id xs ≡ Some y
    → find_id y.id (x ∷ xs) ≡ Some y
found_later x xs y below found = search (rules, ne_eqb, apart_above, below, found)

-- each object is found by its number
each_there : (k : ℕ) (nodes : List Node) → is_rising (k ∷ map (λ (n : Node). n.id) nodes) ≡ true
    → Each (λ n. find_id n.id nodes ≡ Some n) nodes
each_there k [] rises = tt
each_there k (x ∷ xs) rises =
    let parts = and_parts (nat_lt k x.id) (is_rising (x.id ∷ map (λ (n : Node). n.id) xs)) rises in (
      ap (λ b. cond b (Some x) (find_id x.id xs)) (eq-eqb x.id x.id refl),
      each_both (Above x.id) (λ n. find_id n.id xs ≡ Some n) (λ n. find_id n.id (x ∷ xs) ≡ Some n)
          (λ n higher found. found_later x xs n higher found) xs
          (rises_above x.id xs parts.1) (each_there x.id xs parts.1),
    )

none_passes : (p : Node → Bool) (nodes : List Node) → Each (λ n. p n ≡ false) nodes
    → count p nodes ≤ 0
none_passes p [] none = omega arith
none_passes p (x ∷ xs) none = let first = ap one_if none.0 in let rest = none_passes p xs none.1 in
    no_sum (one_if (p x)) (count p xs) first rest
  where
    no_sum : (a b : ℕ) → a ≡ 0 → b ≤ 0 → a + b ≤ 0
    no_sum a b e f = omega (arith, e, f)

-- no number stands twice
once_rising : (k id : ℕ) (nodes : List Node) → is_rising (k ∷ map (λ (n : Node). n.id) nodes) ≡ true
    → count (is_number id) nodes ≤ 1
once_rising k id [] rises = omega arith
once_rising k id (x ∷ xs) rises = on (x.id == id) refl (once_rising x.id id xs parts.1)
  where
    parts : (nat_lt k x.id ≡ true) × (is_rising (x.id ∷ map (λ (n : Node). n.id) xs) ≡ true)
    parts = and_parts (nat_lt k x.id) (is_rising (x.id ∷ map (λ (n : Node). n.id) xs)) rises

    on : (t : Bool) → (x.id == id) ≡ t → count (is_number id) xs ≤ 1
        → one_if t + count (is_number id) xs ≤ 1
    on true is rest =
        let none = none_passes (is_number id) xs
        (each_weaker (Above x.id) (λ n. (n.id == id) ≡ false)
        (grind (arith, ne_eqb, apart_above, eqb-true)) xs
        (rises_above x.id xs parts.1)) in
        omega (arith, none)
    on false is rest = omega (arith, rest)

-- there are no more objects than rows
no_more_objects : (rows : Rows) → count always rows.read.nodes ≤ length (numbers_of rows)
no_more_objects rows =
    let all = count_all rows.read.nodes in
    let numbers = length-map rows.read.nodes (λ (n : Node). n.id) in
    let fewer = length_numbers (unread_numbers rows) (map (λ (n : Node). n.id) rows.read.nodes) in
    as_many (count always rows.read.nodes) (length rows.read.nodes)
    (length (map (λ (n : Node). n.id) rows.read.nodes)) (length (numbers_of rows)) all numbers fewer
  where
    as_many : (a b c d : ℕ) → a ≡ b → c ≡ b → c ≤ d → a ≤ d
    as_many a b c d e f g = omega (arith, e, f, g)

-- ---- what waits

below_root : (id : ℕ) (node : Node) → has_parent id node ≡ true → not (is_none node.parent) ≡ true
below_root id node is = on node.parent is
  where
    on : (parent : Option ℕ) → option_map_or (λ p. p == id) parent false ≡ true
        → not (is_none parent) ≡ true
    on None is = absurd (false≢true is)
    on (Some p) is = refl

-- the root waits
pub reached_first : (rows : Rows) → AreRows rows → (root : Node) → root_of rows.read ≡ Some root
    → Reached rows.read (root ∷ []) (length (numbers_of rows))
reached_first rows are root is =
    let nodes = rows.read.nodes in
    let rest = filter (λ (n : Node). not (is_none n.parent)) nodes in
    let all = λ (n : Node). filter_weaker (has_parent n.id) (λ (m : Node). not (is_none m.parent))
    (λ m child. below_root n.id m child) nodes in
    let found = λ (p : Node → Bool). count_found p (λ (n : Node). is_none n.parent) nodes root is in
    record {
      rest = rest;
      waits = grind (arith, root, each_found, rows.read, nodes, each_there, are.numbers, is);
      rests = each_always (HasAll rows.read rest) all rest;
      once = grind (arith, le_trans, found, once_rising, nodes, are.numbers);
      fewer = le_trans (found always) (no_more_objects rows);
    }

-- the sums of a turn
one_gone : (a b c : ℕ) → (a + (1 + 0)) + c ≤ 1 → a ≤ 0
one_gone a b c e = omega (arith, e)

none_of_rest : (a c : ℕ) → (a + (1 + 0)) + c ≤ 1 → c ≤ 0
none_of_rest a c e = omega (arith, e)

once_more : (waits gone kids left rest : ℕ) → (waits + gone) + rest ≤ 1 → kids + left ≡ rest
    → (waits + kids) + left ≤ 1
once_more waits gone kids left rest e f = omega (arith, e, f)

one_turn : (waits kids left rest more next : ℕ) → (waits + (1 + 0)) + rest ≤ more
    → kids + left ≡ rest → more ≤ next + 1 → (waits + kids) + left ≤ next
one_turn waits kids left rest more next e f g = omega (arith, e, f, g)

rest_below : (waits rest left most : ℕ) → (waits + (1 + 0)) + rest ≤ left → left ≤ most
    → rest < most
rest_below waits rest left most e f = omega (arith, e, f)

one_at_least : (waits rest left : ℕ) → (waits + (1 + 0)) + rest ≤ left → 0 < left
one_at_least waits rest left e = omega (arith, e)

alone_too : (waits one rest : ℕ) → (waits + one) + rest ≤ 1 → one + rest ≤ 1
alone_too waits one rest e = omega (arith, e)

one_child : (gone one kids left rest : ℕ) → (0 + gone) + rest ≤ 1 → kids + left ≡ rest → one ≤ kids
    → one + left ≤ 1
one_child gone one kids left rest e f g = omega (arith, e, f, g)

fewer_below : (gone one kids left rest most : ℕ) → (0 + gone) + rest ≤ most → kids + left ≡ rest
    → one ≤ kids → one + left ≤ most
fewer_below gone one kids left rest most e f g = omega (arith, e, f, g)

no_more : (a b c : ℕ) → a + b ≤ c → a ≤ c
no_more a b c e = omega (arith, e)

find_both : {A : Type 0} (q s : A → Bool) (xs : List A)
    → find (λ x. q x && s x) xs ≡ find s (filter q xs)
find_both q s [] = refl
find_both q s (x ∷ xs) = on (q x) (find_both q s xs)
  where
    on : (t : Bool) → find (λ y. q y && s y) xs ≡ find s (filter q xs)
        → cond (t && s x) (Some x) (find (λ y. q y && s y) xs)
        ≡ find s (cond t (x ∷ filter q xs) (filter q xs))
    on true same = ap (λ o. cond (s x) (Some x) o) same
    on false same = same

module _ (content : Content) (there : Each (IsThere content) content.nodes) (waits : List Node)
    (node : Node) (more : ℕ) (r : Reached content (waits ++ node ∷ []) more) where
  -- the numbers of what waits, with the object last
  once_last : (id : ℕ)
      → (count (is_number id) waits + count (is_number id) (node ∷ []))
      + count (is_number id) r.rest ≤ 1
  once_last id = subst (λ n. n + count (is_number id) r.rest ≤ 1)
      (count_append (is_number id) waits (node ∷ [])) (r.once id)

  fewer_last : (count always waits + count always (node ∷ [])) + count always r.rest ≤ more
  fewer_last = subst (λ n. n + count always r.rest ≤ more)
      (count_append always waits (node ∷ [])) r.fewer

  pub some_left : 0 < more
  some_left = one_at_least (count always waits) (count always r.rest) more fewer_last

  fits_last : Fits content r.rest node
  fits_last = each_last (Fits content r.rest) waits node r.waits

  here : (count (is_number node.id) waits + (1 + 0)) + count (is_number node.id) r.rest ≤ 1
  here = subst (λ b. (count (is_number node.id) waits + (one_if b + 0)) + count
      (is_number node.id) r.rest ≤ 1) (eq-eqb node.id node.id refl) (once_last node.id)

  pub is_there : IsThere content node
  is_there = fits_last.1

  -- what is told from the object that is taken next
  pub goes_down : {P X : Type 0} (below : P → Node → Node → P) (tell : P → Node → List X) (place : P)
      (most : ℕ)
      → more ≤ most
      → tree_of below tell most content place node ≡ tell place node
      ++ flat_map (λ child. tree_of below tell most content (below place node child) child)
      (children_of content node.id)
  goes_down below tell place most within =
      goes_on below tell most content r.rest place node fits_last.0 r.rests
      (λ id. alone_too (count (is_number id) waits) (count (is_number id) (node ∷ []))
      (count (is_number id) r.rest) (once_last id))
      (rest_below (count always waits) (count always r.rest) more most fewer_last within)

  -- what is left of the rest without its children, and these
  abbrev left : List Node
  left = others node r.rest

  abbrev kids : List Node
  kids = filter (has_parent node.id) content.nodes

  parts : (p : Node → Bool) → count p kids + count p left ≡ count p r.rest
  parts p =
      ap (λ (n : ℕ). n + count p left) (sym (ap (count p) fits_last.0))
      ∙ count_parts p (has_parent node.id) r.rest

  still : Each (HasAll content left) r.rest
  still =
      each_both (HasAll content r.rest) (λ n. is_number node.id n ≡ false) (HasAll content left)
      (λ n has apart. all_still content r.rest node n apart has) r.rest r.rests
      (none_counted (is_number node.id) r.rest
      (none_of_rest (count (is_number node.id) waits) (count (is_number node.id) r.rest) here))

  rests_still : Each (HasAll content left) left
  rests_still = each_filter (HasAll content left) (λ n. not (has_parent node.id n)) r.rest still

  kids_fit : Each (Fits content left) kids
  kids_fit =
      each_both (HasAll content left) (IsThere content) (Fits content left) (λ n has is. (has, is))
      kids
      (subst (Each (HasAll content left)) fits_last.0
      (each_filter (HasAll content left) (has_parent node.id) r.rest still))
      (each_filter (IsThere content) (has_parent node.id) content.nodes there)

  waits_fit : Each (Fits content left) waits
  waits_fit =
      each_both (Fits content r.rest) (λ n. is_number node.id n ≡ false) (Fits content left)
      (λ n fit apart. (all_still content r.rest node n apart fit.0, fit.1)) waits
      (each_front (Fits content r.rest) waits (node ∷ []) r.waits)
      (none_counted (is_number node.id) waits
      (one_gone (count (is_number node.id) waits) 0 (count (is_number node.id) r.rest) here))

  -- it is taken, and its children wait
  pub reached_next : (next : ℕ) → more ≤ next + 1
      → Reached content (waits ++ reverse (children_of content node.id)) next
  reached_next next less =
      let children = children_of content node.id in
      let in_order = λ (p : Node → Bool). ap (λ (n : ℕ). n + count p left) (count_sorted p kids)
      ∙ parts p in
      let come = λ (p : Node → Bool). count_append p waits (reverse children)
      ∙ ap (λ (n : ℕ). count p waits + n) (count_reverse p children) in
      record {
        rest = left;
        waits = search (rules, each_append, waits_fit, each_reverse, each-sorted, kids_fit);
        rests = rests_still;
        once = grind (arith, count, come, once_more, children, once_last, in_order);
        fewer = grind (arith, count, come, one_turn, children, fewer_last, in_order, less);
      }

-- a child waits alone where its folder waited alone
pub reached_child : (content : Content) → Each (IsThere content) content.nodes
    → (node child : Node) (name : List ℕ) (most : ℕ) → Reached content (node ∷ []) most
    → child_of content node.id name ≡ Some child → Reached content (child ∷ []) most
reached_child content there node child name most r is =
    let s = λ (n : Node). same_text n.name name in
    let found = sym (find_both (has_parent node.id) s content.nodes) ∙ is in
    let all = kids content there [] node most r in
    let more = left content there [] node most r in
    let fewer = λ (p : Node → Bool). no_more (count p (child ∷ []))
    (count p (filter (λ y. not (s y)) all)) (count p all) (count_found p s all child found) in
    let sums = parts content there [] node most r in
    record {
      rest = more;
      waits = (
        each_found (Fits content more) s all child (kids_fit content there [] node most r) found,
        tt,
      );
      rests = rests_still content there [] node most r;
      once = λ id. one_child (count (is_number id) (node ∷ [])) (count (is_number id) (child ∷ []))
          (count (is_number id) all) (count (is_number id) more) (count (is_number id) r.rest)
          (once_last content there [] node most r id) (sums (is_number id))
          (fewer (is_number id));
      fewer = fewer_below (count always (node ∷ [])) (count always (child ∷ [])) (count always all)
          (count always more) (count always r.rest) most
          (fewer_last content there [] node most r) (sums always) (fewer always);
    }

-- all objects are found by their numbers
pub all_there : (rows : Rows) → AreRows rows → Each (IsThere rows.read) rows.read.nodes
all_there rows are = each_there 0 rows.read.nodes are.numbers
