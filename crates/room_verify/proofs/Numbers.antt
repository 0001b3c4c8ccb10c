-- Objects whose numbers rise.
use Rattle.std.proofs.Common.{rules, ◌≡◌, ℕ, zero, suc, ◌<◌, ◌≤◌, ◌+◌, ◌&&◌, ◌||◌, Bool, true}
use Rattle.std.proofs.Common.{false, List, [], ◌∷◌, length, get_or, take, Some, None, nat_lt}
use Rattle.std.proofs.{Common.{refl, sym, ap, ◌∙◌, arith, inl, inr}, lemmas.Bool.and_parts}
use Rattle.std.proofs.lemmas.Bool.{eq-eqb, ne_eqb, ltb-true, lt-ltb, le-ltb, cond-true, cond-false}
use Rattle.std.{proofs.lemmas.Bool.{cases_Bool, Decides.nat_tests}, specs.List.list_any}
use Rattle.std.specs.List.{filter_map, cons_option, Sorted.IsSortedBy}
use Rattle.std.specs.{declared.cmp.Ordering.TheVariants.{Less, Equal, Greater}, Ordering.nat_cmp}
use Rattle.std.specs.{Ordering.is_lt, Cmp.nat_cmp_is, Prelude.is_none}
use Rattle.room_rows.specs.{declared.node.Node.Node, Content.is_rising, Finding.find_id}
use Rattle.room_inherit.proofs.Children.{ids_of}
use Rattle.room_verify.specs.Objects.{first_fallen}

-- no number falls exactly where all rise
pub none_fallen : (last : ℕ) (nodes : List Node)
    → is_none (first_fallen last nodes) ≡ is_rising (last ∷ ids_of nodes)
none_fallen last [] = refl
none_fallen last (x ∷ xs) =
    elim (cases_Bool (nat_lt last x.id)) [
      | inl e ↦ rw e (none_fallen x.id xs)
      | inr e ↦ rw e refl
    ]

-- what stands in a list that rises from a number on is above it
pub above_at : (k : ℕ) (nodes : List Node) → is_rising (k ∷ ids_of nodes) ≡ true
    → (place : ℕ) (d : Node) → place < length nodes → k < (get_or nodes place d).id
above_at k [] rises place d below = absurd (omega (arith, below))
above_at k (x ∷ xs) rises zero d below =
    ltb-true k x.id (and_parts (nat_lt k x.id) (is_rising (x.id ∷ ids_of xs)) rises).0
above_at k (x ∷ xs) rises (suc place) d below =
    let parts = and_parts (nat_lt k x.id) (is_rising (x.id ∷ ids_of xs)) rises in
    let up = ltb-true k x.id parts.0 in
    search (rules, parts, up, parts.1, above_at x.id xs parts.1 place d (omega arith))

pub rises_between : (k : ℕ) (nodes : List Node) → is_rising (k ∷ ids_of nodes) ≡ true
    → (i j : ℕ) (d : Node) → i < j → j < length nodes
    → (get_or nodes i d).id < (get_or nodes j d).id
rises_between k [] rises i j d under below = absurd (omega (arith, below))
rises_between k (x ∷ xs) rises i zero d under below = absurd (omega (arith, under))
rises_between k (x ∷ xs) rises zero (suc j) d under below =
    search (rules, above_at, and_parts, nat_lt, rises, d)
rises_between k (x ∷ xs) rises (suc i) (suc j) d under below =
    rises_between x.id xs (and_parts (nat_lt k x.id) (is_rising (x.id ∷ ids_of xs)) rises).1 i j d
    (omega arith) (omega arith)

-- the object at a place is the one that its number finds
pub found_at : (k : ℕ) (nodes : List Node) → is_rising (k ∷ ids_of nodes) ≡ true
    → (place : ℕ) (d : Node) → place < length nodes
    → find_id (get_or nodes place d).id nodes ≡ Some (get_or nodes place d)
found_at k [] rises place d below = absurd (omega (arith, below))
found_at k (x ∷ xs) rises zero d below = cond-true _ _ _ (eq-eqb x.id x.id refl)
found_at k (x ∷ xs) rises (suc place) d below =
    let parts = and_parts (nat_lt k x.id) (is_rising (x.id ∷ ids_of xs)) rises in
    let up = above_at x.id xs parts.1 place d (omega arith) in
    cond-false _ _ _ (ne_eqb x.id (get_or xs place d).id (λ e. omega (arith, up, e)))
    ∙ found_at x.id xs parts.1 place d (omega arith)

-- a number that no place has finds nothing
pub none_at : (id : ℕ) (nodes : List Node)
    → ((k : ℕ) (d : Node) → k < length nodes → (get_or nodes k d).id ≡ id → ⊥)
    → find_id id nodes ≡ None
none_at id [] none = refl
none_at id (x ∷ xs) none =
    cond-false _ _ _ (ne_eqb x.id id (none 0 x (omega arith)))
    ∙ none_at id xs (λ k d below. none (suc k) d (omega arith))

not_less : (x y : ℕ) → y < x → is_lt (nat_cmp x y) ≡ false
not_less x y below = grind (arith, nat_tests)

pub equal_from_cmp : (x y : ℕ) → nat_cmp x y ≡ Equal → x ≡ y
equal_from_cmp x y is = grind (arith, nat_tests)

pub apart_from_less : (x y : ℕ) → nat_cmp x y ≡ Less → x ≡ y → ⊥
apart_from_less x y is e = let same = sym (nat_cmp_is x y Equal e) in let wrong : ⊥ = cc in wrong

pub apart_from_greater : (x y : ℕ) → nat_cmp x y ≡ Greater → x ≡ y → ⊥
apart_from_greater x y is e = let same = sym (nat_cmp_is x y Equal e) in let wrong : ⊥ = cc in wrong

pub sorted_by_number : (k : ℕ) (nodes : List Node) → is_rising (k ∷ ids_of nodes) ≡ true
    → IsSortedBy (λ (a b : Node). is_lt (nat_cmp a.id b.id)) nodes
sorted_by_number k nodes rises =
    λ i d low below. not_less _ _ (rises_between k nodes rises i (i + 1) d (omega arith) below)

-- ---- those of a smaller number stand before

none_before : (n k : ℕ) (q : Node → Bool) (nodes : List Node) → is_rising (k ∷ ids_of nodes) ≡ true
    → n ≤ k → list_any (λ (o : Node). nat_lt o.id n && q o) nodes ≡ false
none_before n k q [] rises up = refl
none_before n k q (x ∷ xs) rises up =
    let parts = and_parts (nat_lt k x.id) (is_rising (x.id ∷ ids_of xs)) rises in
    let higher = ltb-true k x.id parts.0 in
    ap (λ t. (t && q x) || list_any (λ (o : Node). nat_lt o.id n && q o) xs)
    (le-ltb x.id n (omega (arith, higher)))
    ∙ none_before n x.id q xs parts.1 (omega (arith, higher))

pub any_before : (k : ℕ) (q : Node → Bool) (nodes : List Node) → is_rising (k ∷ ids_of nodes) ≡ true
    → (i : ℕ) (d : Node) → i < length nodes
    → list_any (λ (o : Node). nat_lt o.id (get_or nodes i d).id && q o) nodes
    ≡ list_any q (take i nodes)
any_before k q [] rises i d below = absurd (omega (arith, below))
any_before k q (x ∷ xs) rises zero d below =
    ap (λ t. (t && q x) || list_any (λ (o : Node). nat_lt o.id x.id && q o) xs)
    (le-ltb x.id x.id (omega arith))
    ∙ none_before x.id x.id q xs (and_parts (nat_lt k x.id) (is_rising (x.id ∷ ids_of xs)) rises).1
    (omega arith)
any_before k q (x ∷ xs) rises (suc i) d below =
    let parts = and_parts (nat_lt k x.id) (is_rising (x.id ∷ ids_of xs)) rises in
    search (rules, above_at, lt-ltb, parts, parts.1, any_before x.id q xs parts.1 i d (omega arith))

-- ---- each number finds its object

later_only : (k : ℕ) (x : Node) (xs : List Node) (ids : List ℕ) → is_rising (k ∷ ids) ≡ true
    → x.id ≤ k → filter_map (λ id. find_id id (x ∷ xs)) ids ≡ filter_map (λ id. find_id id xs) ids
later_only k x xs [] rises up = refl
later_only k x xs (id ∷ ids) rises up =
    let parts = and_parts (nat_lt k id) (is_rising (id ∷ ids)) rises in
    let higher = ltb-true k id parts.0 in
    ap (λ o. cons_option o (filter_map (λ other. find_id other (x ∷ xs)) ids))
    (cond-false _ _ _ (ne_eqb x.id id (λ e. omega (arith, higher, e))))
    ∙ ap (λ l. cons_option (find_id id xs) l)
    (later_only id x xs ids parts.1 (omega (arith, higher)))

pub each_found : (k : ℕ) (nodes : List Node) → is_rising (k ∷ ids_of nodes) ≡ true
    → filter_map (λ id. find_id id nodes) (ids_of nodes) ≡ nodes
each_found k [] rises = refl
each_found k (x ∷ xs) rises =
    let next = (and_parts (nat_lt k x.id) (is_rising (x.id ∷ ids_of xs)) rises).1 in
    ap (λ o. cons_option o (filter_map (λ id. find_id id (x ∷ xs)) (ids_of xs)))
    (cond-true _ _ _ (eq-eqb x.id x.id refl))
    ∙ ap (λ l. x ∷ l) (search (rules, later_only, each_found x.id xs next))
