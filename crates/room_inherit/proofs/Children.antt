-- Objects of rows by their numbers, and the children of one.
use Rattle.std.proofs.Common.{◌≡◌, ℕ, suc, ◌<◌, ◌==◌, Bool, true, false, cond, ◌&&◌, ◌||◌, List, []}
use Rattle.std.proofs.Common.{◌∷◌, map, filter, length, Some, refl, sym, ap, subst, ◌∙◌, inl, inr}
use Rattle.std.proofs.{Common.{arith, rules}, lemmas.Bool.{cases_Bool, and_parts, or_parts}}
use Rattle.std.proofs.lemmas.Bool.{or_left, or_right, false≢true, eq-eqb, eqb-true, ltb-true}
use Rattle.std.{proofs.lemmas.{Bool.Decides.nat_tests, Option.same_Some}, specs.Prelude.nat_lt}
use Rattle.std.specs.List.{list_any, AllByRecursion as Each}
use Rattle.room_rows.specs.{declared.node.Node.Node, Content.{Content, node_at, has_parent}}
use Rattle.room_rows.specs.Content.{children_of, put_by_name, sorted_by_name, is_before, is_rising}
use Rattle.room_rows.{specs.{Content.with_each, Finding.find_id}, proofs.Lookups.each-sorted}
use Rattle.room_rows.proofs.Lookups.{count_sorted}
use Rattle.room_entry.proofs.Facts.Members.{each_weaker, each_filter, each_unfiltered, any_filter}
use Rattle.room_entry.proofs.Facts.Members.{any_agree, any_none, each_fails, none_of_both}
use Rattle.room_entry.proofs.Facts.Members.{none_filter, count, count_filter, count_length}

-- ---- by number

-- whether an object of the list has this number
abbrev pub has_id : ℕ → List Node → Bool
has_id id nodes = list_any (λ (n : Node). n.id == id) nodes

-- no number comes twice
abbrev pub Apart : List Node → Type 0
Apart [] = Unit {0}
Apart (x ∷ xs) = (has_id x.id xs ≡ false) × Apart xs

-- the numbers of the objects, in the order of the list
abbrev pub ids_of : List Node → List ℕ
ids_of nodes = map (λ (n : Node). n.id) nodes

pub found_first : (id : ℕ) (x : Node) (xs : List Node) → (x.id == id) ≡ true
    → find_id id (x ∷ xs) ≡ Some x
found_first id x xs is = rw is refl

pub found_later : (id : ℕ) (x : Node) (xs : List Node) → (x.id == id) ≡ false
    → find_id id (x ∷ xs) ≡ find_id id xs
found_later id x xs is = rw is refl

-- what holds of each object of a list holds of the one that is found there by a number
pub each_found : (P : Node → Type 0) (id : ℕ) (nodes : List Node) (node : Node) → Each P nodes
    → find_id id nodes ≡ Some node → P node
each_found P id [] node all found = absurd (let wrong : ⊥ = cc in wrong)
each_found P id (x ∷ xs) node all found = elim (cases_Bool (x.id == id)) [
  | inl is ↦ subst P (same_Some x node (sym (found_first id x xs is) ∙ found)) all.0
  | inr isnt ↦ each_found P id xs node all.1 (sym (found_later id x xs isnt) ∙ found)
]

found_has : (id : ℕ) (nodes : List Node) (node : Node) → find_id id nodes ≡ Some node
    → has_id id nodes ≡ true
found_has id [] node found = absurd (let wrong : ⊥ = cc in wrong)
found_has id (x ∷ xs) node found = elim (cases_Bool (x.id == id)) [
  | inl is ↦ or_left (x.id == id) (has_id id xs) is
  | inr isnt ↦
      search (rules, or_right, found_has id xs node (sym (found_later id x xs isnt) ∙ found))
]

-- what holds of each object that is found by its number holds of all
pub each_there : (P : Node → Type 0) (nodes : List Node) → Apart nodes
    → ((n : Node) → find_id n.id nodes ≡ Some n → P n) → Each P nodes
each_there P [] apart all = tt
each_there P (x ∷ xs) apart all = (
  all x (found_first x.id x xs (eq-eqb x.id x.id refl)),
  search (rules, nat_tests, each_there P xs apart.1 (grind (arith, nat_tests, found_later, later))),
)
  where
    later : (n : Node) → find_id n.id xs ≡ Some n → x.id ≡ n.id → ⊥
    later n found same =
        false≢true (sym apart.0 ∙ ap (λ i. has_id i xs) same ∙ found_has n.id xs n found)

-- a test of one object alone
pub any_here : (T : Node → Bool) (x : Node) (nodes : List Node) → Apart nodes
    → find_id x.id nodes ≡ Some x → list_any (λ m. T m && (m.id == x.id)) nodes ≡ T x
any_here T x [] apart found = absurd (let wrong : ⊥ = cc in wrong)
any_here T x (y ∷ ys) apart found = elim (cases_Bool (y.id == x.id)) [
  | inl is ↦
      let none : list_any (λ m. T m && (m.id == x.id)) ys ≡ false = none_of_both
      (λ (m : Node). m.id == x.id) T ys
      (ap (λ i. has_id i ys) (sym (eqb-true y.id x.id is)) ∙ apart.0) in
      grind (arith, nat_tests, alone)
  | inr isnt ↦
      cc (
        isnt,
        skip (T y) (list_any (λ m. T m && (m.id == x.id)) ys),
        any_here T x ys apart.1 (sym (found_later x.id y ys isnt) ∙ found),
      )
]
  where
    alone : (t : Bool) → ((t && true) || false) ≡ t
    alone t = grind (arith, nat_tests)

    skip : (t r : Bool) → ((t && false) || r) ≡ r
    skip t r = grind (arith, nat_tests)

-- ---- rising numbers

-- where k and then the numbers rise, each object has a number above k
pub each_above : (k : ℕ) (nodes : List Node) → is_rising (k ∷ ids_of nodes) ≡ true
    → Each (λ n. k < n.id) nodes
each_above k [] rises = tt
each_above k (x ∷ xs) rises =
    let parts = and_parts (nat_lt k x.id) (is_rising (x.id ∷ ids_of xs)) rises in
    search (rules, ltb-true, each_weaker, parts, parts.0, parts.1, each_above x.id xs parts.1)

-- where the numbers rise, none comes twice
pub apart_rising : (k : ℕ) (nodes : List Node) → is_rising (k ∷ ids_of nodes) ≡ true → Apart nodes
apart_rising k [] rises = tt
apart_rising k (x ∷ xs) rises =
    let parts = and_parts (nat_lt k x.id) (is_rising (x.id ∷ ids_of xs)) rises in (
      any_none (λ (n : Node). n.id == x.id) xs
          (each_weaker (λ n. x.id < n.id) (λ n. (n.id == x.id) ≡ false)
          (grind (arith, nat_tests)) xs
          (each_above x.id xs parts.1)),
      apart_rising x.id xs parts.1,
    )

-- ---- sorted by name

any_put : (p : Node → Bool) (x : Node) (xs : List Node)
    → list_any p (put_by_name x xs) ≡ (p x || list_any p xs)
any_put p x [] = refl
any_put p x (y ∷ ys) = grind (arith, nat_tests, any_put p x ys)

pub any_sorted : (p : Node → Bool) (xs : List Node) → list_any p (sorted_by_name xs) ≡ list_any p xs
any_sorted p [] = refl
any_sorted p (x ∷ xs) = any_put p x (sorted_by_name xs) ∙ ap (λ r. p x || r) (any_sorted p xs)

length_put : (x : Node) (xs : List Node) → length (put_by_name x xs) ≡ suc (length xs)
length_put x [] = refl
length_put x (y ∷ ys) = grind (arith, nat_tests, length_put x ys)

length_sorted : (xs : List Node) → length (sorted_by_name xs) ≡ length xs
length_sorted [] = refl
length_sorted (x ∷ xs) = length_put x (sorted_by_name xs) ∙ ap suc (length_sorted xs)

apart_put : (x : Node) (xs : List Node) → has_id x.id xs ≡ false → Apart xs
    → Apart (put_by_name x xs)
apart_put x [] new apart = (refl, tt)
apart_put x (y ∷ ys) new apart = on (is_before y.name x.name) (apart_put x ys parts.1 apart.1)
  where
    parts : ((y.id == x.id) ≡ false) × (has_id x.id ys ≡ false)
    parts = or_parts (y.id == x.id) (has_id x.id ys) new

    on : (t : Bool) → Apart (put_by_name x ys) → Apart (cond t (y ∷ put_by_name x ys) (x ∷ y ∷ ys))
    on t rest = grind (arith, nat_tests, any_put)

apart_sorted : (xs : List Node) → Apart xs → Apart (sorted_by_name xs)
apart_sorted [] apart = tt
apart_sorted (x ∷ xs) apart =
    grind (arith, nat_tests, any_sorted, apart_put, apart_sorted xs apart.1)

-- where no number comes twice, none does among the objects that pass a test
pub apart_filter : (q : Node → Bool) (xs : List Node) → Apart xs → Apart (filter q xs)
apart_filter q [] apart = tt
apart_filter q (x ∷ xs) apart = grind (arith, nat_tests, none_filter, apart_filter q xs apart.1)

-- nor does one come twice after a change of each object that leaves its number
pub apart_map : (f : Node → Node) → ((n : Node) → (f n).id ≡ n.id) → (xs : List Node) → Apart xs
    → Apart (map f xs)
apart_map f same [] apart = tt
apart_map f same (x ∷ xs) apart = grind (arith, nat_tests, has_map, apart_map f same xs apart.1)
  where
    has_map : (g : Node → Node) → ((n : Node) → (g n).id ≡ n.id) → (i : ℕ) (ys : List Node)
        → has_id i (map g ys) ≡ has_id i ys
    has_map g same i [] = refl
    has_map g same i (y ∷ ys) = cc (same y, has_map g same i ys)

-- a change of each object that leaves its number leaves which numbers are in use
pub has_id_map : (f : Node → Node) → ((n : Node) → (f n).id ≡ n.id) → (id : ℕ) (xs : List Node)
    → has_id id (map f xs) ≡ has_id id xs
has_id_map f same id [] = refl
has_id_map f same id (x ∷ xs) = grind (arith, nat_tests, has_id_map f same id xs)

-- ---- children

-- the children of objects that are changed, but for their names and places
module _ (g : Node → Node) (same_name : (n : Node) → (g n).name ≡ n.name)
    (same_above : (id : ℕ) (n : Node) → has_parent id (g n) ≡ has_parent id n) where
  put_map : (x : Node) (xs : List Node) → put_by_name (g x) (map g xs) ≡ map g (put_by_name x xs)
  put_map x [] = refl
  put_map x (y ∷ ys) = grind (arith, nat_tests, put_map x ys)

  sorted_map : (xs : List Node) → sorted_by_name (map g xs) ≡ map g (sorted_by_name xs)
  sorted_map [] = refl
  sorted_map (x ∷ xs) = ap (put_by_name (g x)) (sorted_map xs) ∙ put_map x (sorted_by_name xs)

  filter_map : (id : ℕ) (xs : List Node)
      → filter (has_parent id) (map g xs) ≡ map g (filter (has_parent id) xs)
  filter_map id [] = refl
  filter_map id (x ∷ xs) = grind (arith, nat_tests, filter_map id xs)

  -- the children after the change are those before it, each changed, in the same order
  pub children_map : (rows : Content) (id : ℕ)
      → children_of (with_each rows g) id ≡ map g (children_of rows id)
  children_map rows id =
      ap sorted_by_name (filter_map id rows.nodes) ∙ sorted_map (filter (has_parent id) rows.nodes)

module _ (rows : Content) (apart : Apart rows.nodes) where
  -- what holds of each object that is there with this parent holds of each in its list of children
  pub each_child : (P : Node → Type 0) (id : ℕ)
      → ((n : Node) → node_at rows n.id ≡ Some n → has_parent id n ≡ true → P n)
      → Each P (children_of rows id)
  each_child P id all = search (each-sorted, each_filter, each_there)

  -- no two children of an object have the same number
  pub apart_children : (id : ℕ) → Apart (children_of rows id)
  apart_children id = grind (arith, nat_tests, apart_filter, apart_sorted)

  -- whether an object is among those children that pass a test
  pub is_such_child : (q : Node → Bool) (id : ℕ) (n : Node) → node_at rows n.id ≡ Some n
      → has_id n.id (filter q (children_of rows id)) ≡ (has_parent id n && q n)
  is_such_child q id n there =
      any_filter (λ (m : Node). m.id == n.id) q (children_of rows id)
      ∙ any_sorted (λ m. q m && (m.id == n.id)) (filter (has_parent id) rows.nodes)
      ∙ any_filter (λ m. q m && (m.id == n.id)) (has_parent id) rows.nodes
      ∙ any_agree (λ m. has_parent id m && (q m && (m.id == n.id)))
      (λ m. (has_parent id m && q m) && (m.id == n.id)) rows.nodes
      (search (assoc, each_there))
      ∙ any_here (λ m. has_parent id m && q m) n rows.nodes apart there
    where
      assoc : (a b c : Bool) → (a && (b && c)) ≡ ((a && b) && c)
      assoc a b c = grind (arith, nat_tests)

  -- an object has as many children as there are objects with it as their parent
  pub length_children : (id : ℕ) → length (children_of rows id) ≡ count (has_parent id) rows.nodes
  length_children id =
      length_sorted (filter (has_parent id) rows.nodes) ∙ count_length (has_parent id) rows.nodes

  -- how many children pass a test
  pub count_children : (q : Node → Bool) (id : ℕ)
      → count q (children_of rows id) ≡ count (λ n. has_parent id n && q n) rows.nodes
  count_children q id =
      count_sorted q (filter (has_parent id) rows.nodes) ∙ count_filter (has_parent id) q rows.nodes

  -- a test that no child passes
  pub no_child : (q : Node → Bool) (id : ℕ) → list_any q (children_of rows id) ≡ false → (n : Node)
      → node_at rows n.id ≡ Some n → has_parent id n ≡ true → q n ≡ false
  no_child q id none n there is =
      each_found (λ m. has_parent id m ≡ true → q m ≡ false) n.id rows.nodes n
      (each_unfiltered (λ m. q m ≡ false) (has_parent id) rows.nodes
      (grind (arith, nat_tests, any_sorted, each_fails))) there is

  -- one that some child passes, if it isn't impossible
  pub some_child : (q : Node → Bool) (id : ℕ) (X : Type 0)
      → ((n : Node) → node_at rows n.id ≡ Some n → has_parent id n ≡ true → q n ≡ true → X)
      → list_any q (children_of rows id) ≡ true → X
  some_child q id X makes some = search (each_child, pick)
    where
      pick : (xs : List Node)
          → Each (λ n. (node_at rows n.id ≡ Some n) × (has_parent id n ≡ true)) xs
          → list_any q xs ≡ true → X
      pick [] all some = absurd (false≢true some)
      pick (x ∷ xs) all some = elim (cases_Bool (q x)) [
        | inl is ↦ makes x all.0.0 all.0.1 is
        | inr isnt ↦ pick xs all.1 (sym (ap (λ t. t || list_any q xs) isnt) ∙ some)
      ]
