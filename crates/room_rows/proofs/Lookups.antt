-- Objects looked up in a list of them: what a change of the list leaves.
use Rattle.std.proofs.Common.{◌≡◌, ℕ, suc, ◌<◌, ◌==◌, ◌⊎◌, Bool, true, false, List, [], ◌∷◌, map}
use Rattle.std.proofs.Common.{filter, Some, None, nat_lt, refl, sym, ap, subst, ◌∙◌, arith, inl}
use Rattle.std.proofs.{Common.{inr, ◌+◌, ◌≤◌, length, rules}, lemmas.Bool.{cases_Bool, cases_order}}
use Rattle.std.proofs.lemmas.Bool.{and_parts, eqb-true, eq-eqb, ltb-true, lt-ltb, cond-true}
use Rattle.std.proofs.lemmas.{Bool.{cond-false, Decides.nat_tests}, Option.{same_Some, none-some}}
use Rattle.std.specs.List.{find, AllByRecursion}
use Rattle.room_rows.specs.{declared.node.Node.Node, Content.{is_before, put_by_name}}
use Rattle.room_rows.specs.Content.{sorted_by_name, put_node, is_rising, is_empty}
use Rattle.room_rows.specs.{Finding.find_id, Rows.{put_number, put_numbers}}
use Rattle.room_entry.proofs.Facts.Members.{one_if, count}

-- ---- the first that passes a test

-- where the first member passes, it is found
pub find_yes : {X : Type 0} (p : X → Bool) (x : X) (xs : List X) → p x ≡ true
    → find p (x ∷ xs) ≡ Some x
find_yes p x xs is = cond-true (p x) (Some x) (find p xs) is

-- where the first member fails, what is found is found among the others
pub find_no : {X : Type 0} (p : X → Bool) (x : X) (xs : List X) → p x ≡ false
    → find p (x ∷ xs) ≡ find p xs
find_no p x xs isnt = cond-false (p x) (Some x) (find p xs) isnt

-- what is found passes
pub found_passes : {X : Type 0} (p : X → Bool) (xs : List X) (x : X) → find p xs ≡ Some x
    → p x ≡ true
found_passes p [] x found = absurd (none-some x found)
found_passes p (y ∷ ys) x found = elim (cases_Bool (p y)) [
  | inl is ↦ subst (λ z. p z ≡ true) (same_Some y x (sym (find_yes p y ys is) ∙ found)) is
  | inr isnt ↦ found_passes p ys x (sym (find_no p y ys isnt) ∙ found)
]

-- where none is found, neither the first nor a later one passes
pub none_found : {X : Type 0} (p : X → Bool) (x : X) (xs : List X) → find p (x ∷ xs) ≡ None
    → (p x ≡ false) × (find p xs ≡ None)
none_found p x xs none = grind (arith, nat_tests, find_no, find_yes)

-- ---- the first that passes, of those that are kept

pub keep_yes : {X : Type 0} (q : X → Bool) (x : X) (xs : List X) → q x ≡ true
    → filter q (x ∷ xs) ≡ x ∷ filter q xs
keep_yes q x xs is = cond-true (q x) (x ∷ filter q xs) (filter q xs) is

pub keep_no : {X : Type 0} (q : X → Bool) (x : X) (xs : List X) → q x ≡ false
    → filter q (x ∷ xs) ≡ filter q xs
keep_no q x xs isnt = cond-false (q x) (x ∷ filter q xs) (filter q xs) isnt

-- what is found and kept is found among those that are kept
pub find-kept : {X : Type 0} (p q : X → Bool) (xs : List X) (x : X) → find p xs ≡ Some x
    → q x ≡ true → find p (filter q xs) ≡ Some x
find-kept p q [] x found kept = absurd (none-some x found)
find-kept p q (y ∷ ys) x found kept = elim (cases_Bool (p y)) [
  | inl is ↦ search (find_yes, keep_yes, same_Some)
  | inr isnt ↦
      let later = find-kept p q ys x (sym (find_no p y ys isnt) ∙ found) kept in
      grind (arith, nat_tests, find_no, keep_no, keep_yes)
]

-- nothing is found among fewer
pub find-kept_none : {X : Type 0} (p q : X → Bool) (xs : List X) → find p xs ≡ None
    → find p (filter q xs) ≡ None
find-kept_none p q [] none = none
find-kept_none p q (y ∷ ys) none =
    let parts = none_found p y ys none in
    let later = find-kept_none p q ys parts.1 in
    grind (arith, nat_tests, find_no, keep_no, keep_yes)

-- where all that pass are gone, none is found
pub find-kept_gone : {X : Type 0} (p q : X → Bool) (xs : List X)
    → ((x : X) → p x ≡ true → q x ≡ false) → find p (filter q xs) ≡ None
find-kept_gone p q [] gone = refl
find-kept_gone p q (y ∷ ys) gone =
    search (rules, nat_tests, find_no, keep_no, keep_yes, gone, find-kept_gone p q ys gone)

-- where all that pass are kept, the same is found
pub find-kept_all : {X : Type 0} (p q : X → Bool) (xs : List X)
    → ((x : X) → p x ≡ true → q x ≡ true) → find p (filter q xs) ≡ find p xs
find-kept_all p q [] kept = refl
find-kept_all p q (y ∷ ys) kept =
    search (rules, nat_tests, find_no, find_yes, keep_no, keep_yes, kept, find-kept_all p q ys kept)

-- ---- facts of each that stay

-- what holds of each member holds of those kept by a test, and these pass the test
pub each-kept : {X : Type 0} (P : X → Type 0) (q : X → Bool) (xs : List X) → AllByRecursion P xs
    → AllByRecursion (λ x. P x × (q x ≡ true)) (filter q xs)
each-kept P q [] each = tt
each-kept P q (y ∷ ys) each = grind (arith, nat_tests, keep_no, keep_yes, each-kept P q ys each.1)

-- where Q follows from P, P of each member gives Q of each
pub each-weaker : {X : Type 0} (P Q : X → Type 0) → ((x : X) → P x → Q x) → (xs : List X)
    → AllByRecursion P xs → AllByRecursion Q xs
each-weaker P Q weaker [] each = tt
each-weaker P Q weaker (y ∷ ys) each = (weaker y each.0, each-weaker P Q weaker ys each.1)

pub name_behind : (node other : Node) (others : List Node) → is_before other.name node.name ≡ true
    → put_by_name node (other ∷ others) ≡ other ∷ put_by_name node others
name_behind node other others is = cond-true _ _ _ is

pub name_here : (node other : Node) (others : List Node) → is_before other.name node.name ≡ false
    → put_by_name node (other ∷ others) ≡ node ∷ other ∷ others
name_here node other others isnt = cond-false _ _ _ isnt

each-put_by_name : (P : Node → Type 0) (node : Node) (nodes : List Node) → P node
    → AllByRecursion P nodes → AllByRecursion P (put_by_name node nodes)
each-put_by_name P node [] here each = (here, tt)
each-put_by_name P node (other ∷ others) here each =
    grind (arith, nat_tests, name_behind, name_here, each-put_by_name P node others here each.1)

-- what holds of each object of a list holds of each when they are sorted by name
pub each-sorted : (P : Node → Type 0) (nodes : List Node) → AllByRecursion P nodes
    → AllByRecursion P (sorted_by_name nodes)
each-sorted P [] each = tt
each-sorted P (node ∷ nodes) each = search (each-put_by_name, each-sorted P nodes each.1)

count_put : (p : Node → Bool) (node : Node) (nodes : List Node)
    → count p (put_by_name node nodes) ≡ one_if (p node) + count p nodes
count_put p node [] = refl
count_put p node (other ∷ others) = grind (arith, nat_tests, count, one_if, count_put p node others)

-- as many objects pass a test when they are sorted by name
pub count_sorted : (p : Node → Bool) (nodes : List Node)
    → count p (sorted_by_name nodes) ≡ count p nodes
count_sorted p [] = refl
count_sorted p (node ∷ nodes) = grind (arith, nat_tests, count_put, one_if, count_sorted p nodes)

-- where an object was put among others, there is one
pub put_is_some : (node : Node) (nodes : List Node) → is_empty (put_by_name node nodes) ≡ false
put_is_some node [] = refl
put_is_some node (other ∷ others) = grind (arith, nat_tests)

-- ---- what stands in a list

-- the object is a member of the list
abbrev pub Stands : Node → List Node → Type 0
Stands node [] = ⊥
Stands node (other ∷ others) = (other ≡ node) ⊎ Stands node others

-- an object that a test finds in a list is in it
pub stands-found : (p : Node → Bool) (nodes : List Node) (node : Node) → find p nodes ≡ Some node
    → Stands node nodes
stands-found p [] node found = absurd (none-some node found)
stands-found p (y ∷ ys) node found = elim (cases_Bool (p y)) [
  | inl is ↦ inl (same_Some y node (sym (find_yes p y ys is) ∙ found))
  | inr isnt ↦ inr (stands-found p ys node (sym (find_no p y ys isnt) ∙ found))
]

-- what holds of each object of a list holds of one that is in it
pub stands-each : (P : Node → Type 0) (nodes : List Node) (node : Node) → AllByRecursion P nodes
    → Stands node nodes → P node
stands-each P [] node each h = absurd h
stands-each P (y ∷ ys) node each (inl it) = subst P it each.0
stands-each P (y ∷ ys) node each (inr later) = stands-each P ys node each.1 later

-- ---- numbers

-- what is found by a number has it
pub found_number : (id : ℕ) (nodes : List Node) (node : Node) → find_id id nodes ≡ Some node
    → node.id ≡ id
found_number id nodes node found = search (eqb-true, found_passes)

length_put : (id : ℕ) (ids : List ℕ) → length (put_number id ids) ≡ suc (length ids)
length_put id [] = refl
length_put id (other ∷ others) = grind (arith, nat_tests, length_put id others)

-- numbers put among others leave no fewer
pub length_numbers : (more ids : List ℕ) → length ids ≤ length (put_numbers more ids)
length_numbers [] ids = omega arith
length_numbers (id ∷ more) ids = search (rules, length_put, length_numbers more ids)

-- what is found stands above what comes before the list
pub found_above : (k : ℕ) (nodes : List Node) (id : ℕ) (node : Node)
    → is_rising (k ∷ map (λ (n : Node). n.id) nodes) ≡ true → find_id id nodes ≡ Some node
    → k < node.id
found_above k [] id node rises found = absurd (none-some node found)
found_above k (x ∷ xs) id node rises found =
    let parts = and_parts (nat_lt k x.id) (is_rising (x.id ∷ map (λ (n : Node). n.id) xs)) rises in
    let up = ltb-true k x.id parts.0 in
    elim (cases_Bool (x.id == id)) [
      | inl is ↦ grind (arith, nat_tests, find_yes)
      | inr isnt ↦ let next =
          found_above x.id xs id node parts.1
          (sym (find_no (λ (n : Node). n.id == id) x xs isnt) ∙ found) in omega (arith, up, next)
    ]

found_behind : (x : Node) (xs : List Node) → is_rising (x.id ∷ map (λ (n : Node). n.id) xs) ≡ true
    → (y : Node) → find_id y.id xs ≡ Some y → find_id y.id (x ∷ xs) ≡ Some y
found_behind x xs rises y found = grind (arith, nat_tests, find_no, found_above)

-- each object of rows is found by its number
pub each_found : (k : ℕ) (nodes : List Node) → is_rising (k ∷ map (λ (n : Node). n.id) nodes) ≡ true
    → AllByRecursion (λ (n : Node). find_id n.id nodes ≡ Some n) nodes
each_found k [] rises = tt
each_found k (x ∷ xs) rises =
    let parts = and_parts (nat_lt k x.id) (is_rising (x.id ∷ map (λ (n : Node). n.id) xs)) rises in (
      find_yes (λ (n : Node). n.id == x.id) x xs (eq-eqb x.id x.id refl),
      each-weaker _ _ (found_behind x xs parts.1) xs (each_found x.id xs parts.1),
    )

-- ---- an object put at its place

pub put_behind : (node x : Node) (xs : List Node) → x.id < node.id
    → put_node node (x ∷ xs) ≡ x ∷ put_node node xs
put_behind node x xs below = cond-true _ _ _ (lt-ltb x.id node.id below)

pub put_same : (node x : Node) (xs : List Node) → x.id ≡ node.id → put_node node (x ∷ xs) ≡ node ∷ xs
put_same node x xs e = grind (arith, nat_tests)

put_before : (node x : Node) (xs : List Node) → node.id < x.id
    → put_node node (x ∷ xs) ≡ node ∷ x ∷ xs
put_before node x xs above = grind (arith, nat_tests)

-- it is found by its number
pub find-put_same : (node : Node) (nodes : List Node)
    → find_id node.id (put_node node nodes) ≡ Some node
find-put_same node [] = search (eq-eqb, find_yes)
find-put_same node (x ∷ xs) =
    let test = λ (n : Node). n.id == node.id in
    let itself = eq-eqb node.id node.id refl in
    elim (cases_order x.id node.id) [
      | inl e ↦ ap (find test) (put_same node x xs e) ∙ find_yes test node xs itself
      | inr apart ↦ elim apart [
        | inl below ↦ grind (arith, nat_tests, find_no, put_behind, find-put_same node xs)
        | inr above ↦ cc (put_before node x xs above, find_yes test node (x ∷ xs) itself)
      ]
    ]

-- by any other number the same is found as before
pub find-put_other : (node : Node) (nodes : List Node) (id : ℕ) → (id ≡ node.id → ⊥)
    → find_id id (put_node node nodes) ≡ find_id id nodes
find-put_other node [] id other = grind (arith, nat_tests, find_no)
find-put_other node (x ∷ xs) id other =
    grind (
      arith,
      nat_tests,
      find_no,
      find_yes,
      put_before,
      put_behind,
      put_same,
      find-put_other
          node xs id other,
    )
