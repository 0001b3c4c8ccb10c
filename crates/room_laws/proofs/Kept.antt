-- Objects that are put, removed or changed, and what a test finds of the others.
use Rattle.std.proofs.Common.{ℕ, ◌≡◌, ◌<◌, ◌≤◌, ◌==◌, Bool, true, false, cond, not, ◌&&◌, List, []}
use Rattle.std.proofs.Common.{◌∷◌, map, filter, Some, None, nat_lt, refl, sym, ◌∙◌, arith}
use Rattle.std.proofs.lemmas.Bool.{and_parts, and_from, ltb-true, lt-ltb, or_parts}
use Rattle.std.{proofs.lemmas.Bool.Decides.nat_tests, specs.List.{find, AllByRecursion, list_any}}
use Rattle.room_entry.{specs.Pieces.same_text, proofs.{Alike.text_itself, Texts.same_text-true}}
use Rattle.room_rows.specs.Content.{body_at, put_node, is_rising, has_parent, same_parent}
use Rattle.room_rows.specs.{Content.are_names_apart, Finding.find_id, declared.node.Node.Node}
use Rattle.room_rows.proofs.Lookups as lookups

-- the numbers rise, from above this one
abbrev pub RisesFrom : ℕ → List Node → Type 0
RisesFrom k nodes = is_rising (k ∷ map (λ (n : Node). n.id) nodes) ≡ true

-- each object that has this number fails the test
abbrev pub Fails : (Node → Bool) → ℕ → List Node → Type 0
Fails p id nodes = AllByRecursion (λ (n : Node). (n.id == id) ≡ true → p n ≡ false) nodes

each_fails_at : (p : Node → Bool) (id : ℕ) (all nodes : List Node)
    → ((n : Node) → find_id id all ≡ Some n → p n ≡ false)
    → AllByRecursion (λ (n : Node). find_id n.id all ≡ Some n) nodes → Fails p id nodes
each_fails_at p id all [] known each = tt
each_fails_at p id all (x ∷ xs) known each =
    grind (arith, nat_tests, each_fails_at p id all xs known each.1)

-- the object that is found by a number is the only one that has it
pub fails_at : (p : Node → Bool) (id : ℕ) (nodes : List Node) → RisesFrom 0 nodes
    → ((n : Node) → find_id id nodes ≡ Some n → p n ≡ false) → Fails p id nodes
fails_at p id nodes rises known =
    each_fails_at p id nodes nodes known (lookups.each_found 0 nodes rises)

-- ---- an object put

pub find-put : (p : Node → Bool) (new : Node) (nodes : List Node) → p new ≡ false
    → Fails p new.id nodes → find p (put_node new nodes) ≡ find p nodes
find-put p new [] fails each = lookups.find_no p new [] fails
find-put p new (x ∷ xs) fails each = grind (arith, nat_tests, find-put p new xs fails each.1)

pub filter-put : (p : Node → Bool) (new : Node) (nodes : List Node) → p new ≡ false
    → Fails p new.id nodes → filter p (put_node new nodes) ≡ filter p nodes
filter-put p new [] fails each = lookups.keep_no p new [] fails
filter-put p new (x ∷ xs) fails each = grind (arith, nat_tests, filter-put p new xs fails each.1)

-- ---- an object removed

pub find-removed : (p : Node → Bool) (id : ℕ) (nodes : List Node) → Fails p id nodes
    → find p (filter (λ (n : Node). not (n.id == id)) nodes) ≡ find p nodes
find-removed p id [] each = refl
find-removed p id (x ∷ xs) each = grind (arith, nat_tests, find-removed p id xs each.1)

pub filter-removed : (p : Node → Bool) (id : ℕ) (nodes : List Node) → Fails p id nodes
    → filter p (filter (λ (n : Node). not (n.id == id)) nodes) ≡ filter p nodes
filter-removed p id [] each = refl
filter-removed p id (x ∷ xs) each = grind (arith, nat_tests, filter-removed p id xs each.1)

pub body-removed : (id other : ℕ) → (other ≡ id → ⊥) → (bodies : List (ℕ × List ℕ))
    → body_at (filter (λ (row : ℕ × List ℕ). not (row.0 == id)) bodies) other
    ≡ body_at bodies other
body-removed id other isnt [] = refl
body-removed id other isnt (row ∷ rows) = grind (arith, nat_tests, body-removed id other isnt rows)

-- ---- numbers still rise

pub rises_lower : (k j : ℕ) (nodes : List Node) → k ≤ j → RisesFrom j nodes → RisesFrom k nodes
rises_lower k j nodes below rises = grind (arith, nat_tests)

pub rises-removed : (k : ℕ) (keep : Node → Bool) (nodes : List Node) → RisesFrom k nodes
    → RisesFrom k (filter keep nodes)
rises-removed k keep [] rises = refl
rises-removed k keep (x ∷ xs) rises =
    let parts = and_parts (nat_lt k x.id) (is_rising (x.id ∷ map (λ (n : Node). n.id) xs)) rises in
    let up = ltb-true k x.id parts.0 in
    on (keep x) parts.0 (omega (arith, up)) (rises-removed x.id keep xs parts.1)
  where
    on : (t : Bool) → nat_lt k x.id ≡ true → k ≤ x.id → RisesFrom x.id (filter keep xs)
        → RisesFrom k (cond t (x ∷ filter keep xs) (filter keep xs))
    on t up below rest = grind (arith, nat_tests, rises_lower)

pub rises-put : (k : ℕ) (new : Node) (nodes : List Node) → k < new.id → RisesFrom k nodes
    → RisesFrom k (put_node new nodes)
rises-put k new [] above rises = and_from _ _ (lt-ltb k new.id above) refl
rises-put k new (x ∷ xs) above rises =
    let parts = and_parts (nat_lt k x.id) (is_rising (x.id ∷ map (λ (n : Node). n.id) xs)) rises in
    on (nat_lt x.id new.id) (x.id == new.id) refl refl parts.0 parts.1
    (λ up. rises-put x.id new xs up parts.1)
  where
    on : (t u : Bool) → nat_lt x.id new.id ≡ t → (x.id == new.id) ≡ u → nat_lt k x.id ≡ true
        → RisesFrom x.id xs → (x.id < new.id → RisesFrom x.id (put_node new xs))
        → RisesFrom k (cond t (x ∷ put_node new xs) (cond u (new ∷ xs) (new ∷ x ∷ xs)))
    on t u less same up rest more = grind (arith, nat_tests, rises_lower)

-- ---- a test that one object passes alone

-- an object that is put passes a test that none passed
pub find-put_new : (p : Node → Bool) (new : Node) (nodes : List Node) → p new ≡ true
    → find p nodes ≡ None → find p (put_node new nodes) ≡ Some new
find-put_new p new [] passes none = lookups.find_yes p new [] passes
find-put_new p new (x ∷ xs) passes none =
    let parts = lookups.none_found p x xs none in
    on (nat_lt x.id new.id) (x.id == new.id) parts.0 (find-put_new p new xs passes parts.1)
  where
    on : (t u : Bool) → p x ≡ false → find p (put_node new xs) ≡ Some new
        → find p (cond t (x ∷ put_node new xs) (cond u (new ∷ xs) (new ∷ x ∷ xs))) ≡ Some new
    on t u fails rest = grind (arith, nat_tests, lookups.find_no, lookups.find_yes)

-- it is below that parent by that name
abbrev pub is_named : ℕ → List ℕ → Node → Bool
is_named id name node = has_parent id node && same_text node.name name

same_named : (id : ℕ) (name : List ℕ) (x y : Node) → is_named id name x ≡ true
    → is_named id name y ≡ true → (same_parent x.parent y.parent && same_text x.name y.name) ≡ true
same_named id name x y first second = grind (arith, nat_tests, same_text-true, text_itself)

none_named : (id : ℕ) (name : List ℕ) (x : Node) → is_named id name x ≡ true → (nodes : List Node)
    → list_any (λ (n : Node). same_parent x.parent n.parent && same_text x.name n.name) nodes
    ≡ false → find (is_named id name) nodes ≡ None
none_named id name x is [] none = refl
none_named id name x is (y ∷ ys) none =
    let parts = or_parts _ _ none in
    lookups.find_no (is_named id name) y ys (on (is_named id name y) refl parts.0)
    ∙ none_named id name x is ys parts.1
  where
    on : (t : Bool) → is_named id name y ≡ t
        → (same_parent x.parent y.parent && same_text x.name y.name) ≡ false → t ≡ false
    on t passes isnt = grind (arith, nat_tests, same_named)

-- where names are apart, and the one of that name is dropped, there is none of it
pub find-dropped : (id : ℕ) (name : List ℕ) (keep : Node → Bool) (target : Node)
    → keep target ≡ false → (nodes : List Node) → are_names_apart nodes ≡ true
    → find (is_named id name) nodes ≡ Some target
    → find (is_named id name) (filter keep nodes) ≡ None
find-dropped id name keep target drops [] apart found = refl
find-dropped id name keep target drops (x ∷ xs) apart found =
    let parts = and_parts _ (are_names_apart xs) apart in
    on (is_named id name x) refl parts.0 (find-dropped id name keep target drops xs parts.1)
  where
    on : (t : Bool) → is_named id name x ≡ t
        → not (list_any
        (λ (n : Node). same_parent x.parent n.parent && same_text x.name n.name) xs) ≡ true
        → (find (is_named id name) xs ≡ Some target
        → find (is_named id name) (filter keep xs) ≡ None)
        → find (is_named id name) (filter keep (x ∷ xs)) ≡ None
    on t is none rest =
        grind (
          arith,
          nat_tests,
          lookups.find-kept_none,
          lookups.find_no,
          lookups.find_yes,
          lookups.keep_no,
          none_named,
        )

-- ---- an object that is put in place of another

stands_above : (k : ℕ) (node : Node) (nodes : List Node) → RisesFrom k nodes
    → lookups.Stands node nodes → k < node.id
stands_above k node [] rises stands = absurd stands
stands_above k node (x ∷ xs) rises stands =
    let parts = and_parts (nat_lt k x.id) (is_rising (x.id ∷ map (λ (n : Node). n.id) xs)) rises in
    let up = ltb-true k x.id parts.0 in
    on stands up (λ later. stands_above x.id node xs parts.1 later)
  where
    on : lookups.Stands node (x ∷ xs) → k < x.id → (lookups.Stands node xs → x.id < node.id)
        → k < node.id
    on given up more = grind (arith, nat_tests)

-- where names are apart, and the one of that name gives way to an object that fails the test, there
-- is none of it
pub find-replaced : (k id : ℕ) (name : List ℕ) (new target : Node) → new.id ≡ target.id
    → is_named id name new ≡ false → (nodes : List Node) → RisesFrom k nodes
    → are_names_apart nodes ≡ true → find (is_named id name) nodes ≡ Some target
    → find (is_named id name) (put_node new nodes) ≡ None
find-replaced k id name new target number fails [] rises apart found = search (lookups.find_no)
find-replaced k id name new target number fails (x ∷ xs) rises apart found =
    let parts = and_parts _ (are_names_apart xs) apart in
    let up = and_parts (nat_lt k x.id) (is_rising (x.id ∷ map (λ (n : Node). n.id) xs)) rises in
    on (is_named id name x) refl parts.0 up.1
    (λ later. find-replaced x.id id name new target number fails xs up.1 parts.1 later)
  where
    on : (t : Bool) → is_named id name x ≡ t
        → not (list_any
        (λ (n : Node). same_parent x.parent n.parent && same_text x.name n.name) xs) ≡ true
        → RisesFrom x.id xs
        → (find (is_named id name) xs ≡ Some target
        → find (is_named id name) (put_node new xs) ≡ None)
        → find (is_named id name) (put_node new (x ∷ xs)) ≡ None
    on true is none rises rest =
        grind (arith, nat_tests, lookups.find_no, lookups.find_yes, lookups.put_same, none_named)
    on false isnt none rises rest =
        let later = sym (lookups.find_no (is_named id name) x xs isnt) ∙ found in
        let above = stands_above x.id target xs rises
        (lookups.stands-found (is_named id name) xs target later) in
        grind (arith, nat_tests, lookups.find_no, lookups.put_behind)
