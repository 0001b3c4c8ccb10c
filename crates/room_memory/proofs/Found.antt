-- Objects that are found, after changes too.
use Rattle.std.proofs.Common.{rules, ◌≡◌, ℕ, ◌<◌, ◌≤◌, ◌==◌, ◌&&◌, Bool, true, false, not, List, []}
use Rattle.std.proofs.Common.{◌∷◌, map, filter, Some, None, nat_lt, refl, sym, ap, ◌∙◌}
use Rattle.std.proofs.{Common.{arith, inl, inr, if◌then◌else◌}, lemmas.Bool.cases_Bool}
use Rattle.std.proofs.lemmas.Bool.{cases_order, false≢true, and_parts, and_from, and_left}
use Rattle.std.proofs.lemmas.Bool.{and_right, eqb-true, ne_eqb, eq-eqb, ltb-true, lt-ltb, le-ltb}
use Rattle.std.proofs.lemmas.{Bool.{cond-true, cond-false, Decides.nat_tests}, Option.same_Some}
use Rattle.std.specs.{Prelude.is_none, List.find}
use Rattle.room_rows.specs.{declared.node.Node.Node, Content.{put_node, is_rising}, Finding.find_id}

abbrev ids_of : List Node → List ℕ
ids_of nodes = map (λ (n : Node). n.id) nodes

found_first : (t : Node → Bool) (x : Node) (xs : List Node) → t x ≡ true → find t (x ∷ xs) ≡ Some x
found_first t x xs is = rw is refl

found_later : (t : Node → Bool) (x : Node) (xs : List Node) → t x ≡ false
    → find t (x ∷ xs) ≡ find t xs
found_later t x xs isnt = rw isnt refl

-- ---- numbers that rise

-- an object that any test finds stands above what comes before the list
pub found_above : (t : Node → Bool) (k : ℕ) (xs : List Node) (n : Node)
    → is_rising (k ∷ map (λ (m : Node). m.id) xs) ≡ true → find t xs ≡ Some n → k < n.id
found_above t k [] n rises found = absurd (false≢true (sym (ap is_none found)))
found_above t k (x ∷ xs) n rises found =
    let parts = and_parts (nat_lt k x.id) (is_rising (x.id ∷ ids_of xs)) rises in
    let up = ltb-true k x.id parts.0 in
    elim (cases_Bool (t x)) [
      | inl is ↦ search (rules, same_Some, n, found_first, t, is, found, up)
      | inr isnt ↦ let next =
          found_above t x.id xs n parts.1 (sym (found_later t x xs isnt) ∙ found) in
          omega (arith, up, next)
    ]

-- what is found by its number and passes a test, is found by the test too
pub some_passes : (t : Node → Bool) (id : ℕ) (xs : List Node) (n : Node) → find_id id xs ≡ Some n
    → t n ≡ true → find t xs ≡ None → ⊥
some_passes t id [] n found is none = absurd (false≢true (sym (ap is_none found)))
some_passes t id (x ∷ xs) n found is none = elim (cases_Bool (t x)) [
  | inl passes ↦ absurd (false≢true (ap is_none (sym (found_first t x xs passes) ∙ none)))
  | inr fails ↦ elim (cases_Bool (x.id == id)) [
    | inl same ↦ search (rules, false≢true, fails, t, same_Some, n, found_first, same, found, is)
    | inr apart ↦
        some_passes t id xs n (sym (found_later (λ (m : Node). m.id == id) x xs apart) ∙ found) is
        (sym (found_later t x xs fails) ∙ none)
  ]
]

-- ---- an object of a number that passes a test

abbrev both : (Node → Bool) → ℕ → Node → Bool
both t id n = (n.id == id) && t n

pub passing : (t : Node → Bool) (id : ℕ) (xs : List Node) (n : Node) → find_id id xs ≡ Some n
    → t n ≡ true → find (λ (m : Node). (m.id == id) && t m) xs ≡ Some n
passing t id [] n found is = absurd (false≢true (sym (ap is_none found)))
passing t id (x ∷ xs) n found is = elim (cases_Bool (x.id == id)) [
  | inl same ↦ search (rules, same, found, is)
  | inr apart ↦ found_later (both t id) x xs (and_left (x.id == id) (t x) apart)
      ∙ passing t id xs n (sym (found_later (λ (m : Node). m.id == id) x xs apart) ∙ found) is
]

pub none_above : (t : Node → Bool) (id k : ℕ) (xs : List Node)
    → is_rising (k ∷ map (λ (m : Node). m.id) xs) ≡ true → id ≤ k
    → find (λ (m : Node). (m.id == id) && t m) xs ≡ None
none_above t id k [] rises below = refl
none_above t id k (x ∷ xs) rises below =
    let parts = and_parts (nat_lt k x.id) (is_rising (x.id ∷ ids_of xs)) rises in
    let up = ltb-true k x.id parts.0 in
    found_later (both t id) x xs
    (and_left (x.id == id) (t x) (ne_eqb x.id id (λ e. absurd (omega (arith, up, below, e)))))
    ∙ none_above t id x.id xs parts.1 (omega (arith, up, below))

pub failing : (t : Node → Bool) (id k : ℕ) (xs : List Node) (n : Node)
    → is_rising (k ∷ map (λ (m : Node). m.id) xs) ≡ true → find_id id xs ≡ Some n → t n ≡ false
    → find (λ (m : Node). (m.id == id) && t m) xs ≡ None
failing t id k [] n rises found isnt = refl
failing t id k (x ∷ xs) n rises found isnt =
    let parts = and_parts (nat_lt k x.id) (is_rising (x.id ∷ ids_of xs)) rises in
    elim (cases_Bool (x.id == id)) [
      | inl same ↦
          let it = same_Some x n
          (sym (found_first (λ (m : Node). m.id == id) x xs same) ∙ found) in
          search (rules, eqb-true, same, found_later, t, and_right, it, isnt, none_above, parts.1)
      | inr apart ↦ found_later (both t id) x xs (and_left (x.id == id) (t x) apart)
          ∙ failing t id x.id xs n parts.1
          (sym (found_later (λ (m : Node). m.id == id) x xs apart) ∙ found) isnt
    ]

pub missing : (t : Node → Bool) (id : ℕ) (xs : List Node) → find_id id xs ≡ None
    → find (λ (m : Node). (m.id == id) && t m) xs ≡ None
missing t id [] none = refl
missing t id (x ∷ xs) none = elim (cases_Bool (x.id == id)) [
  | inl same ↦ search (rules, same, none)
  | inr apart ↦ found_later (both t id) x xs (and_left (x.id == id) (t x) apart)
      ∙ missing t id xs (sym (found_later (λ (m : Node). m.id == id) x xs apart) ∙ none)
]

-- ---- after a change

pub found_put : (new : Node) (id : ℕ) (xs : List Node)
    → find_id id (put_node new xs) ≡ (if new.id == id then Some new else find_id id xs)
found_put new id [] = refl
found_put new id (x ∷ xs) = grind (arith, nat_tests, found_first, found_later, found_put new id xs)

pub found_without : (gone id : ℕ) (xs : List Node)
    → find_id id (filter (λ (n : Node). not (n.id == gone)) xs)
    ≡ (if gone == id then None else find_id id xs)
found_without gone id [] = grind (arith, nat_tests)
found_without gone id (x ∷ xs) =
    grind (arith, nat_tests, found_first, found_later, found_without gone id xs)

pub put_rises : (k : ℕ) (new : Node) (xs : List Node) → k < new.id
    → is_rising (k ∷ map (λ (n : Node). n.id) xs) ≡ true
    → is_rising (k ∷ map (λ (n : Node). n.id) (put_node new xs)) ≡ true
put_rises k new [] up rises = and_from _ _ (lt-ltb k new.id up) refl
put_rises k new (x ∷ xs) up rises =
    let parts = and_parts (nat_lt k x.id) (is_rising (x.id ∷ ids_of xs)) rises in
    elim (cases_order x.id new.id) [
      | inl same ↦ search (rules, cond-false, le-ltb, new.id, same, cond-true, eq-eqb, rises)
      | inr apart ↦ elim apart [
        | inl below ↦
            ap (λ (l : List Node). is_rising (k ∷ ids_of l))
            (cond-true _ (x ∷ put_node new xs) _ (lt-ltb x.id new.id below))
            ∙ and_from (nat_lt k x.id) (is_rising (x.id ∷ ids_of (put_node new xs))) parts.0
            (put_rises x.id new xs below parts.1)
        | inr past ↦
            ap (λ (l : List Node). is_rising (k ∷ ids_of l))
            (cond-false _ _ _ (le-ltb x.id new.id (omega (arith, past)))
            ∙ cond-false _ _ (new ∷ x ∷ xs)
            (ne_eqb x.id new.id (λ h. absurd (omega (arith, h, past)))))
            ∙ and_from (nat_lt k new.id) (is_rising (new.id ∷ x.id ∷ ids_of xs))
            (lt-ltb k new.id up) (search (rules, and_from, lt-ltb, past, parts.1))
      ]
    ]

pub lower : (k l : ℕ) (ids : List ℕ) → k ≤ l → is_rising (l ∷ ids) ≡ true → is_rising (k ∷ ids) ≡ true
lower k l [] down rises = refl
lower k l (i ∷ ids) down rises = grind (arith, nat_tests)

pub filter_rises : (t : Node → Bool) (k : ℕ) (xs : List Node)
    → is_rising (k ∷ map (λ (n : Node). n.id) xs) ≡ true
    → is_rising (k ∷ map (λ (n : Node). n.id) (filter t xs)) ≡ true
filter_rises t k [] rises = refl
filter_rises t k (x ∷ xs) rises =
    let parts = and_parts (nat_lt k x.id) (is_rising (x.id ∷ ids_of xs)) rises in
    let up = ltb-true k x.id parts.0 in
    elim (cases_Bool (t x)) [
      | inl is ↦
          ap (λ (l : List Node). is_rising (k ∷ ids_of l)) (cond-true _ (x ∷ filter t xs) _ is)
          ∙ and_from (nat_lt k x.id) (is_rising (x.id ∷ ids_of (filter t xs))) parts.0
          (filter_rises t x.id xs parts.1)
      | inr isnt ↦
          ap (λ (l : List Node). is_rising (k ∷ ids_of l)) (cond-false _ _ (filter t xs) isnt)
          ∙ lower k x.id (ids_of (filter t xs)) (omega (arith, up)) (filter_rises t x.id xs parts.1)
    ]
