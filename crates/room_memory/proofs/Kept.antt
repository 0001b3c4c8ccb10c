-- Rows of a keeper in memory that stay rows.
use Rattle.std.proofs.Common.{rules, ◌≡◌, ℕ, ◌<◌, ◌==◌, Bool, true, false, not, List, [], ◌∷◌, map}
use Rattle.std.proofs.Common.{filter, Some, nat_lt, refl, sym, ap, subst, ◌∙◌, arith, inl, inr}
use Rattle.std.proofs.lemmas.Bool.{cases_Bool, cases_order, false≢true, not-true, and_parts}
use Rattle.std.proofs.lemmas.Bool.{and_from, or_cases, or_left, or_right, eqb-true, eqb-false}
use Rattle.std.proofs.lemmas.Bool.{ne_eqb, eq-eqb, ltb-true, lt-ltb, le-ltb, cond-true, cond-false}
use Rattle.std.proofs.lemmas.{Bool.Decides.nat_tests, Map.Keys.{sorted_head, sorted_tail}}
use Rattle.std.specs.{Prelude.is_some, BTreeMap.insert_entry, List.{list_all, AllByRecursion}}
use Rattle.std.specs.{List.Sorted.IsStrictlySortedBy, Map.{lookup, remove_entry, keys_of}}
use Rattle.std.specs.{Ordering.{nat_cmp, is_eq}, declared.cmp.Ordering.TheVariants.Less}
use Rattle.room_entry.specs.Pieces.{is_among}
use Rattle.room_rows.specs.{declared.node.{Node.Node, AuditRow.AuditRow}, Content.body_at}
use Rattle.room_rows.specs.{Content.{is_rising, put_body, put_node}, Finding.find_id, Rows.AreRows}
use Rattle.room_memory.{specs.Memory.memory_rows, proofs.Found.{put_rises, filter_rises, lower}}
use Rattle.room_memory.proofs.Numbered.{is_key, cmp_less, cmp_equal, cmp_greater, less_below}

-- ---- bytes at numbers

pub body_kept : (id : ℕ) (es : List (ℕ × List ℕ))
    → lookup (λ k. is_eq (nat_cmp id k)) es ≡ body_at es id
body_kept id [] = refl
body_kept id (e ∷ es) = grind (arith, nat_tests, is_key, body_kept id es)

pub body_put : (id : ℕ) (bytes : List ℕ) (es : List (ℕ × List ℕ))
    → insert_entry nat_cmp es id bytes ≡ put_body id bytes es
body_put id bytes [] = refl
body_put id bytes (e ∷ es) =
    grind (arith, nat_tests, cmp_equal, cmp_greater, cmp_less, body_put id bytes es)

none_later : (id : ℕ) (es : List (ℕ × List ℕ))
    → AllByRecursion (λ y. nat_cmp id y ≡ Less) (keys_of es)
    → filter (λ (row : ℕ × List ℕ). not (row.0 == id)) es ≡ es
none_later id [] later = refl
none_later id (e ∷ es) later = grind (arith, nat_tests, less_below, none_later id es later.1)

pub body_taken : (id : ℕ) (es : List (ℕ × List ℕ)) → IsStrictlySortedBy nat_cmp (keys_of es)
    → remove_entry (λ k. is_eq (nat_cmp id k)) es
    ≡ filter (λ (row : ℕ × List ℕ). not (row.0 == id)) es
body_taken id [] sorted = refl
body_taken id (e ∷ es) sorted = elim (cases_Bool (e.0 == id)) [
  | inl is ↦
      let later = subst (λ (k : ℕ). AllByRecursion (λ y. nat_cmp k y ≡ Less) (keys_of es))
      (eqb-true e.0 id is) (sorted_head nat_cmp e.0 (keys_of es) sorted) in
      cond-true _ es (e ∷ remove_entry (λ k. is_eq (nat_cmp id k)) es) (is_key id e.0 ∙ is)
      ∙ sym (cond-false _ _ _ (ap not is) ∙ none_later id es later)
  | inr isnt ↦
      cond-false _ es (e ∷ remove_entry (λ k. is_eq (nat_cmp id k)) es) (is_key id e.0 ∙ isnt)
      ∙ ap (λ (l : List (ℕ × List ℕ)). e ∷ l)
      (body_taken id es (sorted_tail nat_cmp e.0 (keys_of es) sorted))
      ∙ sym (cond-true _ _ _ (ap not isnt))
]

-- ---- numbers of bytes

abbrev keys : List (ℕ × List ℕ) → List ℕ
keys es = map (λ (row : ℕ × List ℕ). row.0) es

body_rises : (k id : ℕ) (bytes : List ℕ) (es : List (ℕ × List ℕ)) → k < id
    → is_rising (k ∷ map (λ (row : ℕ × List ℕ). row.0) es) ≡ true
    → is_rising (k ∷ map (λ (row : ℕ × List ℕ). row.0) (put_body id bytes es)) ≡ true
body_rises k id bytes [] up rises = and_from _ _ (lt-ltb k id up) refl
body_rises k id bytes (e ∷ es) up rises =
    let parts = and_parts (nat_lt k e.0) (is_rising (e.0 ∷ keys es)) rises in
    elim (cases_order e.0 id) [
      | inl same ↦
          ap (λ (l : List (ℕ × List ℕ)). is_rising (k ∷ keys l))
          (cond-false _ _ _ (le-ltb e.0 id (omega (arith, same)))
          ∙ cond-true _ _ _ (eq-eqb e.0 id same))
          ∙ subst (λ (i : ℕ). is_rising (k ∷ i ∷ keys es) ≡ true) same rises
      | inr apart ↦ elim apart [
        | inl below ↦
            ap (λ (l : List (ℕ × List ℕ)). is_rising (k ∷ keys l))
            (cond-true _ (e ∷ put_body id bytes es) _ (lt-ltb e.0 id below))
            ∙ and_from (nat_lt k e.0) (is_rising (e.0 ∷ keys (put_body id bytes es))) parts.0
            (body_rises e.0 id bytes es below parts.1)
        | inr past ↦
            search (rules, cond-false, le-ltb, past, ne_eqb, and_from, nat_lt, lt-ltb, up, parts.1)
      ]
    ]

bodies_left_rise : (t : ℕ × List ℕ → Bool) (k : ℕ) (es : List (ℕ × List ℕ))
    → is_rising (k ∷ map (λ (row : ℕ × List ℕ). row.0) es) ≡ true
    → is_rising (k ∷ map (λ (row : ℕ × List ℕ). row.0) (filter t es)) ≡ true
bodies_left_rise t k [] rises = refl
bodies_left_rise t k (e ∷ es) rises =
    let parts = and_parts (nat_lt k e.0) (is_rising (e.0 ∷ keys es)) rises in
    let up = ltb-true k e.0 parts.0 in
    elim (cases_Bool (t e)) [
      | inl is ↦
          ap (λ (l : List (ℕ × List ℕ)). is_rising (k ∷ keys l))
          (cond-true _ (e ∷ filter t es) _ is)
          ∙ and_from (nat_lt k e.0) (is_rising (e.0 ∷ keys (filter t es))) parts.0
          (bodies_left_rise t e.0 es parts.1)
      | inr isnt ↦
          ap (λ (l : List (ℕ × List ℕ)). is_rising (k ∷ keys l)) (cond-false _ _ (filter t es) isnt)
          ∙ lower k e.0 (keys (filter t es)) (omega (arith, up)) (bodies_left_rise t e.0 es parts.1)
    ]

-- ---- numbers that are in use

abbrev ids : List Node → List ℕ
ids nodes = map (λ (n : Node). n.id) nodes

among_put : (new : Node) (nodes : List Node) (id : ℕ)
    → is_among (map (λ (n : Node). n.id) nodes) id ≡ true
    → is_among (map (λ (n : Node). n.id) (put_node new nodes)) id ≡ true
among_put new [] id is = absurd (false≢true is)
among_put new (x ∷ xs) id is = elim (cases_order x.id new.id) [
  | inl same ↦ search (rules, cond-false, le-ltb, new.id, same, cond-true, new, eq-eqb, is)
  | inr apart ↦ elim apart [
    | inl below ↦
        ap (λ (l : List Node). is_among (ids l) id)
        (cond-true _ (x ∷ put_node new xs) _ (lt-ltb x.id new.id below))
        ∙ elim (or_cases (x.id == id) (is_among (ids xs) id) is) [
          | inl here ↦ or_left (x.id == id) _ here
          | inr later ↦ or_right (x.id == id) _ (among_put new xs id later)
        ]
    | inr past ↦ search (rules, cond-false, le-ltb, new.id, past, new, ne_eqb, or_right, is)
  ]
]

among_left : (gone : ℕ) (nodes : List Node) (id : ℕ) → (id == gone) ≡ false
    → is_among (map (λ (n : Node). n.id) nodes) id ≡ true
    → is_among (map (λ (n : Node). n.id) (filter (λ (n : Node). not (n.id == gone)) nodes)) id
    ≡ true
among_left gone [] id other is = absurd (false≢true is)
among_left gone (x ∷ xs) id other is = elim (cases_Bool (x.id == gone)) [
  | inl here ↦
      ap (λ (l : List Node). is_among (ids l) id)
      (cond-false _ _ (filter (λ (n : Node). not (n.id == gone)) xs) (ap not here))
      ∙ elim (or_cases (x.id == id) (is_among (ids xs) id) is) [
        | inl it ↦ search (rules, eqb-true, it, here, eqb-false, other)
        | inr later ↦ among_left gone xs id other later
      ]
  | inr isnt ↦
      ap (λ (l : List Node). is_among (ids l) id)
      (cond-true _ (x ∷ filter (λ (n : Node). not (n.id == gone)) xs) _ (ap not isnt))
      ∙ elim (or_cases (x.id == id) (is_among (ids xs) id) is) [
        | inl it ↦ or_left (x.id == id) _ it
        | inr later ↦ or_right (x.id == id) _ (among_left gone xs id other later)
      ]
]

among_found : (nodes : List Node) (id : ℕ) → is_some (find_id id nodes) ≡ true
    → is_among (map (λ (n : Node). n.id) nodes) id ≡ true
among_found [] id is = absurd (false≢true is)
among_found (x ∷ xs) id is = elim (cases_Bool (x.id == id)) [
  | inl here ↦ or_left (x.id == id) _ here
  | inr isnt ↦
      or_right (x.id == id) _
      (among_found xs id (sym (ap is_some (cond-false _ (Some x) (find_id id xs) isnt)) ∙ is))
]

all_more : (t u : ℕ × List ℕ → Bool) (es : List (ℕ × List ℕ))
    → ((e : ℕ × List ℕ) → t e ≡ true → u e ≡ true) → list_all t es ≡ true → list_all u es ≡ true
all_more t u [] more all = refl
all_more t u (e ∷ es) more all = let parts = and_parts (t e) (list_all t es) all in
    and_from _ _ (more e parts.0) (all_more t u es more parts.1)

all_put : (t : ℕ × List ℕ → Bool) (id : ℕ) (bytes : List ℕ) (es : List (ℕ × List ℕ))
    → t (id, bytes) ≡ true → list_all t es ≡ true → list_all t (put_body id bytes es) ≡ true
all_put t id bytes [] new all = and_from _ _ new refl
all_put t id bytes (e ∷ es) new all =
    let parts = and_parts (t e) (list_all t es) all in
    elim (cases_Bool (nat_lt e.0 id)) [
      | inl below ↦ ap (list_all t) (cond-true _ (e ∷ put_body id bytes es) _ below)
          ∙ and_from _ _ parts.0 (all_put t id bytes es new parts.1)
      | inr isnt ↦ search (rules, t, cond-false, isnt, cond-true, and_from, new, parts.1)
    ]

all_left : (t u : ℕ × List ℕ → Bool) (p : ℕ × List ℕ → Bool) (es : List (ℕ × List ℕ))
    → ((e : ℕ × List ℕ) → p e ≡ true → t e ≡ true → u e ≡ true) → list_all t es ≡ true
    → list_all u (filter p es) ≡ true
all_left t u p [] more all = refl
all_left t u p (e ∷ es) more all =
    let parts = and_parts (t e) (list_all t es) all in
    elim (cases_Bool (p e)) [
      | inl is ↦ ap (list_all u) (cond-true _ (e ∷ filter p es) _ is)
          ∙ and_from _ _ (more e is parts.0) (all_left t u p es more parts.1)
      | inr isnt ↦ ap (list_all u) (cond-false _ (e ∷ filter p es) _ isnt)
          ∙ all_left t u p es more parts.1
    ]

-- ---- rows

-- an object is put at its number
pub put_rows : (nodes : List Node) (bodies : List (ℕ × List ℕ)) (members : List (List ℕ × List ℕ))
    (audits : List AuditRow) (new : Node) → 0 < new.id
    → AreRows (memory_rows nodes bodies members audits)
    → AreRows (memory_rows (put_node new nodes) bodies members audits)
put_rows nodes bodies members audits new above old =
    grind (arith, nat_tests, all_more, among_put, put_rises)

-- bytes are put at a number in use
pub body_rows : (nodes : List Node) (bodies : List (ℕ × List ℕ)) (members : List (List ℕ × List ℕ))
    (audits : List AuditRow) (id : ℕ) (bytes : List ℕ) → 0 < id → is_some (find_id id nodes) ≡ true
    → AreRows (memory_rows nodes bodies members audits)
    → AreRows (memory_rows nodes (put_body id bytes bodies) members audits)
body_rows nodes bodies members audits id bytes above is old =
    grind (arith, nat_tests, all_put, among_found, body_rises)

-- an object is gone with its bytes
pub removed_rows : (nodes : List Node) (bodies : List (ℕ × List ℕ))
    (members : List (List ℕ × List ℕ)) (audits : List AuditRow) (id : ℕ)
    → AreRows (memory_rows nodes bodies members audits)
    → AreRows (memory_rows (filter (λ node. not (node.id == id)) nodes)
    (filter (λ row. not (row.0 == id)) bodies) members audits)
removed_rows nodes bodies members audits id old = record {
  numbers = filter_rises (λ node. not (node.id == id)) 0 nodes old.numbers;
  unreadable = old.unreadable;
  apart = old.apart;
  body_numbers = bodies_left_rise (λ row. not (row.0 == id)) 0 bodies old.body_numbers;
  bodies =
      all_left (λ row. is_among (ids nodes) row.0)
      (λ row. is_among (ids (filter (λ node. not (node.id == id)) nodes)) row.0)
      (λ row. not (row.0 == id)) bodies
      (λ e other is. among_left id nodes e.0 (not-true (e.0 == id) other) is) old.bodies;
  members = old.members;
}
