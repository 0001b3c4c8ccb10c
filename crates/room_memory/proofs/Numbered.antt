-- Objects at their numbers.
use Rattle.std.proofs.Common.{rules, ◌≡◌, ℕ, ◌<◌, ◌==◌, Bool, true, not, List, [], ◌∷◌, filter}
use Rattle.std.proofs.Common.{Some, refl, sym, ap, subst, ◌∙◌, arith, inl, inr, if◌then◌else◌}
use Rattle.std.proofs.lemmas.Bool.{cases_Bool, cases_order, and_parts, and_from, eqb-true, ne_eqb}
use Rattle.std.proofs.lemmas.Bool.{eq-eqb, lt-ltb, le-ltb, cond-true, cond-false, Decides.nat_tests}
use Rattle.std.proofs.lemmas.Map.Keys.{sorted_head, sorted_tail}
use Rattle.std.specs.{BTreeMap.insert_entry, List.{list_all, AllByRecursion}}
use Rattle.std.specs.{List.Sorted.IsStrictlySortedBy, Map.{lookup, remove_entry, keys_of}}
use Rattle.std.specs.{Map.values_of, Ordering.{nat_cmp, is_eq, match_ordering}}
use Rattle.std.specs.declared.cmp.Ordering.TheVariants.{Less, Equal, Greater}
use Rattle.room_rows.specs.{declared.node.Node.Node, Content.put_node, Finding.find_id}

-- ---- orders of numbers

pub cmp_less : (a b : ℕ) → a < b → nat_cmp a b ≡ Less
cmp_less a b below = cond-true _ _ _ (lt-ltb a b below)

pub cmp_equal : (a b : ℕ) → a ≡ b → nat_cmp a b ≡ Equal
cmp_equal a b same =
    cond-false _ _ _ (le-ltb a b (omega (arith, same))) ∙ cond-true _ _ _ (eq-eqb a b same)

pub cmp_greater : (a b : ℕ) → b < a → nat_cmp a b ≡ Greater
cmp_greater a b above = grind (arith, nat_tests)

pub is_key : (a b : ℕ) → is_eq (nat_cmp a b) ≡ (b == a)
is_key a b = grind (arith, nat_tests, cmp_equal, cmp_greater, cmp_less)

pub less_below : (a b : ℕ) → nat_cmp a b ≡ Less → a < b
less_below a b less = grind (arith, nat_tests, cmp_equal, cmp_greater)

-- ---- entries whose keys are the numbers of their objects

abbrev pub is_keyed : ℕ × Node → Bool
is_keyed entry = entry.0 == entry.1.id

pub lookup_at : (id : ℕ) (es : List (ℕ × Node)) → list_all is_keyed es ≡ true
    → lookup (λ k. is_eq (nat_cmp id k)) es ≡ find_id id (values_of es)
lookup_at id [] keyed = refl
lookup_at id (e ∷ es) keyed =
    let parts = and_parts (is_keyed e) (list_all is_keyed es) keyed in
    let test : is_eq (nat_cmp id e.0) ≡ (e.1.id == id) = is_key id e.0
    ∙ ap (λ (k : ℕ). k == id) (eqb-true e.0 e.1.id parts.0) in
    ap (λ b. if b then Some e.1 else lookup (λ k. is_eq (nat_cmp id k)) es) test
    ∙ ap (λ o. if e.1.id == id then Some e.1 else o) (lookup_at id es parts.1)

pub inserted : (node : Node) (es : List (ℕ × Node)) → list_all is_keyed es ≡ true
    → values_of (insert_entry nat_cmp es node.id node) ≡ put_node node (values_of es)
inserted node [] keyed = refl
inserted node (e ∷ es) keyed =
    let parts = and_parts (is_keyed e) (list_all is_keyed es) keyed in
    let key : e.0 ≡ e.1.id = eqb-true e.0 e.1.id parts.0 in
    elim (cases_order node.id e.0) [
      | inl same ↦ search (rules, cmp_equal, same, cond-false, le-ltb, key, cond-true, eq-eqb)
      | inr apart ↦ elim apart [
        | inl below ↦
            search (rules, node.id, node, cmp_less, below, cond-false, le-ltb, key, ne_eqb)
        | inr above ↦
            ap (λ o. values_of (match_ordering o ((node.id, node) ∷ e ∷ es) ((e.0, node) ∷ es)
            (e ∷ insert_entry nat_cmp es node.id node))) (cmp_greater node.id e.0 above)
            ∙ ap (λ (l : List Node). e.1 ∷ l) (inserted node es parts.1)
            ∙ sym (cond-true _ _ _ (lt-ltb e.1.id node.id (omega (arith, key, above))))
      ]
    ]

pub inserted_keyed : (node : Node) (es : List (ℕ × Node)) → list_all is_keyed es ≡ true
    → list_all is_keyed (insert_entry nat_cmp es node.id node) ≡ true
inserted_keyed node [] keyed = and_from _ _ (eq-eqb node.id node.id refl) refl
inserted_keyed node (e ∷ es) keyed =
    let parts = and_parts (is_keyed e) (list_all is_keyed es) keyed in
    let key : e.0 ≡ e.1.id = eqb-true e.0 e.1.id parts.0 in
    elim (cases_order node.id e.0) [
      | inl same ↦ search (rules, node.id, node, cmp_equal, same, and_from, eq-eqb, parts.1)
      | inr apart ↦ elim apart [
        | inl below ↦ search (rules, node.id, node, cmp_less, below, and_from, eq-eqb, keyed)
        | inr above ↦
            ap (λ o. list_all is_keyed
            (match_ordering o ((node.id, node) ∷ e ∷ es) ((e.0, node) ∷ es)
            (e ∷ insert_entry nat_cmp es node.id node))) (cmp_greater node.id e.0 above)
            ∙ and_from _ _ parts.0 (inserted_keyed node es parts.1)
      ]
    ]

-- no later entry has the number
none_later : (id : ℕ) (es : List (ℕ × Node)) → list_all is_keyed es ≡ true
    → AllByRecursion (λ y. nat_cmp id y ≡ Less) (keys_of es)
    → filter (λ node. not (node.id == id)) (values_of es) ≡ values_of es
none_later id [] keyed later = refl
none_later id (e ∷ es) keyed later =
    let parts = and_parts (is_keyed e) (list_all is_keyed es) keyed in
    let up = less_below id e.0 later.0 in
    let key : e.0 ≡ e.1.id = eqb-true e.0 e.1.id parts.0 in
    let test : not (e.1.id == id) ≡ true = search (rules, ne_eqb, up, key) in
    cond-true _ _ _ test ∙ ap (λ (l : List Node). e.1 ∷ l) (none_later id es parts.1 later.1)

pub removed : (id : ℕ) (es : List (ℕ × Node)) → list_all is_keyed es ≡ true
    → IsStrictlySortedBy nat_cmp (keys_of es)
    → values_of (remove_entry (λ k. is_eq (nat_cmp id k)) es)
    ≡ filter (λ node. not (node.id == id)) (values_of es)
removed id [] keyed sorted = refl
removed id (e ∷ es) keyed sorted =
    let parts = and_parts (is_keyed e) (list_all is_keyed es) keyed in
    let key : e.0 ≡ e.1.id = eqb-true e.0 e.1.id parts.0 in
    let test : is_eq (nat_cmp id e.0) ≡ (e.1.id == id) = search (rules, is_key, key) in
    elim (cases_Bool (e.1.id == id)) [
      | inl is ↦
          let it : e.0 ≡ id = key ∙ eqb-true e.1.id id is in
          let later = subst (λ (k : ℕ). AllByRecursion (λ y. nat_cmp k y ≡ Less) (keys_of es)) it
          (sorted_head nat_cmp e.0 (keys_of es) sorted) in
          search (rules, cond-true, test, is, cond-false, none_later, parts.1, later)
      | inr isnt ↦
          ap values_of (cond-false _ es (e ∷ remove_entry (λ k. is_eq (nat_cmp id k)) es)
          (test ∙ isnt)) ∙ ap (λ (l : List Node). e.1 ∷ l)
          (removed id es parts.1 (sorted_tail nat_cmp e.0 (keys_of es) sorted))
          ∙ sym (cond-true _ _ _ (ap not isnt))
    ]

pub removed_keyed : (test : ℕ → Bool) (es : List (ℕ × Node)) → list_all is_keyed es ≡ true
    → list_all is_keyed (remove_entry test es) ≡ true
removed_keyed test [] keyed = refl
removed_keyed test (e ∷ es) keyed =
    let parts = and_parts (is_keyed e) (list_all is_keyed es) keyed in
    elim (cases_Bool (test e.0)) [
      | inl is ↦ ap (list_all is_keyed) (cond-true _ es (e ∷ remove_entry test es) is) ∙ parts.1
      | inr isnt ↦ ap (list_all is_keyed) (cond-false _ es (e ∷ remove_entry test es) isnt)
          ∙ and_from _ _ parts.0 (removed_keyed test es parts.1)
    ]
