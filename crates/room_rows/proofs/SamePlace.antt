-- Objects that change, and keep their numbers, parents and names.
use Rattle.std.proofs.Common.{◌≡◌, ℕ, ◌<◌, ◌≤◌, ◌==◌, Bool, true, List, [], ◌∷◌, map, filter, Some}
use Rattle.std.proofs.Common.{nat_lt, refl, sym, ap, ◌∙◌, arith, inl, inr, rules}
use Rattle.std.proofs.lemmas.Bool.{cases_Bool, and_parts, eq-eqb, ne_eqb, ltb-true, cond-true}
use Rattle.std.proofs.lemmas.{Bool.{cond-false, Decides.nat_tests}, Option.none-some}
use Rattle.std.specs.{Prelude.if◌then◌else◌, List.{find, AllByRecursion}, Option.option_map}
use Rattle.room_rows.specs.{declared.node.Node.Node, Content.{put_by_name, sorted_by_name}}
use Rattle.room_rows.specs.{Content.{put_node, is_rising}, Finding.find_id}
use Rattle.room_rows.proofs.Lookups.{each-sorted, find_no, find_yes, found_above, found_number}
use Rattle.room_rows.proofs.Lookups.{keep_no, keep_yes, name_behind, name_here, put_behind}
use Rattle.room_rows.proofs.Lookups.{put_same}

-- ---- an object put in the place of the one of its number

-- the same number, parent and name
pub record IsSamePlace (a b : Node) : Type 0 where
  pub number : a.id ≡ b.id
  pub parent : a.parent ≡ b.parent
  pub name : a.name ≡ b.name

-- an object has the same place as itself
pub same_place : (a : Node) → IsSamePlace a a
same_place a = record { number = refl; parent = refl; name = refl }

-- the new object in place of the one of its number
abbrev pub replaced : Node → Node → Node
replaced new node = if node.id == new.id then new else node

-- an object of the same number is replaced by the new one
pub replaced_here : (new node : Node) → node.id ≡ new.id → replaced new node ≡ new
replaced_here new node e = cond-true _ _ _ (eq-eqb node.id new.id e)

-- an object of another number is left
pub replaced_elsewhere : (new node : Node) → (node.id ≡ new.id → ⊥) → replaced new node ≡ node
replaced_elsewhere new node isnt = cond-false _ _ _ (ne_eqb node.id new.id isnt)

untouched : (k : ℕ) (nodes : List Node) (new : Node)
    → is_rising (k ∷ map (λ (n : Node). n.id) nodes) ≡ true → new.id ≤ k
    → map (replaced new) nodes ≡ nodes
untouched k [] new rises below = refl
untouched k (x ∷ xs) new rises below =
    let parts = and_parts (nat_lt k x.id) (is_rising (x.id ∷ map (λ (n : Node). n.id) xs)) rises in
    let up = ltb-true k x.id parts.0 in
    let same = replaced_elsewhere new x (λ e. absurd (omega (arith, up, below, e))) in
    search (rules, same, untouched x.id xs new parts.1 (omega (arith, up, below)))

-- where its number is in use, an object that is put replaces that one and leaves the others
pub put-replaces : (k : ℕ) (nodes : List Node) (id : ℕ) (node new : Node)
    → is_rising (k ∷ map (λ (n : Node). n.id) nodes) ≡ true → find_id id nodes ≡ Some node
    → new.id ≡ id → put_node new nodes ≡ map (replaced new) nodes
put-replaces k [] id node new rises found same = absurd (none-some node found)
put-replaces k (x ∷ xs) id node new rises found same =
    let parts = and_parts (nat_lt k x.id) (is_rising (x.id ∷ map (λ (n : Node). n.id) xs)) rises in
    elim (cases_Bool (x.id == id)) [
      | inl is ↦ grind (arith, nat_tests, put_same, replaced_here, untouched)
      | inr isnt ↦
          let later = sym (find_no (λ (n : Node). n.id == id) x xs isnt) ∙ found in
          let above = found_above x.id xs id node parts.1 later in
          let number = found_number id xs node later in
          let below : x.id < new.id = omega (arith, above, number, same) in
          cc (
            put_behind new x xs below,
            put-replaces x.id xs id node new parts.1 later same,
            replaced_elsewhere new x (λ e. absurd (omega (arith, below, e))),
          )
    ]

-- an object that is there, put once more, leaves all as it is
pub put_there : (k : ℕ) (nodes : List Node) (node : Node)
    → is_rising (k ∷ map (λ (n : Node). n.id) nodes) ≡ true → find_id node.id nodes ≡ Some node
    → put_node node nodes ≡ nodes
put_there k [] node rises found = absurd (none-some node found)
put_there k (x ∷ xs) node rises found =
    let parts = and_parts (nat_lt k x.id) (is_rising (x.id ∷ map (λ (n : Node). n.id) xs)) rises in
    elim (cases_Bool (x.id == node.id)) [
      | inl is ↦ grind (arith, nat_tests, find_yes, put_same)
      | inr isnt ↦
          let later = sym (find_no (λ (n : Node). n.id == node.id) x xs isnt) ∙ found in
          put_behind node x xs (found_above x.id xs node.id node parts.1 later)
          ∙ ap (λ (l : List Node). x ∷ l) (put_there x.id xs node parts.1 later)
    ]

-- ---- changes that leave number, parent and name

module _ (change : Node → Node) where
  -- a test of the place finds the changed object
  pub find-changed : (p : Node → Bool) → ((a b : Node) → IsSamePlace a b → p a ≡ p b)
      → (nodes : List Node) → AllByRecursion (λ (n : Node). IsSamePlace (change n) n) nodes
      → find p (map change nodes) ≡ option_map change (find p nodes)
  find-changed p of_place [] same = refl
  find-changed p of_place (x ∷ xs) same =
      grind (arith, nat_tests, find_no, find_yes, find-changed p of_place xs same.1)

  -- a test of the place keeps those of the changed objects that it kept before the change
  pub filter-changed : (p : Node → Bool) → ((a b : Node) → IsSamePlace a b → p a ≡ p b)
      → (nodes : List Node) → AllByRecursion (λ (n : Node). IsSamePlace (change n) n) nodes
      → filter p (map change nodes) ≡ map change (filter p nodes)
  filter-changed p of_place [] same = refl
  filter-changed p of_place (x ∷ xs) same =
      grind (arith, nat_tests, keep_no, keep_yes, filter-changed p of_place xs same.1)

  put_by_name-changed : (node : Node) (nodes : List Node) → IsSamePlace (change node) node
      → AllByRecursion (λ (n : Node). IsSamePlace (change n) n) nodes
      → put_by_name (change node) (map change nodes) ≡ map change (put_by_name node nodes)
  put_by_name-changed node [] here same = refl
  put_by_name-changed node (x ∷ xs) here same =
      grind (arith, nat_tests, name_behind, name_here, put_by_name-changed node xs here same.1)

  -- changed objects, sorted by name, stand in the order in which they stood before the change
  pub sorted-changed : (nodes : List Node)
      → AllByRecursion (λ (n : Node). IsSamePlace (change n) n) nodes
      → sorted_by_name (map change nodes) ≡ map change (sorted_by_name nodes)
  sorted-changed [] same = refl
  sorted-changed (x ∷ xs) same = search (each-sorted, put_by_name-changed, sorted-changed xs same.1)

  -- what depends on the place alone stays
  pub map-changed : {A : Type 0} (part : Node → A)
      → ((a b : Node) → IsSamePlace a b → part a ≡ part b) → (nodes : List Node)
      → AllByRecursion (λ (n : Node). IsSamePlace (change n) n) nodes
      → map part (map change nodes) ≡ map part nodes
  map-changed part of_place [] same = refl
  map-changed part of_place (x ∷ xs) same = search (map-changed part of_place xs same.1)
