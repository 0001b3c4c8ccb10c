-- What a change leaves of objects that stay in their places.
use Rattle.std.proofs.Common.{rules, ◌≡◌, ℕ, ◌<◌, ◌==◌, nat_lt, true, false, List, [], ◌∷◌, map}
use Rattle.std.proofs.Common.{Option, Some, None, refl, sym, ap, subst, ◌∙◌, inl, inr, arith}
use Rattle.std.proofs.lemmas.Bool.{and_parts, cases_Bool, cases_order, cond-true, cond-false}
use Rattle.std.proofs.lemmas.Bool.{eqb-true, eq-eqb, lt-ltb, ltb-true, Decides.nat_tests}
use Rattle.std.proofs.lemmas.Option.{none-some}
use Rattle.std.specs.{List.AllByRecursion, Option.{option_map, option_and_then}}
use Rattle.room_entry.specs.{Ace.Ace, declared.object.Which.{Which, TheVariants.{Dacl, Sacl}}}
use Rattle.room_entry.specs.declared.parties.Owners.{Owners}
use Rattle.room_rows.specs.{HeldList.Held, declared.node.Node.Node, Content.{Content, node_at}}
use Rattle.room_rows.specs.Content.{root_of, child_of, children_of, parent_of, body_at, body_of}
use Rattle.room_rows.specs.Content.{put_body, with_node, with_body, with_each, is_rising}
use Rattle.room_rows.specs.{Held.{held_of, with_held}, Keep.{with_inh, with_owners, with_content}}
use Rattle.room_rows.specs.Rows.{Rows, AreRows, numbers_of, put_numbers, unread_numbers}
use Rattle.room_rows.proofs.{SamePlace.{IsSamePlace, put_there, replaced}, Frames.Rises}
use Rattle.room_rows.proofs.Frames.{has_parent-of_place, is_child-of_place, node_at-number}
use Rattle.room_rows.proofs.Lookups as lookups
use Rattle.room_rows.proofs.SamePlace as same_place

-- ---- objects that stay in their places

-- each object has the number, the parent and the name that it had
abbrev pub KeepsPlaces : Content → (Node → Node) → Type 0
KeepsPlaces content change = AllByRecursion (λ (n : Node). IsSamePlace (change n) n) content.nodes

every_place : (change : Node → Node) → ((n : Node) → IsSamePlace (change n) n) → (nodes : List Node)
    → AllByRecursion (λ (n : Node). IsSamePlace (change n) n) nodes
every_place change same [] = tt
every_place change same (x ∷ xs) = (same x, every_place change same xs)

-- a change that leaves the place of any object leaves the places of those in a content
pub keeps_places : (content : Content) (change : Node → Node)
    → ((n : Node) → IsSamePlace (change n) n) → KeepsPlaces content change
keeps_places content change same = every_place change same content.nodes

module _ (content : Content) (change : Node → Node) (same : KeepsPlaces content change) where
  -- by each number the same object is found as before, changed
  pub node_at-with_each : (id : ℕ)
      → node_at (with_each content change) id ≡ option_map change (node_at content id)
  node_at-with_each id = grind (arith, nat_tests, same_place.find-changed)

  -- what was the root is the root, changed
  pub root_of-with_each : root_of (with_each content change) ≡ option_map change (root_of content)
  root_of-with_each = grind (arith, nat_tests, same_place.find-changed)

  -- by each name below an object the child that had it is found, changed
  pub child_of-with_each : (id : ℕ) (name : List ℕ)
      → child_of (with_each content change) id name ≡ option_map change (child_of content id name)
  child_of-with_each id name = search (is_child-of_place, same_place.find-changed)

  -- the same children in the same order
  pub children_of-with_each : (id : ℕ)
      → children_of (with_each content change) id ≡ map change (children_of content id)
  children_of-with_each id =
      grind (
        arith,
        nat_tests,
        has_parent-of_place,
        lookups.each-kept,
        lookups.each-weaker,
        same_place.filter-changed,
        same_place.sorted-changed,
      )

  -- the objects have the numbers that they had, in the same order
  pub numbers-with_each : map (λ (n : Node). n.id) (with_each content change).nodes
      ≡ map (λ (n : Node). n.id) content.nodes
  numbers-with_each = grind (arith, nat_tests, same_place.map-changed)

  -- where the numbers rose before the change, they rise after it
  pub rises-with_each : Rises content → Rises (with_each content change)
  rises-with_each rises = search (numbers-with_each)

  parent_at : (parent : Option ℕ)
      → option_and_then (node_at (with_each content change)) parent
      ≡ option_map change (option_and_then (node_at content) parent)
  parent_at None = refl
  parent_at (Some id) = node_at-with_each id

  -- the parent that an object had is its parent, changed
  pub parent_of-with_each : (node : Node)
      → parent_of (with_each content change) node ≡ option_map change (parent_of content node)
  parent_of-with_each node = parent_at node.parent

-- one change after the other
map-twice : (first second : Node → Node) (nodes : List Node)
    → map second (map first nodes) ≡ map (λ (n : Node). second (first n)) nodes
map-twice first second [] = refl
map-twice first second (x ∷ xs) = cc (map-twice first second xs)

-- two changes of each object are one change, the second of what the first gives
pub with_each-with_each : (content : Content) (first second : Node → Node)
    → with_each (with_each content first) second
    ≡ with_each content (λ (n : Node). second (first n))
with_each-with_each content first second = grind (arith, nat_tests, map-twice)

-- ---- an object put in the place of the one of its number

module _ (content : Content) (rises : Rises content) (id : ℕ) (node new : Node)
    (found : node_at content id ≡ Some node) (same : IsSamePlace new node) where
  -- it equals a change of each object that leaves the others alone
  pub with_node-replaces : with_node content new ≡ with_each content (replaced new)
  with_node-replaces =
      cc (same_place.put-replaces 0 content.nodes id node new rises found
      (same.number ∙ node_at-number content id node found))

-- all numbers in use stay
pub numbers_of-reading : (rows : Rows) (content : Content)
    → map (λ (n : Node). n.id) content.nodes ≡ map (λ (n : Node). n.id) rows.read.nodes
    → numbers_of (with_content rows content) ≡ numbers_of rows
numbers_of-reading rows content same = ap (put_numbers (unread_numbers rows)) same

-- ---- changes that leave the place

-- an object stays in its place with another list
pub place-with_held : (which : Which) (held : Held) (node : Node)
    → IsSamePlace (with_held which held node) node
place-with_held Dacl held node = record { number = refl; parent = refl; name = refl }
place-with_held Sacl held node = record { number = refl; parent = refl; name = refl }

-- it stays there with other inherited entries in a list
pub place-with_inh : (which : Which) (entries : List Ace) (node : Node)
    → IsSamePlace (with_inh which entries node) node
place-with_inh which entries node = search (place-with_held)

-- it stays there with another owner and group
pub place-with_owners : (owners : Owners) (node : Node) → IsSamePlace (with_owners owners node) node
place-with_owners owners node = record { number = refl; parent = refl; name = refl }

-- an object keeps its number with another list
pub with_held-id : (which : Which) (held : Held) (node : Node) → (with_held which held node).id ≡ node.id
with_held-id which held node = (place-with_held which held node).number

-- it keeps it with other inherited entries
pub with_inh-id : (which : Which) (entries : List Ace) (node : Node)
    → (with_inh which entries node).id ≡ node.id
with_inh-id which entries node = (place-with_inh which entries node).number

-- ---- the lists of a changed object

-- the list that was set is the object's list of that attribute
pub held_of-with_held : (which : Which) (held : Held) (node : Node)
    → held_of which (with_held which held node) ≡ held
held_of-with_held Dacl held node = refl
held_of-with_held Sacl held node = refl

-- inherited entries that are set leave the own entries and flags of their list
pub held_of-with_inh : (which : Which) (entries : List Ace) (node : Node)
    → held_of which (with_inh which entries node) ≡ record (held_of which node) { inh = entries }
held_of-with_inh which entries node = search (held_of-with_held)

-- ---- what isn't an object

body_yes : (row : ℕ × List ℕ) (rows : List (ℕ × List ℕ)) (id : ℕ) → (row.0 == id) ≡ true
    → body_at (row ∷ rows) id ≡ Some row.1
body_yes row rows id is = cond-true (row.0 == id) (Some row.1) (body_at rows id) is

body_no : (row : ℕ × List ℕ) (rows : List (ℕ × List ℕ)) (id : ℕ) → (row.0 == id) ≡ false
    → body_at (row ∷ rows) id ≡ body_at rows id
body_no row rows id isnt = cond-false (row.0 == id) (Some row.1) (body_at rows id) isnt

bytes_behind : (id : ℕ) (bytes : List ℕ) (row : ℕ × List ℕ) (rows : List (ℕ × List ℕ)) → row.0 < id
    → put_body id bytes (row ∷ rows) ≡ row ∷ put_body id bytes rows
bytes_behind id bytes row rows below = cond-true _ _ _ (lt-ltb row.0 id below)

bytes_here : (id : ℕ) (bytes : List ℕ) (row : ℕ × List ℕ) (rows : List (ℕ × List ℕ)) → row.0 ≡ id
    → put_body id bytes (row ∷ rows) ≡ (id, bytes) ∷ rows
bytes_here id bytes row rows e = grind (arith, nat_tests)

bytes_before : (id : ℕ) (bytes : List ℕ) (row : ℕ × List ℕ) (rows : List (ℕ × List ℕ)) → id < row.0
    → put_body id bytes (row ∷ rows) ≡ (id, bytes) ∷ row ∷ rows
bytes_before id bytes row rows above = grind (arith, nat_tests)

bytes_put : (id : ℕ) (bytes : List ℕ) (rows : List (ℕ × List ℕ))
    → body_at (put_body id bytes rows) id ≡ Some bytes
bytes_put id bytes [] = body_yes (id, bytes) [] id (eq-eqb id id refl)
bytes_put id bytes (row ∷ rows) = elim (cases_order row.0 id) [
  | inl e ↦ search (rules, bytes_here, e, eq-eqb)
  | inr apart ↦ elim apart [
    | inl below ↦ grind (arith, nat_tests, body_no, bytes_behind, bytes_put id bytes rows)
    | inr above ↦ search (body_yes, bytes_before, eq-eqb)
  ]
]

bytes_put-other : (id : ℕ) (bytes : List ℕ) (rows : List (ℕ × List ℕ)) (at : ℕ) → (at ≡ id → ⊥)
    → body_at (put_body id bytes rows) at ≡ body_at rows at
bytes_put-other id bytes [] at other = grind (arith, nat_tests, body_no)
bytes_put-other id bytes (row ∷ rows) at other =
    grind (
      arith,
      nat_tests,
      body_no,
      body_yes,
      bytes_before,
      bytes_behind,
      bytes_here,
      bytes_put-other id bytes rows at other,
    )

-- the bytes that were put
pub body_of-with_body : (content : Content) (id : ℕ) (bytes : List ℕ)
    → body_of (with_body content id bytes) id ≡ Some bytes
body_of-with_body content id bytes = bytes_put id bytes content.bodies

-- the bytes of other documents stay when those of one are set
pub body_of-with_body-other : (content : Content) (id : ℕ) (bytes : List ℕ)
    (row : ℕ) → (row ≡ id → ⊥)
    → body_of (with_body content id bytes) row ≡ body_of content row
body_of-with_body-other content id bytes row other = search (bytes_put-other)

-- ---- what is there, put once more

-- an object, put as it is there already, leaves the content as it is
pub with_node-there : (content : Content) → Rises content → (node : Node)
    → node_at content node.id ≡ Some node → with_node content node ≡ content
with_node-there content rises node there =
    ap (λ (nodes : List Node). record content { nodes = nodes })
    (put_there 0 content.nodes node rises there)

body_above : (k id : ℕ) (bytes : List ℕ) (rows : List (ℕ × List ℕ))
    → is_rising (k ∷ map (λ row. row.0) rows) ≡ true → body_at rows id ≡ Some bytes → k < id
body_above k id bytes [] rises found = absurd (none-some bytes found)
body_above k id bytes (row ∷ rows) rises found =
    let parts = and_parts (nat_lt k row.0) (is_rising (row.0 ∷ map (λ r. r.0) rows)) rises in
    let up = ltb-true k row.0 parts.0 in
    elim (cases_Bool (row.0 == id)) [
      | inl is ↦ subst (λ n. k < n) (eqb-true row.0 id is) up
      | inr isnt ↦ let next =
          body_above row.0 id bytes rows parts.1 (sym (body_no row rows id isnt) ∙ found) in
          omega (arith, up, next)
    ]

bytes_there : (k id : ℕ) (bytes : List ℕ) (rows : List (ℕ × List ℕ))
    → is_rising (k ∷ map (λ row. row.0) rows) ≡ true → body_at rows id ≡ Some bytes
    → put_body id bytes rows ≡ rows
bytes_there k id bytes [] rises found = absurd (none-some bytes found)
bytes_there k id bytes (row ∷ rows) rises found =
    let parts = and_parts (nat_lt k row.0) (is_rising (row.0 ∷ map (λ r. r.0) rows)) rises in
    elim (cases_Bool (row.0 == id)) [
      | inl is ↦ grind (arith, nat_tests, body_yes, bytes_here)
      | inr isnt ↦
          let later = sym (body_no row rows id isnt) ∙ found in
          bytes_behind id bytes row rows (body_above row.0 id bytes rows parts.1 later)
          ∙ ap (λ (l : List (ℕ × List ℕ)). row ∷ l) (bytes_there row.0 id bytes rows parts.1 later)
    ]

-- the bytes that a document has, put once more, leave the content of the rows
pub with_body-there : (rows : Rows) → AreRows rows → (id : ℕ) (bytes : List ℕ)
    → body_of rows.read id ≡ Some bytes → with_body rows.read id bytes ≡ rows.read
with_body-there rows are id bytes there = grind (arith, nat_tests, bytes_there)
