-- What is still to come of a walk, one object after the other.
use Rattle.std.proofs.Common.{rules, ◌≡◌, ℕ, zero, suc, ◌+◌, ◌-◌, ◌≤◌, List, [], ◌∷◌, ◌++◌, map}
use Rattle.std.proofs.Common.{reverse, length, Option, Some, refl, sym, ap, subst, ◌∙◌}
use Rattle.std.proofs.{Common.{append_assoc, arith}, lemmas.Grind.flat_map-append}
use Rattle.std.{proofs.lemmas.List.{append-nil, map-append, reverse-append}, specs.List.flat_map}
use Rattle.room_rows.specs.{declared.node.Node.Node, Content.{Content, children_of}, Rows.AreRows}
use Rattle.room_rows.specs.Rows.{Rows, numbers_of}
use Rattle.room_dump.specs.{declared.visiting.{Below.Below, Visit.Visit}, Dump.tree_of}
use Rattle.room_dump.specs.Visits.{GoesOn, IsFrom, IsNext, Reached, coming, nodes_of, to_come}
use Rattle.room_dump.specs.Visits.{IsThere, visit_below, visit_on, visits_from, waiting_below}
use Rattle.room_dump.{specs.Visits.way_below, proofs.Reached.{all_there, goes_down, is_there}}
use Rattle.room_dump.proofs.Reached.{reached_next, some_left}

-- ---- what waits

module _ (rows : Rows) where
  abbrev all : Visit → List Visit
  all visit = visits_from (length (numbers_of rows)) rows.read visit

  -- the last one comes first
  comes_last : (waits : List Visit) (visit : Visit)
      → to_come rows (waits ++ visit ∷ []) ≡ all visit ++ to_come rows waits
  comes_last [] visit = sym (append-nil (all visit))
  comes_last (other ∷ waits) visit = search (rules, append_assoc, comes_last waits visit)

  -- children come in their order, before what waited
  come_below : (over : Visit) (children : List Node) (waits : List Visit)
      → to_come rows (waits ++ waiting_below over children)
      ≡ flat_map (λ child. all (visit_below over child)) children ++ to_come rows waits
  come_below over [] waits = ap (to_come rows) (append-nil waits)
  come_below over (child ∷ children) waits =
      ap (λ (more : List Visit). to_come rows (waits ++ more))
      (ap (map (visit_below over)) (reverse-append (child ∷ []) children)
      ∙ map-append (visit_below over) (reverse children) (child ∷ []))
      ∙ ap (to_come rows)
      (sym (append_assoc waits (waiting_below over children) (visit_below over child ∷ [])))
      ∙ comes_last (waits ++ waiting_below over children) (visit_below over child)
      ∙ ap (λ (l : List Visit). all (visit_below over child) ++ l) (come_below over children waits)
      ∙ sym (append_assoc (all (visit_below over child))
      (flat_map (λ c. all (visit_below over c)) children) (to_come rows waits))

nodes_below : (over : Visit) (children : List Node) (waits : List Visit)
    → nodes_of (waits ++ waiting_below over children) ≡ nodes_of waits ++ reverse children
nodes_below over children waits =
    map-append (λ (v : Visit). v.node) waits (waiting_below over children)
    ∙ ap (λ (l : List Node). nodes_of waits ++ l) (back (reverse children))
  where
    back : (nodes : List Node) → nodes_of (map (visit_below over) nodes) ≡ nodes
    back [] = refl
    back (node ∷ nodes) = ap (λ (l : List Node). node ∷ l) (back nodes)

-- ---- one object

one_less : (left next : ℕ) → next ≡ left - 1 → (left ≤ next + 1) × (next ≤ left)
one_less left next is = (omega (arith, is), omega (arith, is))

up_to : (a b c : ℕ) → a ≤ b → b ≤ c → a ≤ c
up_to a b c e f = omega (arith, e, f)

module _ (rows : Rows) (are : AreRows rows) (old : Below) (waits : List Visit) (visit : Visit)
    (taken : old.waiting.items ≡ waits ++ visit ∷ []) (goes : GoesOn rows old) where
  reached : Reached rows.read (nodes_of waits ++ visit.node ∷ []) old.left
  reached = grind (arith, map-append)

  -- it may come
  pub may_come : old.left ≡ 0 → ⊥
  may_come none =
      let some = some_left rows.read (all_there rows are) (nodes_of waits) visit.node old.left
      reached in
      omega (arith, some, none)

  -- its children wait
  pub comes_next : (new : Below) → new.left ≡ old.left - 1
      → new.waiting.items ≡ waits ++ waiting_below visit (children_of rows.read visit.node.id)
      → (coming rows old ≡ visit ∷ coming rows new) × GoesOn rows new
      × IsThere rows.read visit.node
  comes_next new less waiting =
      let there = all_there rows are in
      let children = children_of rows.read visit.node.id in
      let most = length (numbers_of rows) in
      let sums = one_less old.left new.left less in (
        ap (to_come rows) taken ∙ comes_last rows waits visit
            ∙ ap (λ (l : List Visit). l ++ to_come rows waits)
            (goes_down rows.read there (nodes_of waits) visit.node old.left reached
            way_below visit_on (visit.path, visit.depth) most goes.within)
            ∙ ap (λ (l : List Visit). visit ∷ l)
            (sym (come_below rows visit children waits) ∙ ap (to_come rows) (sym waiting)),
        search (rules, up_to, sums.1, reached, waiting, nodes_below, reached_next, there, sums.0),
        is_there rows.read there (nodes_of waits) visit.node old.left reached,
      )

-- ---- from the first object on

-- what comes is the first of what is still to come
pub comes_first : (rows : Rows) (old new : Below) (next : Option Visit) (visit : Visit)
    → IsNext old new rows next → next ≡ Some visit → GoesOn rows old
    → (coming rows old ≡ visit ∷ coming rows new) × GoesOn rows new × IsThere rows.read visit.node
comes_first rows old new next visit is same =
    subst (λ (o : Option Visit). IsNext old new rows o) same is

-- a walk from an object that waits alone
pub goes_from : (rows : Rows) (most : ℕ) (first : Visit) (walk : Below)
    → most ≡ length (numbers_of rows) → Reached rows.read (first.node ∷ []) most
    → IsFrom most first walk
    → GoesOn rows walk
    × (coming rows walk ≡ visits_from (length (numbers_of rows)) rows.read first)
goes_from rows most first walk many reached from = (
  grind (arith, rows, from.0, many, reached, rows.read, walk.left, from.1, first.node),
  ap (to_come rows) from.1,
)

-- ---- what is told of each object

-- What is told of a tree, told anew: the places and what is told there correspond.
module _ {P Q X Y : Type 0} (below : P → Node → Node → P) (tell : P → Node → List X)
    (below' : Q → Node → Node → Q) (tell' : Q → Node → List Y) (place : P → Q) (each : X → List Y)
    (places : (p : P) (node child : Node)
    → place (below p node child) ≡ below' (place p) node child)
    (tells : (p : P) (node : Node) → flat_map each (tell p node) ≡ tell' (place p) node)
    (content : Content) where
  -- of objects below another, where it is so of each
  told_each : (depth : ℕ) (p : P) (node : Node)
      → ((q : P) (child : Node) → flat_map each (tree_of below tell depth content q child)
      ≡ tree_of below' tell' depth content (place q) child) → (nodes : List Node)
      → flat_map each
      (flat_map (λ child. tree_of below tell depth content (below p node child) child) nodes)
      ≡ flat_map (λ child. tree_of below' tell' depth content (below' (place p) node child) child)
      nodes
  told_each depth p node told [] = refl
  told_each depth p node told (child ∷ nodes) =
      flat_map-append each (tree_of below tell depth content (below p node child) child)
      (flat_map (λ c. tree_of below tell depth content (below p node c) c) nodes)
      ∙ (λ i. (told (below p node child) child
      ∙ ap (λ (q : Q). tree_of below' tell' depth content q child) (places p node child)) i
      ++ told_each depth p node told nodes i)

  pub told_by : (depth : ℕ) (p : P) (node : Node)
      → flat_map each (tree_of below tell depth content p node)
      ≡ tree_of below' tell' depth content (place p) node
  told_by zero p node = refl
  told_by (suc depth) p node =
      flat_map-append each (tell p node)
      (flat_map (λ child. tree_of below tell depth content (below p node child) child)
      (children_of content node.id))
      ∙ (λ i. tells p node i
      ++ told_each depth p node (λ q child. told_by depth q child) (children_of content node.id) i)

  pub told_below : (depth : ℕ) (p : P) (node : Node)
      → flat_map each
      (flat_map (λ child. tree_of below tell depth content (below p node child) child)
      (children_of content node.id))
      ≡ flat_map (λ child. tree_of below' tell' depth content (below' (place p) node child) child)
      (children_of content node.id)
  told_below depth p node =
      told_each depth p node (λ q child. told_by depth q child) (children_of content node.id)
