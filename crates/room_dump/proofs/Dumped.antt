-- The text of a room, from what a walk comes to.
use Rattle.std.proofs.Common.{arith, rules, ◌≡◌, ℕ, ◌&&◌, Bool, List, [], ◌∷◌, ◌++◌, length, Some}
use Rattle.std.proofs.{Common.{refl, sym, ap, ◌∙◌, inl, inr, append_assoc}, lemmas.List.append-nil}
use Rattle.std.specs.{List.{flat_map, list_all}, Prelude.is_some}
use Rattle.room_rows.specs.{declared.node.Node.Node, Content.{body_of, node_at, root_of}}
use Rattle.room_rows.specs.{Keep.IsDamaged, Rows.{AreRows, Rows, numbers_of}}
use Rattle.room_dump.specs.{declared.visiting.{Below.Below, Visit.Visit}, Dump.{IsDumpText, all_of}}
use Rattle.room_dump.specs.Dump.{child_path, has_bytes, itself, object_lines, tree_of}
use Rattle.room_dump.specs.Telling.{AddsAll, AddsOne, IsUntellable, has_its_bytes, visit_lines}
use Rattle.room_dump.specs.Visits.{GoesOn, IsFrom, IsThere, coming, first_visit, Way, visit_on}
use Rattle.room_dump.specs.Visits.{visits_from, way_below}
use Rattle.room_dump.proofs.{Reached.reached_first, Walks.{goes_from, told_by}}

-- ---- what is told so far

pub record Telling (rows : Rows) (first walk : Below) (before text : List ℕ) : Type 0 where
  pub goes : GoesOn rows walk
  pub told : text ++ flat_map (visit_lines rows.read) (coming rows walk) ≡ before
      ++ flat_map (visit_lines rows.read) (coming rows first)
  pub filled : list_all (has_its_bytes rows.read) (coming rows walk)
      ≡ list_all (has_its_bytes rows.read) (coming rows first)

-- and an object comes
abbrev pub Came : Rows → Below → Below → Below → Visit → List ℕ → List ℕ → Type 0
Came rows first old new visit before text =
    Telling rows first old before text × (coming rows old ≡ visit ∷ coming rows new)
    × GoesOn rows new × IsThere rows.read visit.node

pub tells_on : (rows : Rows) (first old new : Below) (visit : Visit) (before text more : List ℕ)
    → Came rows first old new visit before text → AddsOne visit text more rows tt
    → Telling rows first new before more
tells_on rows first old new visit before text more came one =
    let lines = visit_lines rows.read in
    let filled = has_its_bytes rows.read in
    record {
      goes = came.2;
      told = grind (arith, lines, rows, new, one.0, append_assoc, visit, came.1, came.0.told);
      filled = grind (arith, filled, rows, new, one.1, came.1, came.0.filled);
    }

-- the object can be blamed for its bytes
pub blamed : (rows : Rows) (node : Node) → IsThere rows.read node → (row : ℕ)
    → IsUntellable node rows row → IsDamaged rows row
blamed rows node there row (inl unreadable) = inl (inl unreadable)
blamed rows node there row (inr (is, document, none)) =
    inr (node, ap (node_at rows.read) is ∙ there, document, ap (body_of rows.read) is ∙ none)

-- ---- from the root on

pub told_from : {X : Type 0} (tell : List ℕ → Node → List X) (rows : Rows) (root : Node)
    → root_of rows.read ≡ Some root
    → all_of tell rows ≡ tree_of child_path tell (length (numbers_of rows)) rows.read [] root
told_from tell rows root is = search (rules, is)

each_of : {A B : Type 0} (p : B → Bool) (f : A → B) (xs : List A)
    → list_all p (flat_map (λ x. f x ∷ []) xs) ≡ list_all (λ x. p (f x)) xs
each_of p f [] = refl
each_of p f (x ∷ xs) = ap (λ (b : Bool). p (f x) && b) (each_of p f xs)

module _ (rows : Rows) (are : AreRows rows) (most : ℕ) (root : Node) (walk : Below)
    (many : most ≡ length (numbers_of rows)) (is : root_of rows.read ≡ Some root)
    (from : IsFrom most (first_visit root) walk) where
  begun : GoesOn rows walk
      × (coming rows walk ≡ visits_from (length (numbers_of rows)) rows.read (first_visit root))
  begun = grind (arith, goes_from, reached_first)

  pub goes : GoesOn rows walk
  goes = begun.0

  told : {X : Type 0} (tell : List ℕ → Node → List X)
      → flat_map (λ (v : Visit). tell v.path v.node) (coming rows walk) ≡ all_of tell rows
  told tell =
      ap (flat_map (λ (v : Visit). tell v.path v.node)) begun.1
      ∙ told_by way_below visit_on child_path tell (λ (w : Way). w.0)
      (λ (v : Visit). tell v.path v.node) (λ w node child. refl)
      (λ w node. append-nil (tell w.0 node)) rows.read (length (numbers_of rows)) ([], 0) root
      ∙ sym (told_from tell rows root is)

  pub dumped : (before text : List ℕ) → before ≡ [] → AddsAll walk before text rows tt
      → IsDumpText rows text
  dumped before text none adds = (
    (adds goes).0
        ∙ (λ i. none i ++ told (object_lines rows.read) i),
    ap (list_all (has_bytes rows.read)) (sym (told itself))
        ∙ each_of (has_bytes rows.read) (λ (v : Visit). v.node) (coming rows walk) ∙ (adds goes).1,
    ap is_some is,
  )
