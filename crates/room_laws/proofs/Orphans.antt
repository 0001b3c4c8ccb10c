-- In a tidy content nothing belongs to a number that isn't in use.
use Rattle.std.proofs.Common.{ℕ, ◌≡◌, ◌==◌, inl, inr, Bool, true, false, cond, List, [], ◌∷◌, map}
use Rattle.std.proofs.Common.{filter, Option, Some, None, refl, sym, ◌∙◌, arith}
use Rattle.std.proofs.lemmas.{Bool.{false≢true, and_parts, Decides.nat_tests}, Option.none-some}
use Rattle.std.specs.{List.{find, list_all, list_any}, Option.option_map_or, Prelude.is_some}
use Rattle.std.specs.Prelude.{IsTrue}
use Rattle.room_rows.specs.Content.{Content, child_of, node_at, body_of, body_at, is_folder}
use Rattle.room_rows.specs.{Content.has_folder_above, declared.node.Node.Node}
use Rattle.room_rows.proofs.Frames.{child_of-parent, child_of-is_there}
use Rattle.room_machine.specs.Step.{IsFree}
use Rattle.room_laws.{specs.Tidy.{IsNumbered, IsTidy, ContentIsTidy}, proofs.Behind.free_none}
use Rattle.room_rows.proofs.Lookups as lookups

passes_there : (p : Node → Bool) (nodes : List Node) (node : Node) → list_all p nodes ≡ true
    → lookups.Stands node nodes → p node ≡ true
passes_there p [] node all stands = absurd stands
passes_there p (x ∷ xs) node all (inl it) = grind (arith, nat_tests)
passes_there p (x ∷ xs) node all (inr later) =
    passes_there p xs node (and_parts (p x) (list_all p xs) all).1 later

-- nothing is below a number that isn't in use
pub orphans : (a : Content) → IsNumbered a → IsTidy a → (id : ℕ) → IsFree a id → (name : List ℕ)
    → child_of a id name ≡ None
orphans a numbered tidy id free name = on (child_of a id name) refl
  where
    none : (o : Option Node) → node_at a id ≡ o → is_some o ≡ false
    none o is = grind (arith, nat_tests, free_none)

    on : (o : Option Node) → child_of a id name ≡ o → child_of a id name ≡ None
    on None is = is
    on (Some n) is =
        absurd (
        grind (
          arith,
          nat_tests,
          false≢true
              (sym (none (node_at a id) refl) ∙ tidy.parents n id
              (child_of-is_there a numbered id name n is) (child_of-parent a id name n is)),
        ))

body_number : (id : ℕ) (bytes : List ℕ) (rows : List (ℕ × List ℕ)) → body_at rows id ≡ Some bytes
    → list_any (λ i. i == id) (map (λ (row : ℕ × List ℕ). row.0) rows) ≡ true
body_number id bytes [] is = absurd (none-some bytes is)
body_number id bytes (row ∷ rows) is = grind (arith, nat_tests, body_number id bytes rows)

no_number : (id : ℕ) (p : Node → Bool) (nodes : List Node) → find (λ (n : Node). n.id == id) nodes
    ≡ None
    → list_any (λ i. i == id) (map (λ (n : Node). n.id) (filter p nodes)) ≡ false
no_number id p [] none = refl
no_number id p (x ∷ xs) none =
    let parts = lookups.none_found (λ (n : Node). n.id == id) x xs none in
    on (p x) parts.0 (no_number id p xs parts.1)
  where
    on : (t : Bool) → (x.id == id) ≡ false
        → list_any (λ i. i == id) (map (λ (n : Node). n.id) (filter p xs)) ≡ false
        → list_any (λ i. i == id)
        (map (λ (n : Node). n.id) (cond t (x ∷ filter p xs) (filter p xs)))
        ≡ false
    on t isnt rest = grind (arith, nat_tests)

-- no bytes belong to a number that isn't in use
pub bare : (a : Content) → IsTidy a → (id : ℕ) → IsFree a id → body_of a id ≡ None
bare a tidy id free = grind (arith, nat_tests, free_none)

-- each content is tidy
pub content_is_tidy : ContentIsTidy
content_is_tidy a content = search (bodies, parents)
  where
    parents : (node : Node) (id : ℕ) → node_at a node.id ≡ Some node → node.parent ≡ Some id
        → IsTrue (is_some (node_at a id))
    parents node id at above =
        on (node_at a id)
        (
        cc (
          above,
          passes_there (has_folder_above a) a.nodes node content.parents
              (lookups.stands-found _ a.nodes node at),
        ))
      where
        on : (o : Option Node) → option_map_or is_folder o false ≡ true → is_some o ≡ true
        on o is = grind (arith, nat_tests)

    bodies : (id : ℕ) → node_at a id ≡ None → body_of a id ≡ None
    bodies id none = grind (arith, nat_tests, body_number, no_number)
