-- Some number isn't in use.
use Rattle.std.proofs.Common.{ℕ, ◌+◌, ◌<◌, ◌≡◌, cond, List, [], ◌∷◌, Some, None, refl, ap, ◌∙◌}
use Rattle.std.{proofs.{Common.arith, lemmas.Bool.ne_eqb}, specs.{Prelude.◌==◌, List.find}}
use Rattle.room_rows.specs.declared.node.Node.{Node}
use Rattle.room_machine.specs.Laws.{SomeFree}

abbrev all_numbers : List Node → ℕ
all_numbers [] = 0
all_numbers (node ∷ nodes) = node.id + all_numbers nodes

-- a number above all others together is none of them
above_none : (nodes : List Node) (id : ℕ) → all_numbers nodes < id
    → find (λ node. node.id == id) nodes ≡ None
above_none [] id above = refl
above_none (node ∷ nodes) id above =
    ap (λ t. cond t (Some node) (find (λ n. n.id == id) nodes))
    (ne_eqb node.id id (λ same. omega arith)) ∙ above_none nodes id (omega arith)

-- the number after the sum of all numbers in use is free
pub some_free : SomeFree
some_free content = (
  all_numbers content.nodes + 1,
  grind (arith, above_none, content.nodes),
)
