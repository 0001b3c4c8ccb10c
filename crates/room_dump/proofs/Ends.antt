-- The object that a walk ends at.
use Rattle.std.proofs.Common.{arith, ◌≡◌, ℕ, List, [], ◌∷◌, length, Option, Some, None, inr, refl}
use Rattle.std.{proofs.Common.{ap, ◌∙◌}, specs.{List.AllByRecursion as Each, Option.option_map_or}}
use Rattle.room_rows.specs.{declared.node.Node.Node, Content.{Content, body_of, child_of, node_at}}
use Rattle.room_rows.specs.{Content.root_of, Keep.IsDamaged, Rows.{AreRows, Rows}, Walk.behind}
use Rattle.room_rows.{specs.Walk.{walk_from, walk_of}, proofs.Frames.{Rises, child_of-is_there}}
use Rattle.room_rows.proofs.Frames.{root_of-is_there}
use Rattle.room_dump.{proofs.Counting.each_last, specs.Fetching.{EndsAt, LacksItsBytes}}
use Rattle.room_dump.specs.Visits.{IsThere}

module _ (content : Content) (rises : Rises content) where
  there_from : (names : List (List ℕ)) (node : Node) → IsThere content node
      → Each (IsThere content) (walk_from content node names).chain
  there_from [] node there = (there, tt)
  there_from (name ∷ names) node there =
      on (child_of content node.id name)
      (λ child found.
      there_from names child (child_of-is_there content rises node.id name child found))
    where
      on : (o : Option Node)
          → ((child : Node) → o ≡ Some child
          → Each (IsThere content) (walk_from content child names).chain)
          → Each (IsThere content)
          (option_map_or (λ child. behind node (walk_from content child names)) o
          (record { chain = node ∷ []; rest = length (name ∷ names) })).chain
      on None next = (there, tt)
      on (Some child) next = (there, next child refl)

  -- each object on a way is found by its number
  there_along : (names : List (List ℕ)) → Each (IsThere content) (walk_of content names).chain
  there_along names =
      on (root_of content)
      (λ root found. there_from names root (root_of-is_there content rises root found))
    where
      on : (o : Option Node)
          → ((root : Node) → o ≡ Some root
          → Each (IsThere content) (walk_from content root names).chain)
          → Each (IsThere content)
          (option_map_or (λ root. walk_from content root names) o
          (record { chain = []; rest = length names })).chain
      on None next = tt
      on (Some root) next = next root refl

-- the last object on a way can be blamed for its bytes
pub blamed_at_end : (rows : Rows) → AreRows rows → (path : List (List ℕ)) (last : Node) (rest : ℕ)
    → EndsAt path rows last rest → (row : ℕ) → LacksItsBytes last rows row → IsDamaged rows row
blamed_at_end rows are path last rest (above, ends) row (is, document, none) =
    let there = each_last (IsThere rows.read) above last
    (grind (arith, rows.read, ends, there_along, are.numbers)) in
    inr (last, ap (node_at rows.read) is ∙ there, document, ap (body_of rows.read) is ∙ none)
