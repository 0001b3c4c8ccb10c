-- A walk, step after step, and from the root.
use Rattle.std.proofs.Common.{◌≡◌, ℕ, ◌<◌, ◌≤◌, ◌+◌, List, [], length, take, Some, Result}
use Rattle.std.proofs.{Common.{Ok, Err, sym, ◌∙◌, arith}, lemmas.List.{take-take, get_or-take}}
use Rattle.std.proofs.lemmas.{List.length-take-le, Bool.Decides.nat_tests}
use Rattle.room_rows.specs.{declared.node.Node.Node, Content.root_of, Rows.Rows}
use Rattle.room_judge.specs.{declared.{arrival.Found.Found, asker.Asker.Asker}, Judged.FromRoot}
use Rattle.room_judge.specs.Judged.{IsStepDown, IsReached}
use Rattle.room_machine.specs.declared.reply.Reply.{Reply}
use Rattle.room_judge.proofs.Ways.{IsOnWay, way_done, way_ends, way_goes_on}

-- ---- a walk, step after step

-- a step down the first names of a path
step_of_front : (asker : Asker) (path : List (List ℕ)) (n : ℕ) (from : Found) (old new : Rows)
    (outcome : Result Node Reply) → from.depth < n → IsStepDown asker path from old outcome new
    → IsStepDown asker (take n path) from old outcome new
step_of_front asker path n from old new outcome below step =
    grind (arith, nat_tests, get_or-take, take-take)

module _ (asker : Asker) (path : List (List ℕ)) (n : ℕ) (within : n ≤ length path) where
  size : length (take n path) ≡ n
  size = length-take-le n path within

  module _ (depth : ℕ) (node : Node) where
    abbrev from : Found
    from = record { node = node; depth = depth }

    -- one more step of a walk comes to a child
    pub walks_on : (next : Node) (old now new : Rows) → depth < n
        → IsOnWay asker (take n path) from old now → IsStepDown asker path from now (Ok next) new
        → IsOnWay asker (take n path) (record { node = next; depth = depth + 1 }) old new
    walks_on next old now new below walking step = search (size, step_of_front, way_goes_on)

    -- one more step of a walk is refused
    pub walk_ends : (old now new : Rows) (reply : Reply) → depth < n
        → IsOnWay asker (take n path) from old now → IsStepDown asker path from now (Err reply) new
        → IsReached asker (take n path) (λ _. []) old (Err reply) new
    walk_ends old now new reply below walking step = search (size, step_of_front, way_ends)

    -- a walk past all n names has reached the object there
    pub walk_done : (old now : Rows) → depth ≡ n → IsOnWay asker (take n path) from old now
        → IsReached asker (take n path) (λ _. []) old (Ok node) now
    walk_done old now all walking =
        way_done asker (take n path) from old now (all ∙ sym size) walking

-- ---- from the root

-- the root that was read is that of the rows
pub reached_from : (asker : Asker) (path : List (List ℕ)) (root : Node)
    (outcome : Result Node Reply) (old mid new : Rows) → root_of old.read ≡ Some root → mid ≡ old
    → FromRoot root (IsReached asker path (λ _. [])) mid outcome new
    → IsReached asker path (λ _. []) old outcome new
reached_from asker path root outcome old mid new is same reached = grind (arith, nat_tests)
