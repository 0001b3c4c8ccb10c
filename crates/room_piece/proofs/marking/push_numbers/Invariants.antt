use Rattle.std.proofs.Common.{◌≡◌, ◌++◌, map, take}
use Rattle.room_piece.proofs.marking.push_numbers.Given as goal

-- the numbers of the first objects are there
abbrev pub invariant-each : goal.invariant-each
invariant-each l = l.numbers ≡ l.fn.numbers ++ map (λ node. node.id) (take l.node-index l.nodes)
