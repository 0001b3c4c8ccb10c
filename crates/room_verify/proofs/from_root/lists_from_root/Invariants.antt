use Rattle.std.proofs.Common.{◌≡◌, ◌++◌, drop}
use Rattle.room_rows.specs.Full.{fulls}
use Rattle.room_inherit.proofs.Chain.{fulls_after}
use Rattle.room_verify.proofs.from_root.lists_from_root.Given as goal

-- the lists so far and those of the rest are all
abbrev pub invariant-loop-node : goal.invariant-loop-node
invariant-loop-node l =
    l.lists.items ++ fulls_after l.which l.above.auto l.inherited (drop l.node-index l.chain)
    ≡ fulls l.which l.chain
