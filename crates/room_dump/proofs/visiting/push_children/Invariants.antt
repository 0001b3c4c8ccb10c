use Rattle.std.proofs.Common.{◌≡◌, ◌++◌, vec_len}
use Rattle.room_dump.specs.Visits.{waiting_below}
use Rattle.room_dump.proofs.visiting.push_children.Given as goal

-- the children that wait so far, and then those that are left
abbrev pub invariant-children : goal.invariant-children
invariant-children l =
    l.waiting.items ++ waiting_below l.over l.nodes.items ≡ l.fn.waiting.items
    ++ waiting_below l.over l.fn.children

abbrev pub decreases-children : goal.decreases-children
decreases-children l = vec_len l.nodes
