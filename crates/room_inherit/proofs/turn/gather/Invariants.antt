use Rattle.std.proofs.Common.{◌≡◌, ◌+◌, ◌*◌, ◌≤◌, length, drop}
use Rattle.room_rows.specs.{declared.node.Node.Node, Held.held_of}
use Rattle.room_inherit.specs.Turn.{IsPassed, count_of}
use Rattle.room_inherit.specs.declared.descent.Reach.TheVariants.{Renewed}
use Rattle.room_inherit.proofs.Gathered.{Gathering}
use Rattle.room_inherit.proofs.turn.gather.Given as goal

-- those so far are gone through, and each gave at most one number
abbrev pub invariant-children : goal.invariant-children
invariant-children g l =
    record {
      gathering : (above : Node) → IsPassed (held_of l.descent.which above) l.passed
          → Gathering g.K.Keep g.met.K.Keep.laws l.descent above l.fn.children.items
          l.fn.waiting.items l.fn.outdated (drop (length l.yielded) l.fn.children.items)
          l.waiting.items l.outdated l.fn.keep l.keep;
      few : count_of l.outdated ≤ count_of l.fn.outdated + length l.yielded;
      counted : l.descent.reach ≡ Renewed
          → g.K.Keep.reads l.keep + length l.waiting.items + 2 * count_of l.fn.outdated
          ≤ g.K.Keep.reads l.fn.keep + length l.fn.waiting.items + 2 * count_of l.outdated;
    }
