use Rattle.room_would.proofs.Shared.{shared_to_end}
use Rattle.room_would.proofs.paths.shared_count.Goals as goal

pub returns-else-count-other : goal.returns-else-count-other
returns-else-count-other c =
    shared_to_end c.args.one.now c.args.other.now c.names.count c.if-count-other.false
    c.names.invariant
