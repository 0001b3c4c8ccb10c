use Rattle.std.proofs.Common.{ap}
use Rattle.room_rows.specs.Keep.{with_owners}
use Rattle.room_memory.proofs.memory.owners_changed.Goals as goal

pub returns : goal.returns
returns c = ap (λ owners. with_owners owners c.args.node) c.in_ok-node.ensures
