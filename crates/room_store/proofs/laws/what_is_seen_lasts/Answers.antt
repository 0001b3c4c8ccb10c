use Rattle.std.proofs.Common.{arith}
use Rattle.room_store.proofs.laws.what_is_seen_lasts.Goals as goal

pub returns : goal.returns
returns g c =
    grind (arith, g.row.S.Denot, g.S.Store, c.store.view_is, c.what_is_committed_lasts.ensures)
