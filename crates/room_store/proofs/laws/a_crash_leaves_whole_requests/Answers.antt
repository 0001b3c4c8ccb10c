use Rattle.sqlite.specs.Held.{state}
use Rattle.room_store.specs.Crash.{all_asked, all_happened, left_by}
use Rattle.room_store.proofs.Outlasting.{all_outlast, leaves_whole}
use Rattle.room_store.proofs.laws.a_crash_leaves_whole_requests.Goals as goal

pub returns : goal.returns
returns g c =
    λ first calls follows.
    leaves_whole (state g.S.Store first) (state g.S.Store (left_by first calls)) (all_asked calls)
    (all_happened calls)
    (all_outlast (state g.S.Store) c.two_runs_meet.ensures first calls follows)
