use Rattle.sqlite.specs.Held.{state}
use Rattle.room_store.specs.Crash.{all_asked, all_happened, left_by}
use Rattle.room_store.proofs.Reopened.{crash_leaves_a_room}
use Rattle.room_store.proofs.laws.a_crash_leaves_a_room.Goals as goal

pub returns : goal.returns
returns g c =
    λ first calls follows.
    crash_leaves_a_room (state g.T.Store) c.rooms_can_be_opened.ensures (state g.S.Store first)
    (state g.S.Store (left_by first calls)) (all_asked calls) (all_happened calls)
    (c.a_crash_leaves_whole_requests.ensures first calls follows)
