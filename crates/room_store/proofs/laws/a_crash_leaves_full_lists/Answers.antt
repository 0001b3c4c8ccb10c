use Rattle.sqlite.specs.Held.{state}
use Rattle.room_store.specs.Crash.{all_asked, all_happened, left_by}
use Rattle.room_store.proofs.FromRoot.{crash_from_root}
use Rattle.room_store.proofs.laws.a_crash_leaves_full_lists.Goals as goal

pub returns : goal.returns
returns g c =
    λ first calls follows.
    crash_from_root c.rooms_store_full_lists.ensures (state g.S.Store first)
    (state g.S.Store (left_by first calls)) (all_asked calls) (all_happened calls)
    (c.a_crash_leaves_whole_requests.ensures first calls follows)
