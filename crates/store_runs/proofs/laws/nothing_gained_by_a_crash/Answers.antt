use Rattle.sqlite.specs.Held.{state}
use Rattle.room_store.specs.Crash.{all_asked, all_happened, left_by}
use Rattle.store_runs.proofs.Rights.{crash_gains_nothing}
use Rattle.store_runs.proofs.laws.nothing_gained_by_a_crash.Goals as goal

pub returns : goal.returns
returns g c =
    λ path first calls follows.
    crash_gains_nothing c.content_is_tidy.ensures c.sound_is_content.ensures path
    (state g.S.Store first) (state g.S.Store (left_by first calls)) c.nothing_gained.ensures
    c.two_runs_meet.ensures (all_asked calls) (all_happened calls)
    (c.a_crash_leaves_whole_requests.ensures first calls follows)
