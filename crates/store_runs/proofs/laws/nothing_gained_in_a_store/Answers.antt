use Rattle.sqlite.specs.Held.{state}
use Rattle.room_store.specs.Leads.{all_events, last_of}
use Rattle.store_runs.proofs.Rights.{gains_nothing}
use Rattle.store_runs.proofs.laws.nothing_gained_in_a_store.Goals as goal

pub returns : goal.returns
returns g c =
    λ path first calls follows.
    gains_nothing c.content_is_tidy.ensures c.sound_is_content.ensures path (state g.S.Store first)
    (state g.S.Store (last_of first calls)) c.nothing_gained.ensures (all_events calls)
    (c.calls_are_a_run.ensures first calls follows)
