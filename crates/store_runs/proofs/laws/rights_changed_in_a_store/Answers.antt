use Rattle.sqlite.specs.Held.{state}
use Rattle.room_store.specs.Leads.{all_events, last_of}
use Rattle.store_runs.proofs.Rights.{grants_changes}
use Rattle.store_runs.proofs.laws.rights_changed_in_a_store.Goals as goal

pub returns : goal.returns
returns g c =
    λ path first calls follows.
    grants_changes c.content_is_tidy.ensures c.sound_is_content.ensures path (state g.S.Store first)
    (state g.S.Store (last_of first calls)) c.rights_changed_in_run.ensures (all_events calls)
    (c.calls_are_a_run.ensures first calls follows)
