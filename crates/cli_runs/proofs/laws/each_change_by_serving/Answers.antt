use Rattle.sqlite.specs.Held.{state}
use Rattle.cli_runs.proofs.Each.{changes_by_right}
use Rattle.cli_runs.proofs.laws.each_change_by_serving.Goals as goal

pub returns : goal.returns
returns g c =
    λ port count clock after ports closed old new out printed err told status hosted.
    changes_by_right c.rights_changed_by.ensures c.changed_by.ensures c.nothing_gained.ensures
    c.stays_tidy.ensures c.content_is_tidy.ensures c.sound_is_content.ensures
    (state g.S.Store old) (state g.S.Store new) hosted.served.visits hosted.outlasts.leads
    hosted.leaves
