use Rattle.sqlite.specs.Held.{state}
use Rattle.cli_runs.proofs.Alike.{answer_alike}
use Rattle.cli_runs.proofs.laws.unseen_by_serving.Goals as goal

pub returns : goal.returns
returns g c =
    λ front port count clock after ports closed old new out printed err told status hosted port'
    count' clock' after' ports' closed' other later out' printed' err' told' status' beside.
    answer_alike c.sound_is_content.ensures c.content_is_tidy.ensures c.stays_tidy.ensures
    c.stays_behind.ensures c.unseen.ensures front (state g.S.Store old) (state g.S.Store new)
    (state g.T.Store other) (state g.T.Store later) hosted.served.visits beside.served.visits
    hosted.outlasts.leads beside.outlasts.leads hosted.leaves beside.leaves hosted.served.each
    beside.served.each
