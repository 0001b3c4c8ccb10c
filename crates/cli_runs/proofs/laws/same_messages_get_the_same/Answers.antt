use Rattle.sqlite.specs.Held.{state}
use Rattle.cli_runs.proofs.Same.{answer_the_same}
use Rattle.cli_runs.proofs.laws.same_messages_get_the_same.Goals as goal

pub returns : goal.returns
returns g c =
    λ port count clock after ports closed old new out printed err told status hosted port' count'
    clock' after' ports' closed' other later out' printed' err' told' status' beside.
    answer_the_same c.sound_is_content.ensures c.content_is_tidy.ensures c.stays_tidy.ensures
    c.stays_behind.ensures c.unseen.ensures (state g.S.Store old) (state g.S.Store new)
    (state g.T.Store other) (state g.T.Store later) hosted.served.visits beside.served.visits
    hosted.outlasts.leads beside.outlasts.leads hosted.leaves beside.leaves hosted.served.each
    beside.served.each
