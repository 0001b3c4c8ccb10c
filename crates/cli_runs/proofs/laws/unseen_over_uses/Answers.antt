use Rattle.sqlite.specs.Held.{state}
use Rattle.cli_runs.proofs.Histories.{answer_alike}
use Rattle.cli_runs.proofs.laws.unseen_over_uses.Goals as goal

pub returns : goal.returns
returns g c =
    λ front first uses other others follow beside.
    answer_alike (state g.S.Store) (state g.T.Store) c.sound_is_no_fault.ensures
    c.two_runs_meet.ensures c.content_is_tidy.ensures c.sound_is_content.ensures c.unseen.ensures
    front first uses other others follow beside
