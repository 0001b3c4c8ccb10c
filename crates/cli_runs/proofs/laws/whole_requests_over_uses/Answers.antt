use Rattle.sqlite.specs.Held.{state}
use Rattle.cli_runs.proofs.Histories.{leave_whole}
use Rattle.cli_runs.proofs.laws.whole_requests_over_uses.Goals as goal

pub returns : goal.returns
returns g c =
    λ first uses follow.
    leave_whole (state g.S.Store) c.sound_is_no_fault.ensures c.two_runs_meet.ensures first uses
    follow
