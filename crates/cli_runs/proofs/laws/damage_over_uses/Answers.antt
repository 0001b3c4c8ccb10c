use Rattle.sqlite.specs.Held.{state}
use Rattle.cli_runs.proofs.Histories.{stay_closed}
use Rattle.cli_runs.proofs.laws.damage_over_uses.Goals as goal

pub returns : goal.returns
returns g c =
    λ first uses follow.
    stay_closed (state g.S.Store) c.sound_is_no_fault.ensures c.two_runs_meet.ensures first uses follow
