use Rattle.sqlite.specs.Held.{state}
use Rattle.cli_runs.proofs.Histories.{change_by_right}
use Rattle.cli_runs.proofs.laws.each_change_over_uses.Goals as goal

pub returns : goal.returns
returns g c =
    λ first uses follow.
    change_by_right (state g.S.Store) c.sound_is_no_fault.ensures c.two_runs_meet.ensures
    c.rights_changed_by.ensures c.changed_by.ensures c.nothing_gained.ensures c.stays_tidy.ensures
    c.content_is_tidy.ensures c.sound_is_content.ensures first uses follow
