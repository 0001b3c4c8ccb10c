use Rattle.room_machine.proofs.Meeting as runs
use Rattle.room_machine.proofs.laws.closed_runs_meet.Goals as goal

pub returns : goal.returns
returns c = runs.meet_closed
