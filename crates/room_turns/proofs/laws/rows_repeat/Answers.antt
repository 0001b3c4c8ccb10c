use Rattle.room_turns.proofs.Repeated as shown
use Rattle.room_turns.proofs.laws.rows_repeat.Goals as goal

pub returns : goal.returns
returns c = shown.rows_repeat
