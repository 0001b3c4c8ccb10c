use Rattle.room_change.proofs.Rows as rows
use Rattle.room_change.proofs.laws.nearest_row_says.Goals as goal

pub returns : goal.returns
returns c = rows.nearest_row_says
