use Rattle.room_rows.proofs.PathsBack as paths_back
use Rattle.room_rows.proofs.laws.path_reads_back.Goals as goal

pub returns : goal.returns
returns c = paths_back.path_reads_back
