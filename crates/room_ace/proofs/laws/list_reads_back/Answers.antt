use Rattle.room_ace.proofs.ListsBack as lists
use Rattle.room_ace.proofs.laws.list_reads_back.Goals as goal

pub returns : goal.returns
returns c = lists.list_reads_back
