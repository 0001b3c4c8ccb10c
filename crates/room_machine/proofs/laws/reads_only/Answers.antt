use Rattle.room_machine.proofs.Replies as replies
use Rattle.room_machine.proofs.laws.reads_only.Goals as goal

pub returns : goal.returns
returns c = replies.reads_only
