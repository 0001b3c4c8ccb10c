use Rattle.room_laws.proofs.SameReplies as unseen
use Rattle.room_laws.proofs.laws.same_replies.Goals as goal

pub returns : goal.returns
returns c = unseen.same_replies
