use Rattle.room_laws.proofs.Orphans as unseen
use Rattle.room_laws.proofs.laws.content_is_tidy.Goals as goal

pub returns : goal.returns
returns c = unseen.content_is_tidy
