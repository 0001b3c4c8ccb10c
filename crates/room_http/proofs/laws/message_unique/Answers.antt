use Rattle.room_http.proofs.Unique as unique
use Rattle.room_http.proofs.laws.message_unique.Goals as goal

pub returns : goal.returns
returns c = unique.message-unique
