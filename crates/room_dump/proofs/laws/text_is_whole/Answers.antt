use Rattle.room_dump.proofs.Whole.{whole}
use Rattle.room_dump.proofs.laws.text_is_whole.Goals as goal

pub returns : goal.returns
returns c = whole
