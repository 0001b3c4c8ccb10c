use Rattle.room_ace.proofs.Spelling as lemmas
use Rattle.room_ace.proofs.laws.reads_what_is_spelled.Goals as goal

pub returns : goal.returns
returns c = lemmas.reads_what_is_spelled
