use Rattle.room_rows.proofs.Sets as lemmas
use Rattle.room_rows.proofs.laws.set_of_pairs.Goals as goal

pub returns : goal.returns
returns c = lemmas.set_of_pairs
