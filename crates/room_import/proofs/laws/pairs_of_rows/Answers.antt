use Rattle.room_import.proofs.Firsts as lemmas
use Rattle.room_import.proofs.laws.pairs_of_rows.Goals as goal

pub returns : goal.returns
returns c = lemmas.pairs_of_rows_are
