use Rattle.std.proofs.Common.{refl}
use Rattle.room_rows.proofs.chain.walked.Goals as goal

pub returns : goal.returns
returns c = refl
