use Rattle.room_verify.proofs.KeptAlone as alone
use Rattle.room_verify.proofs.laws.kept_is_no_fault.Goals as goal

pub returns : goal.returns
returns c = alone.kept_is_no_fault
