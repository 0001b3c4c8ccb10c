use Rattle.room_laws.proofs.TidySteps as unseen
use Rattle.room_laws.proofs.laws.stays_tidy.Goals as goal

pub returns : goal.returns
returns c = unseen.stays_tidy
