use Rattle.room_question.proofs.Standing.{objects_stand_is}
use Rattle.room_question.proofs.laws.objects_stand.Goals as goal

pub returns : goal.returns
returns c = objects_stand_is
