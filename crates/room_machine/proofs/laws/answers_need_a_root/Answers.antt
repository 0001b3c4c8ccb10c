use Rattle.room_machine.proofs.Rootless as rootless
use Rattle.room_machine.proofs.laws.answers_need_a_root.Goals as goal

pub returns : goal.returns
returns c = rootless.answers_need_a_root
