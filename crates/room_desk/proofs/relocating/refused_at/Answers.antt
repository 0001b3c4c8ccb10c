use Rattle.std.proofs.{Common.arith, Math.Seq.take-length, lemmas.Bool.Decides.nat_tests}
use Rattle.room_desk.proofs.relocating.refused_at.Goals as goal

pub returns : goal.returns
returns c = grind (arith, nat_tests, take-length)
