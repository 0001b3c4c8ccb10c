use Rattle.std.proofs.{Common.arith, lemmas.List.{take_all, length-drop}}
use Rattle.room_entry.proofs.Cuts.{cut_at, not_cut}
use Rattle.room_entry.proofs.pieces.cut.Goals as goal

pub returns-in-None : goal.returns-in-None
returns-in-None c = not_cut c.args.separator.now c.args.bytes.now c.in-None.ensures

pub returns-in-Some : goal.returns-in-Some
returns-in-Some c = grind (arith, c.in-Some.place, length-drop, cut_at, c.in-Some.ensures, take_all)
