use Rattle.room_ace.proofs.Spelled.{spelled}
use Rattle.room_ace.proofs.entry_lines.entry_of.Goals as goal

pub returns-in-Ok : goal.returns-in-Ok
returns-in-Ok c = spelled c.args.line.now c.in-Ok.entry c.in-Ok.ensures
