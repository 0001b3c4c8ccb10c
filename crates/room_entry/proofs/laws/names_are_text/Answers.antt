use Rattle.room_entry.proofs.Visible.{name_text}
use Rattle.room_entry.proofs.laws.names_are_text.Goals as goal

pub returns : goal.returns
returns c = λ name holds. name_text name holds
