use Rattle.cli_words.proofs.telling.tell_stop.Goals as goal

pub returns-in-Exists : goal.returns-in-Exists
returns-in-Exists g c = rw c.in-Exists.is c.tell_text.ensures

pub returns-in-NotRooms : goal.returns-in-NotRooms
returns-in-NotRooms g c = rw c.in-NotRooms.is c.tell_text-in-NotRooms.ensures
