use Rattle.room_remember.proofs.memory.known_of.Goals as goal

pub returns-in-None : goal.returns-in-None
returns-in-None c = λ rows _. c.new.ensures rows
