use Rattle.room_remember.specs.{Agrees.AgreesWithRows, declared.known.Known.TheVariants.Child}
use Rattle.room_remember.proofs.Recalling.{recalled}
use Rattle.room_remember.proofs.memory.Memory.child.Goals as goal

pub returns-in-Some : goal.returns-in-Some
returns-in-Some c =
    recalled c.child.result c.in-Some.known.now (Child c.args.parent c.args.name.now)
    (AgreesWithRows c.args.self.now) (λ rows agreed. c.in-Some.ensures rows agreed.slots)
    c.child.ensures
