use Rattle.room_remember.specs.{Agrees.AgreesWithRows, declared.known.Known.TheVariants.Root}
use Rattle.room_remember.proofs.Recalling.{recalled}
use Rattle.room_remember.proofs.memory.Memory.root.Goals as goal

pub returns-in-Some : goal.returns-in-Some
returns-in-Some c =
    recalled c.root.result c.in-Some.known.now (λ node. Root node)
    (AgreesWithRows c.args.self.now) (λ rows agreed. c.in-Some.ensures rows agreed.slots)
    c.root.ensures
