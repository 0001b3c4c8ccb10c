use Rattle.http_message.proofs.Adding.{adds-pattern, only-memory}
use Rattle.http_message.proofs.router.add_pattern.Goals as goal

pub returns-in-Ok : goal.returns-in-Ok
returns-in-Ok c = adds-pattern _ _ _ _ _ c.in-Ok.ensures

pub memory_alone-requires : goal.memory_alone-requires
memory_alone-requires c = only-memory _ _ _ _ _ c.requires c.in-Err.ensures
