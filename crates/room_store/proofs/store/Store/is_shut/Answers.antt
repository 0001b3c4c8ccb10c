use Rattle.std.proofs.Common.{rules}
use Rattle.room_store.proofs.Recalled.{still}
use Rattle.room_store.proofs.store.Store.is_shut.Goals as goal

pub invariant_of-self : goal.invariant_of-self
invariant_of-self g c = (
  c.test_shut.ensures.leaves.ended c.self.invariant.0,
  search (rules, still, c.test_shut.ensures.leaves, c.test_shut.ensures.same, c.self.invariant.1),
)
