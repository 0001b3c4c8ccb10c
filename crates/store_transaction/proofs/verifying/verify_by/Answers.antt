use Rattle.std.proofs.Common.{arith}
use Rattle.store_transaction.proofs.Verified.{looked_through}
use Rattle.store_transaction.proofs.verifying.verify_by.Goals as goal

pub returns-clause-carries : goal.returns-clause-carries
returns-clause-carries g c =
    let look = c.verify.ensures.look in
    grind (arith, looked_through, g.S.Store, look.follows.2, look.answers, look.fault)
