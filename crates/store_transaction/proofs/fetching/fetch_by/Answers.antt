use Rattle.std.proofs.Common.{arith}
use Rattle.store_transaction.proofs.Fetched.{fetched_by}
use Rattle.store_transaction.proofs.fetching.fetch_by.Goals as goal

pub returns-clause-carries : goal.returns-clause-carries
returns-clause-carries g c =
    let read = c.fetch.ensures.read in
    grind (arith, fetched_by, g.S.Store, read.follows.2, read.answers, read.fault)
