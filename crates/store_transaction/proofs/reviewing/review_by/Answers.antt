use Rattle.std.proofs.Common.{rules}
use Rattle.store_transaction.proofs.Reviewed.{reviewed_by}
use Rattle.store_transaction.proofs.reviewing.review_by.Goals as goal

pub returns-clause-carries : goal.returns-clause-carries
returns-clause-carries g c = search (rules, c.review.ensures.read, reviewed_by)
