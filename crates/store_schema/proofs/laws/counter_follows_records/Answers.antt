use Rattle.store_schema.proofs.Counting.{counter_follows}
use Rattle.store_schema.proofs.laws.counter_follows_records.Goals as goal

pub returns : goal.returns
returns c = counter_follows
