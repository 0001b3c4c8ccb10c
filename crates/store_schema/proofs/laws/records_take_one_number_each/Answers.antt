use Rattle.store_schema.proofs.Counting.{one_number_each}
use Rattle.store_schema.proofs.laws.records_take_one_number_each.Goals as goal

pub returns : goal.returns
returns c = one_number_each
