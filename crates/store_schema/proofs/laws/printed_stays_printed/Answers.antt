use Rattle.store_tables.proofs.Printed.{stays_printed}
use Rattle.store_schema.proofs.laws.printed_stays_printed.Goals as goal

pub returns : goal.returns
returns c = stays_printed
