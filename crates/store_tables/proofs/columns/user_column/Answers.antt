use Rattle.std.proofs.Common.{rules}
use Rattle.store_tables.proofs.{Noting.user_named, Tests.if_ok}
use Rattle.store_tables.proofs.columns.user_column.Goals as goal

pub returns-in-Some : goal.returns-in-Some
returns-in-Some c = search (rules, if_ok, user_named, c.in-Some.is, c.name_column.ensures)
