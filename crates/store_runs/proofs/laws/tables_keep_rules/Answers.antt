use Rattle.store_runs.proofs.Rules.{tables_keep_rules}
use Rattle.store_runs.proofs.laws.tables_keep_rules.Goals as goal

pub returns : goal.returns
returns c = tables_keep_rules
