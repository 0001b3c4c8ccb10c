use Rattle.std.proofs.Common.{arith, subst, sym}
use Rattle.store_tables.specs.Printed.{IsCanonical}
use Rattle.store_tables.proofs.inherited.put_inh.Goals as goal

pub put_text-done-requires : goal.put_text-done-requires
put_text-done-requires g c =
    subst IsCanonical (sym c.as_str.ensures.value) (c.args.entries.now, c.in_ok-text.ensures)

pub returns-clause-puts : goal.returns-clause-puts
returns-clause-puts g c =
    grind (arith, c.in_ok-done.ensures.puts, c.as_str.ensures.value, c.in_ok-text.ensures)
