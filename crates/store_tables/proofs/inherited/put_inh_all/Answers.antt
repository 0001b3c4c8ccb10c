use Rattle.std.proofs.Common.{arith, sym, subst}
use Rattle.sqlite.specs.Held.{state}
use Rattle.room_rows.specs.Keep.{with_inh}
use Rattle.store_tables.{specs.Printed.{IsCanonical, IsPrinted}, proofs.Putting.puts_any_order}
use Rattle.store_tables.proofs.inherited.put_inh_all.Goals as goal

pub put_runs-done-requires : goal.put_runs-done-requires
put_runs-done-requires g c =
    subst IsCanonical (sym c.as_str.ensures.value) (c.args.entries.now, c.in_ok-text.ensures)

pub returns-clause-puts : goal.returns-clause-puts
returns-clause-puts g c =
    puts_any_order (with_inh c.args.which c.args.entries.now) c.args.ids.now c.as_slice.result.now
    (state g.S.Store c.args.keeper.now.tx.now.conn.now)
    (state g.S.Store c.put_runs-done.new.keeper.tx.now.conn.now) _ _ _
    (grind (arith, c.as_slice.ensures.value, c.in_ok-order.ensures))
    (c.in_ok-done.ensures.puts c.args.entries.now
    (subst (IsPrinted c.args.entries.now) (sym c.as_str.ensures.value) c.in_ok-text.ensures))
