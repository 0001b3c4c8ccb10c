use Rattle.std.{proofs.Common.{◌≡◌, ◌+◌, ◌-◌, subst, arith}, specs.List.range_with_len}
use Rattle.sqlite.specs.Held.{state}
use Rattle.room_rows.specs.Keep.{with_inh}
use Rattle.store_tables.{specs.Trust.AltersAll, proofs.{AlteredAll.inherited_range, Changed.if_all}}
use Rattle.store_tables.proofs.Tests.{if_ok}
use Rattle.store_tables.proofs.inherited.put_range.Goals as goal

pub returns-clause-puts : goal.returns-clause-puts
returns-clause-puts g c = λ entries printed.
    let old = state g.S.Store c.args.keeper.now.tx.now.conn.now in
    let new = state g.S.Store c.update_range-done.new.tx.conn.now in
    let text = c.args.text.now in
    let first = c.args.first in
    let more = c.args.count - 1 in
    let last = c.in-Some.ensures.1 in
    let whole : more + 1 ≡ c.args.count = let some = c.requires.some in omega (arith, some) in
    record {
      stays = c.update_range-done.ensures.writes.stays;
      no_less = c.wrote_all.ensures.no_less;
      unfailed = c.wrote_all.ensures.unfailed;
      fault = c.wrote_all.ensures.cause;
      becomes = λ trust.
          if_all c.args.count c.update_range-done.result _ c.wrote_all.result
          c.wrote_all.ensures.answer
          (if_ok c.update_range-done.result _ _
          (λ count put all. subst
          (λ n. AltersAll (range_with_len first n) (with_inh c.args.which entries) old.now new.now)
          whole
          (inherited_range old.now new.now trust.now c.args.which text entries printed.1 first more
          put.0 (grind (arith, text, first, last, old.now.trees, new.now.trees, put.1))))
          (c.update_range-done.ensures.writes.leaves trust.clean trust.now));
    }
