use Rattle.std.proofs.Common.{sym, ap, subst, ◌∙◌, arith, rules}
use Rattle.sqlite.specs.Held.{state}
use Rattle.room_entry.specs.Valid.{is_document}
use Rattle.room_rows.specs.{declared.node.Node.Node, Counts.capped_rises, Keep.{capped, one_more}}
use Rattle.room_rows.specs.Keep.{with_bytes}
use Rattle.store_tables.specs.{Columns.ReadsAsNode, Trust.{stays_on, trusted_first, trusted_last}}
use Rattle.store_tables.proofs.Adding.{added, put_rows}
use Rattle.store_tables.proofs.keeper.KeeperKeep.add.Goals as goal

pub returns : goal.returns
returns g c =
    let old = state g.S.Store c.args.self.now.tx.now.conn.now in
    let mid = state g.S.Store c.put_new.new.keeper.tx.now.conn.now in
    let last = state g.S.Store c.put_bytes-done.new.keeper.tx.now.conn.now in
    let first = c.in_ok-id.ensures in
    let second = c.in_ok-done.ensures in
    let counted = ap capped (second.unwritten ∙ first.unwritten) in
    record {
      written = record {
        follows = (
          second.same_reference ∙ first.same_reference,
          second.same_lender ∙ first.same_lender,
          stays_on old mid last first.puts.stays second.puts.stays,
          omega (arith, first.puts.no_less, second.puts.no_less),
          omega (arith, counted, capped_rises _ _ c.count_one.ensures.no_less),
        );
        written =
            c.count_one.ensures.capped ∙ ap one_more counted;
        becomes = λ trust can.
            let one = trusted_first old mid last first.puts.stays second.puts.stays trust in
            let two = trusted_last old mid last first.puts.stays second.puts.stays trust in
            let stored = first.puts.becomes one in
            let object = c.at_number-node.ensures in
            let new = with_bytes c.args.node c.args.bytes.now in
            added new old.now mid.now last.now c.in_ok-id.id two.now
            (put_rows old.now mid.now c.in_ok-id.id new stored.columns one.now
            stored.from_one (subst (λ n. ReadsAsNode n stored.columns) object stored.stores)
            stored.adds)
            (is_document c.at_number-node.result.kind)
            (ap (λ (n : Node). is_document n.kind) (sym object)) (second.puts.becomes two);
        unfailed = ap capped (second.puts.unfailed ∙ first.puts.unfailed);
        fault = tt;
      };
      unread = omega arith;
    }

pub returns-in_err-done : goal.returns-in_err-done
returns-in_err-done g c =
    let first = c.in_ok-id.ensures in
    let second = c.in_err-done.ensures in
    let stays = stays_on (state g.S.Store c.args.self.now.tx.now.conn.now)
    (state g.S.Store c.put_new.new.keeper.tx.now.conn.now)
    (state g.S.Store c.put_bytes-done.new.keeper.tx.now.conn.now) first.puts.stays
    second.puts.stays in
    search (rules, stays)
