use Rattle.std.proofs.Common.{refl, ap, arith}
use Rattle.sqlite.specs.Held.{state}
use Rattle.room_rows.specs.{Counts.capped_rises, Keep.capped}
use Rattle.store_tables.proofs.{Removed.removed_rows, Changed.of_one}
use Rattle.store_tables.proofs.keeper.KeeperKeep.remove.Goals as goal

pub returns : goal.returns
returns g c =
    let old = state g.S.Store c.args.self.now.tx.now.conn.now in
    let new = state g.S.Store c.delete_node.new.tx.conn.now in
    record {
      written = record {
        follows = (
          refl,
          c.delete_node.ensures.same_reference,
          c.delete_node.ensures.writes.stays,
          c.in_ok-wrote_one.ensures.no_less,
          capped_rises _ _ c.count_one.ensures.no_less,
        );
        written = c.count_one.ensures.capped;
        becomes = λ trust can. let gone =
            of_one c.delete_node.result _ _ c.in_ok-wrote_one.ensures.answer
            (c.delete_node.ensures.writes.leaves trust.clean trust.now) in
            removed_rows old.now new.now c.args.id trust.now gone.1 can;
        unfailed = ap capped c.in_ok-wrote_one.ensures.unfailed;
        fault = tt;
      };
      unread = omega arith;
    }
