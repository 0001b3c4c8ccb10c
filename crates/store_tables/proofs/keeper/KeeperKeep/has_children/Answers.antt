use Rattle.std.proofs.Common.{Ok, length, not, refl, sym, ap, subst, ◌∙◌, pos, arith}
use Rattle.std.specs.Prelude.{◌==◌}
use Rattle.sqlite.specs.Held.{state}
use Rattle.room_rows.specs.Keep.{HasChildren, capped}
use Rattle.store_tables.specs.{Meaning.rows_of, Statements.{HasSome, QueriesSql}, Whole.SeesSome}
use Rattle.store_tables.proofs.{Listed.tells_some, Whole.sees_some}
use Rattle.store_tables.proofs.keeper.KeeperKeep.has_children.Goals as goal

pub returns : goal.returns
returns g c =
    let old = state g.S.Store c.args.self.now.tx.now.conn.now in
    let new = state g.S.Store c.select_some.new.tx.conn.now in
    let parent = c.args.parent in
    let came = c.in_ok-rows.ensures in
    let rows = c.in_ok-rows.rows.items in
    let asks : QueriesSql (HasSome (pos parent)) old new (Ok c.in_ok-rows.rows) =
    subst (QueriesSql _ old new) came.answer c.select_some.ensures.asks in
    let is = sym (c.is_empty.ensures ∙ ap (λ l. length l == 0) c.as_slice.ensures.value) in
    record {
      read = record {
        follows = grind (arith, c.select_some.ensures.same_reference, asks.stays, came.no_less);
        unwritten = refl;
        same = λ trust. ap rows_of (asks.same trust.clean trust.now).0.now_is;
        answers =
            λ trust. subst (λ b. HasChildren parent (rows_of old.now) (not b)) is
            (tells_some old.now trust.now parent rows (asks.rows trust.clean trust.now));
        unfailed = ap capped came.unfailed;
        fault = tt;
      };
      whole = λ trust. subst (λ b. SeesSome parent old.now (not b)) is
          (sees_some old.now parent rows (asks.rows trust.clean trust.now));
      counted = omega arith;
    }
