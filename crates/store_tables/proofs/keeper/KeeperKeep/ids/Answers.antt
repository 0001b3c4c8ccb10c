use Rattle.std.proofs.Common.{◌≡◌, Ok, refl, ap, subst, ◌∙◌, arith}
use Rattle.sqlite.specs.Held.{state}
use Rattle.room_rows.specs.Keep.{capped}
use Rattle.store_tables.specs.{Meaning.rows_of, Seeing.numbers_seen, Statements.HasNumbers}
use Rattle.store_tables.{specs.Statements.QueriesSql, proofs.Numbers.tells_numbers}
use Rattle.store_tables.proofs.keeper.KeeperKeep.ids.Goals as goal

pub returns : goal.returns
returns g c =
    let old = state g.S.Store c.args.self.now.tx.now.conn.now in
    let new = state g.S.Store c.select_numbers.new.tx.conn.now in
    let came = c.in_ok-rows.ensures in
    let rows = c.in_ok-rows.rows.items in
    let asks : QueriesSql HasNumbers old new (Ok c.in_ok-rows.rows) =
    subst (QueriesSql _ old new) came.answer c.select_numbers.ensures.asks in
    let seen : c.in_ok-ids.ids ≡ numbers_seen rows = grind (arith, c.in_ok-ids.ensures) in
    record {
      read = record {
        follows = grind (arith, c.select_numbers.ensures.same_reference, asks.stays, came.no_less);
        unwritten = refl;
        same = λ trust. ap rows_of (asks.same trust.clean trust.now).0.now_is;
        answers =
            λ trust. seen ∙ tells_numbers old.now trust.now rows
            (asks.rows trust.clean trust.now);
        unfailed = ap capped came.unfailed;
        fault = tt;
      };
      counted = omega arith;
    }
