use Rattle.std.proofs.Common.{◌≡◌, Ok, refl, ap, subst, ◌∙◌, arith}
use Rattle.sqlite.specs.Held.{state}
use Rattle.room_rows.specs.Keep.{capped}
use Rattle.store_tables.specs.{Meaning.rows_of, Seeing.names_seen, Statements.HasGroups}
use Rattle.store_tables.specs.Statements.{QueriesSql}
use Rattle.store_tables.proofs.{Apart.members_apart, Grouped.tells_groups}
use Rattle.store_tables.proofs.keeper.KeeperKeep.groups_of.Goals as goal

pub returns : goal.returns
returns g c =
    let old = state g.S.Store c.args.self.now.tx.now.conn.now in
    let new = state g.S.Store c.select_groups.new.tx.conn.now in
    let user = c.args.user.now in
    let came = c.in_ok-rows.ensures in
    let rows = c.in_ok-rows.rows.items in
    let asks : QueriesSql (HasGroups c.as_str.result.now) old new (Ok c.in_ok-rows.rows) =
    subst (QueriesSql _ old new) came.answer c.select_groups.ensures.asks in
    let seen : c.in_ok-names.names ≡ names_seen rows = grind (arith, c.in_ok-names.ensures) in
    record {
      read = record {
        follows = grind (arith, c.select_groups.ensures.same_reference, asks.stays, came.no_less);
        unwritten = refl;
        same = λ trust. ap rows_of (asks.same trust.clean trust.now).0.now_is;
        answers =
            λ trust. seen ∙ tells_groups user c.is_known.ensures
            (c.names_are_text.ensures user c.is_known.ensures) old.now
            (members_apart old.now trust.now user) rows
            (grind (arith, old.now.trees, rows, c.as_str.ensures, asks.rows));
        unfailed = ap capped came.unfailed;
        fault = tt;
      };
      counted = omega arith;
    }
