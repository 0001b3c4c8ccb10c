use Rattle.std.proofs.Common.{◌≡◌, Ok, refl, sym, ap, subst, ◌∙◌, arith}
use Rattle.sqlite.specs.Held.{state}
use Rattle.room_rows.specs.Keep.{HasNoRoot, IsRootOf, capped}
use Rattle.store_tables.specs.{Meaning.rows_of, Seeing.{seen_only, top_of}, Statements.HasTop}
use Rattle.store_tables.specs.{Statements.QueriesSql, Trust.IsTrusted}
use Rattle.store_tables.proofs.{Nodes.{Tells, reads}, Tops.tells_top, Whole.sees_top}
use Rattle.store_tables.proofs.keeper.KeeperKeep.root.Goals as goal

pub returns : goal.returns
returns g c =
    let old = state g.S.Store c.args.self.now.tx.now.conn.now in
    let new = state g.S.Store c.select_top.new.tx.conn.now in
    let came = c.in_ok-rows.ensures in
    let rows = c.in_ok-rows.rows.items in
    let asks : QueriesSql HasTop old new (Ok c.in_ok-rows.rows) =
    subst (QueriesSql _ old new) came.answer c.select_top.ensures.asks in
    let seen : c.in_ok-seen.seen ≡ seen_only rows = grind (arith, c.in_ok-seen.ensures) in
    let is = sym (c.answer_top.ensures.answer ∙ ap top_of seen) in
    let told : IsTrusted old new → Tells HasNoRoot IsRootOf (rows_of old.now) c.answer_top.result =
    λ trust. subst (Tells HasNoRoot IsRootOf (rows_of old.now)) is
    (tells_top old.now trust.now rows (asks.rows trust.clean trust.now)) in
    record {
      read = reads _ _ _ _ _ HasNoRoot IsRootOf _ _ c.answer_top.result _ (
        refl,
        c.select_top.ensures.same_reference,
        asks.stays,
        omega (arith, came.unfailed, c.answer_top.ensures.no_less),
        omega arith,
      ) refl (λ trust. ap rows_of (asks.same trust.clean trust.now).0.now_is)
          (ap capped came.unfailed) c.answer_top.ensures.counted told;
      whole = grind (arith, is, sees_top, rows, asks.rows);
      counted = omega arith;
    }
