use Rattle.std.proofs.Common.{◌≡◌, Ok, refl, sym, ap, subst, ◌∙◌, pos, arith}
use Rattle.sqlite.specs.Held.{state}
use Rattle.room_rows.specs.Keep.{IsChildOf, IsUnreadable, capped}
use Rattle.store_tables.specs.{Meaning.rows_of, Seeing.{result_of_seen, seen_only}}
use Rattle.store_tables.specs.{Statements.{HasChild, QueriesSql}, Trust.IsTrusted}
use Rattle.store_tables.proofs.{Named.tells_child, Nodes.{Tells, reads}, Whole.sees_named}
use Rattle.store_tables.proofs.keeper.KeeperKeep.child.Goals as goal

pub returns : goal.returns
returns g c =
    let old = state g.S.Store c.args.self.now.tx.now.conn.now in
    let new = state g.S.Store c.select_child.new.tx.conn.now in
    let parent = c.args.parent in
    let name = c.args.name.now in
    let came = c.in_ok-rows.ensures in
    let rows = c.in_ok-rows.rows.items in
    let asks : QueriesSql (HasChild (pos parent) name) old new (Ok c.in_ok-rows.rows) =
    subst (QueriesSql _ old new) came.answer c.select_child.ensures.asks in
    let seen : c.in_ok-seen.seen ≡ seen_only rows = grind (arith, c.in_ok-seen.ensures) in
    let is = sym (c.answer.ensures.answer ∙ ap result_of_seen seen) in
    let told : IsTrusted old new → Tells IsUnreadable (IsChildOf parent name) (rows_of old.now) c.answer.result =
    λ trust. subst (Tells IsUnreadable (IsChildOf parent name) (rows_of old.now)) is
    (tells_child old.now trust.now parent name rows (asks.rows trust.clean trust.now)) in
    record {
      read = reads _ _ _ _ _ IsUnreadable (IsChildOf parent name) _ _ c.answer.result _ (
        refl,
        c.select_child.ensures.same_reference,
        asks.stays,
        omega (arith, came.unfailed, c.answer.ensures.no_less),
        omega arith,
      ) refl (λ trust. ap rows_of (asks.same trust.clean trust.now).0.now_is)
          (ap capped came.unfailed) c.answer.ensures.counted told;
      whole = λ trust. grind (arith, sees_named, parent, name, rows, asks, asks.rows, trust.clean);
      counted = omega arith;
    }
