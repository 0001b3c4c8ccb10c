use Rattle.std.proofs.Common.{◌≡◌, [], Ok, refl, sym, ap, subst, ◌∙◌, pos, arith}
use Rattle.sqlite.specs.Held.{state}
use Rattle.room_rows.specs.Keep.{AreChildrenOf, IsUnreadable, capped}
use Rattle.store_tables.specs.{Meaning.{node_in, rows_of}, Seeing.{result_of_seen, seen_behind}}
use Rattle.store_tables.specs.{Statements.{HasUnder, QueriesSql}, Trust.IsTrusted}
use Rattle.store_tables.proofs.{Nodes.{Tells, reads}, Under.tells_under, Whole.sees_under}
use Rattle.store_tables.proofs.keeper.KeeperKeep.children.Goals as goal

pub returns : goal.returns
returns g c =
    let old = state g.S.Store c.args.self.now.tx.now.conn.now in
    let new = state g.S.Store c.select_under.new.tx.conn.now in
    let parent = c.args.parent in
    let came = c.in_ok-rows.ensures in
    let rows = c.in_ok-rows.rows.items in
    let asks : QueriesSql (HasUnder (pos parent)) old new (Ok c.in_ok-rows.rows) =
    subst (QueriesSql _ old new) came.answer c.select_under.ensures.asks in
    let seen : c.in_ok-seen.seen ≡ seen_behind node_in [] rows = c.in_ok-seen.ensures
    ∙ ap (seen_behind node_in []) c.as_slice.ensures.value in
    let is = sym (c.answer.ensures.answer ∙ ap result_of_seen seen) in
    let told : IsTrusted old new → Tells IsUnreadable (AreChildrenOf parent) (rows_of old.now) c.answer.result =
    λ trust. subst (Tells IsUnreadable (AreChildrenOf parent) (rows_of old.now)) is
    (tells_under old.now trust.now parent rows (asks.rows trust.clean trust.now)) in
    record {
      read = reads _ _ _ _ _ IsUnreadable (AreChildrenOf parent) _ _ c.answer.result _ (
        refl,
        c.select_under.ensures.same_reference,
        asks.stays,
        omega (arith, came.unfailed, c.answer.ensures.no_less),
        omega arith,
      ) refl (λ trust. ap rows_of (asks.same trust.clean trust.now).0.now_is)
          (ap capped came.unfailed) c.answer.ensures.counted told;
      whole = grind (arith, parent, is, sees_under, rows, asks.rows);
      counted = omega arith;
    }
