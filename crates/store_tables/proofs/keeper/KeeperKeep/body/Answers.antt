use Rattle.std.proofs.Common.{◌≡◌, ◌<◌, OnOk, Ok, refl, sym, ap, subst, ◌∙◌, pos, arith}
use Rattle.sqlite.specs.Held.{state}
use Rattle.room_rows.specs.Keep.{IsBodyOf, IsNever, capped}
use Rattle.store_tables.specs.{Meaning.rows_of, Seeing.{bytes_seen, result_of_seen}}
use Rattle.store_tables.specs.{Statements.{HasBytes, QueriesSql}, Trust.IsTrusted}
use Rattle.store_tables.proofs.{Blobs.tells_bytes, Nodes.{Tells, reads}}
use Rattle.store_tables.proofs.keeper.KeeperKeep.body.Goals as goal

pub returns : goal.returns
returns g c =
    let old = state g.S.Store c.args.self.now.tx.now.conn.now in
    let new = state g.S.Store c.select_bytes.new.tx.conn.now in
    let id = c.args.id in
    let came = c.in_ok-rows.ensures in
    let rows = c.in_ok-rows.rows.items in
    let asks : QueriesSql (HasBytes (pos id)) old new (Ok c.in_ok-rows.rows) =
    subst (QueriesSql _ old new) came.answer c.select_bytes.ensures.asks in
    let seen : c.in_ok-seen.seen ≡ bytes_seen rows = grind (arith, c.in_ok-seen.ensures) in
    let is = sym (c.answer.ensures.answer ∙ ap result_of_seen seen) in
    let told : IsTrusted old new → Tells IsNever (IsBodyOf id) (rows_of old.now) c.answer.result =
    λ trust. subst (Tells IsNever (IsBodyOf id) (rows_of old.now)) is
    (tells_bytes old.now trust.now id
    (subst (λ r. OnOk r (0 < id)) came.answer c.select_bytes.ensures.from_one) rows (asks.rows trust.clean trust.now)) in
    record {
      read = reads _ _ _ _ _ IsNever (IsBodyOf id) _ _ c.answer.result _ (
        refl,
        c.select_bytes.ensures.same_reference,
        asks.stays,
        omega (arith, came.unfailed, c.answer.ensures.no_less),
        omega arith,
      ) refl (λ trust. ap rows_of (asks.same trust.clean trust.now).0.now_is)
          (ap capped came.unfailed) c.answer.ensures.counted told;
      counted = omega arith;
    }
