use Rattle.std.proofs.Common.{sym, ◌∙◌}
use Rattle.sqlite.specs.Held.{state}
use Rattle.store_admin.proofs.Numbered.{tells_last}
use Rattle.store_admin.proofs.numbers.has_object_numbers.Goals as goal

pub returns-in-Ok-clause-carries : goal.returns-in-Ok-clause-carries
returns-in-Ok-clause-carries g c =
    let old = state g.S.Store c.args.tx.now.conn.now in
    let asks = c.in-Ok.ensures.asks in
    let none = c.is_none.ensures in
    let same = c.as_slice.ensures.value in
    record {
      stays = asks.stays;
      becomes = λ trust.
          let told = tells_last old.now.trees c.in-Ok.rows.items
          (asks.rows trust.clean trust.now) in
          (λ left. told.0 (sym same ∙ none.0 left), λ has. none.1 (same ∙ told.1 has));
      blames = λ trust id is. absurd is;
    }
