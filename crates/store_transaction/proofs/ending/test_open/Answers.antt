use Rattle.std.proofs.Common.{sym, ◌∙◌}
use Rattle.sqlite.specs.Held.{state}
use Rattle.store_transaction.proofs.Testing.{failed}
use Rattle.store_transaction.proofs.ending.test_open.Goals as goal

pub returns-in-Err-clause-carries : goal.returns-in-Err-clause-carries
returns-in-Err-clause-carries g c =
    let old = state g.S.Store c.args.tx.now.conn.now in
    let new = state g.S.Store c.prepare.new.self.conn.now in
    record {
      stays = failed _ old new c.prepare.ensures.survives _ c.in-Err.ensures.err;
      becomes = λ _. tt;
      blames = λ _ id is. absurd (let e = sym c.fault_for.ensures.unblamed ∙ is in cc);
    }
