use Rattle.std.proofs.Common.{◌≡◌, refl, rules, subst}
use Rattle.sqlite.specs.Held.{state}
use Rattle.store_schema.{specs.Opening.FailsByDisk, proofs.Ended.fails_back}
use Rattle.store_schema.proofs.adopting.read_version.Goals as goal

pub returns-clause-fails : goal.returns-clause-fails
returns-clause-fails g c =
    let s = g.S.Store in
    let answer = c.expect_version-answer in
    let end = c.rollback.new.self.0 in
    let same : end ≡ c.conn-1.given.0 = search rules in
    subst (λ h. FailsByDisk (state s c.args.conn.now) (state s h) answer.result) same
    (fails_back (state s c.args.conn.now) (state s c.transaction-tx.result.conn.now)
    (state s answer.new.tx.conn.now) (state s end) answer.result
    (rw (c.transaction-tx.ensures.begun, c.set_step_limit.ensures))
    (rw (c.transaction-tx.ensures.begun, c.set_step_limit.ensures) (record {
      faults = refl;
      limit = refl;
      rise = c.rollback.ensures.survives.counts;
    }))
    c.rollback.ensures.survives.clean c.rollback.ensures.undone answer.ensures.fails)
