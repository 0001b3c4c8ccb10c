use Rattle.std.proofs.Common.{◌≡◌, Ok, Err, ap, subst, ◌∙◌, not, rules}
use Rattle.sqlite.specs.Held.{state}
use Rattle.store_tables.proofs.Within.{settled_by}
use Rattle.store_schema.specs.{Migrating.Migrates, declared.fault.MigrateFault.TheVariants.Opening}
use Rattle.store_schema.proofs.{Ended.begins_by, Migrated.{committed, not_committed}}
use Rattle.store_schema.proofs.migrating.migrate.Goals as goal

pub returns-in-Ok-commit-clause-migrates : goal.returns-in-Ok-commit-clause-migrates
returns-in-Ok-commit-clause-migrates g c =
    let s = g.S.Store in
    let old = c.args.conn.now in
    let begun = c.transaction-tx.result.conn.now in
    let mid = c.migrate_inside.new.tx.conn.now in
    let end = c.commit.new.self.0 in
    let same : end ≡ c.conn-1.given.0 = search rules in
    let begins = begins_by s old begun c.transaction-tx.ensures.begun
    (c.is_autocommit-settled.ensures.settled
    (c.is_autocommit-settled.ensures.value ∙ ap not c.requires)) in
    let ran : Migrates (state s old) (state s end) (Ok tt) =
    committed (state s old) (state s begun) (state s mid) (state s end) begins
    (λ open'. (c.schema-schema.ensures.live open').0) c.commit.ensures.ended
    (c.in-Ok-migrate_inside.ensures.inside begins.mode) c.commit.ensures.survives
    (settled_by s end (g.met.S.Store.settled end.store) (g.met.S.Store.stays end.store))
    c.in-Ok-commit.ensures.ok in
    subst (λ h. Migrates (state s old) (state s h) (Ok tt)) same ran

pub returns-in-Err-commit-clause-migrates : goal.returns-in-Err-commit-clause-migrates
returns-in-Err-commit-clause-migrates g c =
    let s = g.S.Store in
    let old = c.args.conn.now in
    let begun = c.transaction-tx.result.conn.now in
    let mid = c.migrate_inside.new.tx.conn.now in
    let end = c.commit.new.self.0 in
    let same : end ≡ c.conn-1.given.0 = search rules in
    let begins = begins_by s old begun c.transaction-tx.ensures.begun
    (c.is_autocommit-settled.ensures.settled
    (c.is_autocommit-settled.ensures.value ∙ ap not c.requires)) in
    let ran : Migrates (state s old) (state s end) (Err (Opening c.failure_of.result)) =
    not_committed (state s old) (state s begun) (state s mid) (state s end) begins
    (λ open'. (c.schema-schema.ensures.live open').0) c.commit.ensures.ended
    (c.in-Ok-migrate_inside.ensures.inside begins.mode) c.commit.ensures.survives
    c.failure_of.result c.failure_of.ensures.failure c.in-Err-commit.error
    c.in-Err-commit.ensures.err in
    subst (λ h. Migrates (state s old) (state s h) (Err (Opening c.failure_of.result))) same ran
