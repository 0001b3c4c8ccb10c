use Rattle.std.proofs.Common.{Ok, IfOk, subst}
use Rattle.sqlite.specs.Held.{state}
use Rattle.room_rows.specs.declared.keep.KeepFault.{KeepFault}
use Rattle.store_tables.specs.{Meaning.rows_of, Trust.IsTrusted}
use Rattle.store_schema.{specs.Migrating.IsMigrated, proofs.Moving.all_done}
use Rattle.store_schema.proofs.migrating.migrate_inside.Goals as goal

pub returns-in-Ok-expect_version-clause-inside : goal.returns-in-Ok-expect_version-clause-inside
returns-in-Ok-expect_version-clause-inside g c = λ inside.
    let begun = state g.S.Store c.args.tx.now.conn.now in
    let asked = state g.S.Store c.expect_version.new.tx.conn.now in
    let migrated = state g.S.Store c.migrate_rows_inside.new.tx.conn.now in
    let stamped = state g.S.Store c.update_version.new.tx.conn.now in
    let end = state g.S.Store c.expect_version-2.new.tx.conn.now in
    let becomes = subst (λ found. IsTrusted asked migrated
    → IfOk {E = KeepFault} (Ok found)
    (λ report. IsMigrated (rows_of asked.now) report (rows_of migrated.now)))
    c.in-Ok-Sound.field-0-is c.in-Ok-Sound.ensures.becomes in
    all_done begun inside asked c.in-Ok.ensures.expects migrated
    c.migrate_rows_inside.ensures.stays becomes
    stamped c.in-Ok-update_version.field-0 c.in-Ok-update_version.ensures.stamps
    c.spread_is_migrated.ensures end c.in-Ok-expect_version.ensures.expects
