use Rattle.std.proofs.Common.{refl}
use Rattle.sqlite.specs.Held.{Held, state}
use Rattle.store_tables.specs.{Meaning.rows_of, Within.IsSettled, Carries.NoTables}
use Rattle.room_machine.specs.{Run.Replaced, declared.reply.Reply.TheVariants.Done}
use Rattle.room_rows.specs.Rows.{Rows}
use Rattle.store_admin.specs.Operating.{ChangesPairsAlone, ReplacesMembers}
use Rattle.store_admin.specs.Changing.{ChangesMembers, ChangesTables, changed}
use Rattle.store_admin.specs.declared.changing.Changed.{Changed}
use Rattle.room_store.proofs.Exchanged.{as_replaced, changed_alone, changed_rows, was_replaced}
use Rattle.room_store.proofs.{Transact.{after, ran}, Turning.stands, Writing.writes}
use Rattle.room_store.proofs.store.Store.change_members.Goals as goal

pub returns : goal.returns
returns g c =
    let old = state g.S.Store c.self.inside.conn in
    let begun = state g.S.Store c.begin-tx.result.conn.now in
    let mid = state g.S.Store c.change_members-done.new.tx.conn.now in
    let last = state g.S.Store c.if_open-done.new.tx.conn.now in
    let end = state g.S.Store c.finish.new.tx.0 in
    let joins = c.args.joins.now in
    let leaves = c.args.leaves.now in
    let pairs = changed joins leaves (rows_of old.now).read.members in
    let tested = c.if_open-done in
    let left = c.finish in
    let begins = c.begin-tx.ensures.begun in
    let whole = stands begun mid last NoTables (ChangesTables joins leaves) tested.ensures.stays
    c.change_members-done.result tested.result c.change_members-done.ensures.carries
    tested.ensures.stands in
    let settled : (h : Held g.row.S.Denot) → IsSettled (state g.S.Store h) = λ h o. record {
      left = g.met.S.Store.stays h.store o;
      only = λ db l. g.met.S.Store.settled h.store db o l;
    } in
    let it = writes (λ _. ⊥) (λ before (answer : Changed) next. ReplacesMembers pairs before tt next)
    (λ _. Replaced pairs) (λ _. Done)
    (λ before next answer replaces sound.
    was_replaced c.sound_is_no_fault.ensures pairs before next tt replaces sound)
    old begun last end tested.result left.result begins
    (as_replaced joins leaves old begun last begins.now tested.result whole) tested.ensures.opens
    left.ensures.ended left.ensures.clean left.ensures.finishes left.ensures.crash
    (settled c.self.inside.conn) (settled left.new.tx.0) in
    let runs = ran old begun last end begins whole.stays left.ensures.ended left.ensures.clean
    (λ _. ⊥) (ChangesMembers joins leaves) tested.result left.result
    (changed_rows joins leaves begun last tested.result whole) left.ensures.finishes
    tested.ensures.opens left.ensures.crash (settled c.self.inside.conn) (settled left.new.tx.0) in
    let alone = after old begun last end begins whole.stays left.ensures.ended left.ensures.clean
    (λ db. ChangesPairsAlone old.now db) tested.result left.result
    (changed_alone joins leaves old begun last begins.now tested.result whole)
    left.ensures.finishes in
    rw (← c.self.view_is) (record {
      ran = runs;
      alone = alone;
      leads = it.leads;
      outlasts = it.outlasts;
      faults = refl;
    })
