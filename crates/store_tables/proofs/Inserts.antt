-- What a new row leaves.
use Rattle.std.proofs.Common.{◌≡◌, ℕ, List, [], ◌∷◌, Ok, None, IsTrue, refl, sym, ap, subst, ◌∙◌}
use Rattle.std.proofs.{Common.{true, false, if◌then◌else◌, arith}, lemmas.Bool.Decides.nat_tests}
use Rattle.sqlite.specs.{declared.types.Value.TheVariants.Null, Order.Row, Cast.cast_row}
use Rattle.sqlite.specs.{Tree.{Trees, rowid, put_row}, Command.TheVariants.Insert}
use Rattle.sqlite.specs.{Source.TheVariants.Values, Edit.{Edit, edit_of, taken_by, edited}}
use Rattle.sqlite.specs.{Edit.{next_rowid, is_taken, are_fresh}, Rowids.TheVariants.Chosen}
use Rattle.sqlite.specs.{Does.Does, Effect.IsDatabase, Listing.understood, State.{State, mode_of}}
use Rattle.sqlite.{specs.State.{Executes, Shows}, proofs.Callers.{runs_as, statement_of, one_step}}
use Rattle.sqlite_schema.specs.declared.schema.Keys.TheVariants.{Enforced}
use Rattle.sqlite_trees.{specs.View.IsShaped, proofs.TreeLemmas.IsShaped-put_row}
use Rattle.sqlite_rules.specs.Action.{works}
use Rattle.sqlite_tied.specs.Compute.{everything}
use Rattle.store_tables.specs.{Tables.room_schema, Shown.{IsRoom, AddsRow, stored_node}}
use Rattle.store_tables.{specs.Printed.{IsCanonical, KeepsPrinted}, proofs.Texts.insert_text}
use Rattle.store_tables.proofs.{Texts.{insert_is, insert_terms, plain_texts}, Writes.went}
use Rattle.store_tables.proofs.{Writes.{same_value, nodes_table}, Printed.{by_cell, keeps_itself}}
use Rattle.store_tables.proofs.{Printed.{keeps_more, printed_text}, Calls.retains_by}
use Rattle.store_tables.proofs.{Executed.WritesRoom, Updates.{Columns, values, cast_null, cast_int}}
use Rattle.sqlite_trees.specs.declared.store.Shape.TheVariants as Shape

abbrev insert_edit : Trees → List Row → Edit
insert_edit db rows = edit_of db nodes_table [] Chosen 0 rows

-- the new row before its number is chosen
cast_new : (c : Columns) → cast_row nodes_table (Null ∷ Null ∷ values c) ≡ Null ∷ Null ∷ values c
cast_new c = search (cast_int, cast_null)

-- where one row is put in and its number is fresh, no row of the table has that number
pub fresh_alone : (rows : List Row) (r : Row) → are_fresh rows (r ∷ []) ≡ true
    → is_taken rows r ≡ false
fresh_alone rows r h = grind (arith, nat_tests)

pub new_sets_off_nothing : (r : Row) → works room_schema Enforced 0 0 [] (r ∷ []) ≡ []
unfolding everything
new_sets_off_nothing r = refl

-- what the INSERT of an object leaves: one more row of `nodes`, with the next number
pub record Inserted (c : Columns) (old new : State) : Type 0 where
  pub schema : new.now.schema ≡ room_schema
  pub sound : IsDatabase new.now
  pub adds : AddsRow (next_rowid (old.now.trees 0)) (values c) old.now.trees new.now.trees
  pub last : new.last_rowid ≡ next_rowid (old.now.trees 0)
  pub shown : Shows old new new.now
      (if old.in_transaction then old.committed else new.now) old.in_transaction

-- an INSERT into `nodes` that answered a count put in one row, with the next number
pub inserted : (c : Columns) (old new : State) (count : ℕ) → old.now.schema ≡ room_schema
    → Executes insert_text (values c) old new (Ok count) → Inserted c old new
inserted c old new count has h =
    let params = values c in
    let db = old.now.trees in
    let command = Insert 0 (Values insert_terms 13) in
    let w =
    runs_as insert_text params old new room_schema has command insert_is plain_texts.7 count h
    in
    let text = statement_of insert_text (understood room_schema insert_text) in
    let done = went
    (subst (λ s. Does old.step_limit (mode_of old) params
    (record old.now { schema = s }) text None command (Ok (w.tally, new.now))) has w.changed) in
    let given = went done.1 in
    let counter = went given.2 in
    let written = went counter.2 in
    let counted = went written.2 in
    let wrote = same_value counted.2 in
    let trees : done.0.trees ≡ written.0 = grind (arith, nat_tests, wrote, same_value, counted.1) in
    let source : given.0 ≡ (Null ∷ Null ∷ values c) ∷ [] = given.1.1 in
    let news = ap (λ l. (insert_edit db l).news) source
    ∙ ap (λ r. Rattle.sqlite.specs.Edit.numbered Chosen (db 0) (r ∷ [])) (cast_new c) in
    let none = ap (works room_schema Enforced 0 0 []) news
    ∙ new_sets_off_nothing (stored_node (next_rowid (db 0)) (values c)) in
    let applies = one_step room_schema Enforced db written.0
    (insert_edit db given.0) none written.1 in
    let at : (tree : ℕ) → new.now.trees tree ≡ written.0 tree = grind (arith, nat_tests, trees) in
    grind (arith, nat_tests, fresh_alone, values)

-- the texts of its lists are printed
pub record ListsPrinted (c : Columns) : Type 0 where
  pub dacl_own : IsCanonical c.dacl_own
  pub dacl_inh : IsCanonical c.dacl_inh
  pub sacl_own : IsCanonical c.sacl_own
  pub sacl_inh : IsCanonical c.sacl_inh

-- inside a transaction, an INSERT into `nodes` leaves the tables of a room and commits nothing
pub insert_room : (c : Columns) → ListsPrinted c → (old new : State) → IsTrue old.in_transaction
    → (count : ℕ) → Executes insert_text (values c) old new (Ok count) → IsRoom old.now
    → WritesRoom old new
insert_room c printed old new inside count h room =
    let d = inserted c old new count room.schema h in (
      d.shown.committed_is ∙ ap (λ b. if b then old.committed else new.now) inside,
      record {
        schema = d.schema;
        sound = d.sound;
        members = subst (IsShaped Shape.Table) (sym d.adds.members) room.members;
        audits = subst (IsShaped Shape.Table) (sym d.adds.audits) room.audits;
        nodes =
            subst (IsShaped Shape.Table) (sym d.adds.nodes)
            (IsShaped-put_row (stored_node (next_rowid (old.now.trees 0)) (values c)) _ refl
            room.nodes);
        bodies = subst (IsShaped Shape.Table) (sym d.adds.bodies) room.bodies;
      },
      d.shown.mode ∙ inside,
      retains_by _ _ d.adds.meta d.adds.audits d.adds.counters
          (subst (KeepsPrinted (old.now.trees 0)) (sym d.adds.nodes)
          (keeps_more (stored_node (next_rowid (old.now.trees 0)) (values c)) (old.now.trees 0)
          (old.now.trees 0) (keeps_itself (old.now.trees 0))
          (grind (arith, nat_tests, by_cell, printed_text)))),
    )
