-- What new bytes leave.
use Rattle.std.proofs.Common.{◌≡◌, ℕ, ℤ, List, [], ◌∷◌, Ok, None, IsTrue, refl, sym, ap, subst, ◌∙◌}
use Rattle.std.proofs.{Common.{if◌then◌else◌, arith}, lemmas.Bool.Decides.nat_tests}
use Rattle.sqlite.specs.declared.types.Value.TheVariants.{Null, Int, Blob}
use Rattle.sqlite.specs.{Command.TheVariants.Insert, Does.Does, Edit.{Edit, are_fresh, edit_of}}
use Rattle.sqlite.specs.{Edit.{is_taken, numbered, put_all}, Effect.IsDatabase, Listing.understood}
use Rattle.sqlite.specs.{Order.Row, Rowids.TheVariants.Chosen, Source.TheVariants.Values}
use Rattle.sqlite.specs.{State.{State, mode_of, Executes, Shows}, Tree.Trees}
use Rattle.sqlite.proofs.Callers.{one_step, runs_as, statement_of}
use Rattle.sqlite_rules.specs.Action.{works}
use Rattle.sqlite_schema.specs.declared.schema.Keys.TheVariants.{Enforced}
use Rattle.sqlite_trees.{specs.View.IsShaped, proofs.TreeLemmas.IsShaped-put_row}
use Rattle.store_tables.specs.{Shown.{Bodies, IsRoom, stored_body}, Tables.room_schema}
use Rattle.store_tables.proofs.{Actions.bodies_table, Calls.retains_by, Printed.keeps_same}
use Rattle.store_tables.proofs.{Executed.WritesRoom, Filled.{cast_body, one_off}}
use Rattle.store_tables.proofs.{Inserts.fresh_alone, Texts.{plain_put, put_is, put_text}}
use Rattle.store_tables.proofs.Writes.{same_value, went}
use Rattle.sqlite_trees.specs.declared.store.Shape.TheVariants as Shape

abbrev put_edit : Trees → List Row → Edit
put_edit db rows = edit_of db bodies_table [] Chosen 0 rows

pub record Bodied (id : ℤ) (bytes : List ℕ) (old new : State) : Type 0 where
  pub schema : new.now.schema ≡ room_schema
  pub sound : IsDatabase new.now
  pub puts : Bodies id bytes old.now.trees new.now.trees
  pub shown : Shows old new new.now
      (if old.in_transaction then old.committed else new.now) old.in_transaction

pub bodied : (id : ℤ) (bytes : List ℕ) (old new : State) (count : ℕ) → old.now.schema ≡ room_schema
    → Executes put_text (Int id ∷ Blob bytes ∷ []) old new (Ok count) → Bodied id bytes old new
bodied id bytes old new count has h =
    let params = Int id ∷ Blob bytes ∷ [] in
    let db = old.now.trees in
    let command = Insert 1
    (Values (Rattle.sqlite.specs.Term.col 0 0 ∷ Rattle.sqlite.specs.Term.lit Null
    ∷ Rattle.sqlite.specs.Term.col 0 1 ∷ []) 3) in
    let w = runs_as put_text params old new room_schema has command put_is plain_put count h in
    let text = statement_of put_text (understood room_schema put_text) in
    let done = went
    (subst (λ s. Does old.step_limit (mode_of old) params
    (record old.now { schema = s }) text None command (Ok (w.tally, new.now))) has w.changed) in
    let concluded = same_value (went (went done.2).2).2 in
    let given = went done.1 in
    let counter = went given.2 in
    let written = went counter.2 in
    let counted = went written.2 in
    let wrote = same_value counted.2 in
    let trees : done.0.trees ≡ written.0 = grind (arith, nat_tests, wrote, same_value, counted.1) in
    let source : given.0 ≡ stored_body id bytes ∷ [] = given.1.1 in
    let news = ap (λ l. (put_edit db l).news) source
    ∙ ap (λ r. numbered Chosen (db 2) (r ∷ [])) (cast_body id bytes) in
    let none = ap (works room_schema Enforced 0 2 []) news ∙ one_off [] (stored_body id bytes) in
    let applies = one_step room_schema Enforced db written.0 (put_edit db given.0) none written.1 in
    let at : (tree : ℕ) → new.now.trees tree ≡ written.0 tree = grind (arith, nat_tests, trees) in
    grind (arith, nat_tests, fresh_alone)

pub put_room : (id : ℤ) (bytes : List ℕ) (old new : State) → IsTrue old.in_transaction → (count : ℕ)
    → Executes put_text (Int id ∷ Blob bytes ∷ []) old new (Ok count) → IsRoom old.now
    → WritesRoom old new
put_room id bytes old new inside count h room =
    let d = bodied id bytes old new count room.schema h in (
      d.shown.committed_is ∙ ap (λ b. if b then old.committed else new.now) inside,
      record {
        schema = d.schema;
        sound = d.sound;
        nodes = subst (IsShaped Shape.Table) (sym d.puts.nodes) room.nodes;
        members = subst (IsShaped Shape.Table) (sym d.puts.members) room.members;
        audits = subst (IsShaped Shape.Table) (sym d.puts.audits) room.audits;
        bodies =
            subst (IsShaped Shape.Table) (sym d.puts.bodies)
            (IsShaped-put_row (stored_body id bytes) _ refl room.bodies);
      },
      d.shown.mode ∙ inside,
      retains_by _ _ d.puts.meta d.puts.audits d.puts.counters (keeps_same _ _ d.puts.nodes),
    )
