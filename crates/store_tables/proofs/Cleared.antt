-- What is left once bytes are taken out by their number.
use Rattle.std.proofs.Common.{rules, ◌≡◌, ℕ, ℤ, List, [], ◌∷◌, length, map, filter, Ok, None}
use Rattle.std.proofs.Common.{IsTrue, inl, inr, ◌⊎◌, sym, ap, subst, ◌∙◌, not, if◌then◌else◌, arith}
use Rattle.std.proofs.{Common.IsPermutation, lemmas.{List.length-map, Bool.Decides.nat_tests}}
use Rattle.sqlite.specs.{declared.types.Value.TheVariants.{Null, Int}, Command.TheVariants.Delete}
use Rattle.sqlite.specs.{Does.Does, Edit.{Edit, edit_of, edited, taken_by}, Effect.Database}
use Rattle.sqlite.specs.{Effect.IsDatabase, Listing.understood, Order.Row, Program.overlay}
use Rattle.sqlite.specs.{Rowids.TheVariants.Given, Rows.Edited, State.{State, mode_of, Executes}}
use Rattle.sqlite.specs.{State.Shows, Term.col, Tree.{Trees, has_rowid}}
use Rattle.sqlite.proofs.Callers.{one_permutation, one_step, runs_as, statement_of}
use Rattle.sqlite_rules.specs.Calls.{ids_of}
use Rattle.sqlite_schema.specs.declared.schema.Keys.TheVariants.{Enforced}
use Rattle.sqlite_trees.{specs.View.IsShaped, proofs.TreeLemmas.IsShaped-filter}
use Rattle.store_tables.specs.{Shown.{IsRoom, KeepsAll, RemovesBytes}, Tables.room_schema}
use Rattle.store_tables.proofs.{Actions.bodies_table, Answers.{selected, shows}, Calls.retains_by}
use Rattle.store_tables.proofs.{Executed.WritesRoom, Filled.none_off, Printed.keeps_same}
use Rattle.store_tables.proofs.Rowids.{alone_in, at_most_one, has_found, of_each, only_one}
use Rattle.store_tables.proofs.{Rowids.rowid_is, Tests.passes_id, Texts.{clear_is, clear_text}}
use Rattle.store_tables.proofs.{Texts.{matches_parameter, plain_clear, query_of}, Writes.same_value}
use Rattle.store_tables.proofs.Writes.{went}
use Rattle.room_entry.proofs.Facts.Lists.{filter_same}
use Rattle.sqlite_trees.specs.declared.store.Shape.TheVariants as Shape

-- the edit of a DELETE from `bodies`: the rows found go, and none is put in
abbrev clear_edit : Trees → List Row → Edit
clear_edit db rows = edit_of db bodies_table (ids_of rows) Given 0 []

-- which rows are taken out, and what the edit then leaves
pub record Cleared (id : ℤ) (old new : State) (count : ℕ) : Type 0 where
  pub rows : List Row
  pub found : IsPermutation
      (map (shows (col 1 0 ∷ []) (Int id ∷ [])) (filter (has_rowid id) (old.now.trees 2))) rows
  pub next : Trees
  pub edited : Edited room_schema Enforced old.now.trees (clear_edit old.now.trees rows) (Ok next)
  pub now : new.now ≡ record { schema = room_schema; trees = next }
  pub counted : count ≡ length rows
  pub sound : IsDatabase new.now
  pub shown : Shows old new new.now
      (if old.in_transaction then old.committed else new.now) old.in_transaction

-- a DELETE by number that answered a count: it took out the rows with that rowid
pub cleared : (id : ℤ) (old new : State) (count : ℕ) → old.now.schema ≡ room_schema
    → Executes clear_text (Int id ∷ []) old new (Ok count) → Cleared id old new count
cleared id old new count has h =
    let params = Int id ∷ [] in
    let db = old.now.trees in
    let command = Delete 1
    (record { lets = []; body = query_of 2 (matches_parameter 0 0 ∷ []) (col 1 0 ∷ []) [] }) in
    let w = runs_as clear_text params old new room_schema has command clear_is plain_clear count h in
    let text = statement_of clear_text (understood room_schema clear_text) in
    let done = went
    (subst (λ s. Does old.step_limit (mode_of old) params
    (record old.now { schema = s }) text None command (Ok (w.tally, new.now))) has w.changed) in
    let asked = went done.1 in
    let did = went asked.2 in
    let last = same_value (went (went done.2).2).2 in
    let wrote : done.0 ≡ record {
      trees = did.0;
      rows = taken_by db (clear_edit db asked.0);
      last = None;
    } = search (rules, same_value, did.2) in
    let found = selected Null 2 (matches_parameter 0 0 ∷ []) (col 1 0 ∷ []) []
    (overlay db []) params asked.0 (asked.1.answer Null) in
    record {
      rows = asked.0;
      found =
          subst (λ l. IsPermutation (map (shows (col 1 0 ∷ []) params) l) asked.0)
          (filter_same _ _ (passes_id id) (db 2)) found;
      next = did.0;
      edited = did.1;
      now = grind (arith, nat_tests, last, wrote);
      sound = w.sound;
      shown = w.shown;
      counted = grind (arith, nat_tests, w.counted, last, wrote, length-map);
    }

-- what the edit leaves of the trees
record Left (old new : State) (rows : List Row) : Type 0 where
  pub nodes : new.now.trees 0 ≡ old.now.trees 0
  pub bodies : new.now.trees 2 ≡ edited old.now.trees (clear_edit old.now.trees rows)
  pub members : new.now.trees 3 ≡ old.now.trees 3
  pub meta : new.now.trees 5 ≡ old.now.trees 5
  pub audits : new.now.trees 7 ≡ old.now.trees 7
  pub counters : new.now.trees 8 ≡ old.now.trees 8

left : (id : ℤ) (old new : State) (count : ℕ) (d : Cleared id old new count) → Left old new d.rows
left id old new count d =
    let edit = clear_edit old.now.trees d.rows in
    let applies = one_step room_schema Enforced old.now.trees d.next edit
    (none_off (taken_by old.now.trees edit)) d.edited in
    let at : (tree : ℕ) → new.now.trees tree ≡ d.next tree = search rules in
    record {
      bodies = at 2 ∙ applies.rows;
      nodes = at 0 ∙ applies.tables.0 (λ e. let e' : 0 ≡ 2 = e in omega (arith, e'));
      members = at 3 ∙ applies.tables.1.1.0 (λ e. let e' : 3 ≡ 2 = e in omega (arith, e'));
      meta = at 5 ∙ applies.tables.1.1.1.0 (λ e. let e' : 5 ≡ 2 = e in omega (arith, e'));
      audits = at 7 ∙ applies.tables.1.1.1.1.0 (λ e. let e' : 7 ≡ 2 = e in omega (arith, e'));
      counters = at 8 ∙ applies.tables.1.1.1.1.1.0 (λ e. let e' : 8 ≡ 2 = e in omega (arith, e'));
    }

pub clears : (id : ℤ) (old new : State) (count : ℕ) → IsRoom old.now → Cleared id old new count
    → ((count ≡ 0) × KeepsAll old.now.trees new.now.trees)
    ⊎ RemovesBytes id old.now.trees new.now.trees
clears id old new count room d = go (at_most_one id (old.now.trees 2) room.bodies.0)
  where
    go : ((filter (has_rowid id) (old.now.trees 2) ≡ [])
        ⊎ ((r : Row) × (filter (has_rowid id) (old.now.trees 2) ≡ r ∷ [])))
        → ((count ≡ 0) × KeepsAll old.now.trees new.now.trees)
        ⊎ RemovesBytes id old.now.trees new.now.trees
    go (inl none) =
        let rows = alone_in d.rows (search (rules, shows, d.rows, d.found)) in
        let it = left id old new count d in
        inl (
          d.counted ∙ ap length rows,
          record {
            nodes = it.nodes;
            bodies = search (rules, it.bodies, old.now.trees, rows);
            members = it.members;
            meta = it.meta;
            audits = it.audits;
            counters = it.counters;
          },
        )
    go (inr (r, one)) =
        let there = only_one (has_rowid id) (old.now.trees 2) r one in
        let is = rowid_is id r
        (of_each _ (old.now.trees 2) room.bodies.1 r
        (has_found (has_rowid id) (old.now.trees 2) r there.0)) there.1 in
        let rows = one_permutation _ d.rows (search (rules, shows, d.rows, d.found)) in
        let rows' : d.rows ≡ (Int id ∷ []) ∷ [] = rows ∙ ap (λ v. (v ∷ []) ∷ []) is in
        let it = left id old new count d in
        inr (record {
          nodes = it.nodes;
          bodies = search (rules, it.bodies, old.now.trees, rows');
          members = it.members;
          meta = it.meta;
          audits = it.audits;
          counters = it.counters;
        })

-- the tables are still rooms tables, and nothing is committed
pub clear_room : (id : ℤ) (old new : State) → IsTrue old.in_transaction → (count : ℕ)
    → Executes clear_text (Int id ∷ []) old new (Ok count) → IsRoom old.now → WritesRoom old new
clear_room id old new inside count h room =
    let d = cleared id old new count room.schema h in
    let it = left id old new count d in (
      d.shown.committed_is ∙ ap (λ b. if b then old.committed else new.now) inside,
      record {
        schema = ap (λ (db : Database). db.schema) d.now;
        sound = d.sound;
        nodes = subst (IsShaped Shape.Table) (sym it.nodes) room.nodes;
        members = subst (IsShaped Shape.Table) (sym it.members) room.members;
        audits = subst (IsShaped Shape.Table) (sym it.audits) room.audits;
        bodies = elim (clears id old new count room d) [
          | inl same ↦ subst (IsShaped Shape.Table) (sym same.1.bodies) room.bodies
          | inr gone ↦
              subst (IsShaped Shape.Table) (sym gone.bodies)
              (IsShaped-filter Shape.Table (λ r. not (has_rowid id r)) _ room.bodies)
        ];
      },
      d.shown.mode ∙ inside,
      retains_by _ _ it.meta it.audits it.counters (keeps_same _ _ it.nodes),
    )

-- one row was deleted
pub clear_one : (id : ℤ) (old new : State) (count : ℕ) → IsRoom old.now
    → Executes clear_text (Int id ∷ []) old new (Ok count) → count ≡ 1
    → RemovesBytes id old.now.trees new.now.trees
clear_one id old new count room h one = grind (arith, nat_tests, cleared, clears)
