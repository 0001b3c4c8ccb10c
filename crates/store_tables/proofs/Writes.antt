-- What a write leaves, before its edit is followed.
use Rattle.std.proofs.Common.{◌≡◌, ℕ, ℤ, List, [], ◌∷◌, length, map, filter, Result, Ok, Err, None}
use Rattle.std.proofs.{Common.{inl, inr, ◌⊎◌, subst, if◌then◌else◌, arith}, lemmas.List.length-map}
use Rattle.std.{proofs.lemmas.Bool.Decides.nat_tests, specs.List.Sorted.IsPermutation}
use Rattle.sqlite.specs.{declared.types.Value.TheVariants.{Null, Int}, Program.overlay, Term.col}
use Rattle.sqlite.specs.{Order.Row, Tree.{Trees, has_rowid}, Command.TheVariants.Delete, Edit.Edit}
use Rattle.sqlite.specs.{Edit.edit_of, Rowids.TheVariants.Given, Does.Does, Rows.Edited}
use Rattle.sqlite.specs.{Effect.IsDatabase, Listing.understood, State.{State, mode_of, Executes}}
use Rattle.sqlite.{specs.State.Shows, proofs.Callers.{runs_as, statement_of}}
use Rattle.sqlite_rules.specs.Calls.{ids_of}
use Rattle.sqlite_schema.specs.declared.schema.{Keys.TheVariants.Enforced, Table.Table}
use Rattle.store_tables.{specs.Tables.{nodes, room_schema}, proofs.Texts.{delete_text, delete_is}}
use Rattle.store_tables.proofs.{Texts.{plain_texts, query_of, matches_parameter}, Answers.shows}
use Rattle.store_tables.proofs.{Answers.selected, Tests.passes_id}
use Rattle.room_entry.proofs.Facts.Lists.{filter_same}

-- a part that gave a value did not stop on the way
pub went : {B E R : Type 0} {b : B} {Stops : E → Type 0}
    → ((stop : E) × Stops stop × (Ok b ≡ Err stop)) ⊎ R → R
went (inl stopped) = absurd (cc)
went (inr on) = on

-- two Ok results that are equal have the same value
pub same_value : {B E : Type 0} {a b : B} → ◌≡◌ {A = Result B E} (Ok a) (Ok b) → a ≡ b
same_value e = cc

-- the table of nodes with its tree
abbrev pub nodes_table : Table
nodes_table = record nodes { tree = 0 }

-- the edit of a DELETE from `nodes`: the rows found go, and none is put in
abbrev pub delete_edit : Trees → List Row → Edit
delete_edit db rows = edit_of db nodes_table (ids_of rows) Given 0 []

-- which rows are taken out, and what the edit then leaves
pub record Deleted (id : ℤ) (old new : State) (count : ℕ) : Type 0 where
  pub rows : List Row
  pub found : IsPermutation
      (map (shows (col 1 0 ∷ []) (Int id ∷ [])) (filter (has_rowid id) (old.now.trees 0))) rows
  pub next : Trees
  pub edited : Edited room_schema Enforced old.now.trees (delete_edit old.now.trees rows) (Ok next)
  pub now : new.now ≡ record { schema = room_schema; trees = next }
  pub counted : count ≡ length rows
  pub sound : IsDatabase new.now
  pub shown : Shows old new new.now
      (if old.in_transaction then old.committed else new.now) old.in_transaction

-- a DELETE by number that answered a count: it took out the rows with that rowid
pub deleted : (id : ℤ) (old new : State) (count : ℕ) → old.now.schema ≡ room_schema
    → Executes delete_text (Int id ∷ []) old new (Ok count) → Deleted id old new count
deleted id old new count has h =
    let params = Int id ∷ [] in
    let command = Delete 0
    (record { lets = []; body = query_of 0 (matches_parameter 0 0 ∷ []) (col 1 0 ∷ []) [] }) in
    let w =
    runs_as delete_text params old new room_schema has command delete_is plain_texts.8 count h
    in
    let text = statement_of delete_text (understood room_schema delete_text) in
    let done = went
    (subst (λ s. Does old.step_limit (mode_of old) params
    (record old.now { schema = s }) text None command (Ok (w.tally, new.now))) has w.changed) in
    let asked = went done.1 in
    let did = went asked.2 in
    let found = selected Null 0 (matches_parameter 0 0 ∷ []) (col 1 0 ∷ []) []
    (overlay old.now.trees []) params asked.0 (asked.1.answer Null) in
    record {
      rows = asked.0;
      found =
          subst (λ l. IsPermutation (map (shows (col 1 0 ∷ []) params) l) asked.0)
          (filter_same _ _ (passes_id id) (old.now.trees 0)) found;
      next = did.0;
      edited = did.1;
      now = grind (arith, nat_tests);
      sound = w.sound;
      shown = w.shown;
      counted = grind (arith, nat_tests, length-map);
    }
