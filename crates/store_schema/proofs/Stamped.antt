-- What writing the schema's number anew leaves.
use Rattle.std.proofs.Common.{rules, ◌≡◌, ◌≢◌, ℕ, ℤ, pos, suc, List, [], ◌∷◌, length, map, filter}
use Rattle.std.proofs.Common.{inl, Result, Some, Ok, Err, None, IsTrue, OnOk, refl, sym, ap, subst}
use Rattle.std.proofs.{Common.{◌∙◌, true, false, Bool, arith}, lemmas.List.append-nil}
use Rattle.std.{proofs.lemmas.{List.Elements.All-nil, Bool.Decides.nat_tests}, specs.Prelude.◌==◌}
use Rattle.std.specs.List.{AllByRecursion, Sorted.IsPermutation}
use Rattle.sqlite.specs.{Order.{Row, column}, Tree.{Trees, rowid}, Command.TheVariants.Update}
use Rattle.sqlite.specs.{Does.{Tally, Does}, Edit.{Edit, edit_of, taken_by, edited}}
use Rattle.sqlite.specs.{Effect.{Database, IsDatabase}, Listing.understood}
use Rattle.sqlite.specs.{Rowids.TheVariants.Given, Rows.Written, declared.error.Error.Error}
use Rattle.sqlite.specs.{declared.types.Value.TheVariants.{Int, Null}, State.{State, HasCleanDisk}}
use Rattle.sqlite.specs.{State.{mode_of, Executes, ExecutesInside}, Program.overlay}
use Rattle.sqlite.proofs.Callers.{runs_as, statement_of, one_step, one_permutation}
use Rattle.sqlite_rules.specs.{Action.works, Calls.ids_of, Lists.Has}
use Rattle.sqlite_rules.proofs.ListLemmas.{has_filtered}
use Rattle.sqlite_schema.specs.declared.schema.{Keys.TheVariants.Enforced, Table.Table}
use Rattle.sqlite_tied.specs.Compute.{everything}
use Rattle.store_tables.specs.{Meaning.{IsRecord, rows_of}, Shown.IsRoom, Tables.meta}
use Rattle.store_tables.{specs.{Tables.room_schema, Within.IsWithin}, proofs.Printed.keeps_same}
use Rattle.store_tables.proofs.{Rowids.of_each, Within.CommitsNothing, Writes.{went, same_value}}
use Rattle.store_schema.specs.{NewRoom.{meta_of, is_version}, Migrating.{RetainsOthers, Stamps}}
use Rattle.store_schema.proofs.{Answers.{passes, selected, shows}, Asked.passes_rooms}
use Rattle.store_schema.proofs.{Others.{int_of, one_version, others_stay}, Texts.is_rooms}
use Rattle.store_schema.proofs.Texts.{query_of, stamp_is, stamp_plain, stamp_terms, stamp_text}
use Rattle.store_schema.proofs.Within.{within_inside}
use Rattle.room_entry.proofs.Facts.Lists.{filter_same}

abbrev meta_table : Table
meta_table = record meta { tree = 5 }

abbrev stamp_edit : Trees → List Row → Edit
stamp_edit db rows = edit_of db meta_table (ids_of rows) Given 1 rows

not_none : (n : ℕ) → (suc n == 0) ≡ false
not_none n = grind (arith, nat_tests)

-- nothing refers to the table
stamp_alone : (olds news : List Row) → works room_schema Enforced 0 5 olds news ≡ []
unfolding everything
stamp_alone olds [] = refl
stamp_alone olds (r ∷ news) = let some = not_none (length news) in rw some refl

record Stamped (old new : State) : Type 0 where
  pub schema : new.now.schema ≡ room_schema
  pub sound : IsDatabase new.now
  pub rows : List Row
  pub found : IsPermutation
      (map (shows stamp_terms []) (filter (passes (is_rooms ∷ []) []) (old.now.trees 5))) rows
  pub meta : new.now.trees 5 ≡ edited old.now.trees (stamp_edit old.now.trees rows)
  pub others : AllByRecursion
      (λ (t : Table). t.tree ≢ 5 → new.now.trees t.tree ≡ old.now.trees t.tree) room_schema.tables

stamped : (old new : State) (count : ℕ) → old.now.schema ≡ room_schema
    → Executes stamp_text [] old new (Ok count) → Stamped old new
stamped old new count has h =
    let db = old.now.trees in
    let command = Update 3
    (record { lets = []; body = query_of 5 (is_rooms ∷ []) stamp_terms [] }) in
    let w = runs_as stamp_text [] old new room_schema has command stamp_is stamp_plain count h in
    let text = statement_of stamp_text (understood room_schema stamp_text) in
    let done = went
    (subst (λ s. Does old.step_limit (mode_of old) []
    (record old.now { schema = s }) text None command (Ok (w.tally, new.now))) has w.changed) in
    let asked = went done.1 in
    let did = went asked.2 in
    let last = same_value (went (went done.2).2).2 in
    let wrote : done.0 ≡ record {
      trees = did.0;
      rows = (stamp_edit db asked.0).news;
      last = None;
    } = search (rules, same_value, did.2) in
    let now : new.now ≡ record { schema = room_schema; trees = did.0 } =
    ap (λ (p : Tally × Database). p.1) last
    ∙ ap
    (λ (it : Written). let db : Database = record { schema = room_schema; trees = it.trees } in
    db) wrote in
    let none = stamp_alone (taken_by db (stamp_edit db asked.0)) (stamp_edit db asked.0).news in
    let applies = one_step room_schema Enforced db did.0 (stamp_edit db asked.0) none did.1 in
    record {
      schema = ap (λ (d : Database). d.schema) now;
      sound = w.sound;
      rows = asked.0;
      found =
          selected Null 5 (is_rooms ∷ []) stamp_terms [] (overlay db []) [] asked.0
          (asked.1.answer Null);
      meta = ap (λ (d : Database). d.trees 5) now ∙ applies.rows;
      others = grind (arith, nat_tests, db, now, applies.tables);
    }

same_rows : (old new : Database) → new.trees 0 ≡ old.trees 0 → new.trees 2 ≡ old.trees 2
    → new.trees 3 ≡ old.trees 3 → new.trees 7 ≡ old.trees 7 → rows_of new ≡ rows_of old
same_rows old new nodes bodies members audits = grind (arith, nat_tests)

stamp_keeps : (old new : State) (count : ℕ) → IsRoom old.now
    → Executes stamp_text [] old new (Ok count) → IsRoom new.now
    × (rows_of new.now ≡ rows_of old.now)
stamp_keeps old new count room h = grind (arith, nat_tests, same_rows, stamped)

stamp_others : (old new : State) (count : ℕ) → IsRoom old.now → (n : ℤ)
    → meta_of old.now ≡ Some n → Executes stamp_text [] old new (Ok count)
    → RetainsOthers old.now.trees new.now.trees
stamp_others old new count room n number h =
    let it = stamped old new count room.schema h in
    let one = one_version (old.now.trees 5) n number in
    let shown : it.rows ≡ shows stamp_terms [] one.0 ∷ [] = one_permutation _ it.rows
    (subst (λ l. IsPermutation (map (shows stamp_terms []) l) it.rows)
    (filter_same _ _ passes_rooms (old.now.trees 5) ∙ one.1) it.found) in
    let there = (has_filtered is_version (old.now.trees 5) one.0
    (subst (λ l. Has l one.0) (sym one.1) (inl refl))).0 in
    record {
      meta = λ shaped.
          let id = int_of (rowid one.0) (of_each _ (old.now.trees 5) shaped.1 one.0 there) in
          let rows : it.rows ≡ (Int id.0 ∷ Int id.0 ∷ column one.0 1 ∷ Int (pos 2) ∷ []) ∷ [] =
          shown ∙ ap (λ v. (v ∷ v ∷ column one.0 1 ∷ Int (pos 2) ∷ []) ∷ []) id.1 in
          search (rules, it.meta, old.now.trees, rows, others_stay, one.0, id.0, id.1, one.1);
      more = [];
      audits = search (rules, it.others.1.1.1.1.0, append-nil, old.now.trees);
      records = All-nil IsRecord;
      counters = it.others.1.1.1.1.1.0 (λ e. let e' : 8 ≡ 5 = e in omega (arith, e'));
      texts = keeps_same _ _ (it.others.0 (λ e. let e' : 0 ≡ 5 = e in omega (arith, e')));
    }

module _ (old new : State) (quiet : CommitsNothing old new) where
  pub stamps : (r : Result ℕ Error) (e : Error)
      → (old.in_transaction ≡ false → (r ≡ Err e) × IsWithin old new)
      → (HasCleanDisk new → IsTrue old.in_transaction → ExecutesInside 0 stamp_text [] old new r)
      → Stamps old new r
  stamps r e ended runs = go old.in_transaction refl
    where
      mode : (q : Result ℕ Error) → ExecutesInside 0 stamp_text [] old new q
          → OnOk q (new.in_transaction ≡ true)
      mode (Ok count) h = h.1.mode
      mode (Err x) h = tt

      keeps : (q : Result ℕ Error) → IsRoom old.now → ExecutesInside 0 stamp_text [] old new q
          → OnOk q (IsRoom new.now × (rows_of new.now ≡ rows_of old.now))
      keeps (Ok count) room h = stamp_keeps old new count room h.0
      keeps (Err x) room h = tt

      retains : (q : Result ℕ Error) → IsRoom old.now → (n : ℤ) → meta_of old.now ≡ Some n
          → ExecutesInside 0 stamp_text [] old new q
          → OnOk q (RetainsOthers old.now.trees new.now.trees)
      retains (Ok count) room n number h = stamp_others old new count room n number h.0
      retains (Err x) room n number h = tt

      go : (b : Bool) → old.in_transaction ≡ b → Stamps old new r
      go true is =
          record {
            within = within_inside old new quiet stamp_text [] r (λ now. runs now is);
            inside = λ now. mode r (runs now is);
            keeps = λ now room. keeps r room (runs now is);
            retains = λ now room n number. retains r room n number (runs now is);
          }
      go false is = search (rules, ended)
