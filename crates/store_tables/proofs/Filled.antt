-- What bytes that are written by their number leave.
use Rattle.std.proofs.Common.{rules, ◌≡◌, ℕ, ℤ, List, [], ◌∷◌, length, map, filter, Ok, None}
use Rattle.std.proofs.Common.{IsTrue, inl, inr, ◌⊎◌, refl, sym, ap, subst, ◌∙◌, not, if◌then◌else◌}
use Rattle.std.proofs.{Common.{arith, IsPermutation}, lemmas.Bool.Decides.nat_tests}
use Rattle.sqlite.specs.{declared.types.Value.TheVariants.{Null, Int, Blob}, Order.Row}
use Rattle.sqlite.specs.{Cast.cast_row, Command.TheVariants.Update, Does.Does, Edit.{Edit, edit_of}}
use Rattle.sqlite.specs.{Edit.{edited, taken_by}, Effect.{Database, IsDatabase}, Listing.understood}
use Rattle.sqlite.specs.{Program.overlay, Rowids.TheVariants.Given, Rows.Edited, State.State}
use Rattle.sqlite.specs.{State.{mode_of, Executes, Shows}, Tree.{Trees, has_rowid, without_rowid}}
use Rattle.sqlite.{specs.Tree.put_row, proofs.Callers.{one_permutation, one_step, runs_as}}
use Rattle.sqlite.proofs.Callers.{statement_of}
use Rattle.sqlite_rules.specs.{Action.works, Calls.ids_of}
use Rattle.sqlite_schema.specs.declared.schema.Keys.TheVariants.{Enforced}
use Rattle.sqlite_tied.specs.Compute.{everything}
use Rattle.sqlite_trees.{specs.View.IsShaped, proofs.TreeLemmas.{IsShaped-filter, IsShaped-put_row}}
use Rattle.store_tables.specs.{Shown.{Fills, IsRoom, KeepsAll, stored_body}, Tables.room_schema}
use Rattle.store_tables.proofs.{Actions.bodies_table, Answers.{selected, shows}, Calls.retains_by}
use Rattle.store_tables.proofs.{Printed.keeps_same, Executed.WritesRoom, Rowids.alone_in}
use Rattle.store_tables.proofs.Rowids.{at_most_one, has_found, of_each, only_one, rowid_is}
use Rattle.store_tables.proofs.{Tests.passes_id, Texts.{fill_is, fill_terms, fill_text}}
use Rattle.store_tables.proofs.{Texts.{matches_parameter, plain_fill, query_of}, Updates.cast_int}
use Rattle.store_tables.proofs.{Updates.cast_null, Writes.{same_value, went}}
use Rattle.room_entry.proofs.Facts.Lists.{filter_same}
use Rattle.sqlite_trees.specs.declared.store.Shape.TheVariants as Shape

pub cast_body : (id : ℤ) (bytes : List ℕ)
    → cast_row bodies_table (stored_body id bytes) ≡ stored_body id bytes
cast_body id bytes = rw (cast_int id, cast_null) refl

abbrev fill_edit : Trees → List Row → Edit
fill_edit db rows = edit_of db bodies_table (ids_of rows) Given 1 rows

-- nothing refers to bytes
pub none_off : (olds : List Row) → works room_schema Enforced 0 2 olds [] ≡ []
unfolding everything
none_off olds = refl

pub one_off : (olds : List Row) (r : Row) → works room_schema Enforced 0 2 olds (r ∷ []) ≡ []
unfolding everything
one_off olds r = refl

pub record Filled (id : ℤ) (bytes : List ℕ) (old new : State) (count : ℕ) : Type 0 where
  pub rows : List Row
  pub found : IsPermutation
      (map (shows fill_terms (Int id ∷ Blob bytes ∷ [])) (filter (has_rowid id) (old.now.trees 2)))
      rows
  pub next : Trees
  pub edited : Edited room_schema Enforced old.now.trees (fill_edit old.now.trees rows) (Ok next)
  pub now : new.now ≡ record { schema = room_schema; trees = next }
  pub sound : IsDatabase new.now
  pub counted : count ≡ length (fill_edit old.now.trees rows).news
  pub shown : Shows old new new.now
      (if old.in_transaction then old.committed else new.now) old.in_transaction

pub filled : (id : ℤ) (bytes : List ℕ) (old new : State) (count : ℕ) → old.now.schema ≡ room_schema
    → Executes fill_text (Int id ∷ Blob bytes ∷ []) old new (Ok count)
    → Filled id bytes old new count
filled id bytes old new count has h =
    let params = Int id ∷ Blob bytes ∷ [] in
    let db = old.now.trees in
    let command = Update 1
    (record { lets = []; body = query_of 2 (matches_parameter 0 0 ∷ []) fill_terms [] }) in
    let w = runs_as fill_text params old new room_schema has command fill_is plain_fill count h in
    let text = statement_of fill_text (understood room_schema fill_text) in
    let done = went
    (subst (λ s. Does old.step_limit (mode_of old) params
    (record old.now { schema = s }) text None command (Ok (w.tally, new.now))) has w.changed) in
    let asked = went done.1 in
    let did = went asked.2 in
    let last = same_value (went (went done.2).2).2 in
    let wrote : done.0 ≡ record { trees = did.0; rows = (fill_edit db asked.0).news; last = None } =
    same_value did.2 in
    let found = selected Null 2 (matches_parameter 0 0 ∷ []) fill_terms []
    (overlay db []) params asked.0 (asked.1.answer Null) in
    let now : new.now ≡ record { schema = room_schema; trees = did.0 } =
    grind (arith, nat_tests, last, wrote) in
    record {
      rows = asked.0;
      found =
          subst (λ l. IsPermutation (map (shows fill_terms params) l) asked.0)
          (filter_same _ _ (passes_id id) (db 2)) found;
      next = did.0;
      edited = did.1;
      now = now;
      sound = w.sound;
      counted = grind (arith, nat_tests, w.counted, last, wrote);
      shown = w.shown;
    }

-- what the edit leaves of the trees
record Left (old new : State) (rows : List Row) : Type 0 where
  pub nodes : new.now.trees 0 ≡ old.now.trees 0
  pub bodies : new.now.trees 2 ≡ edited old.now.trees (fill_edit old.now.trees rows)
  pub members : new.now.trees 3 ≡ old.now.trees 3
  pub meta : new.now.trees 5 ≡ old.now.trees 5
  pub audits : new.now.trees 7 ≡ old.now.trees 7
  pub counters : new.now.trees 8 ≡ old.now.trees 8

left : (id : ℤ) (bytes : List ℕ) (old new : State) (count : ℕ) (d : Filled id bytes old new count)
    → works room_schema Enforced 0 2 (taken_by old.now.trees (fill_edit old.now.trees d.rows))
    (fill_edit old.now.trees d.rows).news ≡ [] → Left old new d.rows
left id bytes old new count d none =
    let applies = one_step room_schema Enforced old.now.trees d.next
    (fill_edit old.now.trees d.rows) none d.edited in
    let at : (tree : ℕ) → new.now.trees tree ≡ d.next tree = search rules in
    record {
      bodies = at 2 ∙ applies.rows;
      nodes = at 0 ∙ applies.tables.0 (λ e. let e' : 0 ≡ 2 = e in omega (arith, e'));
      members = at 3 ∙ applies.tables.1.1.0 (λ e. let e' : 3 ≡ 2 = e in omega (arith, e'));
      meta = at 5 ∙ applies.tables.1.1.1.0 (λ e. let e' : 5 ≡ 2 = e in omega (arith, e'));
      audits = at 7 ∙ applies.tables.1.1.1.1.0 (λ e. let e' : 7 ≡ 2 = e in omega (arith, e'));
      counters = at 8 ∙ applies.tables.1.1.1.1.1.0 (λ e. let e' : 8 ≡ 2 = e in omega (arith, e'));
    }

pub fills : (id : ℤ) (bytes : List ℕ) (old new : State) (count : ℕ) → IsRoom old.now
    → Filled id bytes old new count → ((count ≡ 0) × KeepsAll old.now.trees new.now.trees)
    ⊎ Fills id bytes old.now.trees new.now.trees
fills id bytes old new count room d = go (at_most_one id (old.now.trees 2) room.bodies.0)
  where
    go : ((filter (has_rowid id) (old.now.trees 2) ≡ [])
        ⊎ ((r : Row) × (filter (has_rowid id) (old.now.trees 2) ≡ r ∷ [])))
        → ((count ≡ 0) × KeepsAll old.now.trees new.now.trees)
        ⊎ Fills id bytes old.now.trees new.now.trees
    go (inl none) =
        let rows = alone_in d.rows
        (subst (λ l. IsPermutation (map (shows fill_terms (Int id ∷ Blob bytes ∷ [])) l) d.rows)
        none d.found) in
        let db = old.now.trees in
        let it = left id bytes old new count d
        (ap (λ l. works room_schema Enforced 0 2 (taken_by db (fill_edit db l))
        (fill_edit db l).news) rows ∙ none_off []) in
        inl (
          d.counted ∙ ap (λ l. length (fill_edit db l).news) rows,
          record {
            nodes = it.nodes;
            bodies = it.bodies ∙ ap (λ l. edited db (fill_edit db l)) rows;
            members = it.members;
            meta = it.meta;
            audits = it.audits;
            counters = it.counters;
          },
        )
    go (inr (r, one)) =
        let there = only_one (has_rowid id) (old.now.trees 2) r one in
        let is = rowid_is id r
        (of_each _ (old.now.trees 2) room.bodies.1 r
        (has_found (has_rowid id) (old.now.trees 2) r there.0)) there.1 in
        let rows = one_permutation _ d.rows
        (subst (λ l. IsPermutation (map (shows fill_terms (Int id ∷ Blob bytes ∷ [])) l) d.rows)
        one d.found) in
        let rows' : d.rows ≡ (Int id ∷ stored_body id bytes) ∷ [] = rows
        ∙ ap (λ v. (v ∷ v ∷ Null ∷ Blob bytes ∷ []) ∷ []) is in
        let db = old.now.trees in
        let news : (fill_edit db d.rows).news ≡ stored_body id bytes ∷ [] = ap
        (λ l. (fill_edit db l).news) rows' ∙ ap (λ r. r ∷ []) (cast_body id bytes) in
        let it = left id bytes old new count d
        (ap (works room_schema Enforced 0 2 (taken_by db (fill_edit db d.rows))) news
        ∙ one_off (taken_by db (fill_edit db d.rows)) (stored_body id bytes)) in
        inr (record {
          nodes = it.nodes;
          bodies =
              it.bodies ∙ ap (λ l. edited old.now.trees (fill_edit old.now.trees l)) rows'
              ∙ ap (λ r. put_row r (without_rowid id (old.now.trees 2))) (cast_body id bytes);
          members = it.members;
          meta = it.meta;
          audits = it.audits;
          counters = it.counters;
        })

pub fill_room : (id : ℤ) (bytes : List ℕ) (old new : State) → IsTrue old.in_transaction
    → (count : ℕ) → Executes fill_text (Int id ∷ Blob bytes ∷ []) old new (Ok count)
    → IsRoom old.now → WritesRoom old new
fill_room id bytes old new inside count h room =
    let d = filled id bytes old new count room.schema h in (
      d.shown.committed_is ∙ ap (λ b. if b then old.committed else new.now) inside,
      elim (fills id bytes old new count room d) [
        | inl same ↦ record {
          schema = ap (λ (db : Database). db.schema) d.now;
          sound = d.sound;
          nodes = subst (IsShaped Shape.Table) (sym same.1.nodes) room.nodes;
          bodies = subst (IsShaped Shape.Table) (sym same.1.bodies) room.bodies;
          members = subst (IsShaped Shape.Table) (sym same.1.members) room.members;
          audits = subst (IsShaped Shape.Table) (sym same.1.audits) room.audits;
        }
        | inr put ↦ record {
          schema = ap (λ (db : Database). db.schema) d.now;
          sound = d.sound;
          nodes = subst (IsShaped Shape.Table) (sym put.nodes) room.nodes;
          members = subst (IsShaped Shape.Table) (sym put.members) room.members;
          audits = subst (IsShaped Shape.Table) (sym put.audits) room.audits;
          bodies =
              subst (IsShaped Shape.Table) (sym put.bodies)
              (IsShaped-put_row (stored_body id bytes) _ refl
              (IsShaped-filter Shape.Table (λ r. not (has_rowid id r)) _ room.bodies));
        }
      ],
      d.shown.mode ∙ inside,
      elim (fills id bytes old new count room d) [
        | inl same ↦ retains_by _ _ same.1.meta same.1.audits same.1.counters (keeps_same _ _ same.1.nodes)
        | inr put ↦
            retains_by _ _ put.meta put.audits put.counters (keeps_same _ _ put.nodes)
      ],
    )

pub fill_one : (id : ℤ) (bytes : List ℕ) (old new : State) (count : ℕ) → IsRoom old.now
    → Executes fill_text (Int id ∷ Blob bytes ∷ []) old new (Ok count) → count ≡ 1
    → Fills id bytes old.now.trees new.now.trees
fill_one id bytes old new count room h one = grind (arith, nat_tests, filled, fills)
