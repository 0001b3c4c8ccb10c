-- What the first rows leave.
use Rattle.std.proofs.Common.{◌≡◌, ◌≢◌, ℕ, ℤ, pos, List, [], ◌∷◌, codes, map, filter, Option, Ok}
use Rattle.std.proofs.Common.{None, Some, IsTrue, refl, sym, ap, subst, ◌∙◌, arith}
use Rattle.sqlite.specs.{declared.types.Value.TheVariants.{Null, Int, Text}, Order.{Row, column}}
use Rattle.sqlite.specs.{Order.value_cmp, Cast.cast_row, Tree.{Trees, put_row}}
use Rattle.sqlite.specs.{Command.TheVariants.Insert, Source.TheVariants.Values, Edit.Edit}
use Rattle.sqlite.specs.{Edit.{edit_of, next_rowid, put_all}, Rowids.TheVariants.Chosen, Does.Tally}
use Rattle.sqlite.specs.{Does.Does, Effect.{Database, IsDatabase}, Listing.understood}
use Rattle.sqlite.specs.State.{State, mode_of, Executes}
use Rattle.sqlite_schema.specs.declared.schema.{Keys.TheVariants.Enforced, Table.Table}
use Rattle.sqlite.proofs.Callers.{runs_as, statement_of, one_step}
use Rattle.sqlite_rules.specs.Action.{works}
use Rattle.sqlite_tied.specs.Compute.{everything}
use Rattle.sqlite_trees.specs.View.{IsShaped}
use Rattle.room_entry.specs.{Names.is_name, Utf8.is_utf8, declared.parties.Owners.Owners}
use Rattle.store_tables.specs.{Tables.{meta, nodes, room_schema}, Printed.ArePrinted}
use Rattle.store_schema.specs.{Making.{HasEmpty, IsBare}, NewRoom.{IsNewRoom, is_version}}
use Rattle.store_schema.specs.NewRoom.{number_shown}
use Rattle.store_schema.proofs.Meant.{owner_line, room_read, root_printed, root_row}
use Rattle.store_schema.proofs.Texts.{version_text, version_terms, version_is, version_plain}
use Rattle.store_schema.proofs.Texts.{folder_text, folder_terms, folder_is, folder_plain}
use Rattle.store_tables.proofs.{Inserts.new_sets_off_nothing, Updates.{cast_null, cast_int}}
use Rattle.store_tables.proofs.Writes.{went, same_value}
use Rattle.sqlite_trees.specs.declared.store.Shape.TheVariants as Shape

-- ---- the schema's number

abbrev meta_table : Table
meta_table = record meta { tree = 5 }

abbrev version_cells : Row
version_cells = Text (codes "rooms") ∷ Int (pos 2) ∷ []

cast_version : cast_row meta_table (Null ∷ version_cells) ≡ Null ∷ version_cells
cast_version = rw (cast_null, cast_int (pos 2)) refl

-- what is written is what is asked for
version_told : number_shown
    (map (λ r. column r 2 ∷ []) (filter is_version ((Int (pos 1) ∷ version_cells) ∷ [])))
    ≡ Some (pos 2)
unfolding value_cmp lib.Ieee.is_nan lib.Ieee.lt
version_told = refl

abbrev told : List Row → Option ℤ
told rows = number_shown (map (λ r. column r 2 ∷ []) (filter is_version rows))

abbrev version_edit : Trees → List Row → Edit
version_edit db rows = edit_of db meta_table [] Chosen 0 rows

version_alone : (r : Row) → works room_schema Enforced 0 5 [] (r ∷ []) ≡ []
unfolding everything
version_alone r = refl

-- one row is put in
pub record Puts (tree : ℕ) (row : Row) (old new : Database) : Type 0 where
  pub schema : new.schema ≡ room_schema
  pub sound : IsDatabase new
  pub rows : new.trees tree ≡ put_row row (old.trees tree)
  pub others : Rattle.std.specs.List.AllByRecursion
      (λ (t : Table). t.tree ≢ tree → new.trees t.tree ≡ old.trees t.tree) room_schema.tables

version_put : (old new : State) (count : ℕ) → old.now.schema ≡ room_schema
    → Executes version_text [] old new (Ok count)
    → Puts 5 (Int (next_rowid (old.now.trees 5)) ∷ version_cells) old.now new.now
version_put old new count has h =
    let db = old.now.trees in
    let command = Insert 3 (Values version_terms 3) in
    let w = runs_as version_text
    [] old new room_schema has command version_is version_plain count h in
    let text = statement_of version_text (understood room_schema version_text) in
    let done = went
    (subst (λ s. Does old.step_limit (mode_of old) []
    (record old.now { schema = s }) text None command (Ok (w.tally, new.now))) has w.changed) in
    let concluded = same_value (went (went done.2).2).2 in
    let now = ap (λ (p : Tally × Database). p.1) concluded in
    let given = went done.1 in
    let counter = went given.2 in
    let written = went counter.2 in
    let counted = went written.2 in
    let wrote = same_value counted.2 in
    let trees : done.0.trees ≡ written.0 = grind (arith, wrote, same_value, counted.1) in
    let source : given.0 ≡ (Null ∷ version_cells) ∷ [] = given.1.1 in
    let news : (version_edit db given.0).news ≡ (Int (next_rowid (db 5)) ∷ version_cells) ∷ [] =
    grind (arith, db, source, cast_version) in
    let none = ap (works room_schema Enforced 0 5 []) news
    ∙ version_alone (Int (next_rowid (db 5)) ∷ version_cells) in
    let applies = one_step room_schema Enforced db written.0
    (version_edit db given.0) none written.1 in
    let at : new.now.trees ≡ written.0 = ap (λ (d : Database). d.trees) now ∙ trees in
    record {
      schema = ap (λ (d : Database). d.schema) now;
      sound = w.sound;
      rows = ap (λ (t : Trees). t 5) at ∙ applies.rows ∙ ap (put_all (db 5)) news;
      others = grind (arith, db, applies.tables);
    }

pub makes_version : (old new : State) (count : ℕ)
    → HasEmpty room_schema (0 ∷ 2 ∷ 3 ∷ 5 ∷ 7 ∷ 8 ∷ []) old.now
    → Executes version_text [] old new (Ok count) → IsBare new.now
makes_version old new count before h =
    let put = version_put old new count before.has h in
    let others = put.others in
    let rows : new.now.trees 5 ≡ (Int (pos 1) ∷ version_cells) ∷ [] = put.rows
    ∙ ap (λ l. put_row (Int (next_rowid l) ∷ version_cells) l) before.empty.1.1.1.0 in
    record {
      has = put.schema;
      empty = (
        others.0 (λ e. let e' : 0 ≡ 5 = e in omega (arith, e')) ∙ before.empty.0,
        (
          others.1.0 (λ e. let e' : 2 ≡ 5 = e in omega (arith, e')) ∙ before.empty.1.0,
          (
            others.1.1.0 (λ e. let e' : 3 ≡ 5 = e in omega (arith, e')) ∙ before.empty.1.1.0,
            (
              others.1.1.1.1.0 (λ e. let e' : 7 ≡ 5 = e in omega (arith, e'))
                  ∙ before.empty.1.1.1.1.0,
              (
                others.1.1.1.1.1.0 (λ e. let e' : 8 ≡ 5 = e in omega (arith, e'))
                    ∙ before.empty.1.1.1.1.1.0,
                tt,
              ),
            ),
          ),
        ),
      );
      version = ap told rows ∙ version_told;
      meta = rows;
    }

-- ---- the root

abbrev nodes_table : Table
nodes_table = record nodes { tree = 0 }

cast_root : (owner group : List ℕ)
    → cast_row nodes_table (root_row owner group) ≡ root_row owner group
cast_root owner group = rw (cast_int (pos 1), cast_null) refl

abbrev folder_edit : Trees → List Row → Edit
folder_edit db rows = edit_of db nodes_table [] Chosen 0 rows

folder_put : (owner group : List ℕ) (old new : State) (count : ℕ) → old.now.schema ≡ room_schema
    → Executes folder_text (Text owner ∷ Text group ∷ Text owner_line ∷ []) old new (Ok count)
    → Puts 0 (root_row owner group) old.now new.now
folder_put owner group old new count has h =
    let params = Text owner ∷ Text group ∷ Text owner_line ∷ [] in
    let db = old.now.trees in
    let command = Insert 0 (Values folder_terms 13) in
    let w =
    runs_as folder_text params old new room_schema has command folder_is folder_plain count h in
    let text = statement_of folder_text (understood room_schema folder_text) in
    let done = went
    (subst (λ s. Does old.step_limit (mode_of old) params
    (record old.now { schema = s }) text None command (Ok (w.tally, new.now))) has w.changed) in
    let concluded = same_value (went (went done.2).2).2 in
    let now = ap (λ (p : Tally × Database). p.1) concluded in
    let given = went done.1 in
    let counter = went given.2 in
    let written = went counter.2 in
    let counted = went written.2 in
    let wrote = same_value counted.2 in
    let trees : done.0.trees ≡ written.0 = grind (arith, wrote, same_value, counted.1) in
    let source : given.0 ≡ root_row owner group ∷ [] = given.1.1 in
    let news : (folder_edit db given.0).news ≡ root_row owner group ∷ [] =
    ap (λ l. (folder_edit db l).news) source
    ∙ ap (λ r. Rattle.sqlite.specs.Edit.numbered Chosen (db 0) (r ∷ [])) (cast_root owner group) in
    let none = ap (works room_schema Enforced 0 0 []) news ∙ new_sets_off_nothing (root_row owner group) in
    let applies = one_step room_schema Enforced db written.0
    (folder_edit db given.0) none written.1 in
    let at : new.now.trees ≡ written.0 = ap (λ (d : Database). d.trees) now ∙ trees in
    record {
      schema = ap (λ (d : Database). d.schema) now;
      sound = w.sound;
      rows = ap (λ (t : Trees). t 0) at ∙ applies.rows ∙ ap (put_all (db 0)) news;
      others = grind (arith, db, applies.tables);
    }

pub makes_root : (owners : Owners) → IsTrue (is_name owners.owner) → IsTrue (is_name owners.group)
    → IsTrue (is_utf8 owners.owner) → IsTrue (is_utf8 owners.group)
    → (old new : State) (count : ℕ) → IsBare old.now
    → Executes folder_text (Text owners.owner ∷ Text owners.group ∷ Text owner_line ∷ []) old new
    (Ok count) → IsNewRoom owners new.now
makes_root owners one two three four old new count before h =
    let put = folder_put owners.owner owners.group old new count before.has h in
    let others = put.others in
    let nodes : new.now.trees 0 ≡ root_row owners.owner owners.group ∷ [] = put.rows
    ∙ ap (put_row (root_row owners.owner owners.group)) before.empty.0 in
    let bodies : new.now.trees 2 ≡ [] = grind (arith, others.1.0, before.empty.1.0) in
    let members : new.now.trees 3 ≡ [] = grind (arith, others.1.1.0, before.empty.1.1.0) in
    let audits : new.now.trees 7 ≡ [] = grind (arith, others.1.1.1.1.0, before.empty.1.1.1.0) in
    record {
      room = record {
        schema = put.schema;
        sound = put.sound;
        nodes = subst (IsShaped Shape.Table) (sym nodes) ((tt, tt), (refl, tt));
        bodies = subst (IsShaped Shape.Table) (sym bodies) (tt, tt);
        members = subst (IsShaped Shape.Table) (sym members) (tt, tt);
        audits = subst (IsShaped Shape.Table) (sym audits) (tt, tt);
      };
      version =
          ap told (others.1.1.1.0 (λ e. let e' : 5 ≡ 0 = e in omega (arith, e'))) ∙ before.version;
      meta = others.1.1.1.0 (λ e. let e' : 5 ≡ 0 = e in omega (arith, e')) ∙ before.meta;
      counters =
          others.1.1.1.1.1.0 (λ e. let e' : 8 ≡ 0 = e in omega (arith, e'))
          ∙ before.empty.1.1.1.1.0;
      rows = room_read new.now owners one two three four nodes bodies members audits;
      texts = subst ArePrinted (sym nodes) (root_printed owners.owner owners.group);
    }
