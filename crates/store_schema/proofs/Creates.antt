-- What making the tables leaves.
use Rattle.std.proofs.Common.{rules, ◌≡◌, ℕ, List, [], ◌∷◌, Ok, None, sym, ap, subst, ◌∙◌, true}
use Rattle.std.proofs.Common.{false}
use Rattle.sqlite.specs.{Command.TheVariants.CreateTable, Table.Table, Schema.Schema}
use Rattle.sqlite.specs.{Change.{created, next_tree, KeepsRows}, Does.{Tally, lacks_sequence}}
use Rattle.sqlite.{specs.{Effect.Database, State.{State, Writes, Executes}}, proofs.Callers.runs_as}
use Rattle.store_tables.specs.Tables.{nodes, bodies, members, meta, audits, counters, no_schema}
use Rattle.store_tables.specs.Tables.{after_nodes, after_bodies, after_members, after_meta}
use Rattle.store_tables.{specs.Tables.room_schema, proofs.Writes.{went, same_value}}
use Rattle.store_schema.{specs.Making.HasEmpty, proofs.Texts.{IsCreate, nodes_text, bodies_text}}
use Rattle.store_schema.proofs.Texts.{members_text, meta_text, audits_text, nodes_is, bodies_is}
use Rattle.store_schema.proofs.Texts.{members_is, meta_is, audits_is, counters_is, sequences}

-- a table is made, empty, and no other changes
record Creates (schema : Schema) (table : Table) (old new : Database) : Type 0 where
  pub after : new.schema ≡ created schema table
  pub empty : new.trees (next_tree schema) ≡ []
  pub others : KeepsRows schema.tables old.trees new.trees

module _ (text : List ℕ) (old new : State) (schema : Schema) (table : Table)
    (has : old.now.schema ≡ schema) (is : IsCreate schema text table) (count : ℕ)
    (h : Executes text [] old new (Ok count)) where
  creates : lacks_sequence (created schema table) ≡ false → Creates schema table old.now new.now
  creates none =
      let w = subst (λ t. Writes old new None CreateTable t [] count) is.statement
      (runs_as text [] old new schema has CreateTable is.command is.plain count h) in
      let all = went w.changed in
      let first = went all.1 in
      let made = first.1 in
      let both : Ok made.table ≡ Ok table = sym made.defined ∙ is.defines in
      let same : made.table ≡ table = cc in
      let after : first.0.schema ≡ created schema table = search (rules, made.is, same) in
      let no' : lacks_sequence first.0.schema ≡ false = ap lacks_sequence after ∙ none in
      let now : new.now ≡ first.0 = ap (λ (p : Tally × Database). p.1) (same_value all.2)
      ∙ same_value (rw no' at first.2) in
      record {
        after = ap (λ (d : Database). d.schema) now ∙ after;
        empty =
            ap (λ (d : Database). d.trees (next_tree schema)) now
            ∙ subst (λ s. first.0.trees (next_tree s) ≡ []) has made.empty;
        others =
            subst (λ (d : Database). KeepsRows schema.tables old.now.trees d.trees) (sym now)
            (subst (λ s. KeepsRows s.tables old.now.trees first.0.trees) has made.others);
      }

  -- the first table with AUTOINCREMENT adds the table of its counts
  creates_counted : lacks_sequence (created schema table) ≡ true → (mid : Database)
      × Creates schema table old.now mid × Creates (created schema table) counters mid new.now
  creates_counted lacks =
      let w = subst (λ t. Writes old new None CreateTable t [] count) is.statement
      (runs_as text [] old new schema has CreateTable is.command is.plain count h) in
      let all = went w.changed in
      let first = went all.1 in
      let made = first.1 in
      let both : Ok made.table ≡ Ok table = sym made.defined ∙ is.defines in
      let same : made.table ≡ table = cc in
      let after : first.0.schema ≡ created schema table = search (rules, made.is, same) in
      let yes' : lacks_sequence first.0.schema ≡ true = ap lacks_sequence after ∙ lacks in
      let now : new.now ≡ all.0 = ap (λ (p : Tally × Database). p.1) (same_value all.2) in
      let second = rw yes' at first.2 in
      let both' : Ok second.table ≡ Ok counters = sym second.defined ∙ counters_is in
      let same' : second.table ≡ counters = cc in (
        first.0,
        record {
          after = after;
          empty = subst (λ s. first.0.trees (next_tree s) ≡ []) has made.empty;
          others = subst (λ s. KeepsRows s.tables old.now.trees first.0.trees) has made.others;
        },
        record {
          after =
              ap (λ (d : Database). d.schema) now ∙ second.is
              ∙ ap (λ s. created s second.table) after ∙ ap (created (created schema table)) same';
          empty =
              ap (λ (d : Database). d.trees (next_tree (created schema table))) now
              ∙ subst (λ s. all.0.trees (next_tree s) ≡ []) after second.empty;
          others =
              subst
              (λ (d : Database). KeepsRows (created schema table).tables first.0.trees d.trees)
              (sym now)
              (subst (λ s. KeepsRows s.tables first.0.trees all.0.trees) after second.others);
        },
      )

module _ (old new : State) (count : ℕ) where
  pub makes_nodes : HasEmpty no_schema [] old.now → Executes nodes_text [] old new (Ok count)
      → HasEmpty after_nodes (0 ∷ []) new.now
  makes_nodes before h =
      let it = creates nodes_text old new no_schema nodes before.has nodes_is count h sequences.0 in
      record { has = it.after; empty = (it.empty, tt) }

  pub makes_bodies : HasEmpty after_nodes (0 ∷ []) old.now
      → Executes bodies_text [] old new (Ok count) → HasEmpty after_bodies (0 ∷ 2 ∷ []) new.now
  makes_bodies before h =
      let it =
      creates bodies_text old new after_nodes bodies before.has bodies_is count h sequences.1 in
      record { has = it.after; empty = (it.others.0 ∙ before.empty.0, (it.empty, tt)) }

  pub makes_members : HasEmpty after_bodies (0 ∷ 2 ∷ []) old.now
      → Executes members_text [] old new (Ok count)
      → HasEmpty after_members (0 ∷ 2 ∷ 3 ∷ []) new.now
  makes_members before h =
      let it =
      creates members_text old new after_bodies members before.has members_is count h
      sequences.2 in
      record {
        has = it.after;
        empty =
            (it.others.0 ∙ before.empty.0, (it.others.1.0 ∙ before.empty.1.0, (it.empty, tt)));
      }

  pub makes_meta : HasEmpty after_members (0 ∷ 2 ∷ 3 ∷ []) old.now
      → Executes meta_text [] old new (Ok count) → HasEmpty after_meta (0 ∷ 2 ∷ 3 ∷ 5 ∷ []) new.now
  makes_meta before h =
      let it =
      creates meta_text old new after_members meta before.has meta_is count h sequences.3 in
      record {
        has = it.after;
        empty = (
          it.others.0 ∙ before.empty.0,
          (
            it.others.1.0 ∙ before.empty.1.0,
            (it.others.1.1.0 ∙ before.empty.1.1.0, (it.empty, tt)),
          ),
        );
      }

  pub makes_audits : HasEmpty after_meta (0 ∷ 2 ∷ 3 ∷ 5 ∷ []) old.now
      → Executes audits_text [] old new (Ok count)
      → HasEmpty room_schema (0 ∷ 2 ∷ 3 ∷ 5 ∷ 7 ∷ 8 ∷ []) new.now
  makes_audits before h =
      let both =
      creates_counted audits_text old new after_meta audits before.has audits_is count h
      sequences.4 in
      let one = both.1 in
      let two = both.2 in
      record {
        has = two.after;
        empty = (
          two.others.0 ∙ one.others.0 ∙ before.empty.0,
          (
            two.others.1.0 ∙ one.others.1.0 ∙ before.empty.1.0,
            (
              two.others.1.1.0 ∙ one.others.1.1.0 ∙ before.empty.1.1.0,
              (
                two.others.1.1.1.0 ∙ one.others.1.1.1.0 ∙ before.empty.1.1.1.0,
                (two.others.1.1.1.1.0 ∙ one.empty, (two.empty, tt)),
              ),
            ),
          ),
        );
      }
