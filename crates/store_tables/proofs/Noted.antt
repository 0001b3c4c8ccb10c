-- What a new record leaves.
use Rattle.std.proofs.Common.{rules, ◌≡◌, ◌+ℤ◌, ◌<ℤ◌, ℕ, ℤ, pos, List, [], ◌∷◌, ◌++◌, fold, Ok}
use Rattle.std.proofs.Common.{None, Some, Option, IsTrue, refl, sym, ap, subst, ◌∙◌, true}
use Rattle.std.proofs.{Common.{if◌then◌else◌, arith, Less, find}, lemmas.Bool.Decides.nat_tests}
use Rattle.std.{proofs.lemmas.Int.ints, specs.{Bool.MatchBool, List.AllByRecursion}}
use Rattle.std.specs.Ordering.{int_cmp, is_lt}
use Rattle.sqlite.specs.{declared.types.Value.{Value, TheVariants.{Null, Int}}, Cast.cast_row}
use Rattle.sqlite.specs.{Command.TheVariants.Insert, Does.{Tally, Does}, Edit.{Edit, edit_of}}
use Rattle.sqlite.specs.{Edit.{edited, next_rowid, put_all, taken_by}, Effect.Database}
use Rattle.sqlite.specs.{Effect.IsDatabase, Listing.understood, Order.{Row, value_cmp}}
use Rattle.sqlite.specs.{Rowids.TheVariants.{Above, Chosen}, Rows.{Counter, CounterIn, Counts}}
use Rattle.sqlite.specs.Rows.{CountsIn, Edited, Gives, Task, Written, count_of, counting, higher}
use Rattle.sqlite.specs.{Rows.sequence, Source.TheVariants.Values, State.{State, mode_of, Executes}}
use Rattle.sqlite.specs.{State.Shows, Term.{Term, col, lit}, Tree.{Trees, rowid, put_row, IsTable}}
use Rattle.sqlite.proofs.Callers.{one_step, runs_as, statement_of}
use Rattle.sqlite_rules.specs.{Action.works, Edit.{at_least, id_in, with_rowid, without_all}}
use Rattle.sqlite_rules.proofs.TableLemmas.{int_is}
use Rattle.sqlite_schema.specs.declared.schema.{Keys.TheVariants.Enforced, Table.Table}
use Rattle.sqlite_tied.specs.Compute.{everything}
use Rattle.sqlite_trees.{specs.View.{IsShaped, is_int}, proofs.TreeLemmas.IsShaped-put_row}
use Rattle.sqlite_value.proofs.OrderLemmas.{value_cmp-Int}
use Rattle.store_tables.specs.{declared.columns.Record.Record, Columns.StoresRecord}
use Rattle.store_tables.specs.{Columns.record_values, Counters.{counted_to, counter_row}}
use Rattle.store_tables.specs.{Counters.{counts_records, next_record, with_count}, Shown.IsRoom}
use Rattle.store_tables.specs.{Shown.{AddsRecordRow, stored_record}, Tables.{audits, counters}}
use Rattle.store_tables.{specs.Tables.room_schema, proofs.{Executed.WritesRoom, Noting.recalled}}
use Rattle.store_tables.proofs.{Printed.keeps_same, Texts.{note_is, note_text, plain_texts}}
use Rattle.store_tables.proofs.{Updates.{cast_int, cast_null}, Writes.{same_value, went}}
use Rattle.sqlite_trees.specs.declared.store.Shape.TheVariants as Shape

-- ---- the new number comes last

below : (a b : ℤ) → a <ℤ b → value_cmp (Int a) (Int b) ≡ Less
below a b h = value_cmp-Int a b ∙ grind (arith, ints, nat_tests)

lower_than : (a b c : ℤ) → int_cmp a b ≡ Less → b <ℤ c → a <ℤ c
lower_than a b c p q = grind (arith, ints, nat_tests)

abbrev next : ℤ → Row → ℤ
next top r = id_in (rowid r) +ℤ pos 1

abbrev HaveNumbers : List Row → Type 0
HaveNumbers rows = AllByRecursion (λ r. IsTrue (is_int (rowid r))) rows

below_next : (x : Row) (rows : List Row) → IsTable (x ∷ rows) → HaveNumbers (x ∷ rows)
    → AllByRecursion (λ r. id_in (rowid r) <ℤ fold next (next (pos 1) x) rows) (x ∷ rows)
below_next x [] up keyed = (omega (arith, ints), tt)
below_next x (y ∷ rows) up keyed =
    let later = below_next y rows up.1 keyed.1 in
    search (rules, int_is, x, keyed.0, keyed.1.0, value_cmp-Int, up.0.0, later.0, lower_than, later)

still_below : (last a b : ℤ) → a <ℤ b → a <ℤ at_least (Above last) b
still_below last a b h = grind (arith, ints, nat_tests)

each_before : (last top : ℤ) (rows : List Row) → HaveNumbers rows
    → AllByRecursion (λ r. id_in (rowid r) <ℤ top) rows
    → AllByRecursion (λ r. value_cmp (rowid r) (Int (at_least (Above last) top)) ≡ Less) rows
each_before last top [] keyed low = tt
each_before last top (r ∷ rows) keyed low =
    grind (arith, nat_tests, below, int_is, still_below, each_before last top rows keyed.1 low.1)

all_before : (last : ℤ) (rows : List Row) → IsTable rows → HaveNumbers rows
    → AllByRecursion (λ r. value_cmp (rowid r) (Int (at_least (Above last) (next_rowid rows)))
    ≡ Less) rows
all_before last [] up keyed = tt
all_before last (x ∷ rows) up keyed =
    each_before last (next_rowid (x ∷ rows)) (x ∷ rows) keyed (below_next x rows up keyed)

put_last : (new : Row) (rows : List Row)
    → AllByRecursion (λ r. value_cmp (rowid r) (rowid new) ≡ Less) rows
    → put_row new rows ≡ rows ++ new ∷ []
put_last new [] all = refl
put_last new (r ∷ rows) all = grind (arith, nat_tests, put_last new rows all.1)

-- ---- the two edits

abbrev audits_table : Table
audits_table = record audits { tree = 7 }

abbrev counters_table : Table
counters_table = record counters { tree = 8 }

abbrev note_edit : Trees → ℤ → List Row → Edit
note_edit db last rows = edit_of db audits_table [] (Above last) 0 rows

cast_record : (r : Record)
    → cast_row audits_table (Null ∷ Null ∷ record_values r) ≡ Null ∷ Null ∷ record_values r
cast_record r = grind (arith, nat_tests, cast_int, cast_null)

-- nothing refers to records, nor to their count
record_off : (r : Row) → works room_schema Enforced 0 7 [] (r ∷ []) ≡ []
unfolding everything
record_off r = refl

count_off : (olds : List Row) (r : Row) → works room_schema Enforced 0 8 olds (r ∷ []) ≡ []
unfolding everything
count_off olds r = refl

-- the tables that are read are as they were, and the counter is at this number
record Same (top : ℤ) (counter : Option Row) (db now : Trees) : Type 0 where
  pub nodes : now 0 ≡ db 0
  pub bodies : now 2 ≡ db 2
  pub members : now 3 ≡ db 3
  pub meta : now 5 ≡ db 5
  pub audits : now 7 ≡ db 7
  pub counters : now 8 ≡ with_count top (db 8) counter

abbrev count_edit : Trees → ℤ → Option Row → Edit
count_edit db top counter = counting db audits_table counters_table top counter

-- a row that has no number yet gets the next one
abbrev with_number : List Row → ℤ → Value → Row
with_number rows top id = with_rowid Chosen rows (counter_row id top)

count_new : (db : Trees) (top : ℤ) → edited db (count_edit db top None) ≡ with_count top (db 8) None
count_new db top = ap (λ id. put_row (with_number (db 8) top id) (db 8)) cast_null

counted_edit : (db now : Trees) (top : ℤ) (counter : Option Row)
    → Edited room_schema Enforced db (count_edit db top counter) (Ok now) → Same top counter db now
counted_edit db now top counter did = by counter did
  where
    left : (counter : Option Row) (gone : List ℤ) (new : Row)
        → put_all (without_all (db 8) gone) (new ∷ []) ≡ with_count top (db 8) counter
        → Edited room_schema Enforced db
        (record { table = counters_table; gone = gone; news = new ∷ [] }) (Ok now)
        → Same top counter db now
    left counter gone new is did =
        let edit : Edit = record { table = counters_table; gone = gone; news = new ∷ [] } in
        let applies = one_step room_schema Enforced db now edit
        (count_off (taken_by db edit) new) did in
        record {
          nodes = applies.tables.0 (λ e. let e' : 0 ≡ 8 = e in omega (arith, e'));
          bodies = applies.tables.1.0 (λ e. let e' : 2 ≡ 8 = e in omega (arith, e'));
          members = applies.tables.1.1.0 (λ e. let e' : 3 ≡ 8 = e in omega (arith, e'));
          meta = applies.tables.1.1.1.0 (λ e. let e' : 5 ≡ 8 = e in omega (arith, e'));
          audits = applies.tables.1.1.1.1.0 (λ e. let e' : 7 ≡ 8 = e in omega (arith, e'));
          counters = applies.rows ∙ is;
        }

    by : (counter : Option Row) → Edited room_schema Enforced db (count_edit db top counter) (Ok now)
        → Same top counter db now
    by None did = left None _ _ (count_new db top) did
    by (Some r) did = left (Some r) _ _ refl did

abbrev note_task : Option ℕ → Row → Task
note_task limit params =
    record {
      limit = limit;
      keys = Enforced;
      schema = room_schema;
      table = audits_table;
      params = params;
    }

counters_are : sequence room_schema ≡ Some counters_table
unfolding everything
counters_are = refl

-- the count follows the new number, and no table that is read does
counts_keep : (limit : Option ℕ) (params : Row) (db now : Trees) (counter : Option Row) (top : ℤ)
    → is_lt (int_cmp (count_of counter) top) ≡ true
    → Counts (note_task limit params) db counter top (Ok now) → Same top counter db now
counts_keep limit params db now counter top higher counts =
    counted_edit db now top counter
    (subst (λ t. CountsIn (note_task limit params) db counter top t (Ok now)) counters_are
    (subst (λ b. MatchBool b
    (CountsIn (note_task limit params) db counter top (sequence room_schema) (Ok now))
    (Gives db (Ok now))) higher counts))

-- the counter is the first row that counts the records
counter_is : (limit : Option ℕ) (params : Row) (db : Trees) (counter : Option Row)
    → Counter (note_task limit params) db (Ok counter) → counter ≡ find counts_records (db 8)
counter_is limit params db counter h =
    same_value
    (subst (λ t. CounterIn (note_task limit params) db t (Ok counter)) counters_are h)

-- a new number is above the counter
above_counter : (last n : ℤ) → is_lt (int_cmp last (at_least (Above last) n)) ≡ true
above_counter last n = grind (arith, ints, nat_tests)

-- so it is where the counter goes
counts_up : (last n : ℤ) (cells : Row)
    → fold higher last ((Int (at_least (Above last) n) ∷ cells) ∷ []) ≡ at_least (Above last) n
counts_up last n cells =
    ap (λ b. if b then at_least (Above last) n else last) (above_counter last n)

abbrev note_terms : List Term
note_terms = lit Null ∷ lit Null ∷ col 0 0 ∷ col 0 1 ∷ col 0 2 ∷ col 0 3 ∷ col 0 4 ∷ col 0 5 ∷ []

pub record Noted (r : Record) (old new : State) : Type 0 where
  pub schema : new.now.schema ≡ room_schema
  pub sound : IsDatabase new.now
  pub seq : ℤ
  pub nodes : new.now.trees 0 ≡ old.now.trees 0
  pub bodies : new.now.trees 2 ≡ old.now.trees 2
  pub members : new.now.trees 3 ≡ old.now.trees 3
  pub meta : new.now.trees 5 ≡ old.now.trees 5
  pub audits : new.now.trees 7 ≡ put_row (stored_record seq (record_values r)) (old.now.trees 7)
  pub number : seq ≡ next_record (old.now.trees 8) (old.now.trees 7)
  pub counters : new.now.trees 8 ≡ counted_to seq (old.now.trees 8)
  pub last : IsRoom old.now
      → AllByRecursion (λ x. value_cmp (rowid x) (Int seq) ≡ Less) (old.now.trees 7)
  pub shown : Shows old new new.now
      (if old.in_transaction then old.committed else new.now) old.in_transaction

pub noted : (r : Record) (old new : State) (count : ℕ) → old.now.schema ≡ room_schema
    → Executes note_text (record_values r) old new (Ok count) → Noted r old new
noted r old new count has h =
    let params = record_values r in
    let db = old.now.trees in
    let command = Insert 4 (Values note_terms 8) in
    let w =
    runs_as note_text params old new room_schema has command note_is plain_texts.9 count h in
    let text = statement_of note_text (understood room_schema note_text) in
    let done = went
    (subst (λ s. Does old.step_limit (mode_of old) params
    (record old.now { schema = s }) text None command (Ok (w.tally, new.now))) has w.changed) in
    let concluded = same_value (went (went done.2).2).2 in
    let now = ap (λ (p : Tally × Database). p.1) concluded in
    let given = went done.1 in
    let counter = went given.2 in
    let written = went counter.2 in
    let counted = went written.2 in
    let wrote = same_value counted.2 in
    let last = count_of counter.0 in
    let seq = at_least (Above last) (next_rowid (db 7)) in
    let trees : done.0.trees ≡ counted.0 = ap (λ (it : Written). it.trees) wrote in
    let source : given.0 ≡ (Null ∷ Null ∷ record_values r) ∷ [] = given.1.1 in
    let news : (note_edit db last given.0).news ≡ stored_record seq (record_values r) ∷ [] =
    grind (arith, nat_tests, db, last, source, cast_record, r) in
    let none = ap (works room_schema Enforced 0 7 []) news
    ∙ record_off (stored_record seq (record_values r)) in
    let applies = one_step room_schema Enforced db written.0
    (note_edit db last given.0) none written.1 in
    let top : fold higher last (note_edit db last given.0).news ≡ seq =
    ap (fold higher last) news ∙ counts_up last (next_rowid (db 7)) (Null ∷ record_values r) in
    let kept = counts_keep old.step_limit params written.0 counted.0 counter.0 seq
    (above_counter last (next_rowid (db 7)))
    (subst (λ n. Counts (note_task old.step_limit params) written.0 counter.0 n (Ok counted.0)) top
    counted.1) in
    let first = counter_is old.step_limit params db counter.0 counter.1 in
    let same : written.0 8 ≡ db 8 =
    applies.tables.1.1.1.1.1.0 (λ e. let e' : 8 ≡ 7 = e in omega (arith, e')) in
    let at : (tree : ℕ) → new.now.trees tree ≡ counted.0 tree = grind (arith, nat_tests, trees) in
    record {
      schema = ap (λ (d : Database). d.schema) now;
      sound = w.sound;
      seq = seq;
      nodes = at 0 ∙ kept.nodes ∙ applies.tables.0 (λ e. let e' : 0 ≡ 7 = e in omega (arith, e'));
      bodies = grind (arith, nat_tests, kept.bodies, applies.tables.1.0);
      members = grind (arith, nat_tests, kept.members, applies.tables.1.1.0);
      meta = grind (arith, nat_tests, kept.meta, applies.tables.1.1.1.0);
      audits = at 7 ∙ kept.audits ∙ applies.rows ∙ ap (put_all (db 7)) news;
      number = ap (λ c. at_least (Above (count_of c)) (next_rowid (db 7))) first;
      counters =
          at 8 ∙ kept.counters ∙ ap (λ l. with_count seq l counter.0) same
          ∙ ap (with_count seq (db 8)) first;
      last = λ room. all_before last (db 7) room.audits.0 room.audits.1;
      shown = w.shown;
    }

pub notes : (r : Record) (old new : State) (count : ℕ) → IsRoom old.now
    → Executes note_text (record_values r) old new (Ok count)
    → AddsRecordRow (record_values r) old.now.trees new.now.trees
notes r old new count room h = grind (arith, nat_tests, noted, put_last)

pub note_room : (r : Record) → StoresRecord r → (old new : State) → IsTrue old.in_transaction
    → (count : ℕ) → Executes note_text (record_values r) old new (Ok count) → IsRoom old.now
    → WritesRoom old new
note_room r stored old new inside count h room =
    let d = noted r old new count room.schema h in (
      d.shown.committed_is ∙ ap (λ b. if b then old.committed else new.now) inside,
      record {
        schema = d.schema;
        sound = d.sound;
        nodes = subst (IsShaped Shape.Table) (sym d.nodes) room.nodes;
        bodies = subst (IsShaped Shape.Table) (sym d.bodies) room.bodies;
        members = subst (IsShaped Shape.Table) (sym d.members) room.members;
        audits =
            subst (IsShaped Shape.Table) (sym d.audits)
            (IsShaped-put_row (stored_record d.seq (record_values r)) _ refl room.audits);
      },
      d.shown.mode ∙ inside,
      search (rules, notes, recalled, keeps_same, stored, h, room, stored.0, stored.1),
    )
