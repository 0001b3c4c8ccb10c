-- A room that is opened by the number of its schema, and by its tables.
use Rattle.std.proofs.Common.{◌≡◌, ℤ, Bool, true, false, IsTrue, OnOk, Result, Ok, Err, arith, refl}
use Rattle.std.proofs.{Common.{sym, ◌∙◌}, lemmas.Fmt.decimal_digit}
use Rattle.sqlite.specs.State.{State}
use Rattle.store_tables.specs.Tables.{room_schema}
use Rattle.store_schema.specs.{Recognizing.key_indexes, Opening.{FailsByDisk, Recognizes}}
use Rattle.store_schema.specs.{Opening.when_known, declared.fault.OpenFault.OpenFault}

pub same_indexes : room_schema.indexes ≡ key_indexes
same_indexes = rw (decimal_digit 1 (omega arith)) refl

module _ (old : State) (known : Bool)
    (same : (IsTrue known → old.now.schema ≡ room_schema)
    × (old.now.schema ≡ room_schema → IsTrue known)) where
  pub tables_known : (answer : Result (Unit {0}) OpenFault)
      → OnOk (when_known answer known) (old.now.schema ≡ room_schema)
  tables_known (Err fault) = tt
  tables_known (Ok done) = tables_by known refl
    where
      tables_by : (b : Bool) → known ≡ b
          → OnOk (when_known (Ok done) b) (old.now.schema ≡ room_schema)
      tables_by true is = same.0 is
      tables_by false is = tt

  -- where the tables aren't known, they aren't those of a room
  others : known ≡ false → old.now.schema ≡ room_schema → ⊥
  others is has = absurd (let e = sym is ∙ same.1 has in cc)

  pub fails_known : (new : State) (answer : Result (Unit {0}) OpenFault)
      → FailsByDisk old new answer → FailsByDisk old new (when_known answer known)
  fails_known new (Err fault) fails = fails
  fails_known new (Ok done) fails = fails_by known refl
    where
      fails_by : (b : Bool) → known ≡ b → FailsByDisk old new (when_known (Ok done) b)
      fails_by true is = fails
      fails_by false is = λ now is_open has told. absurd (others is has)

  pub adopts_known : (new : State) (wanted : ℤ) (answer : Result (Unit {0}) OpenFault)
      → Recognizes wanted old new answer → Recognizes wanted old new (when_known answer known)
  adopts_known new wanted (Err fault) adopts = adopts
  adopts_known new wanted (Ok done) adopts = adopts_by known refl
    where
      adopts_by : (b : Bool) → known ≡ b → Recognizes wanted old new (when_known (Ok done) b)
      adopts_by true is = adopts
      adopts_by false is = record {
        ended = adopts.ended;
        clean = adopts.clean;
        was_open = adopts.was_open;
        kept = adopts.kept;
        answers = λ now. tt;
        shown = λ now. tt;
        told = λ now has. tt;
        empty = λ now has. tt;
        crash = adopts.crash;
      }
