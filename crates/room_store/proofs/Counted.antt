-- The test of the rows, after that of the counter of records.
use Rattle.std.proofs.Common.{◌≡◌, Bool, IsTrue, Ok, Err, subst}
use Rattle.sqlite.specs.{Effect.Database, State.State}
use Rattle.room_verify.specs.Reading.{IsReport}
use Rattle.room_rows.specs.declared.{keep.KeepFault.KeepFault, report.Report.Report}
use Rattle.store_tables.specs.Carries.{CallsInside, NoTables, Reading}
use Rattle.store_admin.specs.Numbers.{HasNumbers}
use Rattle.store_tables.specs.{Meaning.rows_of}
use Rattle.store_tables.specs.Trust.{IsTrusted, stays_on, trusted_first, trusted_last}
use Rattle.room_store.specs.{Tests.IsTested}

module _ (a b c : State) (left : Bool)
    (counted : CallsInside a b (Ok left) NoTables
    (Reading (λ db left. (IsTrue left → HasNumbers db) × (HasNumbers db → IsTrue left))))
    (same : IsTrusted a b → b.now ≡ a.now) where
  pub tested : (report : Report)
      → CallsInside b c (Ok report) NoTables (Reading (λ db report. IsReport (rows_of db) report))
      → CallsInside a c (Ok (record { report = report; has_numbers = left })) NoTables
      (Reading IsTested)
  tested report told = record {
    stays = stays_on a b c counted.stays told.stays;
    becomes = λ trust.
        let first = trusted_first a b c counted.stays told.stays trust in
        let last = trusted_last a b c counted.stays told.stays trust in
        let counts = counted.becomes first in
        record {
          rows = subst (λ (db : Database). IsReport (rows_of db) report) (same first)
              (told.becomes last);
          left = counts.0;
          spent = counts.1;
        };
    blames = λ trust id is. absurd is;
  }

  pub untested : (why : KeepFault)
      → CallsInside b c (Err why) NoTables (Reading (λ db report. IsReport (rows_of db) report))
      → CallsInside a c (Err why) NoTables (Reading IsTested)
  untested why told = record {
    stays = stays_on a b c counted.stays told.stays;
    becomes = λ _. tt;
    blames = λ trust id is.
        told.blames (trusted_last a b c counted.stays told.stays trust) id is;
  }
