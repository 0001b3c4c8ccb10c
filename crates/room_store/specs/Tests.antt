-- What the test of a whole room tells, by its tables.
use Rattle.std.specs.Prelude.{IsTrue}
use Rattle.sqlite.specs.Effect.{Database}
use Rattle.room_verify.specs.Reading.{IsReport}
use Rattle.store_admin.specs.Numbers.{HasNumbers}
use Rattle.store_tables.specs.Meaning.{rows_of}
use Rattle.room_store.specs.declared.verifying.Tested.{Tested}

-- It has the first fault of the rows, if there is one, and says whether a record can get a number.
pub record IsTested (db : Database) (tested : Tested) : Type 0 where
  pub rows : IsReport (rows_of db) tested.report
  pub left : IsTrue tested.has_numbers → HasNumbers db
  pub spent : HasNumbers db → IsTrue tested.has_numbers
