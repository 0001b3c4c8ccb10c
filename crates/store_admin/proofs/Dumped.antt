-- What reading all objects over any keeper is, in terms of a transaction.
use Rattle.std.proofs.Common.{◌≡◌, ℕ, Result, Ok, Err, IfOk, IfErr, String, string_bytes, arith}
use Rattle.std.{proofs.{Common.rules, lemmas.Bool.Decides.nat_tests}, specs.Global.Global}
use Rattle.sqlite.specs.State.{State}
use Rattle.room_rows.specs.{declared.keep.KeepFault.KeepFault, Keep.{HasCause, IfSeen, IsDamaged}}
use Rattle.room_rows.proofs.Steps.{blames_caused}
use Rattle.room_dump.specs.Dump.{IsDumpText}
use Rattle.store_tables.specs.{Meaning.rows_of, Shown.Stays, Trust.IsTrusted}
use Rattle.store_tables.specs.Carries.{CallsInside, HasDamagedRow}
use Rattle.store_admin.specs.Dump.{TellsObjects}

-- the text of all objects, by the keeper
pub told_objects : (begun mid : State) (result : Result (String Global) KeepFault)
    (before after : ℕ) → Stays begun mid
    → (IsTrusted begun mid → IfSeen result (rows_of mid.now ≡ rows_of begun.now))
    → (IsTrusted begun mid
    → IfOk result (λ text. IsDumpText (rows_of begun.now) (string_bytes text)))
    → IfErr result
    (HasCause before after (λ at. IsTrusted begun mid → IsDamaged (rows_of begun.now) at))
    → CallsInside begun mid result HasDamagedRow TellsObjects
told_objects begun mid (Ok text) before after stays same answers fault = grind (arith, nat_tests)
told_objects begun mid (Err why) before after stays same answers fault = record {
  stays = stays;
  becomes = λ trust. tt;
  blames =
      search (rules, blames_caused, fault);
}
