-- What came of a statement that had to change some rows.
use Rattle.std.proofs.{Common.{◌≡◌, ℕ, Result, Ok, Err, IfOk, arith}, lemmas.Bool.Decides.nat_tests}
use Rattle.sqlite.specs.declared.error.Error.{Error}
use Rattle.room_rows.specs.declared.keep.KeepFault.{KeepFault}
use Rattle.store_tables.specs.Seeing.{all_changed}

-- what it did, where so many were changed
pub of_all : (wanted : ℕ) (done : Result ℕ Error) (P : Type 0) (x : Unit {0})
    → ◌≡◌ {A = Result (Unit {0}) KeepFault} (Ok x) (all_changed wanted done)
    → IfOk done (λ count. count ≡ wanted → P) → P
of_all wanted (Ok count) P x is did = grind (arith, nat_tests)
of_all wanted (Err why) P x is did = absurd (cc)

-- the same, where one was changed
pub of_one : (done : Result ℕ Error) (P : Type 0) (x : Unit {0})
    → ◌≡◌ {A = Result (Unit {0}) KeepFault} (Ok x) (all_changed 1 done)
    → IfOk done (λ count. count ≡ 1 → P) → P
of_one = of_all 1

-- the same of an answer that isn't known to be Ok
pub if_all : (wanted : ℕ) (done : Result ℕ Error) (P : Type 0) (r : Result (Unit {0}) KeepFault)
    → r ≡ all_changed wanted done → IfOk done (λ count. count ≡ wanted → P) → IfOk r (λ _. P)
if_all wanted done P (Ok x) is did = of_all wanted done P x is did
if_all wanted done P (Err why) is did = tt
