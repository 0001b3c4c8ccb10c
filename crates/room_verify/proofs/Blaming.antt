-- Faults of a keeper that can't come.
use Rattle.std.proofs.{Common.{ℕ, Err, arith}, lemmas.Bool.Decides.nat_tests}
use Rattle.room_rows.specs.{declared.keep.KeepFault.KeepFault, Rows.Rows, Keep.IsRead}

module _ {S : Type 0} (rows : S → Rows) (failures writes : S → ℕ)
    (Follows IsTrusted : S → S → Type 0) where
  -- a fault of a read is the fault of the call that made it, which may blame more rows
  pub blames_less : {X Y : Type 0} (a c : S) (e : KeepFault) {Blames Blames' : Rows → ℕ → Type 0}
      {Answers : Rows → X → Type 0} {Answers' : Rows → Y → Type 0}
      → (IsTrusted a c → (row : ℕ) → Blames (rows a) row → Blames' (rows a) row)
      → IsRead rows failures writes Follows IsTrusted {X = X} a c (Err e) Blames Answers
      → IsRead rows failures writes Follows IsTrusted {X = Y} a c (Err e) Blames' Answers'
  blames_less {X = X} {Y = Y} a c e {Blames} {Blames'} less read = grind (arith, nat_tests)
