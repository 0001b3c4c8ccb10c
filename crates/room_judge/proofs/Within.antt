-- How much calls write beside records, one after the other.
use Rattle.std.proofs.Common.{◌≡◌, ℕ, ◌+◌, ◌≤◌, Result, Ok, Err, IfOk, arith}
use Rattle.std.proofs.lemmas.Bool.Decides.{nat_tests}
use Rattle.room_rows.specs.{declared.keep.KeepFault.KeepFault, Keep.capped, Rows.Rows}
use Rattle.room_judge.specs.Extent.{Extent, OnlyRecords, StaysWithin, WritesRecords}

capped_below : (n : ℕ) → capped n ≤ n
capped_below n = omega arith

-- a call that counts so many writes, in numbers
pub written_up_to : (before after count old new more : ℕ) → after ≡ capped (before + count)
    → count + old ≤ new + more → after + old ≤ before + new + more
written_up_to before after count old new more is few = grind (arith, nat_tests, capped_below)

module _ {S : Type 0} (rows : S → Rows) (writes : S → ℕ) where
  pub within_same : (a b : S) → rows b ≡ rows a → writes b ≡ writes a
      → StaysWithin rows writes OnlyRecords a b
  within_same a b same unwritten = grind (arith, nat_tests)

  -- calls that write only records write no more than suffices
  pub within_any : (extent : Extent) (a b : S) → StaysWithin rows writes OnlyRecords a b
      → StaysWithin rows writes extent a b
  within_any extent a b within = grind (arith, nat_tests)

  records_after : (a b c : S) → WritesRecords rows writes a b → WritesRecords rows writes b c
      → WritesRecords rows writes a c
  records_after a b c before after = grind (arith, nat_tests)

  -- calls after some that write only records
  pub within_after : (extent : Extent) (a b c : S) → StaysWithin rows writes OnlyRecords a b
      → StaysWithin rows writes extent b c → StaysWithin rows writes extent a c
  within_after extent a b c before after = grind (arith, nat_tests, records_after)

  -- the same where the last of them may have a fault
  pub within_later : {X : Type 0} (extent : X → Extent) (a b c : S) (r : Result X KeepFault)
      → StaysWithin rows writes OnlyRecords a b
      → IfOk r (λ x. StaysWithin rows writes (extent x) b c)
      → IfOk r (λ x. StaysWithin rows writes (extent x) a c)
  within_later extent a b c (Ok x) before after = within_after (extent x) a b c before after
  within_later extent a b c (Err e) before after = tt
