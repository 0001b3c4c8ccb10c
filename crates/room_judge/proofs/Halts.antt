-- Calls that may be refused, one after the other.
use Rattle.std.proofs.{Common.{◌≡◌, ℕ, Some, Result, Ok, Err, arith}, lemmas.Bool.Decides.nat_tests}
use Rattle.std.specs.Result.{IsErrAnd}
use Rattle.room_rows.specs.{declared.keep.KeepFault.{KeepFault, TheVariants.Memory}, Keep.KeepLaws}
use Rattle.room_rows.specs.Rows.{AreRows, Rows}
use Rattle.room_machine.specs.declared.reply.Reply.{Reply}
use Rattle.room_judge.specs.{Extent.{Extent, OnlyRecords}, Judged.IsDone, declared.halt.Halt.Halt}
use Rattle.room_judge.specs.{declared.halt.Halt.TheVariants.{Refused, Fault}, Halted.Comes}
use Rattle.room_judge.specs.Halted.{Refuses, replied, reply_of, settled}
use Rattle.room_judge.proofs.Calls.{HasDone, done, fails, finish, memory, none_done, then}

module _ {S : Type 0} {rows : S → Rows} {failures writes : S → ℕ}
    {Follows IsTrusted : S → S → Type 0}
    (laws : KeepLaws rows failures writes Follows IsTrusted) where
  -- numbers are in order
  known : {extent : Extent} {a b : S} {Before : Rows → Rows → Type 0}
      → HasDone rows writes Follows IsTrusted extent a b Before
      → HasDone rows writes Follows IsTrusted extent a b (λ old new. AreRows old × Before old new)
  known {a = a} {b = b} before = grind (arith, nat_tests)

  -- a call is refused or has a fault, which is handed on
  pub halts : {X Y : Type 0} {extent : Result Y Reply → Extent} {a b c : S} (e : Halt)
      {Before : Rows → Rows → Type 0} {Blames Blames' : Rows → ℕ → Type 0}
      {After : Rows → Result X Reply → Rows → Type 0}
      {Becomes : Rows → Result Y Reply → Rows → Type 0}
      → HasDone rows writes Follows IsTrusted OnlyRecords a b Before
      → IsDone rows failures writes Follows IsTrusted (λ _. OnlyRecords) b c
      (settled {X = X} (Err e))
      Blames After
      → ((old mid : Rows) (row : ℕ) → AreRows old → Before old mid → Blames mid row
      → Blames' old row)
      → ((old mid new : Rows) (reply : Reply) → AreRows old → Before old mid
      → After mid (Err reply) new → Becomes old (Err reply) new)
      → (r : Result Y Halt) → IsErrAnd r (λ x. x ≡ e)
      → IsDone rows failures writes Follows IsTrusted extent a c (settled r) Blames' Becomes
  halts e before after blames refuses (Ok y) is = absurd is
  halts {X = X} {Y = Y} {extent = extent} {a = a} {b = b} {c = c} e {Before = Before}
      {Blames = Blames}
      {Blames' = Blames'} {After = After} {Becomes = Becomes} before after blames refuses (Err f)
      is = grind (arith, nat_tests, done, fails, finish, known, then)

  -- the same at the first call
  pub halts_first : {X Y : Type 0} {extent : Result Y Reply → Extent} {a c : S} (e : Halt)
      {Blames Blames' : Rows → ℕ → Type 0} {After : Rows → Result X Reply → Rows → Type 0}
      {Becomes : Rows → Result Y Reply → Rows → Type 0}
      → IsDone rows failures writes Follows IsTrusted (λ _. OnlyRecords) a c
      (settled {X = X} (Err e))
      Blames After
      → ((old : Rows) (row : ℕ) → Blames old row → Blames' old row)
      → ((old new : Rows) (reply : Reply) → AreRows old → After old (Err reply) new
      → Becomes old (Err reply) new)
      → (r : Result Y Halt) → IsErrAnd r (λ x. x ≡ e)
      → IsDone rows failures writes Follows IsTrusted extent a c (settled r) Blames' Becomes
  halts_first {a = a} e {Blames = Blames} {After = After} after blames refuses r is =
      grind (arith, nat_tests, halts, none_done)

  -- a call of a keeper has a fault, which is handed on
  pub faults : {X Y : Type 0} {first : Extent} {last : X → Extent}
      {extent : Result Y Reply → Extent} {a b c : S} {e : KeepFault}
      {Before : Rows → Rows → Type 0}
      {Blames Blames' : Rows → ℕ → Type 0} {After : Rows → X → Rows → Type 0}
      {Becomes : Rows → Result Y Reply → Rows → Type 0}
      → HasDone rows writes Follows IsTrusted first a b Before
      → IsDone rows failures writes Follows IsTrusted {X = X} last b c (Err e) Blames After
      → ((old mid : Rows) (row : ℕ) → AreRows old → Before old mid → Blames mid row
      → Blames' old row)
      → (r : Result Y Halt) → IsErrAnd r (λ x. x ≡ Fault e)
      → IsDone rows failures writes Follows IsTrusted extent a c (settled r) Blames' Becomes
  faults before after blames (Ok y) is = absurd is
  faults {Y = Y} {extent = extent} {a = a} {c = c} {e = e} {Blames' = Blames'} {Becomes = Becomes}
      before after
      blames (Err f) is = grind (arith, nat_tests, fails, known)

  -- the calls end with this refusal, or memory ran out as it was made
  pub refused_as : {Y : Type 0} {extent : Result Y Reply → Extent} {a b : S}
      {Before : Rows → Rows → Type 0}
      {Blames : Rows → ℕ → Type 0} {Becomes : Rows → Result Y Reply → Rows → Type 0}
      → HasDone rows writes Follows IsTrusted OnlyRecords a b Before → (h : Halt) (wanted : Reply)
      → Refuses h (Some wanted)
      → ((old new : Rows) → AreRows old → Before old new → Becomes old (Err wanted) new)
      → IsDone rows failures writes Follows IsTrusted extent a b (settled {X = Y} (Err h)) Blames
      Becomes
  refused_as {Becomes = Becomes} before (Refused reply) wanted is becomes =
      grind (arith, nat_tests, finish)
  refused_as before (Fault fault) wanted is becomes = memory laws before (Err fault) is

  -- memory ran out after them
  pub memory_out : {Y : Type 0} {first : Extent} {extent : Result Y Reply → Extent} {a b : S}
      {Before : Rows → Rows → Type 0}
      {Blames : Rows → ℕ → Type 0} {Becomes : Rows → Result Y Reply → Rows → Type 0}
      → HasDone rows writes Follows IsTrusted first a b Before → (r : Result Y Halt)
      → IsErrAnd r (λ x. x ≡ Fault Memory)
      → IsDone rows failures writes Follows IsTrusted extent a b (settled r) Blames Becomes
  memory_out before (Ok y) is = absurd is
  memory_out {Y = Y} {extent = extent} {a = a} {b = b} {Blames = Blames} {Becomes = Becomes} before
      (Err f) is = grind (arith, nat_tests, memory)

  -- the calls end with this outcome, or memory ran out as it was made
  pub comes_to : {X : Type 0} {extent : Result X Reply → Extent} {a b : S}
      {Before : Rows → Rows → Type 0}
      {Blames : Rows → ℕ → Type 0} {Becomes : Rows → Result X Reply → Rows → Type 0}
      → HasDone rows writes Follows IsTrusted OnlyRecords a b Before → (r : Result X Halt)
      (wanted : Result X Reply)
      → Comes r wanted → ((old new : Rows) → AreRows old → Before old new → Becomes old wanted new)
      → IsDone rows failures writes Follows IsTrusted extent a b (settled r) Blames Becomes
  comes_to {X = X} {Becomes = Becomes} before (Ok x) wanted is becomes =
      grind (arith, nat_tests, finish)
  comes_to {X = X} {Becomes = Becomes} before (Err (Refused reply)) wanted is becomes =
      grind (arith, nat_tests, finish)
  comes_to before (Err (Fault fault)) wanted is becomes = memory laws before (Err fault) is

  -- a refusal is a reply
  pub replies : {extent : Reply → Extent} {a b : S} (outcome : Result Reply Halt)
      {Blames : Rows → ℕ → Type 0}
      {Becomes : Rows → Reply → Rows → Type 0}
      → IsDone rows failures writes Follows IsTrusted (λ out. extent (replied out)) a b
      (settled outcome) Blames
      (λ old out new. Becomes old (replied out) new)
      → (r : Result Reply KeepFault) → r ≡ reply_of outcome
      → IsDone rows failures writes Follows IsTrusted extent a b r Blames Becomes
  replies {extent = extent} {a = a} {b = b} outcome {Blames = Blames} {Becomes = Becomes} done r
      is = grind (arith, nat_tests)
