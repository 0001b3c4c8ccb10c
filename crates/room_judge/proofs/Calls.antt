-- Calls of a keeper one after the other, in the form in which a request is carried out.
use Rattle.std.proofs.Common.{◌≡◌, ℕ, ◌+◌, ◌≤◌, Result, Ok, Err, length, arith}
use Rattle.std.{proofs.lemmas.Bool.Decides.nat_tests, specs.Result.IsErrAnd}
use Rattle.room_rows.specs.declared.keep.KeepFault.{KeepFault, TheVariants.{Memory, Damaged}}
use Rattle.room_rows.specs.{Keep.{IsRead, IsWriteOf, KeepLaws}, Rows.{Rows, AreRows}}
use Rattle.room_rows.proofs.Steps.{later_cause}
use Rattle.room_judge.specs.Extent.{Extent, OnlyRecords, UpTo, StaysWithin, Unsaid, unrecorded}
use Rattle.room_judge.{specs.Judged.IsDone, proofs.Within.{within_after, within_any, within_later}}
use Rattle.room_judge.proofs.Within.{within_same, written_up_to}

-- calls that each answered, and what became of the rows
pub record HasDone {S : Type 0} (rows : S → Rows) (writes : S → ℕ)
    (Follows IsTrusted : S → S → Type 0) (extent : Extent) (a b : S)
    (Becomes : Rows → Rows → Type 0) : Type 0 where
  pub follows : Follows a b
  pub becomes : IsTrusted a b → Becomes (rows a) (rows b)
  pub few : IsTrusted a b → StaysWithin rows writes extent a b

module _ {S : Type 0} {rows : S → Rows} {failures writes : S → ℕ}
    {Follows IsTrusted : S → S → Type 0} where
  -- a call that reads is such a call
  pub of_read : {X : Type 0} {a b : S} {r : Result X KeepFault}
      {Blames : Rows → ℕ → Type 0} {Answers : Rows → X → Type 0}
      → IsRead rows failures writes Follows IsTrusted a b r Blames Answers
      → IsDone rows failures writes Follows IsTrusted (λ _. OnlyRecords) a b r Blames
      (λ old x new. Answers old x × (new ≡ old))
  of_read {X = X} {a = a} {b = b} {r = r} {Answers = Answers} read =
      grind (arith, nat_tests, within_same)

  -- a call that writes, with what it made of the rows and the cause of its fault; and this many
  -- writes suffice
  pub of_change : {count : ℕ} {X : Type 0} {a b : S} {r : Result X KeepFault}
      {Suffices : Rows → Rows → ℕ → Type 0} {Blames : Rows → ℕ → Type 0}
      {Becomes : Rows → X → Rows → Type 0}
      → IsWriteOf rows failures writes Follows IsTrusted count a b r Blames Becomes
      → ((old : Rows) (x : X) (new : Rows) (more : ℕ) → Becomes old x new
      → Suffices (unrecorded old) (unrecorded new) more
      → count + length old.read.audits ≤ length new.read.audits + more)
      → IsDone rows failures writes Follows IsTrusted (λ _. UpTo Suffices) a b r Blames Becomes
  of_change {count = count} {X = X} {a = a} {b = b} {r = r} {Suffices = Suffices}
      {Becomes = Becomes} write suffices = grind (arith, nat_tests, written_up_to)

  -- the same, and nothing is said of how much is written
  pub of_write : {count : ℕ} {X : Type 0} {a b : S} {r : Result X KeepFault}
      {Blames : Rows → ℕ → Type 0} {Becomes : Rows → X → Rows → Type 0}
      → IsWriteOf rows failures writes Follows IsTrusted count a b r Blames Becomes
      → IsDone rows failures writes Follows IsTrusted (λ _. UpTo Unsaid) a b r Blames Becomes
  of_write write = of_change write (λ old x new more becomes never. absurd never)

  -- a weaker statement about them
  pub as_well : {X : Type 0} {extent : X → Extent} {a b : S} {r : Result X KeepFault}
      {Blames Blames' : Rows → ℕ → Type 0} {Becomes Becomes' : Rows → X → Rows → Type 0}
      → IsDone rows failures writes Follows IsTrusted extent a b r Blames Becomes
      → ((old : Rows) (row : ℕ) → Blames old row → Blames' old row)
      → ((old : Rows) (x : X) (new : Rows) → Becomes old x new → Becomes' old x new)
      → IsDone rows failures writes Follows IsTrusted extent a b r Blames' Becomes'
  as_well {X = X} {a = a} {b = b} {r = r} {Blames = Blames} {Blames' = Blames'} {Becomes = Becomes}
      {Becomes' = Becomes'} call blames joins = grind (arith, nat_tests)

  -- calls that answered, as part of others
  pub done : {X : Type 0} {extent : X → Extent} {a b : S} {x : X} {Blames : Rows → ℕ → Type 0}
      {Becomes : Rows → X → Rows → Type 0}
      → IsDone rows failures writes Follows IsTrusted extent a b (Ok x) Blames Becomes
      → HasDone rows writes Follows IsTrusted (extent x) a b (λ old new. Becomes old x new)
  done call = record { follows = call.follows; becomes = call.becomes; few = call.few }

  module _ (laws : KeepLaws rows failures writes Follows IsTrusted) where
    -- before the first call the rows are as they were
    pub none_done : (a : S)
        → HasDone rows writes Follows IsTrusted OnlyRecords a a (λ old new. new ≡ old)
    none_done a = grind (arith, nat_tests, within_same)

    -- calls that answered and more that did are one run, with what both made of the rows joined;
    -- the first ones write only records
    pub then : {extent : Extent} {a b c : S} {Before After Becomes : Rows → Rows → Type 0}
        → HasDone rows writes Follows IsTrusted OnlyRecords a b Before
        → HasDone rows writes Follows IsTrusted extent b c After
        → ((old mid new : Rows) → Before old mid → After mid new → Becomes old new)
        → HasDone rows writes Follows IsTrusted extent a c Becomes
    then {a = a} {b = b} {c = c} before after joins = grind (arith, nat_tests, within_after)

    -- the same for rows with their numbers in order
    pub then_known : {extent : Extent} {a b c : S} {Before After Becomes : Rows → Rows → Type 0}
        → HasDone rows writes Follows IsTrusted OnlyRecords a b Before
        → HasDone rows writes Follows IsTrusted extent b c After
        → ((old mid new : Rows) → AreRows old → Before old mid → After mid new → Becomes old new)
        → HasDone rows writes Follows IsTrusted extent a c Becomes
    then_known {a = a} {b = b} {c = c} before after joins = grind (arith, nat_tests, within_after)

    -- what was found shows a row to be damaged
    pub damaged : {Y : Type 0} {first : Extent} {extent : Y → Extent} {a c : S} {id : ℕ}
        {Before : Rows → Rows → Type 0} {Blames : Rows → ℕ → Type 0}
        {Becomes : Rows → Y → Rows → Type 0}
        → HasDone rows writes Follows IsTrusted first a c Before
        → ((old new : Rows) → AreRows old → Before old new → Blames old id)
        → IsDone rows failures writes Follows IsTrusted {X = Y} extent a c (Err (Damaged id)) Blames
        Becomes
    damaged {a = a} {c = c} before blames = grind (arith, nat_tests)

    -- all have answered, and written only records
    pub finish : {X : Type 0} {extent : X → Extent} {a c : S} (x : X)
        {Before : Rows → Rows → Type 0}
        {Blames : Rows → ℕ → Type 0} {Becomes : Rows → X → Rows → Type 0}
        → HasDone rows writes Follows IsTrusted OnlyRecords a c Before
        → ((old new : Rows) → AreRows old → Before old new → Becomes old x new)
        → IsDone rows failures writes Follows IsTrusted extent a c (Ok x) Blames Becomes
    finish {extent = extent} {a = a} {c = c} x before joins = grind (arith, nat_tests, within_any)

    -- the last call gives the answer, or the fault
    pub tail : {X : Type 0} {extent : X → Extent} {a b c : S} {r : Result X KeepFault}
        {Before : Rows → Rows → Type 0} {Blames Blames' : Rows → ℕ → Type 0}
        {After Becomes : Rows → X → Rows → Type 0}
        → HasDone rows writes Follows IsTrusted OnlyRecords a b Before
        → IsDone rows failures writes Follows IsTrusted extent b c r Blames After
        → ((old mid : Rows) (row : ℕ) → Before old mid → Blames mid row → Blames' old row)
        → ((old mid : Rows) (x : X) (new : Rows) → Before old mid → After mid x new
        → Becomes old x new)
        → IsDone rows failures writes Follows IsTrusted extent a c r Blames' Becomes
    tail {X = X} {extent = extent} {a = a} {b = b} {c = c} {r = r} {Blames = Blames}
        {Blames' = Blames'} {After = After} {Becomes = Becomes} before after blames joins =
        grind (arith, nat_tests, later_cause, within_later)

    -- the same for rows with their numbers in order
    pub tail_known : {X : Type 0} {extent : X → Extent} {a b c : S} {r : Result X KeepFault}
        {Before : Rows → Rows → Type 0} {Blames Blames' : Rows → ℕ → Type 0}
        {After Becomes : Rows → X → Rows → Type 0}
        → HasDone rows writes Follows IsTrusted OnlyRecords a b Before
        → IsDone rows failures writes Follows IsTrusted extent b c r Blames After
        → ((old mid : Rows) (row : ℕ) → AreRows old → Before old mid → Blames mid row
        → Blames' old row) → ((old mid : Rows) (x : X) (new : Rows) → AreRows old → Before old mid
        → After mid x new → Becomes old x new)
        → IsDone rows failures writes Follows IsTrusted extent a c r Blames' Becomes
    tail_known {X = X} {extent = extent} {a = a} {b = b} {c = c} {r = r} {Blames = Blames}
        {Blames' = Blames'} {After = After} {Becomes = Becomes} before after blames joins =
        grind (arith, nat_tests, later_cause, within_later)

    -- a call has a fault, which is handed on
    pub fails : {X Y : Type 0} {first : Extent} {last : X → Extent} {extent : Y → Extent}
        {a b c : S} {e : KeepFault}
        {Before : Rows → Rows → Type 0} {Blames Blames' : Rows → ℕ → Type 0}
        {After : Rows → X → Rows → Type 0} {Becomes : Rows → Y → Rows → Type 0}
        → HasDone rows writes Follows IsTrusted first a b Before
        → IsDone rows failures writes Follows IsTrusted {X = X} last b c (Err e) Blames After
        → ((old mid : Rows) (row : ℕ) → Before old mid → Blames mid row → Blames' old row)
        → (r : Result Y KeepFault) → IsErrAnd r (λ x. x ≡ e)
        → IsDone rows failures writes Follows IsTrusted extent a c r Blames' Becomes
    fails before after blames (Ok y) is = absurd is
    fails {a = a} {b = b} {c = c} {e = e} {Blames = Blames} {Blames' = Blames'} before after blames
        (Err f) is = grind (arith, nat_tests, later_cause)

    -- memory ran out after them
    pub memory : {Y : Type 0} {first : Extent} {extent : Y → Extent} {a b : S}
        {Before : Rows → Rows → Type 0}
        {Blames : Rows → ℕ → Type 0} {Becomes : Rows → Y → Rows → Type 0}
        → HasDone rows writes Follows IsTrusted first a b Before → (r : Result Y KeepFault)
        → IsErrAnd r (λ x. x ≡ Memory)
        → IsDone rows failures writes Follows IsTrusted extent a b r Blames Becomes
    memory before (Ok y) is = absurd is
    memory {a = a} {b = b} {Blames = Blames} before (Err f) is = grind (arith, nat_tests)
