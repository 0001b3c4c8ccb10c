-- Calls that write more than records, one after the other.
use Rattle.std.proofs.Common.{Option, ℕ, ◌+◌, ◌≤◌, Result, Ok, Err, IfOk, arith}
use Rattle.std.proofs.lemmas.Bool.Decides.{nat_tests}
use Rattle.room_rows.specs.{declared.keep.KeepFault.KeepFault, Keep.KeepLaws, Rows.{Rows, AreRows}}
use Rattle.room_machine.specs.declared.reply.Reply.{Reply}
use Rattle.room_judge.specs.Extent.{Extent, OnlyRecords, Unless, UpTo, StaysWithin, Unsaid}
use Rattle.room_judge.{specs.{Extent.unrecorded, Judged.IsDone}, proofs.Calls.{HasDone, done}}
use Rattle.room_judge.proofs.{Calls.{fails, tail_known, then_known}, Within.within_any}

-- What suffices for two calls is shared by them.
pub record Share (First Second : Rows → Rows → ℕ → Type 0) (old mid new : Rows)
    (more : ℕ) : Type 0 where
  pub first : ℕ
  pub second : ℕ
  pub suffices_first : First (unrecorded old) (unrecorded mid) first
  pub suffices_second : Second (unrecorded mid) (unrecorded new) second
  pub fits : first + second ≤ more

module _ {S : Type 0} {rows : S → Rows} {failures writes : S → ℕ}
    {Follows IsTrusted : S → S → Type 0}
    (laws : KeepLaws rows failures writes Follows IsTrusted) where
  both_within : (First Second Suffices : Rows → Rows → ℕ → Type 0) (a b c : S)
      → StaysWithin rows writes (UpTo First) a b → StaysWithin rows writes (UpTo Second) b c
      → ((more : ℕ) → Suffices (unrecorded (rows a)) (unrecorded (rows c)) more
      → Share First Second (rows a) (rows b) (rows c) more)
      → StaysWithin rows writes (UpTo Suffices) a c
  both_within First Second Suffices a b c first second shares more enough = grind (arith, nat_tests)

  -- nothing is said any more of how much they write
  pub unsaid : {extent : Extent} {a b : S} {Before : Rows → Rows → Type 0}
      → HasDone rows writes Follows IsTrusted extent a b Before
      → HasDone rows writes Follows IsTrusted (UpTo Unsaid) a b Before
  unsaid before = grind (arith, nat_tests)

  -- all have answered, and written no more than suffices
  pub finish_up_to : {X : Type 0} {extent : X → Extent} {a c : S} (x : X)
      {Before : Rows → Rows → Type 0} {Blames : Rows → ℕ → Type 0}
      {Becomes : Rows → X → Rows → Type 0}
      → HasDone rows writes Follows IsTrusted (extent x) a c Before
      → ((old new : Rows) → AreRows old → Before old new → Becomes old x new)
      → IsDone rows failures writes Follows IsTrusted extent a c (Ok x) Blames Becomes
  finish_up_to {a = a} {c = c} x before joins = grind (arith, nat_tests)

  served_within : (told : Option Reply) (Enough Suffices : Rows → Rows → ℕ → Type 0) (a c : S)
      → ((more : ℕ) → Suffices (unrecorded (rows a)) (unrecorded (rows c)) more
      → Enough (unrecorded (rows a)) (unrecorded (rows c)) more)
      → StaysWithin rows writes (Unless told Enough) a c
      → StaysWithin rows writes (Unless told Suffices) a c
  served_within told Enough Suffices a c suffices few = grind (arith, nat_tests)

  -- calls that write only records, and others to which this suffices where the rows were so before
  pub then_provided : {told : Option Reply} {a b c : S}
      {Enough Suffices : Rows → Rows → ℕ → Type 0} {Before After Becomes : Rows → Rows → Type 0}
      → HasDone rows writes Follows IsTrusted OnlyRecords a b Before
      → HasDone rows writes Follows IsTrusted (Unless told Enough) b c After
      → ((old mid new : Rows) → AreRows old → Before old mid → After mid new → Becomes old new)
      → ((old mid new : Rows) (more : ℕ) → AreRows old → Before old mid
      → Suffices (unrecorded old) (unrecorded new) more
      → Enough (unrecorded old) (unrecorded new) more)
      → HasDone rows writes Follows IsTrusted (Unless told Suffices) a c Becomes
  then_provided {told = told} {a = a} {b = b} {c = c} {Enough = Enough} {Suffices = Suffices} before
      after joins suffices =
      let whole = then_known laws before after joins in
      grind (arith, nat_tests, served_within)

  -- the same where the last call gives the answer, or the fault
  pub tail_provided : {X : Type 0} {told : X → Option Reply} {a b c : S} {r : Result X KeepFault}
      {Enough Suffices : Rows → Rows → ℕ → Type 0} {Before : Rows → Rows → Type 0}
      {Blames Blames' : Rows → ℕ → Type 0} {After Becomes : Rows → X → Rows → Type 0}
      → HasDone rows writes Follows IsTrusted OnlyRecords a b Before
      → IsDone rows failures writes Follows IsTrusted (λ x. Unless (told x) Enough) b c r Blames
      After
      → ((old mid : Rows) (row : ℕ) → AreRows old → Before old mid → Blames mid row
      → Blames' old row)
      → ((old mid : Rows) (x : X) (new : Rows) → AreRows old → Before old mid
      → After mid x new → Becomes old x new)
      → ((old mid new : Rows) (more : ℕ) → AreRows old → Before old mid
      → Suffices (unrecorded old) (unrecorded new) more
      → Enough (unrecorded old) (unrecorded new) more)
      → IsDone rows failures writes Follows IsTrusted (λ x. Unless (told x) Suffices) a c r
      Blames' Becomes
  tail_provided {X = X} {told = told} {a = a} {b = b} {c = c} {r = r} {Enough = Enough}
      {Suffices = Suffices} {Before = Before} before after blames joins suffices =
      grind (arith, nat_tests, on, tail_known)
    where
      on : (r : Result X KeepFault) → AreRows (rows a) → Before (rows a) (rows b)
          → IfOk r (λ x. StaysWithin rows writes (Unless (told x) Enough) a c)
          → IfOk r (λ x. StaysWithin rows writes (Unless (told x) Suffices) a c)
      on r are is few = grind (arith, nat_tests, served_within)

  -- calls that write only records, as part of others
  pub widened : {X : Type 0} {extent : X → Extent} {a b : S} {r : Result X KeepFault}
      {Blames : Rows → ℕ → Type 0} {Becomes : Rows → X → Rows → Type 0}
      → IsDone rows failures writes Follows IsTrusted (λ _. OnlyRecords) a b r Blames Becomes
      → IsDone rows failures writes Follows IsTrusted extent a b r Blames Becomes
  widened {X = X} {extent = extent} {a = a} {b = b} {r = r} call =
      grind (arith, nat_tests, within_any)

  -- calls that write more than records, and others that do
  pub then_share : {a b c : S} {First Second Suffices : Rows → Rows → ℕ → Type 0}
      {Before After Becomes : Rows → Rows → Type 0}
      → HasDone rows writes Follows IsTrusted (UpTo First) a b Before
      → HasDone rows writes Follows IsTrusted (UpTo Second) b c After
      → ((old mid new : Rows) → Before old mid → After mid new → Becomes old new)
      → ((old mid new : Rows) (more : ℕ) → AreRows old → Before old mid → After mid new
      → Suffices (unrecorded old) (unrecorded new) more → Share First Second old mid new more)
      → HasDone rows writes Follows IsTrusted (UpTo Suffices) a c Becomes
  then_share {a = a} {b = b} {c = c} {First = First} {Second = Second} {Suffices = Suffices}
      before after joins shares =
      record {
        follows = laws.on a b c before.follows after.follows;
        becomes = grind (arith, nat_tests);
        few =
            λ t. both_within First Second Suffices a b c
            (before.few (laws.first a b c before.follows after.follows t))
            (after.few (laws.last a b c before.follows after.follows t))
            (grind (arith, nat_tests));
      }

  -- the same where the last call gives the answer, or the fault
  pub tail_share : {X : Type 0} {a b c : S} (r : Result X KeepFault)
      {First Second Suffices : Rows → Rows → ℕ → Type 0} {Before : Rows → Rows → Type 0}
      {Blames Blames' : Rows → ℕ → Type 0} {After Becomes : Rows → X → Rows → Type 0}
      → HasDone rows writes Follows IsTrusted (UpTo First) a b Before
      → IsDone rows failures writes Follows IsTrusted (λ _. UpTo Second) b c r Blames After
      → ((old mid : Rows) (row : ℕ) → Before old mid → Blames mid row → Blames' old row)
      → ((old mid : Rows) (x : X) (new : Rows) → Before old mid → After mid x new
      → Becomes old x new)
      → ((old mid : Rows) (x : X) (new : Rows) (more : ℕ) → AreRows old → Before old mid
      → After mid x new → Suffices (unrecorded old) (unrecorded new) more
      → Share First Second old mid new more)
      → IsDone rows failures writes Follows IsTrusted (λ _. UpTo Suffices) a c r Blames' Becomes
  tail_share (Ok x) {After = After} {Becomes = Becomes} before after blames joins shares =
      finish_up_to x
      (then_share before (done after) (λ old mid new b a. joins old mid x new b a)
      (λ old mid new more are b a enough. shares old mid x new more are b a enough))
      (λ old new are h. h)
  tail_share (Err e) before after blames joins shares = search (fails)

  -- nothing is said any more of how much is written
  pub then_unsaid : {first last : Extent} {a b c : S} {Before After Becomes : Rows → Rows → Type 0}
      → HasDone rows writes Follows IsTrusted first a b Before
      → HasDone rows writes Follows IsTrusted last b c After
      → ((old mid new : Rows) → Before old mid → After mid new → Becomes old new)
      → HasDone rows writes Follows IsTrusted (UpTo Unsaid) a c Becomes
  then_unsaid before after joins = grind (arith, nat_tests, then_share, unsaid)
