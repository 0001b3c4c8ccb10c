-- How many calls read: calls of a keeper one after the other.
use Rattle.std.proofs.Common.{◌≡◌, ℕ, ◌+◌, ◌*◌, ◌≤◌, ◌<◌, ◌^◌, ◌-◌, Bool, true, false, Result, Ok}
use Rattle.std.proofs.{Common.{Err, IfOk, arith}, lemmas.Bool.Decides.nat_tests}
use Rattle.std.specs.Result.{IsErrAnd}
use Rattle.room_rows.specs.{declared.keep.{Keep.Ghosts, KeepFault.KeepFault}, Keep.capped}
use Rattle.room_machine.specs.declared.reply.Reply.{Reply}
use Rattle.room_judge.specs.{declared.halt.Halt.Halt, Halted.{reply_of, settled}}
use Rattle.room_desk.specs.Called.{ReadsBeside, ReadsFew}

module _ {S : Type 0} (k : Ghosts S) where
  -- nothing is said where there is no answer
  pub unanswered : {X : Type 0} (a b : S) (count : ℕ) (r : Result X KeepFault) (e : KeepFault)
      → IsErrAnd r (λ x. x ≡ e) → IfOk r (λ _. ReadsBeside k count a b)
  unanswered a b count (Ok x) e is = absurd is
  unanswered a b count (Err f) e is = tt

  -- so many calls read, and no less is counted as written
  pub reads_few : (a b : S) (count : ℕ) → k.reads b ≤ k.reads a + count → k.writes a ≤ k.writes b
      → ReadsBeside k count a b
  reads_few a b count reads grows = λ below. omega (arith, reads, grows)

  -- so many calls read, and others follow
  pub reads_then : (a b c : S) (count more most : ℕ) → k.reads b ≤ k.reads a + count
      → k.writes a ≤ k.writes b → count + more ≤ most → ReadsBeside k more b c
      → ReadsBeside k most a c
  reads_then a b c count more most reads grows fits next = grind (arith, nat_tests)

  -- the same where the others give the result
  pub reads_on : {X : Type 0} (r : Result X KeepFault) (a b c : S) (count more most : ℕ)
      → k.reads b ≤ k.reads a + count → k.writes a ≤ k.writes b → count + more ≤ most
      → IfOk r (λ _. ReadsBeside k more b c) → IfOk r (λ _. ReadsBeside k most a c)
  reads_on r a b c count more most reads grows fits next = grind (arith, nat_tests, reads_then)

  -- two for each list that was written, as far as these are counted
  pub reads_carried : (a b : S) (count changed : ℕ)
      → (changed < 2 ^ 64 - 1 → k.reads b ≤ k.reads a + (2 * changed + count))
      → k.writes b ≡ capped (k.writes a + changed) → ReadsBeside k count a b
  reads_carried a b count changed reads written = grind (arith, nat_tests)

  -- so many calls read before those of a request
  pub reads_before : {X : Type 0} (down : Bool) (r : Result X KeepFault) (a b c : S)
      (count more most : ℕ) → k.reads b ≤ k.reads a + count → k.writes a ≤ k.writes b
      → count + more ≤ most → ReadsFew k down more b c r → ReadsFew k down most a c r
  reads_before down r a b c count more most reads grows fits next =
      grind (arith, nat_tests, reads_on)

  -- a refusal is a reply
  pub reads_replied : (down : Bool) (count : ℕ) (a b : S) (outcome : Result Reply Halt)
      (r : Result Reply KeepFault) → r ≡ reply_of outcome
      → ReadsFew k down count a b (settled outcome) → ReadsFew k down count a b r
  reads_replied false count a b outcome r is few = few
  reads_replied true count a b outcome r is few = grind (arith, nat_tests)
