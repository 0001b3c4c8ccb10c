-- A front that shows that an input is too long gets the answer of the whole input.
use Rattle.std.proofs.Common.{ℕ, ◌≡◌, ◌≤◌, List, length, refl, inl, inr, arith}
use Rattle.std.proofs.lemmas.{List.{length-take-le, take_all}, Bool.{cases_Bool, ltb-true}}
use Rattle.std.proofs.lemmas.Bool.{ltb-false}
use Rattle.std.specs.Prelude.{take, nat_lt, Option, Some, None, IfSome}
use Rattle.cli_outcome.specs.{Reading.IsInput, declared.status.Status.Status}
use Rattle.cli_check.specs.{Answering.reply_line, Reply.reply_status, Check.judged}

pub judged-take : (input : List ℕ) → judged (take 1048577 input) ≡ judged input
judged-take input =
    elim (cases_Bool (nat_lt 1048576 (length input))) [
      | inl long ↦ (
          let more = ltb-true 1048576 (length input) long in
          let least : 1048577 ≤ length input = omega arith in
          let cut = length-take-le 1048577 input least in
          rw (cut, long) refl)
      | inr short ↦ (
          let below = ltb-false 1048576 (length input) short in
          let most : length input ≤ 1048577 = omega arith in
          rw (take_all 1048577 input most) refl)
    ]

-- what is printed for the front is printed for all
pub told_of : (known : Option (List ℕ)) (bytes line : List ℕ) (status : Status)
    → IfSome known (λ input. bytes ≡ take 1048577 input) → line ≡ reply_line bytes
    → status ≡ reply_status (judged bytes)
    → (input : List ℕ) × IsInput known input × (line ≡ reply_line input)
    × (status ≡ reply_status (judged input))
told_of None bytes line status front said ends = (bytes, tt, said, ends)
told_of (Some input) bytes line status front said ends =
    grind (arith, judged-take, front, said, ends)
