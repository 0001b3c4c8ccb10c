use Rattle.std.proofs.Common.{ℕ, List, ap, ◌∙◌, filter, ◌||◌, take}
use Rattle.room_entry.specs.Bits.{all_bits, has}
use Rattle.room_entry.proofs.MaskLetters.{spelled, spelled_more, letters_more}
use Rattle.room_entry.proofs.mask.mask_in.Goals as goal

pub loop-letter-preserved : goal.loop-letter-preserved
loop-letter-preserved c =
    let text = c.args.letters.now in
    let i = c.loop-letter.letter-index in
    record {
      mask =
          c.union-mask.ensures
          ∙ ap (λ (m : List ℕ). filter (λ b. has m b || has c.in-Some.bit b) all_bits)
          c.loop-letter.invariant.mask
          ∙ ap (λ (m : List ℕ). filter (λ b. has (spelled (take i text)) b || has m b) all_bits)
          c.in-Some.ensures.1
          ∙ spelled_more text i c.loop-letter-test.true;
      letters =
          letters_more text i c.loop-letter-test.true c.loop-letter.invariant.letters
          c.in-Some.ensures.0;
    }
