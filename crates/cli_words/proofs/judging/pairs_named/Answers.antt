use Rattle.std.proofs.Common.{◌≡◌, ◌∙◌, ◌++◌, Ok, sym, ap, length, false, arith}
use Rattle.std.specs.Prelude.{◌==◌}
use Rattle.cli_words.specs.Tasks.{goes_on}
use Rattle.cli_words.proofs.Paired.{one_word}
use Rattle.cli_words.proofs.judging.pairs_named.Goals as goal

pub returns-else-is_empty : goal.returns-else-is_empty
returns-else-is_empty c =
    let some : (length c.words.rest.now == 0) ≡ false =
    grind (arith, c.is_empty.ensures, c.if-is_empty.false) in
    sym c.words.invariant
    ∙ ap (λ r. goes_on r (λ more. Ok (c.words.pairs ++ more)))
    (one_word c.words.rest.now c.in_default.len_below some)
