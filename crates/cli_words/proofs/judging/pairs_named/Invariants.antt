use Rattle.std.proofs.Common.{◌≡◌, ◌++◌, Ok, length}
use Rattle.cli_words.specs.Tasks.{goes_on, pairs_named, texts}
use Rattle.cli_words.proofs.judging.pairs_named.Given as goal

-- the pairs so far and those of the words that are left
abbrev pub invariant-words : goal.invariant-words
invariant-words l =
    goes_on (pairs_named (texts l.rest)) (λ more. Ok (l.pairs ++ more))
    ≡ pairs_named (texts l.fn.words)

abbrev pub decreases-words : goal.decreases-words
decreases-words l = length l.rest
