-- Words that stand for a group and a user in turn.
use Rattle.std.proofs.Common.{◌≡◌, ◌<◌, ℕ, List, [], ◌∷◌, Bor, Err, length, false, refl, arith}
use Rattle.std.specs.Prelude.{◌==◌}
use Rattle.room_import.specs.declared.fault.CsvWhy.TheVariants.{NotTwoFields}
use Rattle.cli_words.specs.Tasks.{pairs_named, texts}
use Rattle.cli_words.specs.declared.refusal.TaskRefusal.TheVariants as refusal

-- one word that is left is no pair
pub one_word : (rest : List (Bor (List ℕ))) → length rest < 2 → (length rest == 0) ≡ false
    → pairs_named (texts rest) ≡ Err (refusal.Pair NotTwoFields)
one_word [] short some = absurd (let e = some in cc)
one_word (w ∷ []) short some = refl
one_word (w ∷ v ∷ rest) short some = absurd (let e = short in omega (arith, e))
