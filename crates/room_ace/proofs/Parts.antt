-- Texts of entries that have no four parts.
use Rattle.std.proofs.Common.{ℕ, ◌<◌, ◌≡◌, List, [], ◌∷◌, Err, refl, arith, length}
use Rattle.std.proofs.lemmas.Bool.Decides.{nat_tests}
use Rattle.room_entry.specs.{Pieces.pieces, declared.fault.TextFault.TheVariants.NotFourParts}
use Rattle.room_ace.specs.Text.{entry_of, entry_of_parts}
use Rattle.room_entry.proofs.Cuts.{length-pieces}

more_parts : (a b c d : List ℕ) (ps : List (List ℕ)) → 0 < length ps
    → entry_of_parts (a ∷ b ∷ c ∷ d ∷ ps) ≡ Err NotFourParts
more_parts a b c d [] some = absurd (omega arith)
more_parts a b c d (p ∷ ps) some = refl

-- a fourth separator is one too many
pub five_parts : (text kind after flags behind who mask fourth fifth : List ℕ)
    → pieces 58 text ≡ kind ∷ pieces 58 after → pieces 58 after ≡ flags ∷ pieces 58 behind
    → pieces 58 behind ≡ who ∷ pieces 58 mask
    → pieces 58 mask ≡ fourth ∷ pieces 58 fifth → entry_of text ≡ Err NotFourParts
five_parts text kind after flags behind who mask fourth fifth first second third last =
    grind (arith, nat_tests, length-pieces, more_parts)
