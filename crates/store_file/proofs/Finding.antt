-- A search that found a text somewhere.
use Rattle.std.proofs.Common.{ℕ, List, Option, None, Some, IsTrue, arith, refl}
use Rattle.std.{proofs.lemmas.Bool.false≢true, specs.Option.is_some}
use Rattle.memchr.specs.Find.{FindsNeedle}
use Rattle.store_file.specs.FirstPage.{Stands}

pub found_somewhere : (bytes text : List ℕ) (place : Option ℕ) → FindsNeedle bytes text 0 place
    → (IsTrue (is_some place) → Stands text bytes) × (Stands text bytes → IsTrue (is_some place))
found_somewhere bytes text None nowhere = (
  λ no. absurd (false≢true no),
  λ (place, occurs). absurd (nowhere place (omega arith) (omega (arith, occurs.fits)) occurs),
)
found_somewhere bytes text (Some place) found = (λ _. (place, found.1), λ _. refl)
