-- Texts that are printed.
use Rattle.std.proofs.Common.{◌≡◌, ℕ, List, Option, arith}
use Rattle.cli_outcome.specs.{Written.PrintsText, declared.status.Status.Status}

pub told_as : (text text' : List ℕ) (how how' : Status) (u v w x : Option (List ℕ)) (status : ℕ)
    → text ≡ text' → how ≡ how' → PrintsText text how u v w x status
    → PrintsText text' how' u v w x status
told_as text text' how how' u v w x status e f told =
    grind (arith, e, f, told)
