-- Numbers of options and flags, as `clap` answers them.
use Rattle.std.proofs.Common.{◌≡◌, ap, refl, codes, List, ℕ, Option, Some, None, Bool, true, false}
use Rattle.std.specs.{Prelude.{Result, Ok, unwrap_or}, Str.Parse.ParsesUnsigned}
use Rattle.clap.specs.Words.{ReadsOne}
use Rattle.cli_words.specs.Command.{IsFlag, IsNumber}
use Rattle.std.proofs.Common.{arith}

pub number_read : (E : Type 0) (G : List ℕ → Result ℕ E → Type 0) (bits default : ℕ)
    (text : Option (List ℕ)) (answer : Option ℕ)
    → ((u : List ℕ) (x : Result ℕ E) → G u x → ParsesUnsigned bits 10 u x)
    → (text ≡ None → answer ≡ None) → ((t : List ℕ) → text ≡ Some t → ReadsOne G t answer)
    → IsNumber bits default text (unwrap_or answer default)
number_read E G bits default None answer only none value =
    ap (λ (a : Option ℕ). unwrap_or a default) (none refl)
number_read E G bits default (Some t) (Some v) only none value =
    λ numeral fits. (only t (Ok v) (value t refl)).1
number_read E G bits default (Some t) None only none value =
    grind (arith, only, value)

pub flag_read : (text : Option (List ℕ)) (flag : Bool) → (text ≡ None → flag ≡ false)
    → (text ≡ Some (codes "true") → flag ≡ true) → (text ≡ Some (codes "false") → flag ≡ false)
    → IsFlag text flag
flag_read None flag none on off = none refl
flag_read (Some text) flag none on off = (λ is. on (ap Some is), λ is. off (ap Some is))
