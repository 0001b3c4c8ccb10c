-- Answers that are found again.
use Rattle.std.proofs.Common.{◌≡◌, Result, Ok, Err, Option, Some, None, IfOk, IfSome, subst}
use Rattle.room_rows.specs.Rows.{Rows}
use Rattle.room_remember.specs.{declared.known.Known.Known, Agrees.Holds}

-- What holds of what is remembered holds of what is copied of it.
pub recalled : {X E : Type 0} (result : Result (Option X) E) (known : Known) (Is : X → Known)
    (Agreed : Rows → Type 0) → ((rows : Rows) → Agreed rows → Holds rows known)
    → IfOk result (λ found. IfSome found (λ x. known ≡ Is x))
    → IfOk result (λ found. IfSome found (λ x. (rows : Rows) → Agreed rows → Holds rows (Is x)))
recalled (Ok None) known Is Agreed holds is = tt
recalled (Ok (Some x)) known Is Agreed holds is = λ rows agreed. subst (Holds rows) is (holds rows agreed)
recalled (Err e) known Is Agreed holds is = tt
