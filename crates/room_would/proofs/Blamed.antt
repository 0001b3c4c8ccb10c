-- What failures say of their faults.
use Rattle.std.proofs.Common.{◌≡◌, Result, Ok, Err, IfErr, sym, subst}
use Rattle.room_entry.specs.declared.failure.Failure.{Failure, TheVariants.{Fault, OutOfMemory}}
use Rattle.room_piece.specs.{Refusing.Blames as BlamesPiece, declared.refusal.Refusal.Refusal}
use Rattle.room_would.specs.Faults.{Blames, becomes, unbuilt}
use Rattle.room_would.specs.declared.fault.WouldFault.{WouldFault}

module _ {F : Type 0} (Says Then : F → Type 0) (turn : (fault : F) → Says fault → Then fault) where
  -- what a failure says, said of it otherwise
  blames_turn : (failure : Failure F) → Blames Says failure → Blames Then failure
  blames_turn OutOfMemory said = tt
  blames_turn (Fault fault) said = turn fault said

  pub blames_all : {X : Type 0} (r : Result X (Failure F)) → IfErr r (Blames Says)
      → IfErr r (Blames Then)
  blames_all (Ok x) said = tt
  blames_all (Err failure) said = blames_turn failure said

-- what the refusal of a piece says, said of the fault that it becomes
pub blames_unbuilt : (Says : Refusal → Type 0) (Then : WouldFault → Type 0)
    (failure : Failure Refusal) (out : Failure WouldFault) → BlamesPiece Says failure
    → out ≡ becomes unbuilt failure
    → ((refusal : Refusal) → Says refusal → Then (unbuilt refusal)) → Blames Then out
blames_unbuilt Says Then OutOfMemory out said is turn = subst (Blames Then) (sym is) tt
blames_unbuilt Says Then (Fault refusal) out said is turn =
    subst (Blames Then) (sym is) (turn refusal said)
