-- A text is its first piece and the pieces of what follows it.
use Rattle.std.proofs.{Common.{ℕ, ◌≡◌, List, [], ◌∷◌, refl, inl, inr}, lemmas.Bool.cases_Bool}
use Rattle.std.specs.Prelude.{◌==◌, Err}
use Rattle.room_entry.specs.Pieces.{pieces}
use Rattle.cli_check.specs.{declared.fault.InputWhy.TheVariants.BadName, Check.owners_of}

pieces-some : (separator : ℕ) (bytes : List ℕ) → (first : List ℕ)
    × ((more : List (List ℕ)) × (pieces separator bytes ≡ first ∷ more))
pieces-some separator [] = ([], ([], refl))
pieces-some separator (byte ∷ bytes) =
    elim (cases_Bool (byte == separator)) [
      | inl e ↦ ([], (pieces separator bytes, rw e refl))
      | inr e ↦
          (let rest = pieces-some separator bytes in
          (byte ∷ rest.0, (rest.1.0, rw (e, rest.1.1) refl)))
    ]

-- three pieces are no owners
pub owners-three : (value owner group name more : List ℕ)
    → pieces 58 value ≡ owner ∷ pieces 58 group → pieces 58 group ≡ name ∷ pieces 58 more
    → owners_of value ≡ Err BadName
owners-three value owner group name more cut again =
    let third = pieces-some 58 more in
    cc
