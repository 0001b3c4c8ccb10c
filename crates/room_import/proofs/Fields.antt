-- The fields of a row, and what they say.
use Rattle.std.proofs.Common.{ℕ, ◌≡◌, List, [], ◌∷◌, length, Some, None, refl, arith}
use Rattle.csv.specs.Records.{field_at}
use Rattle.room_import.specs.Rows.{two_of}

-- ---- two fields

pub has_first : (fields : List (List ℕ)) → length fields ≡ 2 → None ≡ field_at fields 0 → ⊥
unfolding field_at
has_first [] two none = absurd (omega (arith, two))
has_first (group ∷ fields) two none = cc none

pub has_second : (fields : List (List ℕ)) → length fields ≡ 2 → None ≡ field_at fields 1 → ⊥
unfolding field_at
has_second [] two none = absurd (omega (arith, two))
has_second (group ∷ []) two none = absurd (omega (arith, two))
has_second (group ∷ user ∷ fields) two none = cc none

pub two_there : (fields : List (List ℕ)) (group user : List ℕ) → length fields ≡ 2
    → Some group ≡ field_at fields 0 → Some user ≡ field_at fields 1
    → Some (group, user) ≡ two_of fields
unfolding field_at
two_there [] group user two first second = absurd (omega (arith, two))
two_there (x ∷ []) group user two first second = absurd (omega (arith, two))
two_there (x ∷ y ∷ []) group user two first second =
    let at_first : group ≡ x = cc first in
    let at_second : user ≡ y = cc second in
    rw (at_first, at_second) refl
two_there (x ∷ y ∷ z ∷ fields) group user two first second = absurd (omega (arith, two))
