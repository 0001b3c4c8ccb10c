use Rattle.std.proofs.Common.{arith, rules, ◌≡◌, Some, None, Option, ℕ, List, ap, String}
use Rattle.std.proofs.{Common.{string_bytes}, lemmas.Map.Entries.lookup_clone}
use Rattle.std.specs.{List.AllZip, Option.{MatchOption, IsSomeAnd}}
use Rattle.room_memory.specs.Places.{id_at, is_place}
use Rattle.room_memory.proofs.places.Places.copy.Goals as goal

-- the copy of a place has the parent and the bytes of its name
abbrev IsPlaceOf : {Y : Type 0} → ℕ × String Y → ℕ × String Y → Type 0
IsPlaceOf place copy = (copy.0 ≡ place.0) × (string_bytes copy.1 ≡ string_bytes place.1)

same_number : (found of_copy : Option ℕ)
    → MatchOption found (of_copy ≡ None) (λ v. IsSomeAnd of_copy (λ w. w ≡ v)) → of_copy ≡ found
same_number None of_copy is = is
same_number (Some v) None is = absurd is
same_number (Some v) (Some w) is = ap Some is

same_test : {Y : Type 0} → (parent : ℕ) (name : List ℕ) (place copy : ℕ × String Y)
    → IsPlaceOf place copy → is_place parent name copy ≡ is_place parent name place
same_test parent name place copy same = grind (arith, string_bytes, copy.1, same.0, place.0, same.1)

listed : {Y : Type 0} → (parent : ℕ) (name : List ℕ) (places copies : List ((ℕ × String Y) × ℕ))
    → AllZip (λ a b. IsPlaceOf a.0 b.0 × (b.1 ≡ a.1)) places copies
    → id_at parent name copies ≡ id_at parent name places
listed parent name places copies zip =
    same_number _ _ (lookup_clone IsPlaceOf (λ v w. w ≡ v) (is_place parent name)
    (same_test parent name) places copies zip)

pub returns : goal.returns
returns c = search (rules, listed, c.in_ok-clone.ensures.cases)
