-- A set of pairs of texts that says which pairs came before.
use Rattle.std.specs.Prelude.{◌≡◌, ℕ, List, String, string_bytes, string_cmp}
use Rattle.std.specs.List.{list_any}
use Rattle.std.specs.Ordering.{ordering_then}
use Rattle.std.specs.declared.cmp.Ordering.{Ordering}
use Rattle.std.specs.BTreeSet.{BTreeSet, contains}
use Rattle.room_import.specs.Groups.{same_pair}

-- how two pairs of texts compare: by the first, then by the second
abbrev pub pair_cmp : {A : Type 0} → String A × String A → String A × String A → Ordering
pair_cmp x y = ordering_then (string_cmp x.0 y.0) (string_cmp x.1 y.1)

-- the bytes of a pair of texts
abbrev pub pair_bytes : {A : Type 0} → String A × String A → List ℕ × List ℕ
pair_bytes key = (string_bytes key.0, string_bytes key.1)

-- the set has the texts of these pairs, and no others
abbrev pub HasSeen : {A : Type 0} → BTreeSet (String A × String A) → List (List ℕ × List ℕ) → Type 0
HasSeen {A} seen pairs =
    (key : String A × String A)
    → contains pair_cmp seen key ≡ list_any (same_pair (pair_bytes key)) pairs
