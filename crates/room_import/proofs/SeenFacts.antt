-- The set of pairs that came before, as pairs are added.
use Rattle.std.proofs.Common.{arith, ℕ, ◌≡◌, ◌∷◌, ◌++◌, true, false, cond, List, [], String}
use Rattle.std.proofs.{Common.{string_bytes, string_cmp, refl, ap, ◌∙◌}, lemmas.Bool.cond-true}
use Rattle.std.proofs.lemmas.{Bool.cond-false, List.Folds.list_any-append, Map.Text.is_eq-slice_cmp}
use Rattle.std.specs.{List.list_any, Ordering.is_eq, BTreeSet.{BTreeSet, contains}}
use Rattle.room_import.specs.{Groups.{same_pair, with_pair}, Seen.{HasSeen, pair_bytes, pair_cmp}}
use Rattle.room_entry.proofs.{Facts.Booleans.one_more, Texts.same_text-sym}

-- two keys compare as equal where their texts are the same
key_equal : {A : Type 0} (x y : String A × String A)
    → is_eq (pair_cmp x y) ≡ same_pair (pair_bytes y) (pair_bytes x)
key_equal x y =
    grind (arith, string_cmp, x.0, y.0, x.1, y.1, is_eq-slice_cmp, string_bytes, same_text-sym)

pub seen_more : {A : Type 0} (seen more : BTreeSet (String A × String A))
    (pairs : List (List ℕ × List ℕ)) (key : String A × String A) → HasSeen seen pairs
    → ((other : String A × String A)
    → contains pair_cmp more other
    ≡ cond (is_eq (pair_cmp key other)) true (contains pair_cmp seen other))
    → HasSeen more (pairs ++ pair_bytes key ∷ [])
seen_more seen more pairs key has adds other =
    grind (arith, adds, other, seen, key_equal, key, has, one_more, pairs, list_any-append)

pub seen_same : {A : Type 0} (seen more : BTreeSet (String A × String A))
    (pairs : List (List ℕ × List ℕ)) → HasSeen seen pairs → more.keys ≡ seen.keys
    → HasSeen more pairs
seen_same seen more pairs has same other =
    ap (λ (keys : List _). list_any (λ key. is_eq (pair_cmp other key)) keys) same ∙ has other

pub with_new : (pairs : List (List ℕ × List ℕ)) (pair : List ℕ × List ℕ)
    → list_any (same_pair pair) pairs ≡ false → with_pair pairs pair ≡ pairs ++ pair ∷ []
with_new pairs pair isnt = cond-false _ _ _ isnt

pub with_old : (pairs : List (List ℕ × List ℕ)) (pair : List ℕ × List ℕ)
    → list_any (same_pair pair) pairs ≡ true → with_pair pairs pair ≡ pairs
with_old pairs pair is = cond-true _ _ _ is

pub key_named : {A : Type 0} (first second : String A) (group user : List ℕ)
    → string_bytes first ≡ group → string_bytes second ≡ user
    → pair_bytes {A = A} (first, second) ≡ (group, user)
key_named first second group user at_first at_second = rw (at_first, at_second) refl
