-- Laws of the bits of a number, for the type of masks.
use Rattle.std.proofs.Common.{ℕ, zero, suc, ◌+◌, ◌*◌, ◌/◌, ◌%◌, ◌^◌, ◌-◌, ◌<◌, ◌≤◌, ◌≡◌, min, max}
use Rattle.std.proofs.Common.{Bool, true, false, cond, not, ◌&&◌, ◌||◌, eqb, List, [], ◌∷◌, ◌++◌}
use Rattle.std.proofs.Common.{map, refl, sym, ap, inl, inr, eq-eqb, ◌∙◌, subst, arith}
use Rattle.std.specs.Prelude.{◌==◌, bit_and, bit_or, filter}
use Rattle.std.specs.Int.{bit_at, bit_not, w32}
use Rattle.std.proofs.lemmas.Nat.{mod-pow-add, and_comm, and_assoc, and_le_r}
use Rattle.std.proofs.lemmas.Nat.Bits.{bit_at_and, bit_at_or, bit_at_not, bit_at-lt, same_from_bits}
use Rattle.std.proofs.lemmas.Bool.{eqb-true, and_parts, cases_Bool, false≢true, true≢false}
use Rattle.std.proofs.lemmas.Bool.{or_cases}
use Rattle.std.proofs.lemmas.Bool.Decides.{nat_tests}
use Rattle.room_entry.specs.Bits.{all_bits, is_set, bits_of, number_of, has}

-- the numbers below n, rising
abbrev places : ℕ → List ℕ
places zero = []
places (suc n) = places n ++ n ∷ []

abbrev power : ℕ → ℕ
power i = 2 ^ i

-- the places that a mask can have
abbrev is_known : ℕ → Bool
is_known i = bit_at 0x1F07FF i == 1

all_bits-places : all_bits ≡ map power (filter is_known (places 21))
unfolding all_bits
all_bits-places = refl

-- the number that the bits at these places make
abbrev digits : ℕ → List ℕ → ℕ
digits n [] = 0
digits n (i ∷ is) = bit_at n i * 2 ^ i + digits n is

digits-append : (n : ℕ) (is js : List ℕ) → digits n (is ++ js) ≡ digits n is + digits n js
digits-append n [] js = omega arith
digits-append n (i ∷ is) js = let e = digits-append n is js in omega arith

digits-places : (k n : ℕ) → digits n (places k) ≡ n % 2 ^ k
digits-places zero n = omega arith
digits-places (suc k) n =
    let e = digits-append n (places k) (k ∷ []) in
    let h = digits-places k n in
    let s = mod-pow-add n 1 k in
    let t : 1 + k ≡ suc k = omega arith in
    let u : n % 2 ^ suc k ≡ (n / 2 ^ k % 2) * 2 ^ k + n % 2 ^ k =
    subst (λ (m : ℕ). n % 2 ^ m ≡ (n / 2 ^ k % 2) * 2 ^ k + n % 2 ^ k) t s in
    omega arith

-- places whose bits are not set add nothing
digits-filter : (n : ℕ) (p : ℕ → Bool) (is : List ℕ) → ((i : ℕ) → p i ≡ false → bit_at n i ≡ 0)
    → digits n (filter p is) ≡ digits n is
digits-filter n p [] none = refl
digits-filter n p (i ∷ is) none =
    let rest = digits-filter n p is none in
    elim (cases_Bool (p i)) [
      | inl e ↦ rw e (ap (λ m. bit_at n i * 2 ^ i + m) rest)
      | inr e ↦ rw (e, none i e) (rest ∙ omega arith)
    ]

number_of_cond : (t m : ℕ) (xs : List ℕ) → t < 2
    → number_of (cond (eqb t 1) (m ∷ xs) xs) ≡ t * m + number_of xs
number_of_cond t m xs lt =
    elim (cases_Bool (eqb t 1)) [
      | inl e ↦ (let one = eqb-true t 1 e in rw (e, one) (omega arith))
      | inr e ↦ (let none : t ≡ 0 = grind (arith, nat_tests) in rw (e, none) (omega arith))
    ]

number_of-filter : (n : ℕ) (is : List ℕ)
    → number_of (filter (is_set n) (map power is)) ≡ digits n is
number_of-filter n [] = refl
number_of-filter n (i ∷ is) =
    number_of_cond (bit_at n i) (2 ^ i) (filter (is_set n) (map power is)) (bit_at-lt n i)
    ∙ ap (λ m. bit_at n i * 2 ^ i + m) (number_of-filter n is)

-- a known number has no bit at another place
unknown : (n i : ℕ) → bit_and n 0x1F07FF ≡ n → is_known i ≡ false → bit_at n i ≡ 0
unknown n i known e =
    let b = bit_at_and n 0x1F07FF i in
    let c = bit_at-lt 0x1F07FF i in
    let z : bit_at 0x1F07FF i ≡ 0 = grind (arith, nat_tests) in
    let h : bit_at n i ≡ min (bit_at n i) 0 =
    ap (λ m. bit_at m i) (sym known) ∙ b ∙ ap (λ m. min (bit_at n i) m) z in
    omega arith

pub known_le : (n : ℕ) → bit_and n 0x1F07FF ≡ n → n ≤ 0x1F07FF
known_le n known = subst (λ (m : ℕ). m ≤ 0x1F07FF) known (and_le_r n 0x1F07FF)

-- a known number is the sum of its bits
pub number_of-bits_of : (n : ℕ) → bit_and n 0x1F07FF ≡ n → number_of (bits_of n) ≡ n
number_of-bits_of n known =
    let le = known_le n known in
    ap (λ bits. number_of (filter (is_set n) bits)) all_bits-places
    ∙ number_of-filter n (filter is_known (places 21))
    ∙ digits-filter n is_known (places 21) (λ i. unknown n i known)
    ∙ digits-places 21 n
    ∙ omega arith

-- ---- the bits of `&` and `!`

-- a bit of the list of powers is a power
has-powers : (b : ℕ) (is : List ℕ) → has (map power is) b ≡ true
    → (i : ℕ) × (has is i ≡ true) × (power i ≡ b)
has-powers b [] h = absurd (false≢true h)
has-powers b (i ∷ is) h =
    elim (cases_Bool (eqb (power i) b)) [
      | inl e ↦ (i, ap (λ t. t || has is i) (eq-eqb i i refl), eqb-true (power i) b e)
      | inr e ↦ (
          let r = has-powers b is (sym (ap (λ t. t || has (map power is) b) e) ∙ h) in
          (r.0, grind (arith, nat_tests), r.2))
    ]

-- filters that agree on the elements of a list give the same
filter_agree : (f g : ℕ → Bool) (xs : List ℕ) → ((b : ℕ) → has xs b ≡ true → f b ≡ g b)
    → filter f xs ≡ filter g xs
filter_agree f g [] agree = refl
filter_agree f g (x ∷ xs) agree =
    let here : f x ≡ g x = agree x (ap (λ t. t || has xs x) (eq-eqb x x refl)) in
    let there =
    filter_agree f g xs (λ b h. agree b (elim (cases_Bool (eqb x b)) [
      | inl e ↦ ap (λ t. t || has xs b) e
      | inr e ↦ ap (λ t. t || has xs b) e ∙ h
    ])) in
    ap (λ t. cond t (x ∷ filter f xs) (filter f xs)) here ∙ ap (λ ys. cond (g x) (x ∷ ys) ys) there

filter-filter : (f g : ℕ → Bool) (xs : List ℕ)
    → filter g (filter f xs) ≡ filter (λ x. f x && g x) xs
filter-filter f g [] = refl
filter-filter f g (x ∷ xs) =
    let rest = filter-filter f g xs in
    elim (cases_Bool (f x)) [
      | inl e ↦ rw e (ap (λ ys. cond (g x) (x ∷ ys) ys) rest)
      | inr e ↦ rw e rest
    ]

has_step : (t u e h : Bool) → (e ≡ true → t ≡ u) → cond t (e || (h && u)) (h && u) ≡ ((e || h) && u)
has_step true true true h same = refl
has_step true true false h same = refl
has_step true false true h same = absurd (true≢false (same refl))
has_step true false false h same = refl
has_step false true true h same = absurd (false≢true (same refl))
has_step false false true true same = refl
has_step false false true false same = refl
has_step false u false h same = refl

has_cond : (t : Bool) (x b : ℕ) (ys : List ℕ)
    → has (cond t (x ∷ ys) ys) b ≡ cond t (eqb x b || has ys b) (has ys b)
has_cond true x b ys = refl
has_cond false x b ys = refl

-- a bit of a filtered list is one that passes
has-filter : (f : ℕ → Bool) (xs : List ℕ) (b : ℕ) → has (filter f xs) b ≡ (has xs b && f b)
has-filter f [] b = refl
has-filter f (x ∷ xs) b =
    has_cond (f x) x b (filter f xs)
    ∙ ap (λ h. cond (f x) (eqb x b || h) h) (has-filter f xs b)
    ∙ has_step (f x) (f b) (eqb x b) (has xs b) (λ e. ap f (eqb-true x b e))

is_set_and : (s t : ℕ) → s < 2 → t < 2 → eqb (min s t) 1 ≡ (eqb s 1 && eqb t 1)
is_set_and s t below under = grind (arith, nat_tests)

is_set_not : (t : ℕ) → t < 2 → eqb (1 - t) 1 ≡ not (eqb t 1)
is_set_not t below = grind (arith, nat_tests)

has-append : (xs ys : List ℕ) (b : ℕ) → has (xs ++ ys) b ≡ (has xs b || has ys b)
has-append [] ys b = refl
has-append (x ∷ xs) ys b =
    or_step (eqb x b) (has xs b) (has ys b) (has (xs ++ ys) b) (has-append xs ys b)
  where
    or_step : (t u v w : Bool) → w ≡ (u || v) → (t || w) ≡ ((t || u) || v)
    or_step true u v w e = refl
    or_step false u v w e = e

has-places : (k i : ℕ) → has (places k) i ≡ true → i < k
has-places zero i h = absurd (false≢true h)
has-places (suc k) i h =
    let either = sym (has-append (places k) (k ∷ []) i) ∙ h in
    elim (or_cases (has (places k) i) (has (k ∷ []) i) either) [
      | inl e ↦ (let r = has-places k i e in omega arith)
      | inr e ↦ (elim (or_cases (eqb k i) false e) [
        | inl same ↦ (let r = eqb-true k i same in omega arith)
        | inr wrong ↦ absurd (false≢true wrong)
      ])
    ]

-- each known bit is a power of two
power_of : (b : ℕ) → has all_bits b ≡ true → (i : ℕ) × (i < 21) × (power i ≡ b)
power_of b h =
    let among = ap (λ bits. has bits b) (sym all_bits-places) ∙ h in
    let r = has-powers b (filter is_known (places 21)) among in
    let both = sym (has-filter is_known (places 21) r.0) ∙ r.1 in
    (r.0, has-places 21 r.0 (and_parts (has (places 21) r.0) (is_known r.0) both).0, r.2)

-- a bit of a number's mask is a known one that is set
has-bits_of : (n b : ℕ) → has all_bits b ≡ true → has (bits_of n) b ≡ is_set n b
has-bits_of n b h = has-filter (is_set n) all_bits b ∙ ap (λ t. t && is_set n b) h

-- the bits of `m & n` are those of m that n has
pub bits_of-and : (m n : ℕ) → bits_of (bit_and m n) ≡ filter (has (bits_of n)) (bits_of m)
bits_of-and m n =
    filter_agree (is_set (bit_and m n)) (λ b. is_set m b && has (bits_of n) b) all_bits (λ b h.
    let r = power_of b h in
    let at : is_set (bit_and m n) (power r.0) ≡ (is_set m (power r.0) && is_set n (power r.0)) =
    ap (λ t. eqb t 1) (bit_at_and m n r.0)
    ∙ is_set_and (bit_at m r.0) (bit_at n r.0) (bit_at-lt m r.0) (bit_at-lt n r.0) in
    subst (λ (x : ℕ). is_set (bit_and m n) x ≡ (is_set m x && is_set n x)) r.2 at
    ∙ ap (λ t. is_set m b && t) (sym (has-bits_of n b h)))
    ∙ sym (filter-filter (is_set m) (has (bits_of n)) all_bits)

-- the bits of `m & !n` are those of m that n doesn't have
pub bits_of-and_not : (m n : ℕ) → n < 2 ^ 32
    → bits_of (bit_and m (bit_not w32 n)) ≡ filter (λ b. not (has (bits_of n) b)) (bits_of m)
bits_of-and_not m n fits =
    let flipped = bit_not w32 n in
    filter_agree (is_set (bit_and m flipped)) (λ b. is_set m b && not (has (bits_of n) b)) all_bits
    (λ b h.
    let r = power_of b h in
    let flip : bit_at flipped r.0 ≡ 1 - bit_at n r.0 =
    bit_at_not w32 n r.0 fits (omega (arith, r.1)) in
    let at : is_set (bit_and m flipped) (power r.0)
    ≡ (is_set m (power r.0) && not (is_set n (power r.0))) =
    ap (λ t. eqb t 1) (bit_at_and m flipped r.0)
    ∙ is_set_and (bit_at m r.0) (bit_at flipped r.0) (bit_at-lt m r.0) (bit_at-lt flipped r.0)
    ∙ ap (λ t. is_set m (power r.0) && eqb t 1) flip
    ∙ ap (λ t. is_set m (power r.0) && t) (is_set_not (bit_at n r.0) (bit_at-lt n r.0)) in
    subst (λ (x : ℕ). is_set (bit_and m flipped) x ≡ (is_set m x && not (is_set n x))) r.2 at
    ∙ ap (λ t. is_set m b && not t) (sym (has-bits_of n b h)))
    ∙ sym (filter-filter (is_set m) (λ b. not (has (bits_of n) b)) all_bits)

pub bits_of-zero : bits_of 0 ≡ []
unfolding all_bits
bits_of-zero = refl

-- what `m & n` has is known where m is
pub known-and : (m n : ℕ) → bit_and m 0x1F07FF ≡ m → bit_and (bit_and m n) 0x1F07FF ≡ bit_and m n
known-and m n known =
    and_assoc 0x1F07FF m n ∙ ap (bit_and m) (and_comm n 0x1F07FF) ∙ sym (and_assoc n m 0x1F07FF)
    ∙ ap (λ x. bit_and x n) known

-- ---- the bits that a mask can have

known_bits : bits_of 0x1F07FF ≡ all_bits
unfolding all_bits
known_bits = refl

and_true : (t : Bool) → (t && true) ≡ t
and_true true = refl
and_true false = refl

-- bits that no mask can have aren't among those of a number
pub bits_of-known : (n : ℕ) → bits_of (bit_and n 0x1F07FF) ≡ bits_of n
bits_of-known n =
    bits_of-and n 0x1F07FF ∙ ap (λ known. filter (has known) (bits_of n)) known_bits
    ∙ filter-filter (is_set n) (has all_bits) all_bits
    ∙ filter_agree (λ b. is_set n b && has all_bits b) (is_set n) all_bits
    (λ b h. ap (λ t. is_set n b && t) h ∙ and_true (is_set n b))

known_twice : (n : ℕ) → bit_and (bit_and n 0x1F07FF) 0x1F07FF ≡ bit_and n 0x1F07FF
known_twice n = subst (λ (m : ℕ). bit_and m 0x1F07FF ≡ m) (and_comm 0x1F07FF n)
    (known-and 0x1F07FF n refl)

-- any number's bits make what is known of it
pub number_of-known : (n : ℕ) → number_of (bits_of n) ≡ bit_and n 0x1F07FF
number_of-known n =
    ap number_of (sym (bits_of-known n)) ∙ number_of-bits_of (bit_and n 0x1F07FF) (known_twice n)

is_set_or : (s t : ℕ) → s < 2 → t < 2 → eqb (max s t) 1 ≡ (eqb s 1 || eqb t 1)
is_set_or s t below under = grind (arith, nat_tests)

-- the bits of `m | n` are those of either
pub bits_of-or : (m n : ℕ)
    → bits_of (bit_or m n) ≡ filter (λ b. has (bits_of m) b || has (bits_of n) b) all_bits
bits_of-or m n =
    filter_agree (is_set (bit_or m n)) (λ b. has (bits_of m) b || has (bits_of n) b) all_bits
    (λ b h.
    let r = power_of b h in
    let at : is_set (bit_or m n) (power r.0) ≡ (is_set m (power r.0) || is_set n (power r.0)) =
    ap (λ t. eqb t 1) (bit_at_or m n r.0)
    ∙ is_set_or (bit_at m r.0) (bit_at n r.0) (bit_at-lt m r.0) (bit_at-lt n r.0) in
    subst (λ (x : ℕ). is_set (bit_or m n) x ≡ (is_set m x || is_set n x)) r.2 at
    ∙ ap (λ t. t || is_set n b) (sym (has-bits_of m b h))
    ∙ ap (λ t. has (bits_of m) b || t) (sym (has-bits_of n b h)))

-- what is known of two numbers is known of `m | n`
pub known-or : (m n : ℕ) → bit_and m 0x1F07FF ≡ m → bit_and n 0x1F07FF ≡ n
    → bit_and (bit_or m n) 0x1F07FF ≡ bit_or m n
known-or m n known also =
    same_from_bits (bit_and (bit_or m n) 0x1F07FF) (bit_or m n) (λ i.
    let whole = bit_at_and (bit_or m n) 0x1F07FF i in
    let either = bit_at_or m n i in
    let first : min (bit_at m i) (bit_at 0x1F07FF i) ≡ bit_at m i =
    sym (bit_at_and m 0x1F07FF i) ∙ ap (λ k. bit_at k i) known in
    let second : min (bit_at n i) (bit_at 0x1F07FF i) ≡ bit_at n i =
    sym (bit_at_and n 0x1F07FF i) ∙ ap (λ k. bit_at k i) also in
    whole ∙ ap (λ k. min k (bit_at 0x1F07FF i)) either
    ∙ below (bit_at m i) (bit_at n i) (bit_at 0x1F07FF i) first second ∙ sym either)
  where
    below : (a b k : ℕ) → min a k ≡ a → min b k ≡ b → min (max a b) k ≡ max a b
    below a b k first second = omega arith

-- ---- masks that are filters of all bits

-- what a filter of all bits has
pub has-chosen : (f : ℕ → Bool) (b : ℕ) → has all_bits b ≡ true → has (filter f all_bits) b ≡ f b
has-chosen f b h = has-filter f all_bits b ∙ ap (λ t. t && f b) h

-- filters of all bits that agree on each bit are the same
pub chosen_agree : (f g : ℕ → Bool) → ((b : ℕ) → has all_bits b ≡ true → f b ≡ g b)
    → filter f all_bits ≡ filter g all_bits
chosen_agree f g agree = filter_agree f g all_bits agree
