-- Names in order, and a name that is none of them.
use Rattle.std.proofs.Common.{rules, ℕ, zero, suc, ◌<◌, ◌≤◌, ◌^◌, ◌≡◌, Bool, true, false, cond, not}
use Rattle.std.proofs.Common.{◌&&◌, ◌||◌, List, [], ◌∷◌, length, take, drop, get_or, refl, sym, ap}
use Rattle.std.proofs.Common.{subst, ◌∙◌, arith, nat_cmp, is_lt, drop-cons, ◌+◌, ⊎_elim, Result, Ok}
use Rattle.std.proofs.{Common.Err, lemmas.Bool.{agree_below_at, and_from, and_parts, cases_lt}}
use Rattle.std.proofs.lemmas.Bool.{false_from_ne_true, le-leb, lt-ltb, not-true, Decides.nat_tests}
use Rattle.std.proofs.lemmas.Fmt.{decimal_by_steps, decimal_injective, decimal_nonempty}
use Rattle.std.proofs.lemmas.{Fmt.length-decimal-le, List.{take_all, take-append-drop}}
use Rattle.std.proofs.lemmas.{List.Folds.{list_any_at, list_any-append}, Map.Made.length-remove_key}
use Rattle.std.specs.{Prelude.{decimal, nat_lt, nat_le, ◌==◌}, Cmp.Lexicographic.slice_cmp}
use Rattle.std.specs.{Cmp.Lexicographic.{nat_list_cmp_total, texts_ties}, List.{flat_map, insert}}
use Rattle.std.specs.{List.{list_all, list_any, position_or_len}, Ordering.is_eq}
use Rattle.std.specs.{Ordering.ordering_reverse, Set.remove_key}
use Rattle.std.specs.declared.cmp.Ordering.TheVariants.{Equal, Greater}
use Rattle.room_entry.specs.{Bytes.at_sign, Gives.Gives, Names.{are_name_parts, is_local_byte}}
use Rattle.room_entry.specs.{Names.{is_name, name_of}, declared.failure.Failure.Failure}
use Rattle.room_entry.specs.declared.failure.Failure.TheVariants.{Fault}
use Rattle.room_entry.specs.{declared.fault.TextFault.TheVariants.BadWho, Pieces.same_text}
use Rattle.room_entry.proofs.{Cuts.pieces_whole, Texts.{all-append, same_text-true}}
use Rattle.room_rows.specs.Content.{is_before}
use Rattle.room_review.{specs.Users.{Gathers, are_apart, is_listed}, proofs.Gathers.GathersFirst}

-- ---- names that are gathered

in_between : (a b t : Bool) → (a || (t || b)) ≡ ((a || b) || (t || false))
in_between true b t = refl
in_between false true true = refl
in_between false true false = refl
in_between false false true = refl
in_between false false false = refl

-- a name that is put at a place
pub gathers_put : (names : List (List ℕ)) (place : ℕ) (name : List ℕ)
    → Gathers names (name ∷ []) (insert names place name)
gathers_put names place name other =
    let here = λ (text : List ℕ). same_text text other in
    list_any-append here (take place names) (name ∷ drop place names)
    ∙ in_between (list_any here (take place names)) (list_any here (drop place names))
    (same_text name other)
    ∙ ap (λ t. t || (same_text name other || false))
    (sym (list_any-append here (take place names) (drop place names))
    ∙ ap (λ (all : List (List ℕ)). list_any here all) (take-append-drop place names))

module _ {X : Type 0} (f : X → List (List ℕ)) (start : List (List ℕ)) (xs : List X) where
  pub gathers_all : (i : ℕ) (names : List (List ℕ)) → length xs ≤ i
      → GathersFirst f start xs i names → Gathers start (flat_map f xs) names
  gathers_all i names past sofar =
      subst (λ (all : List X). Gathers start (flat_map f all) names) (take_all i xs past) sofar

-- ---- the place of a name

is_after : (a b : List ℕ) → slice_cmp nat_cmp a b ≡ Greater → is_before b a ≡ true
is_after a b e = ap is_lt (nat_list_cmp_total.antisymm b a ∙ ap ordering_reverse e)

apart_tail : (name : List ℕ) (names : List (List ℕ)) → are_apart (name ∷ names) ≡ true
    → are_apart names ≡ true
apart_tail name [] order = refl
apart_tail name (next ∷ names) order =
    (and_parts (is_before name next) (are_apart (next ∷ names)) order).1

apart_drop : (names : List (List ℕ)) (i : ℕ) → are_apart names ≡ true
    → are_apart (drop i names) ≡ true
apart_drop names zero order = order
apart_drop [] (suc i) order = refl
apart_drop (name ∷ names) (suc i) order = apart_drop names i (apart_tail name names order)

-- a name that stands behind those before a place, and before those behind it
put_apart : (names : List (List ℕ)) (place : ℕ) (name : List ℕ) → are_apart names ≡ true
    → list_all (λ other. is_before other name) (take place names) ≡ true
    → are_apart (name ∷ drop place names) ≡ true → are_apart (insert names place name) ≡ true
put_apart names zero name order behind ahead = ahead
put_apart [] (suc place) name order behind ahead = refl
put_apart (first ∷ names) (suc place) name order behind ahead =
    let parts =
    and_parts (is_before first name) (list_all (λ other. is_before other name) (take place names))
    behind in
    on names place order parts.0
    (put_apart names place name (apart_tail first names order) parts.1 ahead)
  where
    on : (names : List (List ℕ)) (place : ℕ) → are_apart (first ∷ names) ≡ true
        → is_before first name ≡ true → are_apart (insert names place name) ≡ true
        → are_apart (first ∷ insert names place name) ≡ true
    on names zero order before rest =
        and_from (is_before first name) (are_apart (name ∷ names)) before rest
    on [] (suc place) order before rest = and_from (is_before first name) true before refl
    on (next ∷ names) (suc place) order before rest =
        and_from (is_before first next) (are_apart (insert (next ∷ names) (suc place) name))
        (and_parts (is_before first next) (are_apart (next ∷ names)) order).0 rest

-- a name that is put among names
pub all_put : (names : List (List ℕ)) (place : ℕ) (name : List ℕ) → list_all is_name names ≡ true
    → is_name name ≡ true → list_all is_name (insert names place name) ≡ true
all_put names zero name all is = and_from (is_name name) (list_all is_name names) is all
all_put [] (suc place) name all is = and_from (is_name name) true is refl
all_put (first ∷ names) (suc place) name all is =
    let parts = and_parts (is_name first) (list_all is_name names) all in
    and_from (is_name first) (list_all is_name (insert names place name)) parts.0
    (all_put names place name parts.1 is)

module _ (names : List (List ℕ)) (name : List ℕ) where
  -- the names before a place come before the name
  abbrev pub AreBefore : ℕ → Type 0
  AreBefore i = list_all (λ other. is_before other name) (take i names) ≡ true

  pub found_there : (i : ℕ) (other : List ℕ) → i < length names → other ≡ get_or names i other
      → slice_cmp nat_cmp other name ≡ Equal → is_listed name names ≡ true
  found_there i other below is same =
      list_any_at (λ text. same_text text name) names i other below
      (ap (λ text. same_text text name) (sym is) ∙ texts_ties other name ∙ ap is_eq same)

  pub place_here : (i : ℕ) (other : List ℕ) → i < length names → other ≡ get_or names i other
      → slice_cmp nat_cmp other name ≡ Greater → are_apart names ≡ true → AreBefore i
      → are_apart (insert names i name) ≡ true
  place_here i other below is greater order sofar =
      put_apart names i name order sofar
      (ap (λ (rest : List (List ℕ)). are_apart (name ∷ rest)) (left i other below is)
      ∙ and_from (is_before name other) (are_apart (other ∷ drop (suc i) names))
      (is_after other name greater)
      (ap (λ (rest : List (List ℕ)). are_apart rest) (sym (left i other below is))
      ∙ apart_drop names i order))
    where
      left : (i : ℕ) (other : List ℕ) → i < length names → other ≡ get_or names i other
          → drop i names ≡ other ∷ drop (suc i) names
      left i other below is =
          drop-cons names i other below ∙ ap (λ y. y ∷ drop (suc i) names) (sym is)

  pub place_last : (i : ℕ) → length names ≤ i → are_apart names ≡ true → AreBefore i
      → are_apart (insert names (length names) name) ≡ true
  place_last i past order sofar =
      put_apart names (length names) name order (search (rules, take_all, past, sofar))
      (ap (λ (rest : List (List ℕ)). are_apart (name ∷ rest)) (none_left names))
    where
      none_left : (texts : List (List ℕ)) → drop (length texts) texts ≡ []
      none_left [] = refl
      none_left (x ∷ xs) = none_left xs

-- ---- a name that is none of them

-- a list without one member has the others
others_stay : (gone test : List ℕ → Bool) (names : List (List ℕ))
    → ((name : List ℕ) → gone name ≡ true → test name ≡ false)
    → list_any test (remove_key gone names) ≡ list_any test names
others_stay gone test [] apart = refl
others_stay gone test (name ∷ names) apart =
    grind (arith, nat_tests, others_stay gone test names apart)

-- numbers that are all among some names are no more than these
numbers_within : (n : ℕ) (names : List (List ℕ)) → n ≤ 2 ^ 64
    → ((k : ℕ) → k < n → is_listed (decimal k) names ≡ true) → n ≤ length names
numbers_within zero names fits all = omega arith
numbers_within (suc n) names fits all =
    let gone = λ (text : List ℕ). same_text text (decimal n) in
    let less = length-remove_key gone names (all n (omega arith)) in
    let rest =
    numbers_within n (remove_key gone names) (omega arith) (λ k below.
    others_stay gone (λ text. same_text text (decimal k)) names
    (λ text is. false_from_ne_true _ (search (rules, decimal_injective, same_text-true)))
    ∙ all k (omega arith)) in
    omega arith

-- the first number that may be none of them is none
pub stranger_last : (names : List (List ℕ)) → length names < 2 ^ 64
    → ((k : ℕ) → k < length names → is_listed (decimal k) names ≡ true)
    → is_listed (decimal (length names)) names ≡ false
stranger_last names fits all =
    false_from_ne_true _ (λ last.
    let many = numbers_within (suc (length names)) names (omega arith) (λ k below. by k below last)
    in omega arith)
  where
    by : (k : ℕ) → k < suc (length names) → is_listed (decimal (length names)) names ≡ true
        → is_listed (decimal k) names ≡ true
    by k below last =
        ⊎_elim (λ less. all k less) (search rules)
        (cases_lt k (length names))

-- ---- numbers as names

-- a byte that may stand in a name, before the `@`
abbrev is_plain : ℕ → Bool
is_plain byte = is_local_byte byte && not (byte == at_sign)

all_digits : (n : ℕ) → n < 2 ^ 64 → list_all is_plain (decimal n) ≡ true
all_digits n fits =
    decimal_by_steps (λ n ds. list_all is_plain ds ≡ true)
    (λ n below. and_from (is_plain (48 + n)) true (one n below) refl)
    (search (rules, all-append, and_from)) n fits
  where
    one : (n : ℕ) → n < 10 → is_plain (48 + n) ≡ true
    one n below = agree_below_at (λ n. is_plain (48 + n)) (λ n. true) 10 n refl below

plain_parts : (ds : List ℕ) → list_all is_plain ds ≡ true
    → (list_all is_local_byte ds ≡ true)
    × (length ds ≤ position_or_len (λ byte. byte == at_sign) ds)
plain_parts [] all = (refl, omega arith)
plain_parts (b ∷ ds) all =
    let parts = and_parts (is_plain b) (list_all is_plain ds) all in
    let here = and_parts (is_local_byte b) (not (b == at_sign)) parts.0 in
    let rest = plain_parts ds parts.1 in (
      and_from (is_local_byte b) (list_all is_local_byte ds) here.0 rest.0,
      let isnt = not-true (b == at_sign) here.1 in let long = rest.1 in rw isnt (omega arith),
    )

-- a number is a name
number_is_name : (n : ℕ) → n < 2 ^ 64 → is_name (decimal n) ≡ true
unfolding is_name
number_is_name n fits =
    let parts = plain_parts (decimal n) (all_digits n fits) in
    let some = decimal_nonempty n fits in
    let short = length-decimal-le 20 n (omega arith) (omega arith) fits in
    ap are_name_parts (pieces_whole (λ byte. byte == at_sign) (decimal n) parts.1)
    ∙ and_from _ (list_all is_local_byte (decimal n))
    (and_from (nat_lt 0 (length (decimal n))) (nat_le (length (decimal n)) 64)
    (lt-ltb 0 (length (decimal n)) some) (le-leb (length (decimal n)) 64 (omega arith))) parts.0

-- so it is read as one
pub number_named : (n : ℕ) (text : List ℕ) → n < 2 ^ 64 → text ≡ decimal n → name_of text ≡ Ok text
number_named n text fits is =
    ap (λ t. cond t (Ok text) (Err BadWho)) (ap is_name is ∙ number_is_name n fits)

-- what is defined to be answered is not refused
pub never_refused : {A F : Type 0} (r : Result A (Failure F)) (fault : F) (value : A)
    (defined : Result A F) → Gives r defined → r ≡ Err (Fault fault) → defined ≡ Ok value → ⊥
never_refused {A} {F} r fault value defined gives is known = grind (arith, nat_tests)
