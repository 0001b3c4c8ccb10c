-- Texts cut into names, and paths.
use Rattle.std.proofs.Common.{◌≡◌, ◌≢◌, ℕ, zero, suc, ◌<◌, ◌≤◌, true, false, List, [], ◌∷◌, length}
use Rattle.std.proofs.Common.{take, Ok, Err, codes, refl, ◌∙◌, arith, length-append, rules}
use Rattle.std.proofs.lemmas.Bool.{and_parts, and_from, le-ltb, cond-true, cond-false}
use Rattle.std.proofs.lemmas.{Bool.Decides.nat_tests, List.Splits.slice_split-cons_yes}
use Rattle.std.proofs.lemmas.List.Splits.{slice_split-cons_no, length-slice_split}
use Rattle.std.specs.{Prelude.{IsTrue, if◌then◌else◌}, List.{list_all, flat_map, onto_first}}
use Rattle.std.specs.Str.{IsUtf8, IsValidUpTo}
use Rattle.room_entry.specs.{Utf8.is_utf8, Pieces.{pieces, same_text}}
use Rattle.room_entry.proofs.Texts.{passes_as_utf8}
use Rattle.room_rows.specs.declared.fault.PathFault.TheVariants.{BadName, NotUtf8}
use Rattle.room_rows.specs.Paths.{is_object_name, is_path, is_name_byte, names_in, object_names}
use Rattle.room_rows.{specs.Paths.{path_of, path_text}, proofs.Utf8.fails_as_utf8}

-- ---- names by their bytes

-- a text of 1 to 255 bytes that is neither `.` nor `..` is a name by its bytes
pub name_by_bytes : (name : List ℕ) → 0 < length name → length name ≤ 255
    → same_text name (codes ".") ≡ false → same_text name (codes "..") ≡ false → IsUtf8 name
    → is_object_name name ≡ list_all is_name_byte name
name_by_bytes name some short dot dots utf8 = grind (arith, nat_tests, passes_as_utf8)

-- ---- which fault comes first

pub within : (bytes : List ℕ) → length bytes ≤ 4096
    → path_of bytes ≡ (if is_utf8 bytes then names_in (pieces 47 bytes) else Err NotUtf8)
within bytes short = cond-false _ _ _ (le-ltb 4096 (length bytes) short)

pub not_utf8 : (bytes : List ℕ) (n : ℕ) → length bytes ≤ 4096 → ¬ (IsUtf8 bytes)
    → IsValidUpTo bytes n → path_of bytes ≡ Err NotUtf8
not_utf8 bytes n short isnt upto =
    within bytes short ∙ cond-false _ _ _ (fails_as_utf8 bytes n isnt upto)

pub read_as_names : (bytes : List ℕ) → length bytes ≤ 4096 → IsUtf8 bytes
    → path_of bytes ≡ names_in (pieces 47 bytes)
read_as_names bytes short is = within bytes short ∙ cond-true _ _ _ (passes_as_utf8 bytes is)

-- ---- names

first_not_empty : (b : ℕ) (parts : List (List ℕ)) → names_in (onto_first b parts) ≡ Err BadName
first_not_empty b parts = grind (arith, nat_tests)

-- no `/` at the start
pub no_slash_first : (text : List ℕ) → ((rest : List ℕ) → text ≢ 47 ∷ rest)
    → names_in (pieces 47 text) ≡ Err BadName
no_slash_first [] isnt = refl
no_slash_first (b ∷ bs) isnt = grind (arith, nat_tests, first_not_empty, slice_split-cons_no)

empty_first : (parts : List (List ℕ)) → 0 < length parts
    → names_in ([] ∷ [] ∷ parts) ≡ object_names ([] ∷ parts)
empty_first [] some = absurd (omega (arith, some))
empty_first (p ∷ parts) some = refl

full_first : (b : ℕ) (parts : List (List ℕ))
    → names_in ([] ∷ onto_first b parts) ≡ object_names (onto_first b parts)
full_first b [] = refl
full_first b (p ∷ parts) = refl

-- one `/` at the start, and something after it
pub slash_first : (rest : List ℕ) → 0 < length rest
    → names_in (pieces 47 (47 ∷ rest)) ≡ object_names (pieces 47 rest)
slash_first [] some = absurd (omega (arith, some))
slash_first (b ∷ bs) some =
    grind (
      arith,
      nat_tests,
      empty_first,
      full_first,
      length-slice_split,
      slice_split-cons_no,
      slice_split-cons_yes,
    )

pub bad_name : (names : List (List ℕ)) → list_all is_object_name names ≡ false
    → object_names names ≡ Err BadName
bad_name names bad = cond-false _ _ _ bad

pub good_names : (names : List (List ℕ)) → list_all is_object_name names ≡ true
    → object_names names ≡ Ok names
good_names names good = cond-true _ _ _ good

-- ---- the text of a path

-- a `/` before each name
abbrev pub joined : List (List ℕ) → List ℕ
joined names = flat_map (λ name. 47 ∷ name) names

joined_onto : (b : ℕ) (bs : List ℕ) (parts : List (List ℕ)) → joined parts ≡ 47 ∷ bs
    → joined (onto_first b parts) ≡ 47 ∷ b ∷ bs
joined_onto b bs parts e = grind (arith, nat_tests)

-- the names of a text joined again
pub joined-pieces : (rest : List ℕ) → joined (pieces 47 rest) ≡ 47 ∷ rest
joined-pieces [] = refl
joined-pieces (b ∷ bs) =
    grind (
      arith,
      nat_tests,
      joined_onto,
      slice_split-cons_no,
      slice_split-cons_yes,
      joined-pieces
          bs,
    )

pub joined-text : (names : List (List ℕ)) → length (joined names) ≤ 4096
    → length (path_text names) ≤ 4096
joined-text [] h = omega arith
joined-text (n ∷ ns) h = h

pub text-joined : (names : List (List ℕ)) → length (path_text names) ≤ 4096
    → length (joined names) ≤ 4096
text-joined [] h = omega arith
text-joined (n ∷ ns) h = h

-- names of a text that isn't too long are those of a path
pub read_is_path : (rest : List ℕ) (names : List (List ℕ)) → length rest < 4096
    → names ≡ pieces 47 rest → list_all is_object_name names ≡ true → IsTrue (is_path names)
read_is_path rest names short cut good = grind (arith, nat_tests, joined-pieces, joined-text)

-- ---- the first names of a path

good_front : (n : ℕ) (names : List (List ℕ)) → list_all is_object_name names ≡ true
    → list_all is_object_name (take n names) ≡ true
good_front zero names good = refl
good_front (suc n) [] good = refl
good_front (suc n) (x ∷ xs) good =
    let parts = and_parts (is_object_name x) (list_all is_object_name xs) good in
    search (rules, and_from, parts.0, good_front n xs parts.1)

short_front : (n : ℕ) (names : List (List ℕ))
    → length (joined (take n names)) ≤ length (joined names)
short_front zero names = omega arith
short_front (suc n) [] = omega arith
short_front (suc n) (x ∷ xs) = let rest = short_front n xs in
    omega (
      arith,
      rest,
      length-append (47 ∷ x) (joined (take n xs)),
      length-append (47 ∷ x) (joined xs),
    )

pub front_is_path : (n : ℕ) (names : List (List ℕ)) → IsTrue (is_path names)
    → IsTrue (is_path (take n names))
front_is_path n names is =
    grind (arith, nat_tests, good_front, joined-text, short_front, text-joined)
