-- The text of a path is read as that path.
use Rattle.std.proofs.Common.{rules, ◌≡◌, ℕ, ◌<◌, ◌==◌, ◌&&◌, true, false, List, [], ◌∷◌, ◌++◌}
use Rattle.std.proofs.Common.{length, refl, ap, ◌∙◌, arith, nat_lt, nat_le, length-append}
use Rattle.std.proofs.lemmas.Bool.{and_parts, leb-true, cond-true, Decides.nat_tests}
use Rattle.std.proofs.lemmas.List.{append-nil, Splits.{slice_split-cons_yes, slice_split-cons_no}}
use Rattle.std.proofs.lemmas.Str.{IsUtf8-append, IsUtf8-from_ascii, IsUtf8-nil}
use Rattle.std.specs.{List.list_all, Str.IsUtf8}
use Rattle.room_entry.{specs.{Utf8.is_utf8, Pieces.pieces}, proofs.Texts.passes_as_utf8}
use Rattle.room_rows.specs.{Laws.PathReadsBack, Paths.{is_object_name, is_name_byte, object_names}}
use Rattle.room_rows.{specs.Paths.path_text, proofs.Cutting.{good_names, joined, slash_first}}
use Rattle.room_rows.proofs.{Cutting.within, Utf8.{ascii_at, text_from}}

-- ---- one name

no_slash : (byte : ℕ) → is_name_byte byte ≡ true → (byte == 47) ≡ false
no_slash byte is = grind (arith, nat_tests)

cut_name : (name rest : List ℕ) → list_all is_name_byte name ≡ true
    → pieces 47 (name ++ 47 ∷ rest) ≡ name ∷ pieces 47 rest
cut_name [] rest all = slice_split-cons_yes (λ byte. byte == 47) 47 rest refl
cut_name (b ∷ bs) rest all =
    let parts = and_parts (is_name_byte b) (list_all is_name_byte bs) all in
    search (rules, slice_split-cons_no, no_slash, parts, parts.0, parts.1, cut_name bs rest parts.1)

last_name : (name : List ℕ) → list_all is_name_byte name ≡ true → pieces 47 name ≡ name ∷ []
last_name [] all = refl
last_name (b ∷ bs) all =
    let parts = and_parts (is_name_byte b) (list_all is_name_byte bs) all in
    search (rules, slice_split-cons_no, no_slash, parts, parts.0, parts.1, last_name bs parts.1)

-- ---- what makes a name

but_utf8 : (name : List ℕ) → is_object_name name ≡ true → is_utf8 name ≡ true
but_utf8 name is = grind (arith, nat_tests)

first_tests : (name : List ℕ) → is_object_name name ≡ true
    → (nat_lt 0 (length name) && nat_le (length name) 255 && list_all is_name_byte name) ≡ true
first_tests name is = grind (arith, nat_tests)

name_bytes : (name : List ℕ) → is_object_name name ≡ true → list_all is_name_byte name ≡ true
name_bytes name is = grind (arith, nat_tests, first_tests)

some_bytes : (name : List ℕ) → is_object_name name ≡ true → 0 < length name
some_bytes name is = grind (arith, nat_tests, first_tests)

-- ---- all names

pieces_joined : (name : List ℕ) (names : List (List ℕ))
    → list_all is_object_name (name ∷ names) ≡ true
    → pieces 47 (name ++ joined names) ≡ name ∷ names
pieces_joined name [] good = search (rules, and_parts, good, append-nil, last_name, name_bytes)
pieces_joined name (next ∷ names) good =
    let parts = and_parts (is_object_name name) (list_all is_object_name (next ∷ names)) good in
    cut_name name (next ++ joined names) (name_bytes name parts.0)
    ∙ ap (λ (others : List (List ℕ)). name ∷ others) (pieces_joined next names parts.1)

joined_utf8 : (names : List (List ℕ)) → list_all is_object_name names ≡ true → IsUtf8 (joined names)
joined_utf8 [] good = IsUtf8-nil
joined_utf8 (name ∷ names) good =
    let parts = and_parts (is_object_name name) (list_all is_object_name names) good in
    IsUtf8-append (47 ∷ name) (joined names)
    (IsUtf8-append (47 ∷ []) name (IsUtf8-from_ascii (47 ∷ []) (ascii_at (47 ∷ []) refl))
    (text_from name (but_utf8 name parts.0))) (joined_utf8 names parts.1)

pub path_reads_back : PathReadsBack
path_reads_back [] is = refl
path_reads_back (name ∷ names) is =
    let parts = and_parts (list_all is_object_name (name ∷ names))
    (nat_le (length (path_text (name ∷ names))) 4096) is in
    let good = and_parts (is_object_name name) (list_all is_object_name names) parts.0 in
    let some : 0 < length (name ++ joined names) = (let first = some_bytes name good.0 in
    omega (arith, first, length-append name (joined names))) in
    within (path_text (name ∷ names)) (leb-true _ _ parts.1)
    ∙ cond-true _ _ _ (passes_as_utf8 (path_text (name ∷ names))
    (joined_utf8 (name ∷ names) parts.0))
    ∙ slash_first (name ++ joined names) some
    ∙ ap object_names (pieces_joined name names parts.0)
    ∙ good_names (name ∷ names) parts.0
