-- Every path has a target that is read as it.
use Rattle.std.proofs.Common.{rules, ◌≡◌, ℕ, ◌+◌, ◌<◌, Bool, true, false, not, cond, ◌==◌, ◌&&◌}
use Rattle.std.proofs.Common.{List, [], ◌∷◌, ◌++◌, take, drop, map, nat_lt, Some, codes, refl, sym}
use Rattle.std.proofs.Common.{ap, ◌∙◌, subst, inl, inr, arith, append_assoc, append-nil, true≢false}
use Rattle.std.proofs.lemmas.Bool.{and_from, and_parts, both_ways, cases_Bool, cond-true, lt-ltb}
use Rattle.std.proofs.lemmas.Bool.{ltb-true, not-true, Decides.nat_tests}
use Rattle.std.proofs.lemmas.List.Elements.{All-append, All-from_recursion, All-head, All-nil}
use Rattle.std.proofs.lemmas.List.{Elements.All-tail, Folds.list_all-append}
use Rattle.std.proofs.lemmas.{List.Sums.list_all-from_AllPass, Str.IsUtf8-append}
use Rattle.std.{proofs.lemmas.Str.{IsUtf8-from_ascii, Ascii.IsAscii-from_all}, specs.List.All}
use Rattle.std.specs.{List.{AllByRecursion, flat_map, list_all, position_or_len}, Str.IsUtf8}
use Rattle.percent_encoding.specs.AsciiSet.{contains, should_percent_encode}
use Rattle.percent_encoding.specs.Percent.{percent_encode, percent_encode_byte, percent_decode}
use Rattle.percent_encoding.specs.declared.ascii_set.AsciiSet.{AsciiSet}
use Rattle.percent_encoding.proofs.AsciiSetLemmas.{ascii_from_kept, escaped_from_inside}
use Rattle.percent_encoding.proofs.AsciiSetLemmas.{outside_from_kept}
use Rattle.percent_encoding.proofs.PercentLemmas.{All-percent_encode, IsByte, IsEscapeByte}
use Rattle.percent_encoding.proofs.PercentLemmas.{percent_encode-nil, percent_encode_escaped}
use Rattle.percent_encoding.proofs.PercentLemmas.{percent_encode_kept, percent_decode-nil}
use Rattle.percent_encoding.proofs.PercentLemmas.{percent_decode-percent_encode_byte}
use Rattle.percent_encoding.proofs.PercentLemmas.{percent_decode_not_percent}
use Rattle.room_entry.{specs.Utf8.is_utf8, proofs.Texts.passes_as_utf8}
use Rattle.room_rows.specs.{Laws.PathReadsBack, Paths.{is_object_name, is_path, path_text}}
use Rattle.room_rows.proofs.Utf8.{text_from}
use Rattle.http_message.specs.{declared.route.Route.Route, Laws.{EveryPathHasATarget, IsReadAs}}
use Rattle.http_message.specs.{Laws.target_to, Router.route_of, Target.{is_mark, named_path}}
use Rattle.http_message.specs.{Target.{path_part, query_part}, Route.route_text}
use Rattle.http_message.proofs.Seeking.{routes_begin}
use lib.Utf8.{encode, encodes, scalar, scalars, scalar_cases}

-- ---- text is bytes

char_bytes : (c : ℕ) → scalar c ≡ true → AllByRecursion IsByte (encode c)
unfolding encode
char_bytes c is = elim (scalar_cases c is) [
  | inl low ↦ grind (arith, nat_tests)
  | inr high ↦ grind (arith, nat_tests)
]

chars_bytes : (cs : List ℕ) → scalars cs ≡ true → All IsByte (encodes cs)
chars_bytes [] all = All-nil IsByte
chars_bytes (c ∷ cs) all =
    let parts = and_parts (scalar c) (scalars cs) all in
    All-append IsByte (encode c) (encodes cs)
    (All-from_recursion IsByte (encode c) (char_bytes c parts.0)) (chars_bytes cs parts.1)

text_bytes : (bytes : List ℕ) → IsUtf8 bytes → All IsByte bytes
text_bytes bytes is = subst (All IsByte) is.1.1 (chars_bytes is.0 is.1.0)

name_bytes : (name : List ℕ) → is_object_name name ≡ true → All IsByte name
name_bytes name is = text_bytes name (text_from name (and_parts _ (is_utf8 name) is).1)

-- ---- names are decoded

decoded : (set : AsciiSet) (bytes rest : List ℕ) → contains set 37 ≡ true → All IsByte bytes
    → percent_decode (percent_encode set bytes ++ rest) ≡ bytes ++ percent_decode rest
decoded set [] rest has small =
    ap (λ (l : List ℕ). percent_decode (l ++ rest)) (percent_encode-nil set)
decoded set (b ∷ bs) rest has small =
    let more = ap (λ (l : List ℕ). b ∷ l) (decoded set bs rest has (All-tail IsByte b bs small)) in
    elim (cases_Bool (should_percent_encode set b)) [
      | inl escaped ↦
          ap (λ (l : List ℕ). percent_decode (l ++ rest)) (percent_encode_escaped set b bs escaped)
          ∙ ap percent_decode (append_assoc (percent_encode_byte b) (percent_encode set bs) rest)
          ∙ percent_decode-percent_encode_byte b (percent_encode set bs ++ rest)
          (All-head IsByte b bs small)
          ∙ more
      | inr kept ↦
          ap (λ (l : List ℕ). percent_decode (l ++ rest)) (percent_encode_kept set b bs kept)
          ∙ percent_decode_not_percent b (percent_encode set bs ++ rest)
          (search (rules, both_ways, kept, set, escaped_from_inside, has))
          ∙ more
    ]

abbrev joined : List (List ℕ) → List ℕ
joined names = flat_map (λ name. 47 ∷ name) names

no_percent : ◌≡◌ {A = ℕ} 47 37 → ⊥
no_percent e = omega (arith, e)

names_decoded : (set : AsciiSet) (names : List (List ℕ)) → contains set 37 ≡ true
    → list_all is_object_name names ≡ true
    → percent_decode (joined (map (percent_encode set) names)) ≡ joined names
names_decoded set [] has good = percent_decode-nil
names_decoded set (name ∷ names) has good =
    let parts = and_parts (is_object_name name) (list_all is_object_name names) good in
    percent_decode_not_percent 47
    (percent_encode set name ++ joined (map (percent_encode set) names)) no_percent
    ∙ ap (λ (l : List ℕ). 47 ∷ l)
    (decoded set name (joined (map (percent_encode set) names)) has (name_bytes name parts.0)
    ∙ ap (λ (l : List ℕ). name ++ l) (names_decoded set names has parts.1))

path_decoded : (set : AsciiSet) (names : List (List ℕ)) → contains set 37 ≡ true
    → list_all is_object_name names ≡ true
    → percent_decode (path_text (map (percent_encode set) names)) ≡ path_text names
path_decoded set [] has good =
    percent_decode_not_percent 47 [] no_percent ∙ ap (λ (l : List ℕ). 47 ∷ l) percent_decode-nil
path_decoded set (name ∷ names) has good = names_decoded set (name ∷ names) has good

-- ---- the parts of a target

slash_begins : (names : List (List ℕ)) → path_text names ≡ 47 ∷ drop 1 (path_text names)
slash_begins [] = refl
slash_begins (name ∷ names) = refl

behind_route : (route : Route) (rest : List ℕ)
    → named_path route (47 ∷ route_text route ++ 47 ∷ rest) ≡ 47 ∷ percent_decode rest
behind_route Route.Doc rest = refl
behind_route Route.Folder rest = refl
behind_route Route.Object rest = refl
behind_route Route.Move rest = refl
behind_route Route.Dacl rest = refl
behind_route Route.Sacl rest = refl
behind_route Route.Attr rest = refl
behind_route Route.Can rest = refl

named : (route : Route) (text : List ℕ) → text ≡ 47 ∷ drop 1 text
    → named_path route (47 ∷ route_text route ++ text) ≡ percent_decode text
named route text first =
    grind (arith, nat_tests, behind_route, no_percent, percent_decode_not_percent)

routed : (route : Route) (text : List ℕ) → text ≡ 47 ∷ drop 1 text
    → route_of (47 ∷ route_text route ++ text) ≡ Some route
routed route text first =
    ap (λ (l : List ℕ). route_of (47 ∷ route_text route ++ l)) first
    ∙ ap (λ (l : List ℕ). route_of (47 ∷ l))
    (sym (append_assoc (route_text route) (codes "/") (drop 1 text)))
    ∙ routes_begin.0 route (drop 1 text)

-- ---- its bytes: ASCII, and no question mark

abbrev is_plain : ℕ → Bool
is_plain byte = nat_lt byte 128 && not (byte == 63)

abbrev IsPlain : ℕ → Type 0
IsPlain byte = is_plain byte ≡ true

kept_is_plain : (set : AsciiSet) → contains set 63 ≡ true → (b : ℕ)
    → should_percent_encode set b ≡ false → IsPlain b
kept_is_plain set has b kept =
    let ascii = lt-ltb b 128 (ascii_from_kept set b kept) in
    elim (cases_Bool (b == 63)) [
      | inl mark ↦
          (let same : b ≡ 63 = grind (arith, nat_tests) in
          absurd (both_ways _ (outside_from_kept set b kept)
          (subst (λ (x : ℕ). contains set x ≡ true) (sym same) has)))
      | inr other ↦ and_from _ _ ascii (rw other refl)
    ]

escape_is_plain : (b : ℕ) → IsEscapeByte b → IsPlain b
escape_is_plain b is = grind (arith, nat_tests)

encoded_is_plain : (set : AsciiSet) (bytes : List ℕ) → contains set 63 ≡ true
    → list_all is_plain (percent_encode set bytes) ≡ true
encoded_is_plain set bytes has =
    list_all-from_AllPass is_plain (percent_encode set bytes)
    (All-percent_encode IsPlain set bytes (kept_is_plain set has) escape_is_plain)

both_plain : (xs ys : List ℕ) → list_all is_plain xs ≡ true → list_all is_plain ys ≡ true
    → list_all is_plain (xs ++ ys) ≡ true
both_plain xs ys first second = list_all-append is_plain xs ys ∙ and_from _ _ first second

joined_plain : (set : AsciiSet) (names : List (List ℕ)) → contains set 63 ≡ true
    → list_all is_plain (joined (map (percent_encode set) names)) ≡ true
joined_plain set [] has = refl
joined_plain set (name ∷ names) has =
    search (rules, both_plain, set, encoded_is_plain, has, joined_plain set names has)

path_plain : (set : AsciiSet) (names : List (List ℕ)) → contains set 63 ≡ true
    → list_all is_plain (path_text (map (percent_encode set) names)) ≡ true
path_plain set [] has = refl
path_plain set (name ∷ names) has = joined_plain set (name ∷ names) has

route_plain : (route : Route) → list_all is_plain (route_text route) ≡ true
route_plain Route.Doc = refl
route_plain Route.Folder = refl
route_plain Route.Object = refl
route_plain Route.Move = refl
route_plain Route.Dacl = refl
route_plain Route.Sacl = refl
route_plain Route.Attr = refl
route_plain Route.Can = refl

target_plain : (set : AsciiSet) (route : Route) (names : List (List ℕ)) → contains set 63 ≡ true
    → list_all is_plain (target_to set route names) ≡ true
target_plain set route names has = grind (arith, nat_tests, both_plain, path_plain, route_plain)

plain_ascii : (bytes : List ℕ) → list_all is_plain bytes ≡ true
    → AllByRecursion (λ b. b < 128) bytes
plain_ascii [] all = tt
plain_ascii (b ∷ bs) all =
    let parts = and_parts (is_plain b) (list_all is_plain bs) all in
    (ltb-true b 128 (and_parts (nat_lt b 128) (not (b == 63)) parts.0).0, plain_ascii bs parts.1)

plain_text : (bytes : List ℕ) → list_all is_plain bytes ≡ true → IsUtf8 bytes
plain_text bytes all =
    IsUtf8-from_ascii bytes
    (IsAscii-from_all bytes (All-from_recursion (λ b. b < 128) bytes (plain_ascii bytes all)))

past_one : (mark : Bool) (n b : ℕ) (bs : List ℕ) → mark ≡ false
    → (take (cond (not mark) (1 + n) 0) (b ∷ bs) ≡ b ∷ take n bs)
    × (drop (cond (not mark) (1 + n) 0 + 1) (b ∷ bs) ≡ drop (n + 1) bs)
past_one true n b bs other = absurd (true≢false other)
past_one false n b bs other = grind (arith, nat_tests)

cut_past : (bytes rest : List ℕ) → list_all is_plain bytes ≡ true
    → (path_part (bytes ++ rest) ≡ bytes ++ path_part rest)
    × (query_part (bytes ++ rest) ≡ query_part rest)
cut_past [] rest all = (refl, refl)
cut_past (b ∷ bs) rest all =
    let parts = and_parts (is_plain b) (list_all is_plain bs) all in
    let other = not-true (b == 63) (and_parts (nat_lt b 128) (not (b == 63)) parts.0).1 in
    let one = past_one (b == 63) (position_or_len is_mark (bs ++ rest)) b (bs ++ rest) other in
    let more = cut_past bs rest parts.1 in
    (one.0 ∙ ap (λ (l : List ℕ). b ∷ l) more.0, one.1 ∙ more.1)

-- ---- the whole

-- what follows the path: nothing, or a question mark and a query
read_with : PathReadsBack → (set : AsciiSet) (route : Route) (names : List (List ℕ)) (rest : List ℕ)
    → contains set 37 ≡ true → contains set 63 ≡ true → is_path names ≡ true → IsUtf8 rest
    → path_part rest ≡ []
    → IsReadAs (target_to set route names ++ rest) route names (query_part rest)
read_with reads set route names rest percent mark is utf8 last =
    let target = target_to set route names in
    let text = path_text (map (percent_encode set) names) in
    let plain = target_plain set route names mark in
    let cut = cut_past target rest plain in
    let path : path_part (target ++ rest) ≡ target = cut.0 ∙ ap (λ (l : List ℕ). target ++ l) last
    ∙ append-nil target in
    let good = (and_parts (list_all is_object_name names) _ is).0 in
    let first = slash_begins (map (percent_encode set) names) in
    let is_text = passes_as_utf8 (target ++ rest)
    (IsUtf8-append target rest (plain_text target plain) utf8) in
    record {
      passes = cond-true _ _ _ is_text;
      has_route = ap route_of path ∙ routed route text first;
      has_path =
          search (rules, route, path, named, text, path_decoded, set, percent, good, reads, is);
      has_query = cut.1;
    }

one_mark : IsUtf8 (63 ∷ [])
one_mark = search rules

pub has_target : PathReadsBack → EveryPathHasATarget
has_target reads set route names percent mark is =
    let target = target_to set route names in (
      subst (λ (l : List ℕ). IsReadAs l route names []) (append-nil target)
          (read_with reads set route names [] percent mark is (plain_text [] refl) refl),
      λ query utf8. read_with reads set route names (63 ∷ query) percent mark is
          (IsUtf8-append (63 ∷ []) query one_mark (text_from query utf8)) refl,
    )
