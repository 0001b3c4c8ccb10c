-- How many lines of a head have ended, and whether these are the lines of too many fields.
use Rattle.std.proofs.Common.{rules, ◌≡◌, ℕ, zero, suc, ◌+◌, ◌<◌, ◌≤◌, ◌⊎◌, Bool, true, false, cond}
use Rattle.std.proofs.Common.{List, [], ◌∷◌, ◌++◌, length, take, drop, Some, None, refl, inl, inr}
use Rattle.std.proofs.Common.{sym, ap, subst, ◌∙◌, arith, append_assoc, append-nil}
use Rattle.std.proofs.lemmas.Bool.{cases_Bool, cond-true, cond-false, ne_eqb, both_ways}
use Rattle.std.proofs.lemmas.{Bool.Decides.nat_tests, List.{length-append, length-take-le}}
use Rattle.std.proofs.lemmas.List.{drop_all, Elements.{All-head, All-tail, All-take, filter-append}}
use Rattle.std.{proofs.lemmas.List.Elements.recursion_from_All, specs.Prelude.{◌==◌, not}}
use Rattle.std.specs.List.{flat_map, filter, AllByRecursion, position, position_or_len}
use Rattle.httparse.specs.Grammar.{is_token_byte, is_uri_byte, is_value_byte, AllPass, LineEnd}
use Rattle.httparse.specs.Grammar.{crlf, lf, print_end, print_blank, print_version, Field}
use Rattle.httparse.specs.Grammar.{print_field, IsField, print_section, RequestHead, IsRequestHead}
use Rattle.httparse.specs.Grammar.{print_request, ReadsRequest, HasNoRequest, MayBecomeRequest}
use Rattle.httparse.specs.{Pieces.{is_newline, Stops}, Spans.RequestExceeds}
use Rattle.httparse.proofs.{PieceLemmas.Stops_token, GrammarLemmas.print_request-append}
use Rattle.httparse.proofs.GrammarLemmas.{cons-append}
use Rattle.room_entry.proofs.Cuts.{place_of, none_of}

abbrev is_feed : ℕ → Bool
is_feed byte = byte == 10

-- how many lines end in the bytes
abbrev pub feeds : List ℕ → ℕ
feeds bytes = length (filter is_feed bytes)

-- the same without the empty lines in front
abbrev pub ended : List ℕ → ℕ
ended [] = 0
ended (byte ∷ bytes) = cond (is_newline byte) (ended bytes) (feeds (byte ∷ bytes))

feeds-append : (a b : List ℕ) → feeds (a ++ b) ≡ feeds a + feeds b
feeds-append a b = ap length (filter-append is_feed a b) ∙ length-append (filter is_feed a) (filter is_feed b)

-- no line ends in bytes of a class that LF isn't of
no-feeds : (test : ℕ → Bool) → test 10 ≡ false → (bytes : List ℕ) → AllPass test bytes
    → feeds bytes ≡ 0
no-feeds test other [] all = refl
no-feeds test other (byte ∷ bytes) all =
    let passes : test byte ≡ true = All-head (λ b. test b ≡ true) byte bytes all in
    let differs : is_feed byte ≡ false = search (rules, ne_eqb, both_ways, other, passes) in
    ap length (cond-false (is_feed byte) (byte ∷ filter is_feed bytes) (filter is_feed bytes) differs)
    ∙ no-feeds test other bytes (All-tail (λ b. test b ≡ true) byte bytes all)

-- ---- empty lines in front

ended-blank : (ends : List LineEnd) (text : List ℕ) → ended (print_blank ends ++ text) ≡ ended text
ended-blank [] text = refl
ended-blank (crlf ∷ ends) text = ended-blank ends text
ended-blank (lf ∷ ends) text = ended-blank ends text

ended-stops : (text : List ℕ) → Stops is_newline text → ended text ≡ feeds text
ended-stops [] stops = absurd stops
ended-stops (byte ∷ text) stops =
    cond-false (is_newline byte) (ended text) (feeds (byte ∷ text)) stops

feeds-more : (byte : ℕ) (text : List ℕ) → feeds text ≤ feeds (byte ∷ text)
feeds-more byte text = grind (arith, nat_tests)

ended-within : (text : List ℕ) → ended text ≤ feeds text
ended-within [] = omega arith
ended-within (byte ∷ text) = search (rules, cond-true, feeds-more, cond-false, ended-within text)

ended-grows : (a b : List ℕ) → ended a ≤ ended (a ++ b)
ended-grows [] b = omega arith
ended-grows (byte ∷ a) b =
    elim (cases_Bool (is_newline byte)) [
      | inl is ↦
          let one : ended (byte ∷ a) ≡ ended a = search (rules, cond-true, is) in
          let two : ended (byte ∷ (a ++ b)) ≡ ended (a ++ b) = search (rules, cond-true, is) in
          let fewer = ended-grows a b in
          omega (arith, one, two, fewer)
      | inr isnt ↦ search (rules, cond-false, isnt, feeds-append)
    ]

ended-feed : (a : List ℕ) → ended (a ++ 10 ∷ []) ≤ ended a + 1
ended-feed [] = omega arith
ended-feed (byte ∷ a) =
    elim (cases_Bool (is_newline byte)) [
      | inl is ↦
          let one : ended (byte ∷ a) ≡ ended a = search (rules, cond-true, is) in
          let two : ended (byte ∷ (a ++ 10 ∷ [])) ≡ ended (a ++ 10 ∷ []) =
          cond-true (is_newline byte) (ended (a ++ 10 ∷ [])) (feeds (byte ∷ (a ++ 10 ∷ []))) is in
          let fewer = ended-feed a in
          omega (arith, one, two, fewer)
      | inr isnt ↦ search (rules, cond-false, isnt, feeds-append)
    ]

-- ---- lines

-- one line, with its end
record Line (text : List ℕ) : Type 0 where
  front : List ℕ
  whole : text ≡ front ++ 10 ∷ []
  none : feeds front ≡ 0

-- a text that is two fronts: one of them goes further
cut : (u more p q : List ℕ) → u ++ more ≡ p ++ q
    → ((v : List ℕ) × (u ≡ p ++ v) × (v ++ more ≡ q))
    ⊎ ((r : List ℕ) × (p ≡ u ++ r) × (0 < length r))
cut u more [] q same = inl (u, refl, same)
cut [] more (x ∷ p) q same = inr (x ∷ p, refl, omega arith)
cut (y ∷ u) more (x ∷ p) q same =
    let head : y ≡ x = cc in
    let tails : u ++ more ≡ p ++ q = cc in
    elim (cut u more p q tails) [
      | inl further ↦ inl (further.0, cc, further.2)
      | inr short ↦ inr (short.0, cc, short.2)
    ]

-- less than a line ends no line
part-feeds : (text u r : List ℕ) → Line text → text ≡ u ++ r → 0 < length r → feeds u ≡ 0
part-feeds text u r line split some =
    elim (cut u r line.front (10 ∷ []) (sym split ∙ line.whole)) [
      | inl (v, whole, rest) ↦ all-of v whole rest
      | inr (more, whole, others) ↦ search (rules, line.front, more, whole, feeds-append, line.none)
    ]
  where
    all-of : (v : List ℕ) → u ≡ line.front ++ v → v ++ r ≡ 10 ∷ [] → feeds u ≡ 0
    all-of [] whole rest = ap feeds (whole ∙ append-nil line.front) ∙ line.none
    all-of (x ∷ v) whole rest =
        let size : length ((x ∷ v) ++ r) ≡ 1 = ap length rest in
        search (rules, length-append, v, size, some)

line-feeds : (text : List ℕ) → Line text → feeds text ≡ 1
line-feeds text line = grind (arith, nat_tests, feeds-append)

-- bytes that end a line have the whole first line
line-cut : (p u more q : List ℕ) → Line p → u ++ more ≡ p ++ q → 0 < feeds u
    → (v : List ℕ) × (u ≡ p ++ v) × (v ++ more ≡ q)
line-cut p u more q line same some =
    elim (cut u more p q same) [
      | inl further ↦ further
      | inr (r, whole, rest) ↦
          let none = part-feeds p u r line whole rest in
          absurd (omega (arith, none, some))
    ]

-- ---- the lines of a head

end-line : (text : List ℕ) (end : LineEnd) → feeds text ≡ 0 → Line (text ++ print_end end)
end-line text crlf none = record {
  front = text ++ 13 ∷ [];
  whole = sym (append_assoc text (13 ∷ []) (10 ∷ []));
  none = search (rules, feeds-append, none);
}
end-line text lf none = record { front = text; whole = refl; none = none }

-- the request line without its end
abbrev words : RequestHead → List ℕ
words h = h.method ++ 32 ∷ (h.target ++ 32 ∷ print_version h.minor)

abbrev start : RequestHead → List ℕ
start h = words h ++ print_end h.line_end

version-feeds : (minor : ℕ) → minor ≤ 1 → feeds (print_version minor) ≡ 0
version-feeds minor known = grind (arith, nat_tests)

token-feeds : (text : List ℕ) → AllPass is_token_byte text → feeds text ≡ 0
unfolding is_token_byte
token-feeds = no-feeds is_token_byte refl

words-feeds : (h : RequestHead) → IsRequestHead h → feeds (words h) ≡ 0
words-feeds h is =
    let method = token-feeds h.method is.method.1 in
    let target = no-feeds is_uri_byte refl h.target is.target.1 in
    let version = version-feeds h.minor is.minor in
    search (rules, h, h.method, h.target, h.minor, feeds-append, method, target, version)

start-line : (h : RequestHead) → IsRequestHead h → Line (start h)
start-line h is = end-line (words h) h.line_end (words-feeds h is)

field-line : (f : Field) → IsField f → Line (print_field f)
field-line f is =
    let name = token-feeds f.name is.name.1 in
    let raw = no-feeds is_value_byte refl f.raw is.raw in
    let sum : feeds (f.name ++ 58 ∷ f.raw) ≡ feeds f.name + feeds f.raw =
    feeds-append f.name (58 ∷ f.raw) in
    subst Line (regroup f.name f.raw (print_end f.end))
    (end-line (f.name ++ 58 ∷ f.raw) f.end (omega (arith, sum, name, raw)))
  where
    regroup : (name raw end : List ℕ) → (name ++ 58 ∷ raw) ++ end ≡ name ++ 58 ∷ raw ++ end
    regroup name raw end = simp (append_assoc, cons-append)

last-line : (end : LineEnd) → Line (print_end end)
last-line end = end-line [] end refl

-- each field ends one line, and so does the empty line
section-feeds : (fields : List Field) (last : LineEnd) → AllByRecursion IsField fields
    → feeds (print_section fields last) ≡ length fields + 1
section-feeds [] last all = line-feeds (print_end last) (last-line last)
section-feeds (f ∷ fields) last all =
    let one = line-feeds (print_field f) (field-line f all.0) in
    let rest = section-feeds fields last all.1 in
    search (rules, last, append_assoc, feeds-append, one, rest)

-- bytes that end so many lines of a section that isn't whole have the lines of so many fields
fields-in : (n : ℕ) (fields : List Field) (last : LineEnd) (u more : List ℕ)
    → AllByRecursion IsField fields → u ++ more ≡ print_section fields last → 0 < length more
    → n ≤ feeds u
    → (n ≤ length fields) × ((v : List ℕ) × (u ≡ flat_map print_field (take n fields) ++ v))
fields-in zero fields last u more all same some many = (omega arith, (u, refl))
fields-in (suc n) [] last u more all same some many =
    let whole = line-cut (print_end last) u more [] (last-line last)
    (same ∙ sym (append-nil (print_end last))) (omega (arith, many)) in
    let none : length (whole.0 ++ more) ≡ 0 = ap length whole.2 in
    search (rules, length-append, whole.0, none, some)
fields-in (suc n) (f ∷ fields) last u more all same some many =
    let first = line-cut (print_field f) u more (print_section fields last)
    (field-line f all.0)
    (same ∙ append_assoc (print_field f) (flat_map print_field fields) (print_end last))
    (omega (arith, many)) in
    let one = line-feeds (print_field f) (field-line f all.0) in
    let sum : feeds u ≡ feeds (print_field f) + feeds first.0 =
    ap feeds first.1 ∙ feeds-append (print_field f) first.0 in
    let rest = fields-in n fields last first.0 more all.1 first.2 some (omega (arith, sum, one, many)) in (
      omega (arith, rest.0),
      grind (arith, nat_tests, rest.1.0, first.1, rest.1.1, append_assoc),
    )

-- ---- the head

printed : (h : RequestHead) (rest : List ℕ)
    → print_request h ++ rest ≡ print_blank h.blank ++ (start h ++ (print_section h.fields h.last ++ rest))
printed h rest =
    print_request-append h rest
    ∙ ap (λ t. print_blank h.blank ++ t)
    (sym (regroup h.method h.target (print_version h.minor) (print_end h.line_end)
    (print_section h.fields h.last ++ rest)))
  where
    regroup : (a b c d e : List ℕ)
        → ((a ++ 32 ∷ (b ++ 32 ∷ c)) ++ d) ++ e ≡ a ++ 32 ∷ (b ++ 32 ∷ (c ++ (d ++ e)))
    regroup a b c d e = simp (append_assoc, cons-append)

-- a head with more fields than these has ended more lines than these, and the one of the request
pub exceeds-ended : (room : ℕ) (bytes : List ℕ) → RequestExceeds room bytes → room + 2 ≤ ended bytes
exceeds-ended room bytes (front, rest, whole, h, reads, over) =
    let text = start h ++ (print_section h.fields h.last ++ []) in
    let all : front ++ 10 ∷ [] ≡ print_blank h.blank ++ text = reads.1 ∙ printed h [] in
    let stops : Stops is_newline text =
    subst (Stops is_newline) (sym (first h.method h.target (print_version h.minor)
    (print_end h.line_end) (print_section h.fields h.last ++ [])))
    (Stops_token h.method _ reads.0.method.0 reads.0.method.1) in
    let count : ended (front ++ 10 ∷ []) ≡ feeds text =
    ap ended all ∙ ended-blank h.blank text ∙ ended-stops text stops in
    let one = line-feeds (start h) (start-line h reads.0) in
    let fields = section-feeds h.fields h.last (recursion_from_All IsField h.fields reads.0.fields) in
    let sum : feeds text ≡ feeds (start h) + feeds (print_section h.fields h.last ++ []) =
    feeds-append (start h) (print_section h.fields h.last ++ []) in
    let same : feeds (print_section h.fields h.last ++ []) ≡ feeds (print_section h.fields h.last) =
    ap feeds (append-nil (print_section h.fields h.last)) in
    let less = ended-feed front in
    let more = ended-grows front rest in
    let here : ended bytes ≡ ended (front ++ rest) = ap ended whole in
    omega (arith, count, one, fields, sum, same, less, more, here, over)
  where
    first : (a b c d e : List ℕ)
        → ((a ++ 32 ∷ (b ++ 32 ∷ c)) ++ d) ++ e ≡ a ++ 32 ∷ (b ++ 32 ∷ c ++ d ++ e)
    first a b c d e = simp (append_assoc, cons-append)

blank-ends : (ends : List LineEnd) (w r : List ℕ) → print_blank ends ≡ w ++ r → ended w ≡ 0
blank-ends ends w r same =
    let whole : ended (print_blank ends) ≡ 0 =
    ap ended (sym (append-nil (print_blank ends))) ∙ ended-blank ends [] in
    search (rules, same, ended-grows, whole)

-- the head of the first fields, with an empty line
abbrev shortened : ℕ → RequestHead → RequestHead
shortened n h = record h { fields = take n h.fields; last = lf }

shortened-head : (n : ℕ) (h : RequestHead) → IsRequestHead h → IsRequestHead (shortened n h)
shortened-head n h is = record {
  method = is.method;
  target = is.target;
  target_text = is.target_text;
  minor = is.minor;
  fields = All-take IsField n h.fields is.fields;
}

in-head : (room : ℕ) (bytes more : List ℕ) (h : RequestHead) → HasNoRequest bytes
    → ReadsRequest (bytes ++ more) h [] → room + 2 ≤ ended bytes → RequestExceeds room bytes
in-head room bytes more h none reads many =
    let section = print_section h.fields h.last in
    let blank = print_blank h.blank in
    let whole : bytes ++ more ≡ blank ++ (start h ++ section) =
    reads.1 ∙ printed h [] ∙ ap (λ t. blank ++ (start h ++ t)) (append-nil section) in
    elim (cut bytes more blank (start h ++ section) whole) [
      | inr (r, short, rest) ↦ search (rules, blank-ends, h.blank, r, short, many)
      | inl (u, after, left) ↦
          let count : ended bytes ≡ ended u = ap ended after ∙ ended-blank h.blank u in
          let within = ended-within u in
          let first = line-cut (start h) u more section (start-line h reads.0) left
          (omega (arith, count, within, many)) in
          let one = line-feeds (start h) (start-line h reads.0) in
          let sum : feeds u ≡ feeds (start h) + feeds first.0 =
          ap feeds first.1 ∙ feeds-append (start h) first.0 in
          let found = fields-in (room + 1) h.fields h.last first.0 more
          (recursion_from_All IsField h.fields reads.0.fields) first.2 (some more reads none)
          (omega (arith, count, within, many, one, sum)) in
          let k = shortened (room + 1) h in
          let lines = flat_map print_field (take (room + 1) h.fields) in (
            blank ++ (start h ++ lines),
            found.1.0,
            after ∙ ap (λ t. blank ++ t) (first.1 ∙ ap (λ t. start h ++ t) found.1.1)
                ∙ regroup blank (start h) lines found.1.0,
            k,
            (
              shortened-head (room + 1) h reads.0,
              around blank (start h) lines ∙ sym (printed k []),
            ),
            omega (arith, length-take-le (room + 1) h.fields found.0),
          )
    ]
  where
    some : (more : List ℕ) → ReadsRequest (bytes ++ more) h [] → HasNoRequest bytes
        → 0 < length more
    some [] reads none =
        absurd (none h [] (reads.0, sym (append-nil bytes) ∙ reads.1))
    some (byte ∷ more) reads none = omega arith

    regroup : (a b c d : List ℕ) → a ++ (b ++ (c ++ d)) ≡ (a ++ (b ++ c)) ++ d
    regroup a b c d = sym (simp (append_assoc))

    around : (a b c : List ℕ) → (a ++ (b ++ c)) ++ 10 ∷ [] ≡ a ++ (b ++ ((c ++ 10 ∷ []) ++ []))
    around a b c = simp (append_assoc, append-nil)

in-target : (ends : List LineEnd) (method target : List ℕ)
    → AllPass is_token_byte method → AllPass is_uri_byte target
    → ended (print_blank ends ++ (method ++ 32 ∷ target)) ≡ 0
in-target ends method target token uri =
    let text = method ++ 32 ∷ target in
    let skips = ended-blank ends text in
    let within = ended-within text in
    let sum : feeds text ≡ feeds method + feeds target = feeds-append method (32 ∷ target) in
    let one = token-feeds method token in
    let two = no-feeds is_uri_byte refl target uri in
    omega (arith, skips, within, sum, one, two)

-- bytes that may become a head, and have ended more lines than a head within the limit has, have
-- too many fields
pub ended-exceeds : (room : ℕ) (bytes : List ℕ) → HasNoRequest bytes → MayBecomeRequest bytes
    → room + 2 ≤ ended bytes → RequestExceeds room bytes
ended-exceeds room bytes none (inl (more, h, reads)) many = in-head room bytes more h none reads many
ended-exceeds room bytes none (inr (ends, method, target, token, uri, whole)) many =
    search (rules, whole, append_assoc, ends, method, target, in-target, token.1, uri, many)

-- ---- where the empty lines end

abbrev is_other : ℕ → Bool
is_other byte = not (is_newline byte)

one-more : (n : ℕ) → 1 + n ≡ suc n
one-more n = omega arith

ended-at : (bytes : List ℕ) → ended bytes ≡ feeds (drop (position_or_len is_other bytes) bytes)
ended-at [] = refl
ended-at (byte ∷ bytes) =
    elim (cases_Bool (is_newline byte)) [
      | inl is ↦ search (rules, is, one-more, ended-at bytes)
      | inr isnt ↦ rw isnt refl
    ]

pub ended-behind : (bytes : List ℕ) (i : ℕ) → Some i ≡ position is_other bytes
    → ended bytes ≡ feeds (drop i bytes)
ended-behind bytes i found = grind (arith, nat_tests, ended-at, place_of)

pub ended-nowhere : (bytes : List ℕ) → None ≡ position is_other bytes → ended bytes ≡ 0
ended-nowhere bytes none = grind (arith, nat_tests, drop_all, ended-at, none_of)
