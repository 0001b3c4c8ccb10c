-- A list text below other lines says what it says alone, its faults' lines counted from the top.
use Rattle.std.proofs.Common.{ℕ, ◌≡◌, ◌≤◌, ◌+◌, Bool, true, not, List, [], ◌∷◌, map, Option, Some}
use Rattle.std.proofs.Common.{None, length, refl, ap, ◌∙◌, ◌⊎◌, inl, inr, arith, rules}
use Rattle.std.proofs.lemmas.Bool.{cases_Bool, leb-true, le-leb, and_parts, and_from}
use Rattle.std.proofs.lemmas.List.{Splits.length-slice_split, Sums.count_by-le-length}
use Rattle.std.specs.{Prelude.{◌||◌, ◌==◌, nat_le, filter, Result, Ok, Err}, List.enumerate_from}
use Rattle.std.specs.List.{list_all}
use Rattle.room_entry.specs.{Ace.Ace, Utf8.is_utf8, declared.flags.ListFlags.ListFlags}
use Rattle.room_entry.specs.declared.fault.TextFault.{TextFault}
use Rattle.room_ace.specs.{Sent.Sent, Text.entry_of, Lists.{lines_of, lines_of_pieces, is_blank}}
use Rattle.room_ace.specs.Lists.{is_comment, numbered_lines, with_entry, and_then, entries_after}
use Rattle.room_ace.specs.Lists.{sent_with, sent_of_lines, sent_of}
use Rattle.room_ace.specs.declared.fault.LineFault.{LineFault}
use Rattle.cli_check.specs.Check.{in_list, list_below}

abbrev says : ℕ × List ℕ → Bool
says line = not (is_blank line.1 || is_comment line.1)

-- a line, with its number four higher
abbrev on : ℕ × List ℕ → ℕ × List ℕ
on line = (4 + line.0, line.1)

abbrev raised : {A : Type 0} → Result A LineFault → Result A LineFault
raised (Ok value) = Ok value
raised (Err fault) = Err (record { line = 4 + fault.line; why = fault.why })

option_cases : {A : Type 0} (o : Option A) → (o ≡ None) ⊎ ((a : A) × (o ≡ Some a))
option_cases None = inl refl
option_cases (Some a) = inr (a, refl)

enumerate-on : (k j : ℕ) (lines : List (List ℕ)) → j ≡ 4 + k
    → enumerate_from j lines ≡ map on (enumerate_from k lines)
enumerate-on k j [] e = refl
enumerate-on k j (line ∷ lines) e =
    grind (arith, e, enumerate-on (k + 1) (j + 1) lines (omega arith))

filter-on : (lines : List (ℕ × List ℕ)) → filter says (map on lines) ≡ map on (filter says lines)
filter-on [] = refl
filter-on (line ∷ lines) =
    grind (arith, filter-on lines)

with_entry-on : (line : ℕ) (before : List Ace) (read : Result Ace TextFault)
    → with_entry (4 + line) before read ≡ raised (with_entry line before read)
with_entry-on line before (Err fault) = refl
with_entry-on line before (Ok entry) =
    grind (arith, option_cases)

and_then-on : {A B : Type 0} (read : Result A LineFault) (rest there : A → Result B LineFault)
    → ((value : A) → there value ≡ raised (rest value))
    → and_then (raised read) there ≡ raised (and_then read rest)
and_then-on (Err fault) rest there same = refl
and_then-on (Ok value) rest there same = same value

entries-on : (before : List Ace) (lines : List (ℕ × List ℕ))
    → entries_after before (map on lines) ≡ raised (entries_after before lines)
entries-on before [] = refl
entries-on before (line ∷ lines) =
    elim (cases_Bool (is_utf8 line.1)) [
      | inl e ↦
          rw e
          (ap (λ (read : Result (List Ace) LineFault). and_then read
          (λ entries. entries_after entries (map on lines)))
          (with_entry-on line.0 before (entry_of line.1))
          ∙ and_then-on (with_entry line.0 before (entry_of line.1))
          (λ entries. entries_after entries lines) (λ entries. entries_after entries (map on lines))
          (λ entries. entries-on entries lines))
      | inr e ↦ rw e refl
    ]

sent_with-on : (flags : Option ListFlags) (line : ℕ) (lines : List (ℕ × List ℕ))
    → sent_with flags (4 + line) (map on lines) ≡ raised (sent_with flags line lines)
sent_with-on None line lines = refl
sent_with-on (Some flags) line lines =
    grind (arith, entries-on, and_then-on)

sent-on : (count : ℕ) (lines : List (ℕ × List ℕ))
    → sent_of_lines (4 + count) (map on lines) ≡ raised (sent_of_lines count lines)
sent-on count [] = let e : 4 + count + 1 ≡ 4 + (count + 1) = omega arith in rw e refl
sent-on count (line ∷ lines) =
    grind (arith, sent_with-on)

list_below-is : (bytes : List ℕ) → list_below (lines_of bytes) ≡ in_list (raised (sent_of bytes))
list_below-is bytes =
    ap (λ (lines : List (ℕ × List ℕ)). in_list (sent_of_lines (4 + length (lines_of bytes)) lines))
    (ap (filter says) (enumerate-on 1 5 (lines_of bytes) refl)
    ∙ filter-on (enumerate_from 1 (lines_of bytes)))
    ∙ ap in_list (sent-on (length (lines_of bytes)) (numbered_lines bytes))

pub list_below-read : (bytes : List ℕ) (sent : Sent) → sent_of bytes ≡ Ok sent
    → list_below (lines_of bytes) ≡ Ok sent
list_below-read bytes sent read =
    list_below-is bytes ∙ ap (λ (r : Result Sent LineFault). in_list (raised r)) read

pub list_below-fault : (bytes : List ℕ) (fault : LineFault) → sent_of bytes ≡ Err fault
    → list_below (lines_of bytes)
    ≡ in_list (Err (record { line = 4 + fault.line; why = fault.why }))
list_below-fault bytes fault read =
    list_below-is bytes ∙ ap (λ (r : Result Sent LineFault). in_list (raised r)) read

-- ---- a fault stands at most one line after the last

abbrev within : ℕ → ℕ × List ℕ → Bool
within most line = nat_le line.0 most

abbrev AtMost : {A : Type 0} → ℕ → Result A LineFault → Type 0
AtMost most (Ok value) = Unit {0}
AtMost most (Err fault) = fault.line ≤ most

numbered-within : (most k : ℕ) (lines : List (List ℕ)) → k + length lines ≤ most + 1
    → list_all (within most) (filter says (enumerate_from k lines)) ≡ true
numbered-within most k [] fits = refl
numbered-within most k (line ∷ lines) fits =
    elim (cases_Bool (says (k, line))) [
      | inl e ↦
          grind (arith, and_from, le-leb, e, numbered-within most (k + 1) lines (omega arith))
      | inr e ↦ rw e (numbered-within most (k + 1) lines (omega arith))
    ]

with_entry-most : (most line : ℕ) (before : List Ace) (read : Result Ace TextFault) → line ≤ most
    → AtMost most (with_entry line before read)
with_entry-most most line before (Err fault) le = le
with_entry-most most line before (Ok entry) le =
    grind (arith, option_cases, le)

and_then-most : {A B : Type 0} (most : ℕ) (read : Result A LineFault)
    (rest : A → Result B LineFault) → AtMost most read → ((value : A) → AtMost most (rest value))
    → AtMost most (and_then read rest)
and_then-most most (Err fault) rest le each = le
and_then-most most (Ok value) rest le each = each value

entries-most : (most : ℕ) (before : List Ace) (lines : List (ℕ × List ℕ))
    → list_all (within most) lines ≡ true → AtMost most (entries_after before lines)
entries-most most before [] all = tt
entries-most most before (line ∷ lines) all =
    let parts = and_parts (within most line) (list_all (within most) lines) all in
    let le = leb-true line.0 most parts.0 in
    elim (cases_Bool (is_utf8 line.1)) [
      | inl e ↦
          rw e (and_then-most most (with_entry line.0 before (entry_of line.1))
          (λ entries. entries_after entries lines)
          (with_entry-most most line.0 before (entry_of line.1) le)
          (λ entries. entries-most most entries lines parts.1))
      | inr e ↦ rw e le
    ]

sent_with-most : (most : ℕ) (flags : Option ListFlags) (line : ℕ) (lines : List (ℕ × List ℕ))
    → line ≤ most → list_all (within most) lines ≡ true → AtMost most (sent_with flags line lines)
sent_with-most most None line lines le all = le
sent_with-most most (Some flags) line lines le all =
    grind (arith, and_then-most, entries-most, all)

sent-most : (most count : ℕ) (lines : List (ℕ × List ℕ)) → count + 1 ≤ most
    → list_all (within most) lines ≡ true → AtMost most (sent_of_lines count lines)
sent-most most count [] le all = le
sent-most most count (line ∷ lines) le all =
    search (rules, and_parts, leb-true, sent_with-most, all)

lines-most : (parts : List (List ℕ)) → length (lines_of_pieces parts) ≤ length parts
lines-most [] = omega arith
lines-most ([] ∷ []) = omega arith
lines-most ((byte ∷ bytes) ∷ []) = omega arith
lines-most ([] ∷ next ∷ parts) = let le = lines-most (next ∷ parts) in omega arith
lines-most ((byte ∷ bytes) ∷ next ∷ parts) = let le = lines-most (next ∷ parts) in omega arith

pub fault-most : (bytes : List ℕ) (fault : LineFault) → sent_of bytes ≡ Err fault
    → fault.line ≤ length bytes + 2
fault-most bytes fault read =
    let count = length-slice_split (λ byte. byte == 10) bytes in
    grind (arith, count_by-le-length, lines-most, sent-most, numbered-within, read)
