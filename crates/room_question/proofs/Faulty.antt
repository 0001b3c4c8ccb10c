-- The fault of a list's text stands at one of its lines, or behind the last.
use Rattle.std.proofs.Common.{ℕ, ◌≡◌, ◌<◌, ◌+◌, Bool, true, not, List, [], ◌∷◌, Option, Some}
use Rattle.std.proofs.Common.{None, length, refl, ◌⊎◌, inl, inr, arith}
use Rattle.std.proofs.lemmas.Bool.{cases_Bool, leb-true, le-leb, and_parts, and_from}
use Rattle.std.proofs.lemmas.List.{Splits.length-slice_split, Sums.count_by-le-length}
use Rattle.std.specs.{Prelude.{◌||◌, ◌==◌, nat_le, filter, Result, Ok, Err}, List.enumerate_from}
use Rattle.std.specs.List.{list_all}
use Rattle.room_entry.specs.{Ace.Ace, Pieces.pieces, Utf8.is_utf8, declared.flags.ListFlags.ListFlags}
use Rattle.room_entry.specs.declared.fault.TextFault.{TextFault}
use Rattle.room_ace.specs.{Sent.Sent, Text.entry_of, Lists.{lines_of, lines_of_pieces, is_blank}}
use Rattle.room_ace.specs.Lists.{is_comment, numbered_lines, with_entry, and_then, entries_after}
use Rattle.room_ace.specs.Lists.{flags_of_list, sent_with, sent_of_lines, sent_of}
use Rattle.room_ace.specs.declared.fault.LineFault.{LineFault}

-- the line of the fault passes, if there is one
abbrev FaultPasses : {A : Type 0} → (ℕ → Bool) → Result A LineFault → Type 0
FaultPasses test (Ok value) = Unit {0}
FaultPasses test (Err fault) = test fault.line ≡ true

abbrev are_passing : (ℕ → Bool) → List (ℕ × List ℕ) → Bool
are_passing test lines = list_all (λ line. test line.0) lines

some_or_none : {A : Type 0} (o : Option A) → ((a : A) × (o ≡ Some a)) ⊎ (o ≡ None)
some_or_none None = inr refl
some_or_none (Some a) = inl (a, refl)

with_entry-passes : (test : ℕ → Bool) (line : ℕ) (before : List Ace)
    (read : Result Ace TextFault) → test line ≡ true
    → FaultPasses test (with_entry line before read)
with_entry-passes test line before (Err fault) is = is
with_entry-passes test line before (Ok entry) is = grind (arith, some_or_none, is)

and_then-passes : {A B : Type 0} (test : ℕ → Bool) (read : Result A LineFault)
    (rest : A → Result B LineFault) → FaultPasses test read
    → ((value : A) → FaultPasses test (rest value)) → FaultPasses test (and_then read rest)
and_then-passes test (Err fault) rest is each = is
and_then-passes test (Ok value) rest is each = each value

entries-passes : (test : ℕ → Bool) (before : List Ace) (lines : List (ℕ × List ℕ))
    → are_passing test lines ≡ true → FaultPasses test (entries_after before lines)
entries-passes test before [] all = tt
entries-passes test before (line ∷ lines) all =
    let parts = and_parts (test line.0) (are_passing test lines) all in
    elim (cases_Bool (is_utf8 line.1)) [
      | inl e ↦
          rw e (and_then-passes test (with_entry line.0 before (entry_of line.1))
          (λ entries. entries_after entries lines)
          (with_entry-passes test line.0 before (entry_of line.1) parts.0)
          (λ entries. entries-passes test entries lines parts.1))
      | inr e ↦ rw e parts.0
    ]

sent_with-passes : (test : ℕ → Bool) (flags : Option ListFlags) (line : ℕ)
    (lines : List (ℕ × List ℕ)) → test line ≡ true → are_passing test lines ≡ true
    → FaultPasses test (sent_with flags line lines)
sent_with-passes test None line lines is all = is
sent_with-passes test (Some flags) line lines is all =
    and_then-passes test (entries_after [] lines)
    (λ entries. Ok (record { flags = flags; entries = entries }))
    (entries-passes test [] lines all) (λ entries. tt)

sent-passes : (test : ℕ → Bool) (count : ℕ) (lines : List (ℕ × List ℕ))
    → test (count + 1) ≡ true → are_passing test lines ≡ true
    → FaultPasses test (sent_of_lines count lines)
sent-passes test count [] is all = is
sent-passes test count (line ∷ lines) is all =
    let parts = and_parts (test line.0) (are_passing test lines) all in
    elim (cases_Bool (is_utf8 line.1)) [
      | inl e ↦ rw e (sent_with-passes test (flags_of_list line.1) line.0 lines parts.0 parts.1)
      | inr e ↦ rw e parts.0
    ]

numbers-pass : (most number : ℕ) (lines : List (List ℕ)) → number + length lines < most + 2
    → are_passing (λ n. nat_le n most)
    (filter (λ line. not (is_blank line.1 || is_comment line.1)) (enumerate_from number lines))
    ≡ true
numbers-pass most number [] fits = refl
numbers-pass most number (line ∷ lines) fits =
    elim (cases_Bool (not (is_blank line || is_comment line))) [
      | inl e ↦
          rw e
          (and_from (nat_le number most) _ (le-leb number most (omega arith))
          (numbers-pass most (number + 1) lines (omega arith)))
      | inr e ↦ rw e (numbers-pass most (number + 1) lines (omega arith))
    ]

lines-few : (parts : List (List ℕ)) → length (lines_of_pieces parts) < length parts + 1
lines-few [] = omega arith
lines-few ([] ∷ []) = omega arith
lines-few ((byte ∷ bytes) ∷ []) = omega arith
lines-few ([] ∷ next ∷ parts) = let few = lines-few (next ∷ parts) in omega arith
lines-few ((byte ∷ bytes) ∷ next ∷ parts) = let few = lines-few (next ∷ parts) in omega arith

lines-bytes : (bytes : List ℕ) → length (lines_of bytes) < length bytes + 2
lines-bytes bytes =
    let few = lines-few (pieces 10 bytes) in
    let count = length-slice_split (λ byte. byte == 10) bytes in
    let most = count_by-le-length (λ byte. byte == 10) bytes in
    omega arith

pub fault-near : (bytes : List ℕ) (fault : LineFault) → sent_of bytes ≡ Err fault
    → fault.line < length bytes + 3
fault-near bytes fault read =
    let most : ℕ = length bytes + 2 in
    let few = lines-bytes bytes in
    let passes : FaultPasses (λ n. nat_le n most) (sent_of bytes) =
    sent-passes (λ n. nat_le n most) (length (lines_of bytes)) (numbered_lines bytes)
    (le-leb (length (lines_of bytes) + 1) most (omega arith))
    (numbers-pass most 1 (lines_of bytes) (omega arith)) in
    let found : FaultPasses {A = Sent} (λ n. nat_le n most) (Err fault) = rw read at passes in
    let le = leb-true fault.line most found in
    omega arith
