-- A text is read as a list exactly if it spells it.
use Rattle.std.proofs.Common.{rules, ℕ, ◌≡◌, ◌+◌, Bool, true, not, ◌||◌, List, [], ◌∷◌, ◌++◌, map}
use Rattle.std.proofs.Common.{Option, Some, None, Result, Ok, Err, cond, refl, sym, ap, ◌∙◌, subst}
use Rattle.std.proofs.{Common.{inl, inr, append_assoc, append-nil, arith}, lemmas.Bool.cases_Bool}
use Rattle.std.proofs.lemmas.{Bool.{cond-true, Decides.nat_tests}, List.Elements.All-head}
use Rattle.std.proofs.lemmas.List.Elements.{All-tail, All-cons}
use Rattle.std.specs.{Prelude.filter, List.{All, AllZip, enumerate_from}}
use Rattle.room_entry.specs.{Ace.Ace, Utf8.is_utf8, declared.flags.ListFlags.ListFlags}
use Rattle.room_entry.specs.declared.fault.{ListFault.ListFault, TextFault.TextFault}
use Rattle.room_ace.specs.{declared.fault.{LineFault.LineFault, Why.TheVariants.NotUtf8}, Sent.Sent}
use Rattle.room_ace.specs.{Sent.limit_fault, Text.entry_of, Lists.{and_then, entries_after}}
use Rattle.room_ace.specs.Lists.{fault_at, flags_of_list, is_blank, is_comment, sent_of_lines}
use Rattle.room_ace.specs.{Lists.{sent_with, with_entry}, Laws.{ReadsWhatIsSpelled, Spells, saying}}
use Rattle.room_ace.proofs.ListsBack.{with_entry_ok}

abbrev says : List ℕ → Bool
says line = not (is_blank line || is_comment line)

abbrev says_at : ℕ × List ℕ → Bool
says_at line = says line.1

abbrev IsText : List ℕ → Type 0
IsText line = is_utf8 line ≡ true

abbrev IsEntry : List ℕ → Ace → Type 0
IsEntry line entry = entry_of line ≡ Ok entry

abbrev texts_of : List (ℕ × List ℕ) → List (List ℕ)
texts_of lines = map (λ (line : ℕ × List ℕ). line.1) lines

-- the numbers of lines don't count for which of them say something
numbered : (n : ℕ) (lines : List (List ℕ))
    → texts_of (filter says_at (enumerate_from n lines)) ≡ filter says lines
numbered n [] = refl
numbered n (line ∷ lines) = grind (arith, nat_tests, numbered (n + 1) lines)

-- ---- the entries

-- a line that is read
read_line : (n : ℕ) (line : List ℕ) (before : List Ace) (out : List Ace)
    (rest : List Ace → Result (List Ace) LineFault)
    → and_then (cond (is_utf8 line) (with_entry n before (entry_of line)) (fault_at n NotUtf8)) rest
    ≡ Ok out
    → (is_utf8 line ≡ true)
    × ((entry : Ace) × (entry_of line ≡ Ok entry) × (limit_fault (before ++ entry ∷ []) ≡ None)
    × (rest (before ++ entry ∷ []) ≡ Ok out))
read_line n line before out rest is =
    elim (cases_Bool (is_utf8 line)) [
      | inl text ↦ (
        text,
        of_entry (entry_of line) refl
            (search (cond-true)),
      )
      | inr other ↦ grind (arith, nat_tests)
    ]
  where
    of_limit : (entry : Ace) (found : Option ListFault)
        → limit_fault (before ++ entry ∷ []) ≡ found
        → entry_of line ≡ Ok entry
        → and_then (with_entry n before (Ok entry)) rest ≡ Ok out
        → (e : Ace) × (entry_of line ≡ Ok e) × (limit_fault (before ++ e ∷ []) ≡ None)
        × (rest (before ++ e ∷ []) ≡ Ok out)
    of_limit entry found limit known is = grind (arith, nat_tests)

    of_entry : (found : Result Ace TextFault) → entry_of line ≡ found
        → and_then (with_entry n before (entry_of line)) rest ≡ Ok out
        → (e : Ace) × (entry_of line ≡ Ok e) × (limit_fault (before ++ e ∷ []) ≡ None)
        × (rest (before ++ e ∷ []) ≡ Ok out)
    of_entry (Ok entry) known is = grind (arith, nat_tests, of_limit)
    of_entry (Err fault) known is = grind (arith, nat_tests)

-- the entries that were read are those that the lines spell
read_entries : (before : List Ace) (lines : List (ℕ × List ℕ)) (out : List Ace)
    → limit_fault before ≡ None → entries_after before lines ≡ Ok out
    → (entries : List Ace) × (out ≡ before ++ entries) × All IsText (texts_of lines)
    × AllZip IsEntry (texts_of lines) entries × (limit_fault out ≡ None)
read_entries before [] out limit is = search (rules, append-nil, limit)
read_entries before (line ∷ lines) out limit is =
    let first = read_line line.0 line.1 before out (λ entries. entries_after entries lines) is in
    let rest = read_entries (before ++ first.1.0 ∷ []) lines out first.1.2 first.1.3 in (
      first.1.0 ∷ rest.0,
      rest.1 ∙ append_assoc before (first.1.0 ∷ []) rest.0,
      All-cons IsText line.1 (texts_of lines) first.0 rest.2,
      (first.1.1, rest.3),
      rest.4,
    )

-- the entries that the lines spell are read
spelled_entries : (before : List Ace) (lines : List (ℕ × List ℕ)) (entries : List Ace)
    → All IsText (texts_of lines) → AllZip IsEntry (texts_of lines) entries
    → limit_fault (before ++ entries) ≡ None
    → entries_after before lines ≡ Ok (before ++ entries)
spelled_entries before [] [] text each limit = ap (λ found. Ok found) (sym (append-nil before))
spelled_entries before [] (entry ∷ entries) text each limit = absurd each
spelled_entries before (line ∷ lines) [] text each limit = absurd each
spelled_entries before (line ∷ lines) (entry ∷ entries) text each limit =
    let pushed : (before ++ entry ∷ []) ++ entries ≡ before ++ entry ∷ entries =
    append_assoc before (entry ∷ []) entries in
    let within = ap limit_fault pushed ∙ limit in
    cc (
      cond-true (is_utf8 line.1) _ _ (All-head IsText line.1 (texts_of lines) text),
      each.0,
      with_entry_ok line.0 before entry entries within,
      spelled_entries (before ++ entry ∷ []) lines entries
          (All-tail IsText line.1 (texts_of lines) text) each.1 within,
      pushed,
    )

-- ---- the list

from_lines : (count : ℕ) (bytes : List ℕ) (lines : List (ℕ × List ℕ)) (sent : Sent)
    → texts_of lines ≡ saying bytes → sent_of_lines count lines ≡ Ok sent → Spells bytes sent
from_lines count bytes [] sent shown is = absurd (cc)
from_lines count bytes (line ∷ lines) sent shown is =
    elim (cases_Bool (is_utf8 line.1)) [
      | inl text ↦
          with_flags text (flags_of_list line.1) refl
          (sym (cond-true (is_utf8 line.1) (sent_with (flags_of_list line.1) line.0 lines)
          (fault_at line.0 NotUtf8) text) ∙ is)
      | inr other ↦ grind (arith, nat_tests)
    ]
  where
    with_entries : IsText line.1 → (flags : ListFlags) → flags_of_list line.1 ≡ Some flags
        → (found : Result (List Ace) LineFault) → entries_after [] lines ≡ found
        → and_then found (λ entries. Ok (record { flags = flags; entries = entries })) ≡ Ok sent
        → Spells bytes sent
    with_entries text flags known (Ok entries) read is =
        let made : ◌≡◌ {A = Sent} (record { flags = flags; entries = entries }) sent = cc in
        let each = read_entries [] lines entries refl read in
        grind (arith, nat_tests)
    with_entries text flags known (Err fault) read is = absurd (cc)

    with_flags : IsText line.1 → (found : Option ListFlags) → flags_of_list line.1 ≡ found
        → sent_with (flags_of_list line.1) line.0 lines ≡ Ok sent → Spells bytes sent
    with_flags text (Some flags) known is = grind (arith, nat_tests, with_entries)
    with_flags text None known is = grind (arith, nat_tests)

to_lines : (count : ℕ) (bytes : List ℕ) (lines : List (ℕ × List ℕ)) (sent : Sent)
    → texts_of lines ≡ saying bytes → Spells bytes sent → sent_of_lines count lines ≡ Ok sent
to_lines count bytes [] sent shown s = grind (arith, nat_tests)
to_lines count bytes (line ∷ lines) sent shown s =
    let same : line.1 ∷ texts_of lines ≡ s.first ∷ s.others = shown ∙ s.lines in
    let head : line.1 ≡ s.first = cc in
    let tail : texts_of lines ≡ s.others = cc in
    let text = subst (λ (ls : List (List ℕ)). All IsText ls) (sym same) s.text in
    let each = subst (λ (ls : List (List ℕ)). AllZip IsEntry ls sent.entries) (sym tail) s.entries in
    cc (
      cond-true (is_utf8 line.1) (sent_with (flags_of_list line.1) line.0 lines)
          (fault_at line.0 NotUtf8) (All-head IsText line.1 (texts_of lines) text),
      head,
      s.flags,
      spelled_entries [] lines sent.entries (All-tail IsText line.1 (texts_of lines) text) each
          s.within,
    )

pub reads_what_is_spelled : ReadsWhatIsSpelled
reads_what_is_spelled bytes sent = search (from_lines, numbered, to_lines)
