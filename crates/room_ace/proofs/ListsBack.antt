-- What is printed of a list is read back.
use Rattle.std.proofs.Common.{rules, ℕ, ◌≡◌, ◌+◌, Bool, true, false, not, ◌||◌, List, [], ◌∷◌, ◌++◌}
use Rattle.std.proofs.Common.{map, length, Option, Some, None, Ok, if◌then◌else◌, refl, sym, ap}
use Rattle.std.proofs.Common.{◌∙◌, append_assoc, append-nil, length-append, codes, arith}
use Rattle.std.proofs.lemmas.Bool.{and_parts, and_from, false≢true, cond-true, cond-false}
use Rattle.std.proofs.lemmas.{Bool.{ltb-false, le-ltb, Decides.nat_tests}, List.Elements.All-head}
use Rattle.std.{proofs.lemmas.List.Elements.{All-tail, filter-append}, specs.Prelude.{filter, ◌==◌}}
use Rattle.std.specs.{Prelude.nat_lt, List.{All, list_all, flat_map, enumerate_from}}
use Rattle.room_entry.specs.{Bits.{all_bits, has}, Pieces.pieces, Ace.Ace, Letters.kind_text}
use Rattle.room_entry.specs.Letters.{letter_if, flags_text, mask_letters, mask_text, letter_of}
use Rattle.room_entry.specs.{Utf8.is_utf8, Laws.{has_name, IsEntry}}
use Rattle.room_entry.specs.declared.entry.{EntryKind.EntryKind, Who.Who}
use Rattle.room_entry.specs.declared.fault.ListFault.{ListFault, TheVariants.TooManyEntries}
use Rattle.room_entry.specs.declared.fault.ListFault.TheVariants.{TooManyOwn}
use Rattle.room_entry.proofs.{Texts.all-append, Visible.{is_visible, are_visible, visible_name}}
use Rattle.room_entry.proofs.{Visible.visible_utf8, Facts.Lists.all_implied}
use Rattle.room_ace.specs.{Sent.{Sent, own_of, limit_fault}, Text.{who_text, entry_text, entry_of}}
use Rattle.room_ace.specs.Lists.{entry_lines, list_text, without_return, lines_of_pieces, lines_of}
use Rattle.room_ace.specs.Lists.{is_blank, is_comment, numbered_lines, flags_of_list, fault_at}
use Rattle.room_ace.specs.{Lists.{with_entry, entries_after, sent_of_lines}, Column.entry_in}
use Rattle.room_ace.specs.{Column.{entries_behind, entries_of}, Laws.ListReadsBack}
use Rattle.room_ace.{specs.declared.fault.Why.TheVariants.NotUtf8, proofs.RoundTrip.apart}
use Rattle.room_ace.proofs.RoundTrip.{pieces_at, all_flags, all-map, of_known, reads_back}

-- ---- a printed entry is of visible ASCII bytes

visible_who : (who : Who) → has_name who ≡ true → are_visible (who_text who) ≡ true
visible_who who named = grind (arith, nat_tests, visible_name)

visible_kind : (kind : EntryKind) → are_visible (kind_text kind) ≡ true
visible_kind kind = grind (arith, nat_tests)

visible_letters : list_all (λ bit. is_visible (letter_of bit)) all_bits ≡ true
unfolding all_bits mask_letters
visible_letters = refl

visible_mask : (mask : List ℕ) → filter (has mask) all_bits ≡ mask
    → are_visible (mask_text mask) ≡ true
visible_mask mask known = search (rules, all-map, of_known, known, visible_letters)

visible_entry : (entry : Ace) → IsEntry entry → are_visible (entry_text entry) ≡ true
visible_entry entry ok =
    grind (
      arith,
      nat_tests,
      all-append,
      all_flags,
      is_visible,
      visible_kind,
      visible_mask,
      visible_who,
    )

-- ---- what visible bytes are not

other_byte : (c byte : ℕ) → is_visible c ≡ false → is_visible byte ≡ true → not (byte == c) ≡ true
other_byte c byte hidden shown = grind (arith, nat_tests, is_visible)

visible_apart : (c : ℕ) (text : List ℕ) → is_visible c ≡ false → are_visible text ≡ true
    → apart c text ≡ true
visible_apart c text hidden shown = search (all_implied, is_visible, other_byte)

-- ---- lines of visible bytes

-- each text with a line feed after it
abbrev lines_text : List (List ℕ) → List ℕ
lines_text texts = flat_map (λ text. text ++ 10 ∷ []) texts

-- each text is a piece, and nothing stands after the last line feed
pieces_of_texts : (texts : List (List ℕ)) → list_all are_visible texts ≡ true
    → pieces 10 (lines_text texts) ≡ texts ++ [] ∷ []
pieces_of_texts [] shown = refl
pieces_of_texts (text ∷ texts) shown =
    let parts = and_parts (are_visible text) (list_all are_visible texts) shown in
    cc (
      append_assoc text (10 ∷ []) (lines_text texts),
      pieces_at 10 text (lines_text texts) (visible_apart 10 text refl parts.0),
      pieces_of_texts texts parts.1,
    )

without_return-same : (line : List ℕ) → apart 13 line ≡ true → without_return line ≡ line
without_return-same [] none = refl
without_return-same (byte ∷ []) none = grind (arith, nat_tests)
without_return-same (byte ∷ next ∷ line) none =
    cc (without_return-same (next ∷ line)
    (and_parts (not (byte == 13)) (apart 13 (next ∷ line)) none).1)

lines_of_texts : (texts : List (List ℕ)) → list_all are_visible texts ≡ true
    → lines_of_pieces (texts ++ [] ∷ []) ≡ texts
lines_of_texts [] shown = refl
lines_of_texts (text ∷ []) shown =
    grind (arith, nat_tests, are_visible, visible_apart, without_return-same)
lines_of_texts (text ∷ next ∷ texts) shown =
    let parts = and_parts (are_visible text) (list_all are_visible (next ∷ texts)) shown in
    cc (
      without_return-same text (visible_apart 13 text refl parts.0),
      lines_of_texts (next ∷ texts) parts.1,
    )

lines_back : (texts : List (List ℕ)) → list_all are_visible texts ≡ true
    → lines_of (lines_text texts) ≡ texts
lines_back texts shown = search (lines_of_texts, pieces_of_texts)

-- ---- lines that say something

-- neither blank nor a comment
abbrev says : List ℕ → Bool
says line = not (is_blank line || is_comment line)

abbrev says_at : ℕ × List ℕ → Bool
says_at line = says line.1

filter_says : (n : ℕ) (texts : List (List ℕ)) → list_all says texts ≡ true
    → filter says_at (enumerate_from n texts) ≡ enumerate_from n texts
filter_says n [] said = refl
filter_says n (text ∷ texts) said =
    let parts = and_parts (says text) (list_all says texts) said in
    let first : ℕ × List ℕ = (n, text) in
    cc (
      cond-true (says text) (first ∷ filter says_at (enumerate_from (n + 1) texts))
          (filter says_at (enumerate_from (n + 1) texts)) parts.0,
      filter_says (n + 1) texts parts.1,
    )

numbered_back : (texts : List (List ℕ)) → list_all are_visible texts ≡ true
    → list_all says texts ≡ true → numbered_lines (lines_text texts) ≡ enumerate_from 1 texts
numbered_back texts shown said = search (filter_says, lines_back)

-- a printed entry begins with its type's letter
kind_says : (kind : EntryKind) (flags who mask : List ℕ)
    → says (kind_text kind ++ flags ++ who ++ mask) ≡ true
kind_says kind flags who mask = grind (arith, nat_tests)

-- ---- the list line

-- the list line without its line feed
abbrev front : Bool → Bool → List ℕ
front auto protect = codes "list:" ++ letter_if auto 97 ++ letter_if protect 112

front_visible : (auto protect : Bool) → are_visible (front auto protect) ≡ true
front_visible auto protect = grind (arith, nat_tests)

front_says : (auto protect : Bool) → says (front auto protect) ≡ true
front_says auto protect = grind (arith, nat_tests)

front_flags : (auto protect : Bool)
    → flags_of_list (front auto protect) ≡ Some (record { auto = auto; protect = protect })
front_flags auto protect = grind (arith, nat_tests)

-- ---- what stands first in a list is within the limits that the list is within

abbrev fault_by : Bool → Bool → Option ListFault
fault_by many own = if many then Some TooManyEntries else if own then Some TooManyOwn else None

no_fault : (many own : Bool) → fault_by many own ≡ None → (many ≡ false) × (own ≡ false)
no_fault many own none = grind (arith, nat_tests)

-- both tests of the limits are false at what stands first
limit_front : (first rest : List Ace) → limit_fault (first ++ rest) ≡ None
    → (nat_lt 4096 (length first) ≡ false) × (nat_lt 64 (length (own_of first)) ≡ false)
limit_front first rest none =
    search (rules, no_fault, none, ltb-false, filter-append, le-ltb, length-append)

-- ---- the entries

pub with_entry_ok : (n : ℕ) (before : List Ace) (entry : Ace) (rest : List Ace)
    → limit_fault ((before ++ entry ∷ []) ++ rest) ≡ None
    → with_entry n before (Ok entry) ≡ Ok (before ++ entry ∷ [])
with_entry_ok n before entry rest none = grind (arith, nat_tests, limit_front)

line_read : (n : ℕ) (before : List Ace) (entry : Ace) (rest : List Ace) → IsEntry entry
    → limit_fault ((before ++ entry ∷ []) ++ rest) ≡ None
    → (if is_utf8 (entry_text entry) then with_entry n before
    (entry_of (entry_text entry)) else fault_at n NotUtf8) ≡ Ok (before ++ entry ∷ [])
line_read n before entry rest ok none =
    grind (arith, nat_tests, reads_back, visible_entry, visible_utf8, with_entry_ok)

entries_back : (n : ℕ) (before entries : List Ace) → All IsEntry entries
    → limit_fault (before ++ entries) ≡ None
    → entries_after before (enumerate_from n (map entry_text entries)) ≡ Ok (before ++ entries)
entries_back n before [] each none = ap (λ (found : List Ace). Ok found) (sym (append-nil before))
entries_back n before (entry ∷ entries) each none =
    let pushed : (before ++ entry ∷ []) ++ entries ≡ before ++ entry ∷ entries = append_assoc before
    (entry ∷ []) entries in
    let within = ap limit_fault pushed ∙ none in
    cc (
      line_read n before entry entries (All-head IsEntry entry entries each) within,
      entries_back (n + 1) (before ++ entry ∷ []) entries (All-tail IsEntry entry entries each)
          within,
      pushed,
    )

entries_visible : (entries : List Ace) → All IsEntry entries
    → list_all are_visible (map entry_text entries) ≡ true
entries_visible [] each = refl
entries_visible (entry ∷ entries) each =
    and_from (are_visible (entry_text entry)) (list_all are_visible (map entry_text entries))
    (visible_entry entry (All-head IsEntry entry entries each))
    (entries_visible entries (All-tail IsEntry entry entries each))

entries_say : (entries : List Ace) → list_all says (map entry_text entries) ≡ true
entries_say [] = refl
entries_say (entry ∷ entries) = grind (arith, nat_tests, kind_says, entries_say entries)

entry_lines-texts : (entries : List Ace) → entry_lines entries ≡ lines_text (map entry_text entries)
entry_lines-texts [] = refl
entry_lines-texts (entry ∷ entries) = cc (entry_lines-texts entries)

-- ---- entries with no list line

entry_read : (entry : Ace) → IsEntry entry → entry_in (entry_text entry) ≡ Some entry
entry_read entry ok = grind (arith, nat_tests, reads_back, visible_entry, visible_utf8)

entries_behind_back : (before entries : List Ace) → All IsEntry entries
    → entries_behind before (map entry_text entries) ≡ Some (before ++ entries)
entries_behind_back before [] each = ap (λ (found : List Ace). Some found) (sym (append-nil before))
entries_behind_back before (entry ∷ entries) each =
    let line = entry_text entry in
    let says_it = kind_says entry.kind (58 ∷ flags_text entry.flags) (58 ∷ who_text entry.who)
    (58 ∷ mask_text entry.mask) in
    cc (
      cond-false (is_blank line || is_comment line) _ _
          (says_something (is_blank line || is_comment line) says_it),
      entry_read entry (All-head IsEntry entry entries each),
      entries_behind_back (before ++ entry ∷ []) entries (All-tail IsEntry entry entries each),
      append_assoc before (entry ∷ []) entries,
    )
  where
    says_something : (b : Bool) → not b ≡ true → b ≡ false
    says_something true h = absurd (false≢true h)
    says_something false h = refl

-- what is printed of entries is read back, however many they are
pub entries_read_back : (entries : List Ace) → All IsEntry entries
    → entries_of (entry_lines entries) ≡ Some entries
entries_read_back entries each =
    grind (arith, nat_tests, entries_behind_back, entries_visible, entry_lines-texts, lines_back)

-- ---- a list

module _ (sent : Sent) (each : All IsEntry sent.entries)
    (none : limit_fault sent.entries ≡ None) where
  abbrev first_line : List ℕ
  first_line = front sent.flags.auto sent.flags.protect

  abbrev texts : List (List ℕ)
  texts = first_line ∷ map entry_text sent.entries

  shown : are_visible first_line ≡ true
  shown = front_visible sent.flags.auto sent.flags.protect

  numbered : numbered_lines (list_text sent.flags sent.entries) ≡ enumerate_from 1 texts
  numbered =
      cc (
        entry_lines-texts sent.entries,
        numbered_back texts
            (and_from (are_visible first_line) (list_all are_visible (map entry_text sent.entries)) shown
            (entries_visible sent.entries each))
            (and_from (says first_line) (list_all says (map entry_text sent.entries))
            (front_says sent.flags.auto sent.flags.protect) (entries_say sent.entries)),
      )

  read : (count : ℕ) → sent_of_lines count (enumerate_from 1 texts) ≡ Ok sent
  read count = grind (arith, nat_tests, entries_back, front_flags, shown, visible_utf8)

pub list_reads_back : ListReadsBack
list_reads_back sent each none = search (numbered, read)
