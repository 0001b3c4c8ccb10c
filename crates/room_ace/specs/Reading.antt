-- The steps in which the text of a list is read (own).
use Rattle.std.specs.Prelude.{ℕ, ◌+◌, ◌||◌, not, List, filter, Option, Some, None, Result, Ok, Err}
use Rattle.std.specs.Prelude.{if◌then◌else◌, codes}
use Rattle.std.specs.List.{enumerate_from, list_all}
use Rattle.room_entry.specs.Bytes.{letter_a, letter_p}
use Rattle.room_entry.specs.Pieces.{is_among}
use Rattle.room_entry.specs.Ace.{Ace}
use Rattle.room_ace.specs.Text.{entry_of}
use Rattle.room_ace.specs.Sent.{Sent, limit_fault}
use Rattle.room_entry.specs.Utf8.{is_utf8}
use Rattle.room_ace.specs.Lists.{lines_of, is_blank, is_comment, fault_at, and_then}
use Rattle.room_ace.specs.Lists.{with_entry, entries_after}
use Rattle.room_entry.specs.declared.flags.ListFlags.{ListFlags}
use Rattle.room_entry.specs.declared.fault.ListFault.{ListFault}
use Rattle.room_ace.specs.declared.fault.LineFault.{LineFault}
use Rattle.room_ace.specs.declared.fault.Why.TheVariants.{NotUtf8}

-- the lines that are neither blank nor comments, numbered, with this many lines before them
abbrev pub lines_after : ℕ → List ℕ → List (ℕ × List ℕ)
lines_after passed text =
    filter (λ line. not (is_blank line.1 || is_comment line.1))
    (enumerate_from (passed + 1) (lines_of text))

-- the flags of the letters after `list:`
abbrev pub list_flags : List ℕ → Option ListFlags
list_flags letters =
    if list_all (is_among (codes "ap")) letters
    then Some (record { auto = is_among letters letter_a; protect = is_among letters letter_p })
    else None

-- the value, unless there is a fault
abbrev pub unless : {A F : Type 0} → Option F → A → Result A F
unless None value = Ok value
unless (Some fault) value = Err fault

-- the entries, or the first limit that they go past
abbrev pub within_limits : List Ace → Result (List Ace) ListFault
within_limits entries = unless (limit_fault entries) entries

-- the entries before, with the one of this line
abbrev pub with_line : ℕ → List Ace → List ℕ → Result (List Ace) LineFault
with_line number before line =
    if is_utf8 line then with_entry number before (entry_of line) else fault_at number NotUtf8

-- the list of these flags and the entries of the lines
abbrev pub sent_after : ListFlags → List Ace → List (ℕ × List ℕ) → Result Sent LineFault
sent_after flags before lines =
    and_then (entries_after before lines)
    (λ entries. Ok (record { flags = flags; entries = entries }))
