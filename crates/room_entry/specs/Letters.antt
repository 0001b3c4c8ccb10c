-- The letters of an entry's type, of its flags and of its mask (own).
use Rattle.std.specs.Prelude.{ℕ, Bool, true, false, List, [], ◌∷◌, ◌++◌, map, filter, Option, Some}
use Rattle.std.specs.Prelude.{None, Result, if◌then◌else◌, codes, ◌==◌}
use Rattle.std.specs.Option.{ok_or}
use Rattle.std.specs.List.{list_all, zip}
use Rattle.room_entry.specs.Pieces.{same_text, is_among}
use Rattle.room_entry.specs.Bits.{all_bits, is_set}
use Rattle.room_entry.specs.declared.entry.EntryKind.{EntryKind}
use Rattle.room_entry.specs.declared.entry.EntryKind.TheVariants.{Allow, Deny, Audit, Alarm}
use Rattle.room_entry.specs.declared.flags.EntryFlags.{EntryFlags}
use Rattle.room_entry.specs.declared.fault.TextFault.{TextFault}
use Rattle.room_entry.specs.declared.fault.TextFault.TheVariants.{BadMask}

-- ---- the type

abbrev pub kind_text : EntryKind → List ℕ
kind_text Allow = codes "A"
kind_text Deny = codes "D"
kind_text Audit = codes "U"
kind_text Alarm = codes "L"

abbrev pub kind_of : List ℕ → Option EntryKind
kind_of text =
    if same_text text (codes "A") then Some Allow else
    if same_text text (codes "D") then Some Deny else
    if same_text text (codes "U") then Some Audit else
    if same_text text (codes "L") then Some Alarm else None

-- ---- the flags, as letters in any order, repeated at will

abbrev pub flag_letters : List ℕ
flag_letters = codes "fdniSFgI"

abbrev pub letter_if : Bool → ℕ → List ℕ
letter_if true letter = letter ∷ []
letter_if false letter = []

-- each letter once, in the order of the table
abbrev pub flags_text : EntryFlags → List ℕ
flags_text flags =
    letter_if flags.file_inherit 102 ++ letter_if flags.directory_inherit 100
    ++ letter_if flags.no_propagate_inherit 110 ++ letter_if flags.inherit_only 105
    ++ letter_if flags.successful_access 83 ++ letter_if flags.failed_access 70
    ++ letter_if flags.identifier_group 103 ++ letter_if flags.inherited 73

abbrev pub flags_among : List ℕ → EntryFlags
flags_among text = record {
  file_inherit = is_among text 102;
  directory_inherit = is_among text 100;
  no_propagate_inherit = is_among text 110;
  inherit_only = is_among text 105;
  successful_access = is_among text 83;
  failed_access = is_among text 70;
  identifier_group = is_among text 103;
  inherited = is_among text 73;
}

abbrev pub flags_of : List ℕ → Option EntryFlags
flags_of text = if list_all (is_among flag_letters) text then Some (flags_among text) else None

-- ---- the mask, as letters in any order, repeated at will

unfoldable pub mask_letters : List ℕ
mask_letters = codes "rwanNxDtThHdcCoy"

-- the letter of a bit, in a table of both
abbrev pub letter_in : List (ℕ × ℕ) → ℕ → ℕ
letter_in [] bit = 0
letter_in (row ∷ rows) bit = if row.0 == bit then row.1 else letter_in rows bit

abbrev pub letter_of : ℕ → ℕ
letter_of bit = letter_in (zip all_bits mask_letters) bit

-- each letter once, in the order of the table
abbrev pub mask_text : List ℕ → List ℕ
mask_text mask = map letter_of mask

-- the letters of a number's bits by the rows of a table
unfoldable pub table_text : ℕ → List (ℕ × ℕ) → List ℕ
table_text number [] = []
table_text number (row ∷ rows) =
    if is_set number row.0 then row.1 ∷ table_text number rows else table_text number rows

abbrev pub mask_of : List ℕ → Option (List ℕ)
mask_of text =
    if list_all (is_among mask_letters) text
    then Some (filter (λ bit. is_among text (letter_of bit)) all_bits)
    else None

-- the bit that the letter stands for, as a mask
abbrev pub bit_named : ℕ → List ℕ
bit_named letter = filter (λ bit. letter == letter_of bit) all_bits

-- the mask that the letters spell
abbrev pub read_mask_of : List ℕ → Result (List ℕ) TextFault
read_mask_of text = ok_or (mask_of text) BadMask
