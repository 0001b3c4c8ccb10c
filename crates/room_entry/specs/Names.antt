-- Names of users and groups (own).
use Rattle.std.specs.Prelude.{ℕ, ◌&&◌, ◌||◌, Bool, false, List, [], ◌∷◌, length, nat_le, nat_lt}
use Rattle.std.specs.Prelude.{codes, Result, Ok, Err, if◌then◌else◌}
use Rattle.std.specs.List.{list_all}
use Rattle.std.specs.Char.{is_ascii_alphanumeric}
use Rattle.room_entry.specs.Bytes.{at_sign}
use Rattle.room_entry.specs.declared.limits.TheConstants.{LONGEST_PART}
use Rattle.room_entry.specs.Pieces.{pieces, is_among}
use Rattle.room_entry.specs.declared.fault.TextFault.{TextFault}
use Rattle.room_entry.specs.declared.fault.TextFault.TheVariants.{BadWho}

-- what may stand before the `@`, and after it
abbrev pub is_local_byte : ℕ → Bool
is_local_byte byte = is_ascii_alphanumeric byte || is_among (codes "._-+$\\") byte

abbrev pub is_domain_byte : ℕ → Bool
is_domain_byte byte = is_ascii_alphanumeric byte || is_among (codes ".-") byte

-- 1 to LONGEST_PART bytes, each of which passes
abbrev pub is_part : (ℕ → Bool) → List ℕ → Bool
is_part test bytes =
    nat_lt 0 (length bytes) && nat_le (length bytes) LONGEST_PART && list_all test bytes

-- a local part alone, or one with a domain
abbrev pub are_name_parts : List (List ℕ) → Bool
are_name_parts [] = false
are_name_parts (local ∷ []) = is_part is_local_byte local
are_name_parts (local ∷ domain ∷ []) = is_part is_local_byte local && is_part is_domain_byte domain
are_name_parts (local ∷ domain ∷ other ∷ rest) = false

-- the text is the name of a user or a group
unfoldable pub is_name : List ℕ → Bool
is_name text = are_name_parts (pieces at_sign text)

-- the name that the text is
abbrev pub name_of : List ℕ → Result (List ℕ) TextFault
name_of text = if is_name text then Ok text else Err BadWho
