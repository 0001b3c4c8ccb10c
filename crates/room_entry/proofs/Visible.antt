-- A name is of visible ASCII bytes, and so it is a text.
use Rattle.std.proofs.Common.{ℕ, ◌≡◌, ◌≤◌, Bool, true, false, ◌&&◌, List, [], ◌∷◌, subst, arith}
use Rattle.std.proofs.lemmas.Bool.{and_parts, both_ways, false≢true, false_from_ne_true, or_left}
use Rattle.std.proofs.lemmas.Bool.{ltb-true, Decides.nat_tests}
use Rattle.std.proofs.lemmas.{List.Splits.join_with_byte-slice_split, Str.Ascii.IsAscii-nil}
use Rattle.std.{proofs.lemmas.Str.Ascii.IsAscii-cons, specs.Prelude.{nat_le, nat_lt}}
use Rattle.std.specs.{List.{list_all, join_with_byte}, Char.is_ascii_alphanumeric, Str.IsAscii}
use Rattle.room_entry.specs.{Pieces.pieces, Utf8.is_utf8, Names.{is_name, is_part, is_local_byte}}
use Rattle.room_entry.{specs.Names.{is_domain_byte, are_name_parts}, proofs.Texts.all-append}
use Rattle.room_entry.proofs.{Texts.at_bit, Facts.Lists.all_implied}

abbrev is_between : ℕ → ℕ → ℕ → Bool
is_between low high byte = nat_le low byte && nat_le byte high

-- the visible bytes of ASCII are those from `!` to `~`, without the space
abbrev pub is_visible : ℕ → Bool
is_visible byte = is_between 33 126 byte

-- each byte of the text is one of these
abbrev pub are_visible : List ℕ → Bool
are_visible text = list_all is_visible text

-- a range of visible bytes
visible_between : (low high byte : ℕ) → 33 ≤ low → high ≤ 126 → is_between low high byte ≡ true
    → is_visible byte ≡ true
visible_between low high byte above below holds = grind (arith, nat_tests)

visible_letter : (byte : ℕ) → is_ascii_alphanumeric byte ≡ true → is_visible byte ≡ true
visible_letter byte holds = grind (arith, nat_tests, visible_between)

visible_local : (byte : ℕ) → is_local_byte byte ≡ true → is_visible byte ≡ true
visible_local byte holds = grind (arith, nat_tests, at_bit, visible_letter)

visible_domain : (byte : ℕ) → is_domain_byte byte ≡ true → is_visible byte ≡ true
visible_domain byte holds = grind (arith, nat_tests, at_bit, visible_letter)

visible_part : (p : ℕ → Bool) (text : List ℕ)
    → ((byte : ℕ) → p byte ≡ true → is_visible byte ≡ true) → is_part p text ≡ true
    → are_visible text ≡ true
visible_part p text each holds =
    all_implied p is_visible each text (and_parts _ (list_all p text) holds).1

visible_parts : (parts : List (List ℕ)) → are_name_parts parts ≡ true
    → are_visible (join_with_byte 64 parts) ≡ true
visible_parts [] holds = absurd (false≢true holds)
visible_parts (local ∷ []) holds = visible_part is_local_byte local visible_local holds
visible_parts (local ∷ domain ∷ []) holds =
    grind (arith, nat_tests, all-append, visible_domain, visible_local, visible_part)
visible_parts (local ∷ domain ∷ other ∷ rest) holds = absurd (false≢true holds)

-- a name has visible bytes alone
pub visible_name : (name : List ℕ) → is_name name ≡ true → are_visible name ≡ true
unfolding is_name
visible_name name holds =
    subst (λ (text : List ℕ). are_visible text ≡ true) (join_with_byte-slice_split 64 name)
    (visible_parts (pieces 64 name) holds)

-- ---- what visible bytes are

ascii_byte : (byte : ℕ) → is_visible byte ≡ true → nat_lt byte 128 ≡ true
ascii_byte byte shown = grind (arith, nat_tests)

visible_ascii : (text : List ℕ) → are_visible text ≡ true
    → list_all (λ byte. nat_lt byte 128) text ≡ true
visible_ascii text shown = all_implied is_visible (λ byte. nat_lt byte 128) ascii_byte text shown

-- a text of visible bytes is UTF-8
pub visible_utf8 : (text : List ℕ) → are_visible text ≡ true → is_utf8 text ≡ true
visible_utf8 text shown =
    or_left (list_all (λ byte. nat_lt byte 128) text) _ (visible_ascii text shown)

-- each byte of a name is below 128
pub name_ascii : (name : List ℕ) → is_name name ≡ true
    → list_all (λ byte. nat_lt byte 128) name ≡ true
name_ascii name holds = visible_ascii name (visible_name name holds)

-- a name is UTF-8, so it can be kept as a text
pub name_text : (name : List ℕ) → is_name name ≡ true → is_utf8 name ≡ true
name_text name holds = visible_utf8 name (visible_name name holds)

-- bytes that aren't UTF-8 are no name
pub no_text_no_name : (bytes : List ℕ) → is_utf8 bytes ≡ false → is_name bytes ≡ false
no_text_no_name bytes none =
    false_from_ne_true (is_name bytes) (λ it. both_ways (is_utf8 bytes) none (name_text bytes it))

-- bytes that are tested to be below 128 are ASCII in the standard library's sense
pub ascii : (bytes : List ℕ) → list_all (λ byte. nat_lt byte 128) bytes ≡ true → IsAscii bytes
ascii [] all = IsAscii-nil
ascii (byte ∷ bytes) all =
    let parts = and_parts (nat_lt byte 128) (list_all (λ other. nat_lt other 128) bytes) all in
    IsAscii-cons byte bytes (ltb-true byte 128 parts.0) (ascii bytes parts.1)
