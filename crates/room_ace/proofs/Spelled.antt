-- What spells an entry is ASCII.
use Rattle.std.proofs.Common.{rules, ℕ, ◌≡◌, Bool, true, false, cond, List, [], ◌∷◌, Option, Some}
use Rattle.std.proofs.{Common.{None, Result, Ok, refl, subst, ◌++◌, arith}, lemmas.Bool.cond-false}
use Rattle.std.proofs.lemmas.Bool.{or_left, Decides.nat_tests}
use Rattle.std.proofs.lemmas.List.Splits.{join_with_byte-slice_split}
use Rattle.std.specs.{Prelude.nat_lt, List.{list_all, join_with_byte}}
use Rattle.room_entry.specs.{Pieces.{pieces, is_among, same_text}, Ace.Ace, Letters.kind_of}
use Rattle.room_entry.specs.{Letters.{flags_of, mask_letters, mask_of}, Utf8.is_utf8}
use Rattle.room_entry.specs.declared.entry.{EntryKind.EntryKind, Who.Who}
use Rattle.room_entry.specs.declared.{flags.EntryFlags.EntryFlags, fault.TextFault.TextFault}
use Rattle.room_ace.specs.{Text.{who_of, part, entry_of, entry_of_parts}, Column.entry_in}
use Rattle.room_entry.proofs.{Texts.{all-append, at_bit}, Visible.name_ascii}
use Rattle.room_entry.proofs.Facts.Lists.{all_implied}

abbrev is_ascii : ℕ → Bool
is_ascii byte = nat_lt byte 128

abbrev are_ascii : List ℕ → Bool
are_ascii text = list_all is_ascii text

-- the text is the word, or the other words decide
or_word : {A : Type 0} (text word : List ℕ) (value known : A) (others : Option A)
    → are_ascii word ≡ true → cond (same_text text word) (Some value) others ≡ Some known
    → (others ≡ Some known → are_ascii text ≡ true) → are_ascii text ≡ true
or_word text word value known others plain some rest =
    search (rules, plain, rest, cond-false, value, some)

-- what passes is there
if_some : {A : Type 0} (b : Bool) (value known : A) → cond b (Some value) None ≡ Some known
    → b ≡ true
if_some true value known some = refl
if_some false value known some = absurd (cc)

kind_ascii : (text : List ℕ) (kind : EntryKind) → kind_of text ≡ Some kind → are_ascii text ≡ true
kind_ascii text kind known = grind (arith, nat_tests, or_word)

flags_ascii : (text : List ℕ) (flags : EntryFlags) → flags_of text ≡ Some flags
    → are_ascii text ≡ true
flags_ascii text flags known = grind (arith, nat_tests, all_implied, at_bit, if_some)

mask_ascii : (text : List ℕ) (mask : List ℕ) → mask_of text ≡ Some mask → are_ascii text ≡ true
unfolding mask_letters
mask_ascii text mask known =
    all_implied (is_among mask_letters) is_ascii (λ byte. at_bit is_ascii mask_letters byte refl) text
    (if_some (list_all (is_among mask_letters) text) _ mask known)

who_ascii : (group : Bool) (text : List ℕ) (who : Who) → who_of group text ≡ Some who
    → are_ascii text ≡ true
who_ascii group text who known = grind (arith, nat_tests, if_some, name_ascii, or_word)

-- a part that is well, and what comes after it
part_ok : {A B C : Type 0} (read : Option A) (fault : TextFault) (rest : A → Result B TextFault)
    (all : B) → part read fault rest ≡ Ok all
    → ((value : A) → read ≡ Some value → rest value ≡ Ok all → C) → C
part_ok None fault rest all well use_it = absurd (cc)
part_ok (Some value) fault rest all well use_it = use_it value refl well

parts_ascii : (parts : List (List ℕ)) (entry : Ace) → entry_of_parts parts ≡ Ok entry
    → are_ascii (join_with_byte 58 parts) ≡ true
parts_ascii [] entry well = absurd (cc)
parts_ascii (a ∷ []) entry well = absurd (cc)
parts_ascii (a ∷ b ∷ []) entry well = absurd (cc)
parts_ascii (a ∷ b ∷ c ∷ []) entry well = absurd (cc)
parts_ascii (a ∷ b ∷ c ∷ d ∷ e ∷ more) entry well = absurd (cc)
parts_ascii (kind ∷ flags ∷ who ∷ mask ∷ []) entry well =
    part_ok (kind_of kind) _ _ entry well (λ k first after_kind.
    part_ok (flags_of flags) _ _ entry after_kind (λ f second after_flags.
    part_ok (who_of f.identifier_group who) _ _ entry after_flags (λ w third after_who.
    part_ok (mask_of mask) _ _ entry after_who (λ m fourth after_mask.
    all-append is_ascii kind (58 ∷ (flags ++ (58 ∷ (who ++ (58 ∷ mask))))) (kind_ascii kind k first)
    (all-append is_ascii flags (58 ∷ (who ++ (58 ∷ mask))) (flags_ascii flags f second)
    (all-append is_ascii who (58 ∷ mask) (who_ascii f.identifier_group who w third)
    (mask_ascii mask m fourth)))))))

pub entry_utf8 : (line : List ℕ) (entry : Ace) → entry_of line ≡ Ok entry → is_utf8 line ≡ true
entry_utf8 line entry well =
    or_left (are_ascii line) _
    (subst (λ (text : List ℕ). are_ascii text ≡ true) (join_with_byte-slice_split 58 line)
    (parts_ascii (pieces 58 line) entry well))

pub spelled : (line : List ℕ) (entry : Ace) → entry_of line ≡ Ok entry → Some entry ≡ entry_in line
spelled line entry well = grind (arith, nat_tests, entry_utf8)
