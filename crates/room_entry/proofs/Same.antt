-- Entries that are the same are equal.
use Rattle.std.proofs.Common.{rules, ℕ, ◌≡◌, ◌==◌, true, List, [], ◌∷◌, Some, refl, sym, ap, ◌∙◌}
use Rattle.std.proofs.{Common.if◌then◌else◌, lemmas.Bool.{and_parts, false≢true}}
use Rattle.std.specs.Cmp.Lexicographic.{same_text as text_equal}
use Rattle.room_entry.specs.{Pieces.same_text, Ace.Ace, Same.{who_key, same_entry, same_entries}}
use Rattle.room_entry.specs.Letters.{kind_text, kind_of, flags_text, flags_among}
use Rattle.room_entry.specs.declared.entry.{EntryKind.EntryKind, Who.{Who, TheVariants.Owner}}
use Rattle.room_entry.specs.declared.entry.Who.TheVariants.{Group, Everyone, Anonymous}
use Rattle.room_entry.specs.declared.entry.Who.TheVariants.{Authenticated, User, Members}
use Rattle.room_entry.specs.declared.flags.EntryFlags.{EntryFlags}
use Rattle.room_entry.proofs.Back.{kind_back, flags_back}

kind_equal : (a b : EntryKind) → kind_text a ≡ kind_text b → a ≡ b
kind_equal a b same = let known : Some a ≡ Some b =
    sym (kind_back a) ∙ ap kind_of same ∙ kind_back b in cc

-- flags with the same letters are equal
pub flags_equal : (a b : EntryFlags) → flags_text a ≡ flags_text b → a ≡ b
flags_equal a b same = sym (flags_back a) ∙ ap flags_among same ∙ flags_back b

-- the who of a key
abbrev who_in : List ℕ → Who
who_in [] = Owner
who_in (n ∷ name) =
    if n == 1 then Group else
    if n == 2 then Everyone else
    if n == 3 then Anonymous else
    if n == 4 then Authenticated else
    if n == 5 then User name else
    if n == 6 then Members name else Owner

who_back : (who : Who) → who_in (who_key who) ≡ who
who_back Owner = refl
who_back Group = refl
who_back Everyone = refl
who_back Anonymous = refl
who_back Authenticated = refl
who_back (User name) = refl
who_back (Members name) = refl

who_equal : (a b : Who) → who_key a ≡ who_key b → a ≡ b
who_equal a b same = sym (who_back a) ∙ ap who_in same ∙ who_back b

entry_equal : (a b : Ace) → same_entry a b ≡ true → a ≡ b
entry_equal a b same =
    let first = and_parts (same_text (kind_text a.kind) (kind_text b.kind)) _ same in
    let second = and_parts (same_text (flags_text a.flags) (flags_text b.flags)) _ first.1 in
    let third = and_parts (same_text (who_key a.who) (who_key b.who))
    (same_text a.mask b.mask) second.1 in
    let kind = kind_equal a.kind b.kind (text_equal _ _ (sym first.0)) in
    let flags = flags_equal a.flags b.flags (text_equal _ _ (sym second.0)) in
    search (rules, who_equal, a.who, b.who, third.0, a.mask, b.mask, third.1, kind, flags)

-- lists of entries that pass `same_entries` are equal
pub entries_equal : (a b : List Ace) → same_entries a b ≡ true → a ≡ b
entries_equal [] [] same = refl
entries_equal [] (y ∷ ys) same = absurd (false≢true same)
entries_equal (x ∷ xs) [] same = absurd (false≢true same)
entries_equal (x ∷ xs) (y ∷ ys) same =
    let parts = and_parts (same_entry x y) (same_entries xs ys) same in
    ap (λ e. e ∷ xs) (entry_equal x y parts.0) ∙ ap (λ es. y ∷ es) (entries_equal xs ys parts.1)
