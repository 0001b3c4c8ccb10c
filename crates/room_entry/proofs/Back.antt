-- The letters of a type and of flags are read back.
use Rattle.std.proofs.Common.{ℕ, ◌≡◌, Bool, true, false, ◌&&◌, ◌||◌, List, [], ◌∷◌, ◌++◌, Some}
use Rattle.std.proofs.{Common.{refl, arith}, Math.Bool.{or-false, and-false}}
use Rattle.std.{proofs.lemmas.Bool.Decides.nat_tests, specs.Prelude.◌==◌}
use Rattle.room_entry.specs.{Pieces.is_among, Letters.{kind_text, kind_of, letter_if, flags_text}}
use Rattle.room_entry.specs.{Letters.flags_among, declared.entry.EntryKind.EntryKind}
use Rattle.room_entry.specs.declared.entry.EntryKind.TheVariants.{Allow, Deny, Audit, Alarm}
use Rattle.room_entry.specs.declared.flags.EntryFlags.{EntryFlags}

-- the letter of an entry's type is read back as that type
pub kind_back : (k : EntryKind) → kind_of (kind_text k) ≡ Some k
kind_back Allow = refl
kind_back Deny = refl
kind_back Audit = refl
kind_back Alarm = refl

among-append : (xs ys : List ℕ) (c : ℕ) → is_among (xs ++ ys) c ≡ (is_among xs c || is_among ys c)
among-append [] ys c = refl
among-append (x ∷ xs) ys c = grind (arith, nat_tests, among-append xs ys c)

among_letter : (b : Bool) (l c : ℕ) → is_among (letter_if b l) c ≡ (b && (l == c))
among_letter true l c = grind (arith, nat_tests, or-false)
among_letter false l c = refl

and_true : (t : Bool) → (t && true) ≡ t
and_true true = refl
and_true false = refl

-- the letters that are written for flags are read back as these flags
pub flags_back : (f : EntryFlags) → flags_among (flags_text f) ≡ f
flags_back f = grind (arith, nat_tests, among-append, among_letter, and-false, and_true, or-false)
