-- A text is its first line and what follows it, and bytes are UTF-8 or not.
use Rattle.std.proofs.Common.{ℕ, ◌≡◌, ◌<◌, ◌+◌, Bool, true, false, cond, List, [], ◌∷◌, ◌++◌, Some}
use Rattle.std.proofs.{Common.{None, length, take, drop, refl, ap, arith}, lemmas.Bool.ne_eqb}
use Rattle.std.proofs.lemmas.Bool.{or_from, false_from_ne_true, Decides.nat_tests}
use Rattle.std.proofs.lemmas.{List.{length-drop, Splits.length-slice_split}, Str.IsUtf8-from_ascii}
use Rattle.std.specs.{Prelude.◌==◌, List.position, Str.{IsUtf8, Lossy.utf8_valid_len}}
use Rattle.room_entry.specs.{Pieces.pieces, Utf8.is_utf8}
use Rattle.room_ace.specs.Lists.{after_line, lines_of, lines_of_pieces, without_return}
use Rattle.room_entry.proofs.{Cuts.{cut_at, not_cut}, Visible.ascii}

abbrev is_end : ℕ → Bool
is_end byte = byte == 10

-- ---- the first line

lines-cons : (piece : List ℕ) (more : List (List ℕ)) → 0 < length more
    → lines_of_pieces (piece ∷ more) ≡ without_return piece ∷ lines_of_pieces more
lines-cons piece more some = grind (arith, nat_tests)

last_line : (bytes : List ℕ) → (bytes ≡ [] → ⊥) → pieces 10 bytes ≡ bytes ∷ []
    → lines_of bytes ≡ without_return bytes ∷ []
last_line [] some whole = absurd (some refl)
last_line (byte ∷ bytes) some whole = ap lines_of_pieces whole

-- where a line feed stands, the first line ends
pub lines_of-cut : (bytes line rest : List ℕ) (i : ℕ) → Some i ≡ position is_end bytes
    → line ≡ without_return (take i bytes) → rest ≡ drop (i + 1) bytes
    → (lines_of bytes ≡ line ∷ lines_of rest) × (length rest < length bytes)
    × (rest ≡ after_line bytes)
lines_of-cut bytes line rest i found front back =
    grind (arith, nat_tests, cut_at, length-drop, length-slice_split, lines-cons)

drop_whole : (xs : List ℕ) → drop (length xs) xs ≡ []
drop_whole [] = refl
drop_whole (x ∷ xs) = drop_whole xs

-- with no line feed, the bytes are one line
pub lines_of-uncut : (bytes line rest : List ℕ) → (bytes ≡ [] → ⊥) → None ≡ position is_end bytes
    → line ≡ without_return bytes → rest ≡ drop (length bytes) bytes
    → (lines_of bytes ≡ line ∷ lines_of rest) × (length rest < length bytes)
    × (rest ≡ after_line bytes)
lines_of-uncut bytes line rest some none front back =
    grind (arith, nat_tests, drop_whole, last_line, not_cut)

-- ---- the end of a line

cond_cons : (x : ℕ) (b : Bool) (xs ys : List ℕ) → x ∷ cond b xs ys ≡ cond b (x ∷ xs) (x ∷ ys)
cond_cons x true xs ys = refl
cond_cons x false xs ys = refl

pub without_return-push : (front : List ℕ) (last : ℕ)
    → without_return (front ++ last ∷ []) ≡ cond (last == 13) front (front ++ last ∷ [])
without_return-push [] last = refl
without_return-push (byte ∷ []) last = cond_cons byte (last == 13) [] (last ∷ [])
without_return-push (byte ∷ next ∷ front) last =
    search (cond_cons, without_return-push (next ∷ front) last)

-- ---- UTF-8

pub is_utf8-other : (bytes : List ℕ) → (IsUtf8 bytes → ⊥) → utf8_valid_len bytes < length bytes
    → is_utf8 bytes ≡ false
is_utf8-other bytes other short =
    or_from _ _ (false_from_ne_true _ (λ all. other (IsUtf8-from_ascii bytes (ascii bytes all))))
    (ne_eqb (utf8_valid_len bytes) (length bytes) (λ same. omega arith))
