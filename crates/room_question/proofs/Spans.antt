-- A text cut where a line ends: its lines are those of the front and those behind it.
use Rattle.std.proofs.Common.{ℕ, ◌≡◌, ◌<◌, true, false, List, [], ◌∷◌, ◌++◌, map}
use Rattle.std.proofs.Common.{length, refl, ap, sym, ◌∙◌, ◌⊎◌, inl, inr}
use Rattle.std.proofs.Common.{arith, append_assoc, append-nil}
use Rattle.std.proofs.lemmas.{Bool.{cases_Bool, eqb-true, Decides.nat_tests}}
use Rattle.std.specs.{Prelude.◌==◌, List.{onto_first}}
use Rattle.room_entry.{specs.Pieces.pieces, proofs.Cuts.length-pieces}
use Rattle.room_ace.specs.Lists.{after_line, lines_of, lines_of_pieces, without_return}

-- nothing, or bytes that end with a line feed
abbrev pub IsClosed : List ℕ → Type 0
IsClosed front = (front ≡ []) ⊎ ((bytes : List ℕ) × (front ≡ bytes ++ 10 ∷ []))

-- ---- pieces

onto_more : (byte : ℕ) (parts more : List (List ℕ)) → 0 < length parts
    → onto_first byte (parts ++ more) ≡ onto_first byte parts ++ more
onto_more byte [] more some = absurd (omega arith)
onto_more byte (part ∷ parts) more some = refl

pieces-split : (front behind : List ℕ)
    → pieces 10 (front ++ 10 ∷ behind) ≡ pieces 10 front ++ pieces 10 behind
pieces-split [] behind = refl
pieces-split (byte ∷ front) behind =
    elim (cases_Bool (byte == 10)) [
      | inl e ↦ rw (e, pieces-split front behind) refl
      | inr e ↦
          rw (e, pieces-split front behind)
          (onto_more byte (pieces 10 front) (pieces 10 behind) (length-pieces 10 front))
    ]

lines-more : (parts more : List (List ℕ)) → 0 < length more
    → lines_of_pieces (parts ++ more) ≡ map without_return parts ++ lines_of_pieces more
lines-more [] more some = refl
lines-more (part ∷ []) [] some = absurd (omega arith)
lines-more ([] ∷ []) (next ∷ more) some = refl
lines-more ((byte ∷ bytes) ∷ []) (next ∷ more) some = refl
lines-more ([] ∷ next ∷ parts) more some =
    ap (λ (ls : List (List ℕ)). [] ∷ ls) (lines-more (next ∷ parts) more some)
lines-more ((byte ∷ bytes) ∷ next ∷ parts) more some =
    ap (λ (ls : List (List ℕ)). without_return (byte ∷ bytes) ∷ ls)
    (lines-more (next ∷ parts) more some)

lines-front : (front behind : List ℕ)
    → lines_of (front ++ 10 ∷ behind) ≡ map without_return (pieces 10 front) ++ lines_of behind
lines-front front behind =
    rw (pieces-split front behind)
    (lines-more (pieces 10 front) (pieces 10 behind) (length-pieces 10 behind))

lines-closed : (bytes behind : List ℕ)
    → lines_of ((bytes ++ 10 ∷ []) ++ behind) ≡ lines_of (bytes ++ 10 ∷ []) ++ lines_of behind
lines-closed bytes behind =
    rw (append_assoc, lines-front bytes behind, lines-front bytes [])
    (ap (λ (ls : List (List ℕ)). ls ++ lines_of behind)
    (sym (append-nil (map without_return (pieces 10 bytes)))))

-- Where a line ends, the lines are those before and those behind.
pub lines-split : (front behind : List ℕ) → IsClosed front ⊎ (behind ≡ [])
    → lines_of (front ++ behind) ≡ lines_of front ++ lines_of behind
lines-split front behind (inl (inl none)) = rw none refl
lines-split front behind (inl (inr (bytes, ends))) = rw ends (lines-closed bytes behind)
lines-split front behind (inr none) =
    rw none
    (ap lines_of (append-nil front) ∙ sym (append-nil (lines_of front)))

-- ---- the first line

after_line-end : (byte : ℕ) (bytes : List ℕ) → (byte == 10) ≡ true
    → after_line (byte ∷ bytes) ≡ bytes
after_line-end byte bytes e = grind (arith, nat_tests, e)

after_line-on : (byte : ℕ) (bytes : List ℕ) → (byte == 10) ≡ false
    → after_line (byte ∷ bytes) ≡ after_line bytes
after_line-on byte bytes e = grind (arith, nat_tests, e)

-- what stands before `after_line` ends a line, unless nothing follows
pub record IsLine (bytes : List ℕ) : Type 0 where
  pub first : List ℕ
  pub whole : bytes ≡ first ++ after_line bytes
  pub ends : ((last : List ℕ) × (first ≡ last ++ 10 ∷ [])) ⊎ (after_line bytes ≡ [])
  pub some : 0 < length first

ends_here : (byte : ℕ) (bytes : List ℕ) → (byte == 10) ≡ true → IsLine (byte ∷ bytes)
ends_here byte bytes e = record {
  first = byte ∷ [];
  whole = ap (λ (xs : List ℕ). byte ∷ xs) (sym (after_line-end byte bytes e));
  ends = inl ([], ap (λ (b : ℕ). b ∷ []) (eqb-true byte 10 e));
  some = omega arith;
}

on_byte : (byte : ℕ) (bytes : List ℕ) → (byte == 10) ≡ false → IsLine bytes
    → IsLine (byte ∷ bytes)
on_byte byte bytes e line =
    let same = after_line-on byte bytes e in
    record {
      first = byte ∷ line.first;
      whole = rw same (ap (λ (xs : List ℕ). byte ∷ xs) line.whole);
      ends = elim line.ends [
        | inl ends ↦ inl (byte ∷ ends.0, ap (λ (xs : List ℕ). byte ∷ xs) ends.1)
        | inr none ↦ inr (same ∙ none)
      ];
      some = omega arith;
    }

pub cut_line : (byte : ℕ) (bytes : List ℕ) → IsLine (byte ∷ bytes)
cut_line byte [] =
    elim (cases_Bool (byte == 10)) [
      | inl e ↦ ends_here byte [] e
      | inr e ↦ record {
        first = byte ∷ [];
        whole = grind (arith, nat_tests, e);
        ends = inr (grind (arith, nat_tests, e));
        some = omega arith;
      }
    ]
cut_line byte (next ∷ bytes) =
    elim (cases_Bool (byte == 10)) [
      | inl e ↦ ends_here byte (next ∷ bytes) e
      | inr e ↦ on_byte byte (next ∷ bytes) e (cut_line next bytes)
    ]
