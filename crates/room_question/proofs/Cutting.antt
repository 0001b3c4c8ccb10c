-- Lines that belong to the one above them are cut off one by one.
use Rattle.std.proofs.Common.{ℕ, ◌≡◌, ◌+◌, ◌-◌, ◌<◌, ◌≤◌, true, false, List, [], ◌∷◌, ◌++◌}
use Rattle.std.proofs.Common.{length, take, refl, ap, sym, ◌∙◌, ◌⊎◌, inl, inr, arith}
use Rattle.std.proofs.lemmas.List.{append_assoc, append-nil, length-append}
use Rattle.std.proofs.lemmas.List.{append_cancel_right}
use Rattle.room_ace.specs.Lists.{after_line, lines_of}
use Rattle.room_question.specs.Items.{belongs_above, cut_items, Item}
use Rattle.room_question.proofs.Spans.{IsClosed, cut_line, lines-split}

-- what is cut off so far, and what is left
pub record IsOnTheWay (bytes : List ℕ) (count : ℕ) (rest : List ℕ) : Type 0 where
  pub front : List ℕ
  pub whole : bytes ≡ front ++ rest
  pub ends : IsClosed front ⊎ (rest ≡ [])
  pub items : (number : ℕ) → cut_items number (lines_of bytes)
      ≡ (
        lines_of front ++ (cut_items (number + count) (lines_of rest)).0,
        (cut_items (number + count) (lines_of rest)).1,
      )
  pub few : count ≤ length front

closed_more : (front first : List ℕ) → (last : List ℕ) × (first ≡ last ++ 10 ∷ [])
    → IsClosed (front ++ first)
closed_more front first ends =
    inr (front ++ ends.0, rw (ends.1, append_assoc) refl)

none_behind : (xs ys : List ℕ) → [] ≡ xs ++ ys → 0 < length xs → ⊥
none_behind [] ys e some = omega arith
none_behind (x ∷ xs) ys e some = let lengths = ap length e in omega arith

cut-belongs : (number : ℕ) (line : List ℕ) (lines : List (List ℕ)) → belongs_above line ≡ true
    → cut_items number (line ∷ lines)
    ≡ (line ∷ (cut_items (number + 1) lines).0, (cut_items (number + 1) lines).1)
cut-belongs number line lines e = rw e refl

was_closed : (front : List ℕ) (byte : ℕ) (rest : List ℕ)
    → IsClosed front ⊎ ((byte ∷ rest) ≡ []) → IsClosed front
was_closed front byte rest (inl closed) = closed
was_closed front byte rest (inr none) = absurd (none_behind (byte ∷ rest) [] (cc) (omega arith))

ends_first : (first behind : List ℕ)
    → ((last : List ℕ) × (first ≡ last ++ 10 ∷ [])) ⊎ (behind ≡ [])
    → IsClosed first ⊎ (behind ≡ [])
ends_first first behind (inl last) = inl (inr last)
ends_first first behind (inr none) = inr none

ends_all : (front first behind : List ℕ)
    → ((last : List ℕ) × (first ≡ last ++ 10 ∷ [])) ⊎ (behind ≡ [])
    → IsClosed (front ++ first) ⊎ (behind ≡ [])
ends_all front first behind (inl last) = inl (closed_more front first last)
ends_all front first behind (inr none) = inr none

-- the first line is what is cut off
first_line : (first behind line : List ℕ) → IsClosed first ⊎ (behind ≡ [])
    → lines_of (first ++ behind) ≡ line ∷ lines_of behind → lines_of first ≡ line ∷ []
first_line first behind line ends lines =
    append_cancel_right (lines_of first) (line ∷ []) (lines_of behind)
    (sym (lines-split first behind ends) ∙ lines)

-- the numbers count on
pairs_on : (number count : ℕ) (fronts more : List (List ℕ)) (line : List ℕ)
    → more ≡ fronts ++ line ∷ [] → (lines : List (List ℕ))
    → ◌≡◌ {A = List (List ℕ) × List Item} (
      fronts ++ line ∷ (cut_items (number + count + 1) lines).0,
      (cut_items (number + count + 1) lines).1,
    ) (
      more ++ (cut_items (number + (count + 1)) lines).0,
      (cut_items (number + (count + 1)) lines).1,
    )
pairs_on number count fronts more line e lines =
    let n : number + (count + 1) ≡ number + count + 1 = omega arith in
    rw (n, e, append_assoc) refl

nothing : (line : List ℕ) (lines : List (List ℕ)) → [] ≡ line ∷ lines → ⊥
nothing line lines e = cc

-- a line more
pub one_more : (bytes : List ℕ) (count : ℕ) (rest line behind : List ℕ)
    → IsOnTheWay bytes count rest
    → lines_of rest ≡ line ∷ lines_of behind → behind ≡ after_line rest
    → belongs_above line ≡ true → IsOnTheWay bytes (count + 1) behind
one_more bytes count [] line behind way lines after belongs =
    absurd (nothing line (lines_of behind) lines)
one_more bytes count (byte ∷ rest) line behind way lines after belongs =
    let cut = cut_line byte rest in
    let whole : byte ∷ rest ≡ cut.first ++ behind = rw after cut.whole in
    let ends : ((last : List ℕ) × (cut.first ≡ last ++ 10 ∷ [])) ⊎ (behind ≡ []) =
    rw after cut.ends in
    let first : lines_of cut.first ≡ line ∷ [] =
    first_line cut.first behind line (ends_first cut.first behind ends) (rw (sym whole) lines) in
    let more : lines_of (way.front ++ cut.first) ≡ lines_of way.front ++ line ∷ [] =
    lines-split way.front cut.first (inl (was_closed way.front byte rest way.ends))
    ∙ ap (λ (ls : List (List ℕ)). lines_of way.front ++ ls) first in
    record {
      front = way.front ++ cut.first;
      whole = way.whole ∙ ap (λ (xs : List ℕ). way.front ++ xs) whole
          ∙ sym (append_assoc way.front cut.first behind);
      ends = ends_all way.front cut.first behind ends;
      items = λ number. way.items number
          ∙ ap (λ (c : List (List ℕ) × List Item). (lines_of way.front ++ c.0, c.1))
          (ap (cut_items (number + count)) lines
          ∙ cut-belongs (number + count) line (lines_of behind) belongs)
          ∙ pairs_on number count (lines_of way.front) (lines_of (way.front ++ cut.first)) line
          more (lines_of behind);
      few = (let some = cut.some in let few = way.few in
          rw length-append (omega arith));
    }
