-- The nearest row says what changes at an object.
use Rattle.std.proofs.Common.{◌≡◌, ℕ, Bool, true, false, cond, not, List, [], ◌∷◌, Some, ◌++◌, ◌||◌}
use Rattle.std.proofs.Common.{◌&&◌, None, refl, sym, ap, subst, ◌∙◌, append_assoc}
use Rattle.std.proofs.lemmas.{Bool.{and_parts, false≢true}, List.append-nil}
use Rattle.room_entry.{specs.Pieces.same_text, proofs.Texts.same_text-true}
use Rattle.room_change.specs.Changes.{Turn, differs, nearest, rows_down, says_same, turn_at}
use Rattle.room_change.specs.{Changes.{turns_down, same_turn}, Laws.NearestRowSays}

same_flags : (a b : Bool) → cond a b (not b) ≡ true → a ≡ b
same_flags true true is = refl
same_flags true false is = absurd (false≢true is)
same_flags false true is = absurd (false≢true is)
same_flags false false is = refl

grants_same : (a b : List ℕ × Bool) → says_same a b ≡ true → a ≡ b
grants_same a b is =
    let parts = and_parts (same_text a.0 b.0) (cond a.1 b.1 (not b.1)) is in
    ap (λ bits. pair bits a.1) (same_text-true a.0 b.0 parts.0)
    ∙ ap (λ flag. pair b.0 flag) (same_flags a.1 b.1 parts.1)
  where
    pair : List ℕ → Bool → List ℕ × Bool
    pair bits flag = (bits, flag)

abbrev last_turn : Turn → List Turn → Turn
last_turn turn [] = turn
last_turn turn (next ∷ turns) = last_turn next turns

-- what a row says is what an object turns to, or both say of no change
abbrev Says : Turn → Turn → Type 0
Says row turn = (differs turn ≡ true → row ≡ turn) × (differs turn ≡ false → differs row ≡ false)

turns_same : (a b : Turn) → (says_same a.had b.had && says_same a.has b.has) ≡ true → a ≡ b
turns_same a b is =
    let parts = and_parts (says_same a.had b.had) (says_same a.has b.has) is in
    ap (λ had. turn had a.has) (grants_same a.had b.had parts.0)
    ∙ ap (λ has. turn b.had has) (grants_same a.has b.has parts.1)
  where
    turn : List ℕ × Bool → List ℕ × Bool → Turn
    turn had has = record { had = had; has = has }

module _ (row turn above : Turn) (says : Says row above) where
  by_cases : (a b : Bool) → differs turn ≡ a → differs above ≡ b
      → cond (a || b) (says_same turn.had above.had && says_same turn.has above.has) true ≡ true
      → Says row turn
  by_cases true b is was same =
      let e = turns_same turn above same in
      subst (λ (t : Turn). Says row t) (sym e) says
  by_cases false true is was same =
      let e = turns_same turn above same in
      subst (λ (t : Turn). Says row t) (sym e) says
  by_cases false false is was same =
      (λ does. absurd (false≢true (sym is ∙ does)), λ _. says.1 was)

  still_says : same_turn turn above ≡ true → Says row turn
  still_says same = by_cases (differs turn) (differs above) refl refl same

says_down : (row above : Turn) (turns : List Turn) → Says row above
    → Says (nearest row (rows_down above turns)) (last_turn above turns)
says_down row above [] says = says
says_down row above (turn ∷ turns) says =
    on (same_turn turn above) (still_says row turn above says)
    (λ still. says_down row turn turns still)
    (says_down turn turn turns (λ _. refl, λ none. none))
  where
    on : (b : Bool) → (b ≡ true → Says row turn)
        → (Says row turn → Says (nearest row (rows_down turn turns)) (last_turn turn turns))
        → Says (nearest turn (rows_down turn turns)) (last_turn turn turns)
        → Says (nearest row (cond b None (Some turn) ∷ rows_down turn turns))
        (last_turn turn turns)
    on true still older newer = older (still refl)
    on false still older newer = newer

last_is : (turn : List (List ℕ) → Turn) (path names : List (List ℕ))
    → last_turn (turn path) (turns_down turn path names) ≡ turn (path ++ names)
last_is turn path [] = ap turn (sym (append-nil path))
last_is turn path (name ∷ names) =
    last_is turn (path ++ name ∷ []) names ∙ ap turn (append_assoc path (name ∷ []) names)

pub nearest_row_says : NearestRowSays
nearest_row_says room changes caller path names =
    let turn = turn_at room changes caller in
    let row = nearest (turn path) (rows_down (turn path) (turns_down turn path names)) in
    subst (λ (last : Turn). Says row last) (last_is turn path names)
    (says_down (turn path) (turn path) (turns_down turn path names) (λ _. refl, λ none. none))
