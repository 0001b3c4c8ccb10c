-- The rows that a reader has left, from one row to the next.
use Rattle.std.proofs.Common.{ℕ, zero, suc, ◌≡◌, ◌+◌, ◌-◌, ◌<◌, ◌≤◌, ◌==◌, ◌||◌, Bool, true, false}
use Rattle.std.proofs.Common.{cond, List, [], ◌∷◌, length, Option, Some, None, refl, sym, ap, subst}
use Rattle.std.proofs.{Common.{◌∙◌, inl, inr, arith, add-one}, lemmas.Bool.{cases_Bool, false≢true}}
use Rattle.std.proofs.lemmas.Bool.{cond-true, cond-false}
use Rattle.csv.specs.Machine.{Read, ends_at_end, fields_after, field_after, in_field, is_end}
use Rattle.csv.specs.{Machine.{next_record, start_field, step}, Reading.{NextIs, ReadsNext}}
use Rattle.csv.specs.Reading.{default_config, records_from, records_next}
use Rattle.csv.specs.declared.parser.{Action.Action, State.State}
use Rattle.room_import.specs.Rows.{IsBetween, rows_from}
use Rattle.csv.specs.declared.parser.Action.TheVariants as act
use Rattle.csv.specs.declared.parser.State.TheVariants as st

-- ---- a record ends between records

abbrev EndsBetween : State × Action → Type 0
EndsBetween next = is_end next.1 ≡ true → IsBetween next.0

either : (b : Bool) (first second : State × Action) → EndsBetween first → EndsBetween second
    → EndsBetween (cond b first second)
either true first second a b e = a e
either false first second a b e = b e

never : (s : State) (a : Action) → is_end a ≡ false → EndsBetween (s, a)
never s a isnt e = absurd (false≢true (sym isnt ∙ e))

at_end : (d r n : Bool)
    → EndsBetween (cond d (st.StartField, act.EndField)
    (cond (r || n) (cond r st.AfterCr st.StartRecord, act.EndRecord) (st.InField, act.Copy)))
at_end true r n e = absurd (false≢true e)
at_end false true n e = inr refl
at_end false false true e = inl refl
at_end false false false e = absurd (false≢true e)

in_field-ends : (c : ℕ) → EndsBetween (in_field default_config c)
in_field-ends c = at_end (c == 44) (c == 13) (c == 10)

start_field-ends : (c : ℕ) → EndsBetween (start_field default_config c)
start_field-ends c = grind (arith, either, never, in_field-ends)

start-ends : (c : ℕ) → EndsBetween (step default_config st.StartRecord c)
start-ends c = grind (arith, either, never, start_field-ends)

step-ends : (s : State) (c : ℕ) → EndsBetween (step default_config s c)
step-ends st.StartRecord c = start-ends c
step-ends st.StartField c = start_field-ends c
step-ends st.InField c = in_field-ends c
step-ends st.InQuoted c = grind (arith, either, never)
step-ends st.InEscape c = never st.InQuoted act.Copy refl
step-ends st.AfterQuote c = grind (arith, either, never, in_field-ends)
step-ends st.InComment c = grind (arith, either, never)
step-ends st.AfterCr c = grind (arith, either, never, start-ends)

-- ---- a record takes a byte

the_same : (p q : Read) → ◌≡◌ {A = Option Read} (Some p) (Some q) → p ≡ q
the_same p q e = cc e

abbrev Ended : Read → ℕ → Type 0
Ended p most = IsBetween p.1 × (length p.2 ≤ most)

shorter : (xs : List ℕ) (s : State) (fields : List (List ℕ)) (field : List ℕ) (p : Read)
    → next_record default_config s fields field xs ≡ Some p → Ended p (length xs - 1)
unfolding next_record
shorter [] s fields field p e = elim (cases_Bool (ends_at_end s)) [
  | inl ends ↦
      subst (λ (q : Read). Ended q 0) (the_same _ p (sym (cond-true _ _ _ ends) ∙ e))
      (inl refl, omega arith)
  | inr goes ↦
      (let none : ◌≡◌ {A = Option Read} None (Some p) = sym (cond-false _ _ _ goes) ∙ e in cc none)
]
shorter (c ∷ rest) s fields field p e = elim (cases_Bool (is_end (step default_config s c).1)) [
  | inl ends ↦
      subst (λ (q : Read). Ended q (length (c ∷ rest) - 1))
      (the_same _ p (sym (cond-true _ _ _ ends) ∙ e)) (step-ends s c ends, omega arith)
  | inr goes ↦ (
      let more = shorter rest (step default_config s c).0
      (fields_after (step default_config s c).1 fields field)
      (field_after (step default_config s c).1 c field) p (sym (cond-false _ _ _ goes) ∙ e) in
      (more.0, omega (arith, more.1)))
]

some_left : (xs : List ℕ) (s : State) (p : Read) → IsBetween s
    → next_record default_config s [] [] xs ≡ Some p → 0 < length xs
unfolding next_record
some_left [] s p (inl is) e = let none : ◌≡◌ {A = Option Read} None (Some p) =
    subst (λ (q : State). next_record default_config q [] [] [] ≡ Some p) is e in cc none
some_left [] s p (inr is) e = let none : ◌≡◌ {A = Option Read} None (Some p) =
    subst (λ (q : State). next_record default_config q [] [] [] ≡ Some p) is e in cc none
some_left (x ∷ xs) s p between e = omega arith

-- ---- how many rows are asked for doesn't matter, as long as there are enough

one_more : (m n : ℕ) (o : Option Read)
    → ((p : Read) → o ≡ Some p
    → records_from default_config m p.1 p.2 ≡ records_from default_config n p.1 p.2)
    → records_next (records_from default_config m) o
    ≡ records_next (records_from default_config n) o
one_more m n None same = refl
one_more m n (Some p) same = ap (λ (rows : List (List (List ℕ))). p.0 ∷ rows) (same p refl)

enough : (m n : ℕ) (s : State) (xs : List ℕ) → IsBetween s → length xs < m → length xs < n
    → records_from default_config m s xs ≡ records_from default_config n s xs
unfolding records_from
enough zero n s xs between a b = absurd (omega (arith, a))
enough (suc m) zero s xs between a b = absurd (omega (arith, b))
enough (suc m) (suc n) s xs between a b =
    one_more m n (next_record default_config s [] [] xs) (λ p e.
    let some = some_left xs s p between e in
    let short = shorter xs s [] [] p e in
    enough m n p.1 p.2 short.0 (omega (arith, some, short.1, a)) (omega (arith, some, short.1, b)))

-- ---- one read

abbrev NextRead : Option Read → List (List ℕ) → State → List ℕ → Type 0
NextRead o row after rest = (p : Read) × (o ≡ Some p) × (row ≡ p.0) × (after ≡ p.1) × (rest ≡ p.2)

found : (o : Option Read) (row : List (List ℕ)) (after : State) (rest : List ℕ)
    → NextIs o true row after rest → NextRead o row after rest
found None row after rest it = cc it
found (Some p) row after rest it = (p, refl, it.1, it.2, it.3)

not_found : (o : Option Read) (row : List (List ℕ)) (after : State) (rest : List ℕ)
    → NextIs o false row after rest → o ≡ None
not_found None row after rest it = refl
not_found (Some p) row after rest it = absurd (false≢true it.0)

abbrev pub LeavesRows : State → List ℕ → List (List ℕ) → State → Option (List ℕ) → Type 0
LeavesRows s xs row after rest = (ys : List ℕ) × (rest ≡ Some ys) × IsBetween after
    × (rows_from s (Some xs) ≡ row ∷ rows_from after (Some ys))

one_row : (s : State) (xs : List ℕ) (p : Read) → IsBetween s
    → next_record default_config s [] [] xs ≡ Some p
    → rows_from s (Some xs) ≡ p.0 ∷ rows_from p.1 (Some p.2)
unfolding records_from
one_row s xs p between e =
    let some = some_left xs s p between e in
    let short = shorter xs s [] [] p e in
    rw (add-one (length xs)) (
    ap (records_next (records_from default_config (length xs))) e
    ∙ ap (λ (rows : List (List (List ℕ))). p.0 ∷ rows)
    (enough (length xs) (length p.2 + 1) p.1 p.2 short.0 (omega (arith, some, short.1))
    (omega arith)))

leaves : (s : State) (xs ys : List ℕ) (p : Read) (row : List (List ℕ)) (after : State) → IsBetween s
    → next_record default_config s [] [] xs ≡ Some p → row ≡ p.0 → after ≡ p.1 → ys ≡ p.2
    → LeavesRows s xs row after (Some ys)
leaves s xs ys p row after between e at_row at_after at_ys =
    rw (at_row, at_after, at_ys) (p.2, refl, (shorter xs s [] [] p e).0, one_row s xs p between e)

pub row_read : (s : State) (xs : List ℕ) (rest : Option (List ℕ)) (row : List (List ℕ))
    (after : State) → IsBetween s → ReadsNext default_config s (Some xs) rest true row after
    → LeavesRows s xs row after rest
row_read s xs None row after between it = absurd it
row_read s xs (Some ys) row after between it =
    let next = found _ row after ys it in
    leaves s xs ys next.0 row after between next.1 next.2 next.3 next.4

pub no_row_read : (s : State) (xs : List ℕ) (rest : Option (List ℕ)) (row : List (List ℕ))
    (after : State) → ReadsNext default_config s (Some xs) rest false row after
    → rows_from s (Some xs) ≡ []
unfolding records_from
no_row_read s xs None row after it = absurd it
no_row_read s xs (Some ys) row after it =
    rw (add-one (length xs))
    (ap (records_next (records_from default_config (length xs))) (not_found _ row after ys it))
