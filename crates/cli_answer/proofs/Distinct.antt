-- The groups of pairs: those of all pairs, each once, in the order in which they come first.
use Rattle.std.proofs.Common.{◌≡◌, ℕ, zero, suc, Bool, true, false, List, [], ◌∷◌, ◌++◌, take, refl}
use Rattle.std.proofs.Common.{sym, ap, ◌∙◌, inl, inr, append_assoc, append-nil, arith, rules}
use Rattle.std.proofs.{Math.Bool.{or_assoc, or-false}, lemmas.Bool.{and_from, and_parts}}
use Rattle.std.proofs.lemmas.Bool.{cases_Bool, cond-true, cond-false, false≢true, not-true}
use Rattle.std.proofs.lemmas.Bool.{not_from_false, or_cases, or_from, or_left, or_parts, or_right}
use Rattle.std.{proofs.lemmas.List.Folds.list_any-append, specs.Prelude.{◌||◌, not}}
use Rattle.std.specs.List.{list_any}
use Rattle.room_entry.{specs.Pieces.same_text, proofs.Facts.Booleans.same_truth}
use Rattle.room_entry.proofs.Texts.{same_text-sym}
use Rattle.cli_answer.specs.Counting.{GroupsOfPairs, are_once, groups_after, with_group}

abbrev Groups : Type 0
Groups = List (List ℕ)

abbrev Pairs : Type 0
Pairs = List (List ℕ × List ℕ)

with_old : (before : Groups) (group : List ℕ) → list_any (same_text group) before ≡ true
    → with_group before group ≡ before
with_old before group there = cond-true _ _ _ there

with_new : (before : Groups) (group : List ℕ) → list_any (same_text group) before ≡ false
    → with_group before group ≡ before ++ group ∷ []
with_new before group new = cond-false _ _ _ new

-- ---- which groups

-- what passes as a group that is there passes there
there_passes : (test : List ℕ → Bool) (group : List ℕ) (before : Groups)
    → list_any (same_text group) before ≡ true → test group ≡ true → list_any test before ≡ true
there_passes test group [] there passes = absurd (false≢true there)
there_passes test group (other ∷ before) there passes =
    elim (or_cases (same_text group other) (list_any (same_text group) before) there) [
      | inl same ↦
          search (rules, or_left, passes, same)
      | inr later ↦
          search (rules, or_right, there_passes test group before later passes)
    ]

any_with : (test : List ℕ → Bool) (before : Groups) (group : List ℕ)
    → list_any test (with_group before group) ≡ (list_any test before || test group)
any_with test before group =
    elim (cases_Bool (list_any (same_text group) before)) [
      | inl there ↦
          grind (arith, with_old, same_truth, or_left, or_cases, there_passes, there)
      | inr new ↦
          grind (arith, with_new, list_any-append, or-false, new)
    ]

any_after : (test : List ℕ → Bool) (before : Groups) (pairs : Pairs)
    → list_any test (groups_after before pairs)
    ≡ (list_any test before || list_any (λ pair. test pair.0) pairs)
any_after test before [] = sym (or-false (list_any test before))
any_after test before (pair ∷ pairs) =
    grind (arith, any_with, or_assoc, any_after test (with_group before pair.0) pairs)

-- ---- each once

one_more_once : (groups : Groups) (group : List ℕ) → are_once groups ≡ true
    → list_any (same_text group) groups ≡ false → are_once (groups ++ group ∷ []) ≡ true
one_more_once [] group each new = refl
one_more_once (other ∷ groups) group each new =
    let apart = or_parts (same_text group other) (list_any (same_text group) groups) new in
    let parts = and_parts (not (list_any (same_text other) groups)) (are_once groups) each in
    let none : list_any (same_text other) (groups ++ group ∷ []) ≡ false =
    list_any-append (same_text other) groups (group ∷ [])
    ∙ or_from (list_any (same_text other) groups) (same_text other group || false)
    (not-true (list_any (same_text other) groups) parts.0)
    (or_from (same_text other group) false (same_text-sym other group ∙ apart.0) refl) in
    search (rules, and_from, not_from_false, none, one_more_once groups group parts.1 apart.1)

once_with : (before : Groups) (group : List ℕ) → are_once before ≡ true
    → are_once (with_group before group) ≡ true
once_with before group each =
    grind (arith, with_old, with_new, one_more_once, each)

once_after : (before : Groups) (pairs : Pairs) → are_once before ≡ true
    → are_once (groups_after before pairs) ≡ true
once_after before [] each = each
once_after before (pair ∷ pairs) each =
    once_after (with_group before pair.0) pairs (once_with before pair.0 each)

-- ---- in order

grows_with : (before : Groups) (group : List ℕ)
    → (late : Groups) × (with_group before group ≡ before ++ late)
grows_with before group =
    elim (cases_Bool (list_any (same_text group) before)) [
      | inl there ↦ ([], with_old before group there ∙ sym (append-nil before))
      | inr new ↦ (group ∷ [], with_new before group new)
    ]

grows : (before : Groups) (pairs : Pairs)
    → (late : Groups) × (groups_after before pairs ≡ before ++ late)
grows before [] = ([], sym (append-nil before))
grows before (pair ∷ pairs) =
    let first = grows_with before pair.0 in
    let rest = grows (with_group before pair.0) pairs in (
      first.0 ++ rest.0,
      rest.1 ∙ ap (λ early. early ++ rest.0) first.1 ∙ append_assoc before first.0 rest.0,
    )

fronts : (n : ℕ) (before : Groups) (pairs : Pairs)
    → (late : Groups) × (groups_after before pairs ≡ groups_after before (take n pairs) ++ late)
fronts zero before pairs = grows before pairs
fronts (suc n) before [] = ([], sym (append-nil before))
fronts (suc n) before (pair ∷ pairs) = fronts n (with_group before pair.0) pairs

pub groups_are : GroupsOfPairs
groups_are pairs = search (rules, any_after, once_after, fronts)
