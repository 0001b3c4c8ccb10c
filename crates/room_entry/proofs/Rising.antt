-- Texts in order: one more at the end, and one that is looked for.
use Rattle.std.proofs.Common.{ℕ, ◌≡◌, ◌<◌, ◌+◌, ◌-◌, true, false, List, [], ◌∷◌, ◌++◌, length}
use Rattle.std.proofs.Common.{get_or, refl, sym, ap, ◌∙◌, arith, ⊎_elim, is_lt, nat_cmp, Result, Ok}
use Rattle.std.proofs.{Common.Err, lemmas.{Bool.cases_lt, List.{length_push, get_or_push}}}
use Rattle.std.proofs.lemmas.List.{get_or_append_left, Folds.{list_any_at, list_any_none}}
use Rattle.std.proofs.lemmas.List.Sorted.{searchable_from_sorted}
use Rattle.std.specs.{Cmp.Lexicographic.{slice_cmp, nat_list_cmp_total, texts_ties}, List.list_any}
use Rattle.std.specs.{List.Sorted.{IsBinarySearchResult, IsSearchInRange}, Ordering.{is_eq, is_le}}
use Rattle.std.specs.{Ordering.ordering_reverse, declared.cmp.Ordering.{Ordering, TheVariants.Less}}
use Rattle.std.specs.{declared.cmp.Ordering.TheVariants.{Equal, Greater}, Result.is_ok}
use Rattle.room_entry.specs.{Pieces.same_text, Rising.AreRising}

not_after : (o : Ordering) → is_le o ≡ true → is_lt (ordering_reverse o) ≡ false
not_after Less le = refl
not_after Equal le = refl
not_after Greater le = sym le

-- a text that is no less than the last one
pub rising_push : (xs : List (List ℕ)) (y : List ℕ)
    → ((d : List ℕ) → 0 < length xs
    → is_le (slice_cmp nat_cmp (get_or xs (length xs - 1) d) y) ≡ true)
    → AreRising xs → AreRising (xs ++ y ∷ [])
rising_push xs y last up k d low below =
    let long = length_push xs y in
    ⊎_elim
    (λ inside. rw (
      get_or_append_left xs (y ∷ []) d (k + 1) inside,
      get_or_append_left xs (y ∷ []) d k (omega arith),
    ) (up k d low inside))
    (λ past.
    let at : length xs - 1 ≡ k = omega arith in
    rw (
      get_or_push xs y d (k + 1) (omega arith),
      get_or_append_left xs (y ∷ []) d k (omega arith),
      nat_list_cmp_total.antisymm y (get_or xs k d),
    )
    (not_after _ (ap (λ n. is_le (slice_cmp nat_cmp (get_or xs n d) y)) (sym at)
    ∙ last d (omega arith))))
    (cases_lt (k + 1) (length xs))

-- what a binary search says of texts in order
pub searched : (xs : List (List ℕ)) (name : List ℕ) (r : Result ℕ ℕ) → AreRising xs
    → IsSearchInRange r (length xs)
    → IsBinarySearchResult (λ other. slice_cmp nat_cmp other name) xs r
    → is_ok r ≡ list_any (λ other. same_text other name) xs
searched xs name (Ok i) up within found =
    sym (list_any_at (λ other. same_text other name) xs i name within
    (texts_ties _ name ∙ ap is_eq (found name)))
searched xs name (Err i) up within found =
    let parts = found (searchable_from_sorted nat_list_cmp_total (λ x. x) xs name up) in
    sym (list_any_none (λ other. same_text other name) xs (λ k d below. texts_ties _ name ∙
    ⊎_elim (λ before. ap is_eq (parts.0 k d (omega arith) before))
    (λ behind. ap is_eq (parts.1 k d behind below)) (cases_lt k i)))
