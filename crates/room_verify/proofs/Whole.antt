-- All rows, read number by number.
use Rattle.std.proofs.Common.{◌≡◌, ℕ, ◌<◌, ◌≤◌, ◌+◌, ◌==◌, Bool, true, false, List, [], ◌∷◌, ◌++◌}
use Rattle.std.proofs.Common.{length, get_or, drop, Some, None, refl, sym, ap, ◌∙◌, inl, inr}
use Rattle.std.proofs.{Common.{nat_lt, append_assoc, arith, rules}, lemmas.Bool.false≢true}
use Rattle.std.proofs.lemmas.Bool.{eq-eqb, or_from, cond-true, cond-false, and_parts, ltb-true}
use Rattle.std.proofs.lemmas.{Bool.{ne_eqb, Decides.nat_tests}, List.{drop_more, Recursion.or_at}}
use Rattle.std.specs.List.{find, filter_map}
use Rattle.room_entry.specs.Pieces.{is_among}
use Rattle.room_rows.specs.{declared.node.Node.Node, Content.{is_rising, node_at}, Rows.Rows}
use Rattle.room_rows.specs.{Rows.{AreRows, numbers_of}, Sound.{first_bad_list, has_bad_list}}
use Rattle.room_inherit.proofs.{Children.ids_of, Whole.{among_found, among_numbers}}
use Rattle.room_inherit.proofs.Whole.{none_unreadable}
use Rattle.room_verify.{specs.Reading.{IsBadAt, IsUnused}, proofs.Numbers.each_found}

-- ---- numbers in use

-- a number that is listed is in use
pub not_free : (rows : Rows) (ids : List ℕ) (i : ℕ) (row : ℕ) → ids ≡ numbers_of rows
    → i < length ids → IsUnused (get_or ids i 0) rows row → ⊥
not_free rows ids i row are below free =
    let id = get_or ids i 0 in
    let listed : is_among ids id ≡ true = or_at (λ l. is_among l id) (λ other. other == id) refl
    (λ _ _. refl) ids i 0 below (eq-eqb id id refl) in
    let nowhere : is_among (numbers_of rows) id ≡ false =
    search (rules, among_numbers, ids_of, among_found, free.1, free.0) in
    false≢true (sym nowhere ∙ ap (λ l. is_among l id) (sym are) ∙ listed)

-- numbers that rise from one on don't have it, and none below it
none_below : (k : ℕ) (ids : List ℕ) → is_rising (k ∷ ids) ≡ true → (id : ℕ) → id ≤ k
    → is_among ids id ≡ false
none_below k [] rises id low = refl
none_below k (x ∷ xs) rises id low =
    let parts = and_parts (nat_lt k x) (is_rising (x ∷ xs)) rises in
    let up = ltb-true k x parts.0 in
    or_from _ _ (ne_eqb x id (λ e. omega (arith, up, low, e)))
    (none_below x xs parts.1 id (omega (arith, up, low)))

found_among : (test : ℕ → Bool) (ids : List ℕ) (id : ℕ) → find test ids ≡ Some id
    → is_among ids id ≡ true
found_among test [] id found = absurd (cc)
found_among test (x ∷ xs) id found = grind (arith, nat_tests, found_among test xs id)

-- no row has the number 0, so it isn't found to be bad
pub no_bad_zero : (rows : Rows) → AreRows rows → first_bad_list rows ≡ Some 0 → ⊥
no_bad_zero rows are bad =
    let nowhere : is_among (numbers_of rows) 0 ≡ false =
    search (rules, among_numbers, ids_of, or_from, none_below, are, are.unreadable, are.numbers) in
    search (rules, found_among, bad, nowhere)

-- ---- all numbers, read

-- the objects of all numbers are all objects
pub whole : (rows : Rows) → AreRows rows → first_bad_list rows ≡ None
    → (nodes : List Node) (ids : List ℕ) → ids ≡ numbers_of rows
    → nodes ≡ filter_map (node_at rows.read) ids → nodes ≡ rows.read.nodes
whole rows are none nodes ids listed found =
    cc (found, listed, none_unreadable rows none, each_found 0 rows.read.nodes are.numbers)

-- ---- one number after the other

module _ (rows : Rows) (ids : List ℕ) (i : ℕ) (below : i < length ids) where
  next_id : drop i ids ≡ get_or ids i 0 ∷ drop (i + 1) ids
  next_id = drop_more ids i 0 below

  -- a bad number at i is the first bad one from there on
  pub bad_here : has_bad_list rows (get_or ids i 0) ≡ true
      → find (has_bad_list rows) (drop i ids) ≡ Some (get_or ids i 0)
  bad_here bad = ap (find (has_bad_list rows)) next_id ∙ cond-true _ _ _ bad

  -- the first that is bad
  pub bad_at : (row : ℕ) → ids ≡ numbers_of rows
      → find (has_bad_list rows) (drop i ids) ≡ find (has_bad_list rows) ids
      → IsBadAt (get_or ids i 0) rows row → first_bad_list rows ≡ Some row
  bad_at row are same (is, inl bad) =
      ap (find (has_bad_list rows)) (sym are) ∙ sym same ∙ bad_here bad ∙ ap Some (sym is)
  bad_at row are same (is, inr free) = absurd (not_free rows ids i (get_or ids i 0) are below free)

  -- where the number at i is not bad, the first bad one from there on comes after it
  pub sound_here : has_bad_list rows (get_or ids i 0) ≡ false
      → find (has_bad_list rows) (drop (i + 1) ids) ≡ find (has_bad_list rows) (drop i ids)
  sound_here sound = sym (ap (find (has_bad_list rows)) next_id ∙ cond-false _ _ _ sound)

  -- with the object of the number at i pushed, those read and those still to be read are the same
  pub one_more_node : (nodes more : List Node) (node : Node)
      → node_at rows.read (get_or ids i 0) ≡ Some node → more ≡ nodes ++ node ∷ []
      → more ++ filter_map (node_at rows.read) (drop (i + 1) ids) ≡ nodes
      ++ filter_map (node_at rows.read) (drop i ids)
  one_more_node nodes more node there pushed =
      cc (
        pushed,
        append_assoc nodes (node ∷ []) (filter_map (node_at rows.read) (drop (i + 1) ids)),
        there,
        next_id,
      )
