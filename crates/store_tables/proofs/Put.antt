-- Rows that are read as things with numbers: one is put in, or in the place of another.
use Rattle.std.proofs.Common.{◌≡◌, ◌<◌, ◌≤◌, ℕ, pos, List, [], ◌∷◌, map, filter, None, Some, Option}
use Rattle.std.proofs.Common.{refl, sym, ap, ◌∙◌, true, false, Bool, cond, not, inl, inr, arith}
use Rattle.std.proofs.lemmas.Bool.{cases_order, cond-true, ne_eqb, lt-ltb, ltb-true, and_parts}
use Rattle.std.{proofs.lemmas.Bool.Decides.nat_tests, specs.Prelude.{if◌then◌else◌, ◌==◌, nat_lt}}
use Rattle.std.specs.{List.{filter_map, cons_option, AllByRecursion}, Ordering.match_ordering}
use Rattle.std.specs.declared.cmp.Ordering.{Ordering, TheVariants.{Less, Equal, Greater}}
use Rattle.sqlite.specs.{declared.types.Value.TheVariants.Int, Order.{Row, value_cmp}, Tree.rowid}
use Rattle.sqlite.specs.Tree.{has_rowid, without_rowid, put_row, IsTable}
use Rattle.sqlite_value.proofs.OrderLemmas.{value_cmp_total}
use Rattle.room_rows.{proofs.Lookups.each-weaker, specs.Content.is_rising}
use Rattle.store_tables.specs.Keyed.{below}

abbrev pub IsOther : ℕ → Row → Type 0
IsOther id r = has_rowid (pos id) r ≡ false

others_step : (id : ℕ) (r : Row) (rest : List Row) (b : Bool) → has_rowid (pos id) r ≡ b
    → AllByRecursion (IsOther id) rest → AllByRecursion (IsOther id) (cond (not b) (r ∷ rest) rest)
others_step id r rest true is all = all
others_step id r rest false is all = (is, all)

-- no row of that number is left
pub others : (id : ℕ) (rows : List Row) → AllByRecursion (IsOther id) (without_rowid (pos id) rows)
others id [] = tt
others id (r ∷ rows) = search (others_step, others id rows)

not_equal : (id : ℕ) (r new : Row) → rowid new ≡ Int (pos id) → IsOther id r
    → value_cmp (rowid r) (rowid new) ≡ Equal → ⊥
not_equal id r new is other equal = grind (arith, nat_tests)

-- ---- a row that is read as nothing isn't seen

module _ {X : Type 0} (f : Row → Option X) (new : Row) (id : ℕ)
    (number : rowid new ≡ Int (pos id)) where
  unseen_step : (r : Row) (rows : List Row) (o : Ordering) → value_cmp (rowid r) (rowid new) ≡ o
      → f new ≡ None → IsOther id r → filter_map f (put_row new rows) ≡ filter_map f rows
      → filter_map f (match_ordering o (r ∷ put_row new rows) (new ∷ rows) (new ∷ r ∷ rows))
      ≡ filter_map f (r ∷ rows)
  unseen_step r rows o is nothing other more = grind (arith, nat_tests, not_equal)

  pub unseen : (rows : List Row) → f new ≡ None → AllByRecursion (IsOther id) rows
      → filter_map f (put_row new rows) ≡ filter_map f rows
  unseen [] nothing all = ap (λ o. cons_option o []) nothing
  unseen (r ∷ rows) nothing all = grind (arith, nat_tests, unseen_step, unseen rows nothing all.1)

-- ---- a list of things in the order of their numbers

abbrev pub put_by : {X : Type 0} → (X → ℕ) → X → List X → List X
put_by key x [] = x ∷ []
put_by key x (y ∷ ys) =
    if nat_lt (key y) (key x) then y ∷ put_by key x ys else if key y == key x then x ∷ ys else x ∷ y
    ∷ ys

module _ {X : Type 0} (key : X → ℕ) where
  put_first : (n : X) (items : List X) (k : ℕ) → (key n) ≤ k → is_rising (k ∷ map key items) ≡ true
      → put_by key n items ≡ n ∷ items
  put_first n [] k low rises = refl
  put_first n (other ∷ others) k low rises = grind (arith, nat_tests, others)

  none_gone : (n : X) (items : List X) (k : ℕ) → (key n) ≤ k → is_rising (k ∷ map key items) ≡ true
      → filter (λ (m : X). not ((key m) == (key n))) items ≡ items
  none_gone n [] k low rises = refl
  none_gone n (other ∷ others) k low rises =
      let parts = and_parts (nat_lt k (key other))
      (is_rising ((key other) ∷ map key others)) rises in
      let up : k < (key other) = ltb-true k (key other) parts.0 in
      cond-true _ _ _
      (ap not (ne_eqb (key other) (key n) (λ e. absurd (omega (arith, up, low, e)))))
      ∙ ap (λ l. other ∷ l) (none_gone n others (key other) (omega (arith, up, low)) parts.1)

  -- what is there is replaced
  pub put_again : (n : X) (items : List X) (k : ℕ) → is_rising (k ∷ map key items) ≡ true
      → put_by key n (filter (λ (m : X). not ((key m) == (key n))) items) ≡ put_by key n items
  put_again n [] k rises = refl
  put_again n (other ∷ others) k rises =
      let parts = and_parts (nat_lt k (key other))
      (is_rising ((key other) ∷ map key others)) rises in
      elim (cases_order (key other) (key n)) [
        | inl same ↦ grind (arith, nat_tests, none_gone, put_first)
        | inr apart ↦ elim apart [
          | inl low ↦
              ap (put_by key n)
              (cond-true _ _ _
              (ap not (ne_eqb (key other) (key n) (λ e. absurd (omega (arith, low, e))))))
              ∙ cond-true _ _ _ (lt-ltb (key other) (key n) low)
              ∙ ap (λ l. other ∷ l) (put_again n others (key other) parts.1)
              ∙ sym (cond-true _ _ _ (lt-ltb (key other) (key n) low))
          | inr high ↦ grind (arith, nat_tests, none_gone)
        ]
      ]

module _ {X : Type 0} (f : Row → Option X) (key : X → ℕ)
    (keyed : (r : Row) (x : X) → f r ≡ Some x → rowid r ≡ Int (pos (key x))) where
  module _ (new : Row) (n : X) (seen : f new ≡ Some n) where
    number : rowid new ≡ Int (pos (key n))
    number = keyed new n seen

    after_step : (r : Row) (rest : List X) (o : Option X) → f r ≡ o
        → value_cmp (rowid r) (rowid new) ≡ Less
        → put_by key n (cons_option o rest) ≡ cons_option o (put_by key n rest)
    after_step r rest None is less = refl
    after_step r rest (Some m) is less =
        let low : (key m) < (key n) = below (key m) (key n)
        (cc (keyed r m is, number, less)) in
        cond-true _ _ _ (lt-ltb (key m) (key n) low)

    before_all : (rows : List Row)
        → AllByRecursion (λ (r : Row). (m : X) → f r ≡ Some m → (key n) < (key m)) rows
        → put_by key n (filter_map f rows) ≡ n ∷ filter_map f rows
    before_all [] all = refl
    before_all (r ∷ rows) all = grind (arith, nat_tests, before_all rows all.1)

    later : (x : Row) (m : X) → value_cmp (rowid new) (rowid x) ≡ Less → f x ≡ Some m
        → (key n) < (key m)
    later x m up is =
        below (key n) (key m)
        (cc (number, keyed x m is, up))

    pub put_seen : (rows : List Row) → IsTable rows → AllByRecursion (IsOther (key n)) rows
        → filter_map f (put_row new rows) ≡ put_by key n (filter_map f rows)
    put_seen [] table all = ap (λ o. cons_option o []) seen
    put_seen (r ∷ rows) table all =
        by (value_cmp (rowid r) (rowid new)) refl (put_seen rows table.1 all.1)
      where
        by : (o : Ordering) → value_cmp (rowid r) (rowid new) ≡ o
            → filter_map f (put_row new rows) ≡ put_by key n (filter_map f rows)
            → filter_map f (match_ordering o (r ∷ put_row new rows) (new ∷ rows) (new ∷ r ∷ rows))
            ≡ put_by key n (cons_option (f r) (filter_map f rows))
        by Less is more = grind (arith, nat_tests, after_step)
        by Equal is more = absurd (not_equal (key n) r new number all.0 is)
        by Greater is more =
            let up : value_cmp (rowid new) (rowid r) ≡ Less =
            cc (value_cmp_total.antisymm (rowid new) (rowid r), is) in
            let each = each-weaker (λ b. value_cmp (rowid r) (rowid b) ≡ Less)
            (λ b. (m : X) → f b ≡ Some m → (key n) < (key m))
            (λ x less m at. later x m
            (value_cmp_total.trans (rowid new) (rowid r) (rowid x) up less) at) rows table.0 in
            cc (seen, before_all (r ∷ rows) (λ m at. later r m up at, each))
