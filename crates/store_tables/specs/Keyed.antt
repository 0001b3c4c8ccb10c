-- Rows of a table that are read as something with a number, which is the row's.
use Rattle.std.proofs.Common.{◌≡◌, ℕ, ℤ, pos, ◌<◌, List, [], ◌∷◌, map, find, Option, Some, None}
use Rattle.std.proofs.Common.{Bool, true, false, cond, refl, sym, ap, ◌∙◌, inl, inr}
use Rattle.std.specs.Prelude.{◌==◌, option_and_then, nat_lt, is_some}
use Rattle.std.specs.List.{AllByRecursion, filter_map, cons_option, list_any}
use Rattle.std.specs.Ordering.{is_eq, is_lt, int_cmp}
use Rattle.std.specs.declared.cmp.Ordering.{Ordering}
use Rattle.std.specs.declared.cmp.Ordering.TheVariants.{Less, Equal, Greater}
use Rattle.std.specs.FinMap.{int_cmp-IsAntisymmetric}
use Rattle.std.proofs.lemmas.Bool.{cases_Bool, eqb-true, eq-eqb, false≢true, and_from, lt-ltb}
use Rattle.std.proofs.lemmas.Bool.{ltb-true}
use Rattle.std.proofs.lemmas.Cmp.{tied_itself}
use Rattle.sqlite.specs.declared.types.Value.TheVariants.{Int}
use Rattle.sqlite.specs.Order.{Row, value_cmp}
use Rattle.sqlite.specs.Tree.{rowid, has_rowid, IsTable}
use Rattle.sqlite_trees.proofs.TreeLemmas.{later_rowids}
use Rattle.sqlite_value.proofs.OrderLemmas.{value_cmp-Int, value_cmp_total}
use Rattle.room_entry.specs.Pieces.{is_among}
use Rattle.room_rows.specs.Content.{is_rising}
use Rattle.room_rows.proofs.Lookups.{find_yes, find_no, each-weaker}

-- ---- rowids

pub has_itself : (id : ℤ) → is_eq (value_cmp (Int id) (Int id)) ≡ true
has_itself id = ap is_eq (tied_itself value_cmp_total (Int id))

is_equal : (o : Ordering) → is_eq o ≡ true → o ≡ Equal
is_equal Less h = absurd (let e = h in cc)
is_equal Equal h = refl
is_equal Greater h = absurd (let e = h in cc)

pub same_int : (m n : ℤ) → is_eq (value_cmp (Int m) (Int n)) ≡ true → m ≡ n
same_int m n h = int_cmp-IsAntisymmetric m n (is_equal _ (ap is_eq (sym (value_cmp-Int m n)) ∙ h))

same_pos : (m n : ℕ) → pos m ≡ pos n → m ≡ n
same_pos m n e = cc

pub same_number : (n id : ℕ) → is_eq (value_cmp (Int (pos n)) (Int (pos id))) ≡ (n == id)
same_number n id = elim (cases_Bool (n == id)) [
  | inl same ↦ ap (λ m. is_eq (value_cmp (Int (pos n)) (Int (pos m)))) (sym (eqb-true n id same))
      ∙ has_itself (pos n) ∙ sym same
  | inr apart ↦ elim (cases_Bool (is_eq (value_cmp (Int (pos n)) (Int (pos id))))) [
    | inl equal ↦ absurd
        (false≢true (sym apart ∙ eq-eqb n id (same_pos n id (same_int (pos n) (pos id) equal))))
    | inr differs ↦ differs ∙ sym apart
  ]
]

by_tests : (b c : Bool) → cond b Less (cond c Greater Equal) ≡ Less → b ≡ true
by_tests true c e = refl
by_tests false true e = absurd (let x = e in cc)
by_tests false false e = absurd (let x = e in cc)

pub below : (m n : ℕ) → value_cmp (Int (pos m)) (Int (pos n)) ≡ Less → m < n
below m n less =
    ltb-true m n (by_tests (nat_lt m n) (nat_lt n m) (sym (value_cmp-Int (pos m) (pos n)) ∙ less))

not_less : (o : Ordering) → is_eq o ≡ true → is_lt o ≡ false
not_less Less h = absurd (let e = h in cc)
not_less Equal h = refl
not_less Greater h = refl

-- ---- rows that are read

module _ {X : Type 0} (f : Row → Option X) (key : X → ℕ) (keyed : (r : Row) (x : X) → f r ≡ Some x
    → rowid r ≡ Int (pos (key x))) where
  pub has_key : (id : ℕ) (r : Row) (x : X) → f r ≡ Some x → has_rowid (pos id) r ≡ (key x == id)
  has_key id r x is = ap (λ v. is_eq (value_cmp v (Int (pos id)))) (keyed r x is)
      ∙ same_number (key x) id

  none_step : (id : ℕ) (r : Row) (rest : List X) (o : Option X) → f r ≡ o
      → has_rowid (pos id) r ≡ false → find (λ x. key x == id) rest ≡ None → find (λ x. key x == id)
      (cons_option o rest) ≡ None
  none_step id r rest None is apart none = none
  none_step id r rest (Some x) is apart none = find_no (λ x. key x == id) x rest
      (sym (has_key id r x is) ∙ apart) ∙ none

  -- no row has this number
  pub find_none : (id : ℕ) (rows : List Row) → AllByRecursion (λ r. has_rowid (pos id) r ≡ false)
      rows → find (λ x. key x == id) (filter_map f rows) ≡ None
  find_none id [] all = refl
  find_none id (r ∷ rows) all = none_step id r (filter_map f rows) (f r) refl all.0
      (find_none id rows all.1)

  find_step : (id : ℕ) (r : Row) (rows : List Row) (rest : List X) (o : Option X) (b : Bool)
      → f r ≡ o → has_rowid (pos id) r ≡ b
      → (b ≡ true → find (λ x. key x == id) rest ≡ None) → find (λ x. key x == id) rest
      ≡ option_and_then f (find (has_rowid (pos id)) rows)
      → find (λ x. key x == id) (cons_option o rest) ≡ option_and_then f
      (cond b (Some r) (find (has_rowid (pos id)) rows))
  find_step id r rows rest None true is has none more = none refl ∙ sym is
  find_step id r rows rest None false is has none more = more
  find_step id r rows rest (Some x) true is has none more = find_yes (λ x. key x == id) x rest
      (sym (has_key id r x is) ∙ has) ∙ sym is
  find_step id r rows rest (Some x) false is has none more = find_no (λ x. key x == id) x rest
      (sym (has_key id r x is) ∙ has) ∙ more

  -- what is found by its number is what the row of that number is read as
  pub find_key : (id : ℕ) (rows : List Row) → IsTable rows → find (λ x. key x == id)
      (filter_map f rows) ≡ option_and_then f (find (has_rowid (pos id)) rows)
  find_key id [] table = refl
  find_key id (r ∷ rows) table =
      find_step id r rows (filter_map f rows) (f r) (has_rowid (pos id) r) refl refl
      (λ has. find_none id rows (later_rowids (Int (pos id)) r rows (not_less _ has) table.0))
      (find_key id rows table.1)

  later_key : (r : Row) (x : X) → f r ≡ Some x → (b : Row) → value_cmp (rowid r) (rowid b) ≡ Less
      → (y : X) → f b ≡ Some y → key x < key y
  later_key r x is b less y has =
      below (key x) (key y) (sym (ap (λ v. value_cmp v (rowid b)) (keyed r x is)
      ∙ ap (λ v. value_cmp (Int (pos (key x))) v) (keyed b y has)) ∙ less)

  IsPast : ℕ → Row → Type 0
  IsPast n r = (x : X) → f r ≡ Some x → n < key x

  rises_step : (n : ℕ) (r : Row) (rows : List Row) (o : Option X) → f r ≡ o
      → ((x : X) → f r ≡ Some x → n < key x)
      → AllByRecursion (λ b. value_cmp (rowid r) (rowid b) ≡ Less) rows
      → is_rising (n ∷ map key (filter_map f rows)) ≡ true
      → ((m : ℕ) → AllByRecursion (λ b. (x : X) → f b ≡ Some x → m < key x) rows
      → is_rising (m ∷ map key (filter_map f rows)) ≡ true)
      → is_rising (n ∷ map key (cons_option o (filter_map f rows))) ≡ true
  rises_step n r rows None is past later same more = same
  rises_step n r rows (Some x) is past later same more =
      and_from (nat_lt n (key x)) (is_rising (key x ∷ map key (filter_map f rows)))
      (lt-ltb n (key x) (past x is))
      (more (key x) (each-weaker (λ b. value_cmp (rowid r) (rowid b) ≡ Less) (λ b. (y : X)
      → f b ≡ Some y → key x < key y) (later_key r x is) rows later))

  pub rises : (n : ℕ) (rows : List Row) → AllByRecursion (λ b. (x : X) → f b ≡ Some x → n < key x)
      rows → IsTable rows → is_rising (n ∷ map key (filter_map f rows)) ≡ true
  rises n [] past table = refl
  rises n (r ∷ rows) past table = rises_step n r rows (f r) refl past.0 table.0
      (rises n rows past.1 table.1) (λ m all. rises m rows all table.1)

  all_past : (n : ℕ) → ((r : Row) (x : X) → f r ≡ Some x → n < key x) → (rows : List Row)
      → AllByRecursion (λ b. (x : X) → f b ≡ Some x → n < key x) rows
  all_past n each [] = tt
  all_past n each (r ∷ rows) = (each r, all_past n each rows)

  -- the numbers rise, from 1 on
  pub rises_from_one : ((r : Row) (x : X) → f r ≡ Some x → 0 < key x) → (rows : List Row)
      → IsTable rows → is_rising (0 ∷ map key (filter_map f rows)) ≡ true
  rises_from_one each rows table = rises 0 rows (all_past 0 each rows) table

-- ---- numbers among numbers

pub among_found : {X : Type 0} (key : X → ℕ) (id : ℕ) (xs : List X)
    → is_among (map key xs) id ≡ is_some (find (λ x. key x == id) xs)
among_found key id [] = refl
among_found key id (x ∷ xs) = elim (cases_Bool (key x == id)) [
  | inl same ↦ ap (λ b. Rattle.std.specs.Prelude.◌||◌ b (is_among (map key xs) id)) same
      ∙ sym (ap is_some (find_yes (λ x. key x == id) x xs same))
  | inr apart ↦ ap (λ b. Rattle.std.specs.Prelude.◌||◌ b (is_among (map key xs) id)) apart
      ∙ among_found key id xs ∙ sym (ap is_some (find_no (λ x. key x == id) x xs apart))
]
