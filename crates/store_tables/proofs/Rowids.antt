-- Rows by their rowids.
use Rattle.std.proofs.Common.{◌≡◌, ◌<◌, ℕ, ℤ, pos, to_z, of_z, w64, List, [], ◌∷◌, ◌++◌, filter}
use Rattle.std.proofs.Common.{Some, IsTrue, inl, inr, ◌⊎◌, refl, sym, ap, subst, ◌∙◌, true, false}
use Rattle.std.proofs.{Common.{Bool, cond, find, arith, drop}, Math.Facts.to_z-of_z}
use Rattle.std.proofs.lemmas.{List.Sorted.length_permutation, Cmp.tied_itself}
use Rattle.std.{proofs.lemmas.Bool.Decides.nat_tests, specs.{Prelude.FitsSigned, Ordering.is_eq}}
use Rattle.std.specs.{Ordering.is_lt, List.{AllByRecursion, Sorted.IsPermutation}}
use Rattle.std.specs.{FinMap.int_cmp-IsAntisymmetric, declared.cmp.Ordering.Ordering}
use Rattle.std.specs.declared.cmp.Ordering.TheVariants.{Equal}
use Rattle.sqlite.specs.{declared.types.Value.{Value, TheVariants.{Null, Int}}, Order.Row}
use Rattle.sqlite.specs.{Order.value_cmp, Tree.{rowid, has_rowid, without_rowid, IsTable}}
use Rattle.sqlite_trees.{proofs.TreeLemmas.later_rowids, specs.View.is_int}
use Rattle.sqlite_value.proofs.OrderLemmas.{value_cmp-Int, value_cmp_total}
use Rattle.sqlite_rules.specs.Lists.{Has}

-- a number's rowid that is passed on is that number
pub passed_on : (row : ℤ) (id : ℕ) → FitsSigned w64 (pos id) × (row ≡ pos id) × (0 < id)
    → to_z w64 (of_z w64 row) ≡ pos id
passed_on row id (fits, is, low) = ap (λ z. to_z w64 (of_z w64 z)) is ∙ to_z-of_z fits

-- an integer compares as equal to itself, so the row with this rowid is found by it
pub has_itself : (id : ℤ) → is_eq (value_cmp (Int id) (Int id)) ≡ true
has_itself id = ap is_eq (tied_itself value_cmp_total (Int id))

-- of the three orderings only `Equal` says that two values are equal
pub is_equal : (o : Ordering) → is_eq o ≡ true → o ≡ Equal
is_equal o h = grind (arith, nat_tests)

-- integers that compare as equal, as values of a table, are the same integer
pub same_int : (m n : ℤ) → is_eq (value_cmp (Int m) (Int n)) ≡ true → m ≡ n
same_int m n h = int_cmp-IsAntisymmetric m n (is_equal _ (ap is_eq (sym (value_cmp-Int m n)) ∙ h))

-- a row that is found by an integer has it as its rowid, where the rowid is an integer at all
pub rowid_is : (id : ℤ) (r : Row) → IsTrue (is_int (rowid r)) → has_rowid id r ≡ true
    → rowid r ≡ Int id
rowid_is id r int h = go (rowid r) int h
  where
    go : (v : Value) → IsTrue (is_int v) → is_eq (value_cmp v (Int id)) ≡ true → v ≡ Int id
    go (Int n) i e = ap Int (same_int n id e)
    go Null i e = absurd (let x = i in cc)
    go _ i e = absurd (let y = i in cc)

first_step : {A : Type 0} (p : A → Bool) (y : A) (ys : List A) (x : A) (more : List A) (b : Bool)
    → p y ≡ b → (filter p ys ≡ x ∷ more → (find p ys ≡ Some x) × (p x ≡ true))
    → cond b (y ∷ filter p ys) (filter p ys) ≡ x ∷ more → (cond b (Some y) (find p ys) ≡ Some x)
    × (p x ≡ true)
first_step p y ys x more b is later e = grind (arith, nat_tests)

-- the first of the rows that pass a test is the one that `find` gives, and it passes
pub first_one : {A : Type 0} (p : A → Bool) (xs : List A) (x : A) (more : List A)
    → filter p xs ≡ x ∷ more → (find p xs ≡ Some x) × (p x ≡ true)
first_one p [] x more h = absurd (cc)
first_one p (y ∷ ys) x more h = first_step p y ys x more (p y) refl (first_one p ys x more) h

-- where just one row passes a test, `find` gives it, and it passes
pub only_one : {A : Type 0} (p : A → Bool) (xs : List A) (x : A) → filter p xs ≡ x ∷ []
    → (find p xs ≡ Some x) × (p x ≡ true)
only_one p xs x h = first_one p xs x [] h

-- taking a number out changes nothing where it is known of each row that it has another
pub none_taken : (id : ℤ) (rows : List Row) → AllByRecursion (λ r. has_rowid id r ≡ false) rows
    → without_rowid id rows ≡ rows
none_taken id [] all = refl
none_taken id (r ∷ rows) all = rw all.0 (ap (λ l. r ∷ l) (none_taken id rows all.1))

-- a property of each row that a list has, as one of the whole list
pub each_of : {X : Type 0} (P : X → Type 0) (rows : List X) → ((x : X) → Has rows x → P x)
    → AllByRecursion P rows
each_of P [] h = tt
each_of P (x ∷ rows) h = (h x (inl refl), each_of P rows (λ y there. h y (inr there)))

-- the way back: from a property of a whole list of rows to one row of it
pub of_each : {X : Type 0} (P : X → Type 0) (rows : List X) → AllByRecursion P rows → (x : X)
    → Has rows x → P x
of_each P (y ∷ rows) all x (inl e) = subst P (sym e) all.0
of_each P (y ∷ rows) all x (inr there) = of_each P rows all.1 x there
of_each P [] all x there = absurd there

-- of two steps that wait, the last is taken off the stack and the first still waits
pub pop_two : {A : Type 0} (a b : A) (below : List A) (w : A) → a ∷ b ∷ [] ≡ below ++ w ∷ []
    → (below ≡ a ∷ []) × (w ≡ b)
pop_two a b [] w h = absurd (cc)
pop_two a b (x ∷ []) w h = (cc, cc)
pop_two a b (x ∷ y ∷ []) w h = absurd (cc)
pop_two a b (x ∷ y ∷ z ∷ more) w h = absurd (cc)

-- of one step that waits, it is taken off the stack and nothing waits any more
pub pop_one : {A : Type 0} (a : A) (below : List A) (w : A) → a ∷ [] ≡ below ++ w ∷ []
    → (below ≡ []) × (w ≡ a)
pop_one a [] w h = (refl, cc)
pop_one a (x ∷ []) w h = absurd (cc)
pop_one a (x ∷ y ∷ more) w h = absurd (cc)

none_pass : {A : Type 0} (p : A → Bool) (xs : List A) → AllByRecursion (λ x. p x ≡ false) xs
    → filter p xs ≡ []
none_pass p [] all = refl
none_pass p (x ∷ xs) all = rw all.0 (none_pass p xs all.1)

is_not_less : (o : Ordering) → is_eq o ≡ true → is_lt o ≡ false
is_not_less o h = grind (arith, nat_tests)

-- a table has a rowid at most once
pub at_most_one : (id : ℤ) (rows : List Row) → IsTable rows → (filter (has_rowid id) rows ≡ [])
    ⊎ ((r : Row) × (filter (has_rowid id) rows ≡ r ∷ []))
at_most_one id [] table = inl refl
at_most_one id (r ∷ rows) table = go (has_rowid id r) refl (at_most_one id rows table.1)
  where
    go : (b : Bool) → has_rowid id r ≡ b
        → ((filter (has_rowid id) rows ≡ []) ⊎ ((x : Row) × (filter (has_rowid id) rows ≡ x ∷ [])))
        → (cond b (r ∷ filter (has_rowid id) rows) (filter (has_rowid id) rows) ≡ [])
        ⊎ ((x : Row)
        × (cond b (r ∷ filter (has_rowid id) rows) (filter (has_rowid id) rows) ≡ x ∷ []))
    go true is more =
        inr (
          r,
          cc (none_pass _ rows (later_rowids (Int id) r rows (is_not_less _ is) table.0)),
        )
    go false is more = more

-- a row that `find` gives stands in the list that was searched
pub has_found : {A : Type 0} (p : A → Bool) (xs : List A) (x : A) → find p xs ≡ Some x → Has xs x
has_found p [] x h = absurd (cc)
has_found p (y ∷ ys) x h = grind (arith, nat_tests, has_found p ys x)

-- a row whose rowid is known is that number and, after it, its other cells
pub cells_of : (id : ℤ) (r : Row) → rowid r ≡ Int id → r ≡ Int id ∷ drop 1 r
cells_of id [] h = absurd (cc)
cells_of id (v ∷ cells) h = ap (λ x. x ∷ cells) h

-- an answer that has the rows of an empty list, in whatever order, is empty
pub alone_in : {X : Type 0} (ys : List X) → IsPermutation [] ys → ys ≡ []
alone_in [] h = refl
alone_in (y ∷ ys) h = absurd (omega (arith, length_permutation [] (y ∷ ys) h))
