-- What the tests of WHERE mean.
use Rattle.std.proofs.Common.{◌≡◌, ℕ, ℤ, pos, List, [], ◌∷◌, Bool, true, false, not, ◌&&◌, refl}
use Rattle.std.proofs.Common.{sym, ap, subst, ◌∙◌, nat_cmp, Result, Ok, Err, IfOk, arith}
use Rattle.std.proofs.{Math.Bool.and-true, lemmas.Bool.Decides.nat_tests}
use Rattle.std.specs.{declared.cmp.Ordering.Ordering, Ordering.{is_eq, is_gt, is_lt, is_ge, is_le}}
use Rattle.sqlite.specs.declared.types.Value.{Value, TheVariants.{Null, Int, Real, Text, Blob}}
use Rattle.sqlite.specs.{Order.{Row, column, value_cmp}, Tree.{rowid, has_rowid}, Ops.is_true}
use Rattle.sqlite.specs.Ops.{from_truth, binary}
use Rattle.sqlite_sql.specs.declared.ops.BinaryOp.TheVariants.{Compare, Is}
use Rattle.sqlite_sql.specs.declared.ops.CompareOp.TheVariants.{Eq, Ge, Le}
use Rattle.sqlite_value.specs.declared.keys.Collation.TheVariants.{Binary}
use Rattle.sqlite_value.proofs.OrderLemmas.{value_cmp-Null}
use Rattle.store_tables.specs.Shown.{is_numbered, is_child, is_child_named, is_in_range, is_top}
use Rattle.store_tables.{specs.Shown.is_user_row, proofs.Texts.{matches_parameter, is_kept}}
use Rattle.store_tables.proofs.{Texts.top_tests, RangeTexts.range_tests, Answers.passes}

-- from what is known of the value of a result, if it is Ok, to what follows from it
pub if_ok : {A E : Type 0} (r : Result A E) (P Q : A → Type 0) → ((a : A) → P a → Q a) → IfOk r P
    → IfOk r Q
if_ok (Ok a) P Q f p = f a p
if_ok (Err e) P Q f p = tt

-- a truth that SQL makes a value of, 1 or 0, is read back as that truth
pub told : (b : Bool) → is_true (from_truth (Rattle.std.proofs.Common.Some b)) ≡ b
told true = refl
told false = refl

-- equality with an integer in SQL is that of the order of values, by which NULL equals none
pub equals_int : (a : Value) (n : ℤ)
    → is_true (binary (Compare Eq Binary) a (Int n)) ≡ is_eq (value_cmp a (Int n))
unfolding binary
equals_int Null n = sym (ap is_eq (value_cmp-Null (Int n)))
equals_int (Int m) n = told _
equals_int (Real x) n = told _
equals_int (Text t) n = told _
equals_int (Blob b) n = told _

-- equality with a text in SQL, byte by byte, is that of the order of values
pub equals_text : (a : Value) (t : List ℕ)
    → is_true (binary (Compare Eq Binary) a (Text t)) ≡ is_eq (value_cmp a (Text t))
unfolding binary
equals_text Null t = sym (ap is_eq (value_cmp-Null (Text t)))
equals_text (Int m) t = told _
equals_text (Real x) t = told _
equals_text (Text s) t = told _
equals_text (Blob b) t = told _

is_null_is : (a : Value) → is_true (binary (Is Binary) a Null) ≡ is_eq (value_cmp a Null)
unfolding binary
is_null_is a = told _

at_least_is : (o : Ordering) → is_ge o ≡ not (is_lt o)
at_least_is o = grind (arith, nat_tests)

-- a value is `>=` an integer in SQL where the order doesn't put it below, as it puts NULL
pub at_least_int : (a : Value) (n : ℤ)
    → is_true (binary (Compare Ge Binary) a (Int n)) ≡ not (is_lt (value_cmp a (Int n)))
unfolding binary
at_least_int Null n = sym (ap (λ o. not (is_lt o)) (value_cmp-Null (Int n)))
at_least_int (Int m) n = told _ ∙ at_least_is _
at_least_int (Real x) n = told _ ∙ at_least_is _
at_least_int (Text t) n = told _ ∙ at_least_is _
at_least_int (Blob b) n = told _ ∙ at_least_is _

at_most_is : (o : Ordering) → is_le o ≡ not (is_gt o)
at_most_is o = grind (arith, nat_tests)

within : (v : Value) (first last : ℤ)
    → is_true (binary (Compare Le Binary) v (Int last)) ≡ not (is_gt (value_cmp v (Int last)))
    → (is_true (binary (Compare Ge Binary) v (Int first))
    && (is_true (binary (Compare Le Binary) v (Int last)) && true))
    ≡ (not (is_lt (value_cmp v (Int first))) && not (is_gt (value_cmp v (Int last))))
within v first last most = cc (at_least_int v first, and-true _, most)

-- a value is between two integers in SQL where the order puts it there, as it doesn't put NULL
between_ints : (v : Value) (first last : ℤ)
    → (is_true (binary (Compare Ge Binary) v (Int first))
    && (is_true (binary (Compare Le Binary) v (Int last)) && true))
    ≡ (not (is_lt (value_cmp v (Int first))) && not (is_gt (value_cmp v (Int last))))
unfolding binary
between_ints Null first last =
    let low : not (is_lt (value_cmp Null (Int first))) ≡ false =
    ap (λ o. not (is_lt o)) (value_cmp-Null (Int first)) in
    ap (λ b. b && (is_true (binary (Compare Le Binary) Null (Int last)) && true))
    (at_least_int Null first ∙ low)
    ∙ sym (ap (λ b. b && not (is_gt (value_cmp Null (Int last)))) low)
between_ints (Int m) first last = within (Int m) first last (told _ ∙ at_most_is _)
between_ints (Real x) first last = within (Real x) first last (told _ ∙ at_most_is _)
between_ints (Text t) first last = within (Text t) first last (told _ ∙ at_most_is _)
between_ints (Blob b) first last = within (Blob b) first last (told _ ∙ at_most_is _)

-- the tests of writes by a range of numbers are met by the rows with these rowids
pub passes_range : (first last : ℤ) (given : Row) (r : Row)
    → passes range_tests (Int first ∷ Int last ∷ given) r ≡ is_in_range first last r
passes_range first last given r = between_ints (rowid r) first last

-- the test of queries and writes by number is met by the row with that rowid
pub passes_id : (id : ℤ) (r : Row)
    → passes (matches_parameter 0 0 ∷ []) (Int id ∷ []) r ≡ has_rowid id r
passes_id id r = and-true _ ∙ equals_int (rowid r) id

-- the tests of the queries on a folder's children are met by the numbered rows with that parent
pub passes_child : (parent : ℤ) (r : Row)
    → passes (matches_parameter 2 0 ∷ is_kept ∷ []) (Int parent ∷ []) r ≡ is_child parent r
passes_child parent r =
    cc (equals_int (column r 2) parent, and-true _, at_least_int (rowid r) (pos 1))

-- the tests by parent and name are met by the numbered rows with that parent and that name
pub passes_child_named : (parent : ℤ) (name : List ℕ) (r : Row)
    → passes (matches_parameter 2 0 ∷ matches_parameter 3 1 ∷ is_kept ∷ [])
    (Int parent ∷ Text name ∷ []) r ≡ is_child_named parent name r
passes_child_named parent name r =
    cc (
      equals_int (column r 2) parent,
      equals_text (column r 3) name,
      and-true _,
      at_least_int (rowid r) (pos 1),
    )

-- the one test of the query for all numbers is met by the rows numbered from 1 on
pub passes_numbered : (r : Row) → passes (is_kept ∷ []) [] r ≡ is_numbered r
passes_numbered r = and-true _ ∙ at_least_int (rowid r) (pos 1)

-- the tests of the query for the root are met by the numbered rows that have no parent
pub passes_top : (r : Row) → passes top_tests [] r ≡ is_top r
passes_top r = cc (is_null_is (column r 2), and-true _, at_least_int (rowid r) (pos 1))

-- the test of the query for groups is met by the rows of `members` with that user
pub passes_user : (user : List ℕ) (r : Row)
    → passes (matches_parameter 2 0 ∷ []) (Text user ∷ []) r ≡ is_user_row user r
passes_user user r = and-true _ ∙ equals_text (column r 2) user
