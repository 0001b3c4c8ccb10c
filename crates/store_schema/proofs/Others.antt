-- The rows of `meta` but that of the schema's number, where that is written anew.
use Rattle.std.proofs.Common.{rules, ◌≡◌, ℕ, ℤ, pos, List, [], ◌∷◌, map, filter, Bool, true, false}
use Rattle.std.proofs.Common.{not, cond, IsTrue, Some, inl, inr, ◌⊎◌, refl, sym, ap, subst, ◌∙◌}
use Rattle.std.proofs.{Common.{codes, arith}, lemmas.Bool.{not-true, Decides.nat_tests}}
use Rattle.std.specs.{Ordering.{is_eq, match_ordering}, declared.cmp.Ordering.Ordering}
use Rattle.std.specs.declared.cmp.Ordering.TheVariants.{Less, Equal, Greater}
use Rattle.sqlite.specs.declared.types.Value.{Value, TheVariants.{Null, Int, Real, Text, Blob}}
use Rattle.sqlite.specs.{Cast.{cast, cast_row}, Order.{Row, column, value_cmp}, Tree.IsTable}
use Rattle.sqlite.specs.Tree.{rowid, has_rowid, put_row, without_rowid}
use Rattle.sqlite_rules.{specs.Lists.Has, proofs.ListLemmas.{has_filtered, has_kept}}
use Rattle.sqlite_schema.specs.declared.schema.Table.{Table}
use Rattle.sqlite_trees.specs.View.{IsShaped, is_int}
use Rattle.store_tables.{specs.Tables.meta, proofs.Rowids.{at_most_one, has_itself}}
use Rattle.store_tables.proofs.Updates.{cast_int}
use Rattle.store_schema.specs.{NewRoom.{is_version, number_shown}, Migrating.other_rows}
use Rattle.sqlite.specs.Kind.TheVariants as kind
use Rattle.sqlite_trees.specs.declared.store.Shape.TheVariants as Shape

-- where a number is told, one row has it
pub one_version : (rows : List Row) (n : ℤ)
    → number_shown (map (λ r. column r 2 ∷ []) (filter is_version rows)) ≡ Some n
    → (r : Row) × (filter is_version rows ≡ r ∷ [])
one_version rows n told = by (filter is_version rows) refl told
  where
    by : (l : List Row) → filter is_version rows ≡ l
        → number_shown (map (λ r. column r 2 ∷ []) l) ≡ Some n
        → (r : Row) × (filter is_version rows ≡ r ∷ [])
    by [] is e = absurd (let x = e in cc)
    by (r ∷ []) is e = (r, is)
    by (r ∷ s ∷ more) is e = absurd (let x = e in cc)

-- ---- rows that are taken out, and one that is put in

module _ (is_other : Row → Bool) where
  fewer_step : (r : Row) (rest left : List Row) (b c : Bool) → (b ≡ true → c ≡ false)
      → filter is_other rest ≡ filter is_other left → is_other r ≡ c
      → filter is_other (cond (not b) (r ∷ rest) rest) ≡ cond c (r ∷ filter is_other left)
      (filter is_other left)
  fewer_step r rest left true c none same is = grind (arith, nat_tests)
  fewer_step r rest left false c none same is = grind (arith, nat_tests)

  fewer : (id : ℤ) (rows : List Row)
      → ((r : Row) → Has rows r → has_rowid id r ≡ true → is_other r ≡ false)
      → filter is_other (without_rowid id rows) ≡ filter is_other rows
  fewer id [] none = refl
  fewer id (r ∷ rows) none =
      fewer_step r (without_rowid id rows) rows (has_rowid id r) (is_other r) (none r (inl refl))
      (fewer id rows (λ x there. none x (inr there))) refl

  more_step : (x y : Row) (put rows : List Row) (o : Ordering) → is_other x ≡ false
      → is_eq o ≡ false → filter is_other put ≡ filter is_other rows
      → filter is_other (match_ordering o (y ∷ put) (x ∷ rows) (x ∷ y ∷ rows))
      ≡ filter is_other (y ∷ rows)
  more_step x y put rows Less fails apart same = grind (arith, nat_tests)
  more_step x y put rows Equal fails apart same = absurd (let e = apart in cc)
  more_step x y put rows Greater fails apart same = grind (arith, nat_tests)

  more : (x : Row) (rows : List Row) → is_other x ≡ false
      → ((r : Row) → Has rows r → is_eq (value_cmp (rowid r) (rowid x)) ≡ false)
      → filter is_other (put_row x rows) ≡ filter is_other rows
  more x [] fails apart = ap (λ b. cond b (x ∷ []) []) fails
  more x (y ∷ rows) fails apart =
      more_step x y (put_row x rows) rows (value_cmp (rowid y) (rowid x)) fails (apart y (inl refl))
      (more x rows fails (λ r there. apart r (inr there)))

-- ---- the row of the number

alone : (r x : Row) → Has (r ∷ []) x → x ≡ r
alone r x (inl e) = e
alone r x (inr none) = absurd none

pub int_of : (v : Value) → IsTrue (is_int v) → (id : ℤ) × (v ≡ Int id)
int_of (Int n) int = (n, refl)
int_of Null int = absurd (let e = int in cc)
int_of (Real x) int = absurd (let e = int in cc)
int_of (Text t) int = absurd (let e = int in cc)
int_of (Blob b) int = absurd (let e = int in cc)

-- a key that is a text stays so in its column
key_same : (v : Value) (t : List ℕ) → is_eq (value_cmp v (Text t)) ≡ true → cast kind.Text v ≡ v
unfolding value_cmp
key_same Null t e = refl
key_same (Int n) t e = absurd (let x = e in cc)
key_same (Real y) t e = absurd (let x = e in cc)
key_same (Text s) t e = refl
key_same (Blob b) t e = refl

abbrev meta_table : Table
meta_table = record meta { tree = 5 }

abbrev numbered_row : ℤ → Value → Row
numbered_row id key = Int id ∷ key ∷ Int (pos 2) ∷ []

cast_numbered : (id : ℤ) (key : Value) → cast kind.Text key ≡ key
    → cast_row meta_table (numbered_row id key) ≡ numbered_row id key
cast_numbered id key same = rw (cast_int id, cast_int (pos 2), same) refl

-- in a table there is one row of a rowid
same_row : (id : ℤ) (rows : List Row) → IsTable rows → (x y : Row) → Has rows x → Has rows y
    → has_rowid id x ≡ true → has_rowid id y ≡ true → x ≡ y
same_row id rows table x y one two p q =
    by (at_most_one id rows table) (has_kept (has_rowid id) rows x one p)
    (has_kept (has_rowid id) rows y two q)
  where
    by : ((filter (has_rowid id) rows ≡ [])
        ⊎ ((r : Row) × (filter (has_rowid id) rows ≡ r ∷ [])))
        → Has (filter (has_rowid id) rows) x → Has (filter (has_rowid id) rows) y → x ≡ y
    by (inl none) a b = absurd (subst (λ l. Has l x) none a)
    by (inr (r, only)) a b =
        alone r x (subst (λ l. Has l x) only a) ∙ sym (alone r y (subst (λ l. Has l y) only b))

pub others_stay : (rows : List Row) (r : Row) (id : ℤ) → rowid r ≡ Int id
    → IsShaped Shape.Table rows → filter is_version rows ≡ r ∷ []
    → other_rows (put_row (cast_row meta_table (numbered_row id (column r 1)))
    (without_rowid id rows)) ≡ other_rows rows
others_stay rows r id is shaped one =
    let at = has_filtered is_version rows r (subst (λ l. Has l r) (sym one) (inl refl)) in
    let has : has_rowid id r ≡ true = ap (λ v. is_eq (value_cmp v (Int id))) is ∙ has_itself id in
    ap (λ x. other_rows (put_row x (without_rowid id rows)))
    (cast_numbered id (column r 1) (key_same (column r 1) (codes "rooms") at.1))
    ∙ more (λ r. not (is_version r)) (numbered_row id (column r 1)) (without_rowid id rows)
    (ap not at.1) (search (rules, not-true, has_filtered))
    ∙ fewer (λ r. not (is_version r)) id rows
    (search (rules, same_row, shaped.0, r, at.0, has, at.1))
