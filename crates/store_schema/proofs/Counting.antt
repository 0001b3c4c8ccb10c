-- The counter of records after records were added.
use Rattle.std.proofs.Common.{◌≡◌, ℤ, List, [], ◌∷◌, ◌++◌, find, Option, Some, None, Bool, true}
use Rattle.std.proofs.Common.{false, refl, sym, ap, subst, ◌∙◌, arith, codes, not, cond, ℕ, suc}
use Rattle.std.proofs.{Common.{pos, ◌+ℤ◌, ◌≤ℤ◌, fold, length}, lemmas.Int.ints}
use Rattle.std.{proofs.lemmas.{Bool.Decides.nat_tests, Cmp.tied_itself}, specs.List.AllByRecursion}
use Rattle.std.specs.Ordering.{is_eq, is_lt, match_ordering, ordering_reverse}
use Rattle.std.specs.declared.cmp.Ordering.{Ordering, TheVariants.{Less, Equal, Greater}}
use Rattle.sqlite.specs.{Rowids.TheVariants.Above, Order.{Row, value_cmp}, Rows.count_of, Ops.unary}
use Rattle.sqlite.specs.{declared.types.Value.{Value, TheVariants.{Int, Text}}, Tree.rowid}
use Rattle.sqlite.specs.{Tree.{IsTable, has_rowid, put_row, without_rowid}, Edit.next_rowid}
use Rattle.sqlite.specs.{Cast.cast, Kind.TheVariants.Integer}
use Rattle.sqlite_rules.specs.Edit.{at_least, id_in}
use Rattle.sqlite_trees.specs.{View.IsShaped, declared.store.Shape.TheVariants.Table}
use Rattle.sqlite_trees.proofs.TreeLemmas.{IsShaped-filter, IsShaped-put_row, later_rowids}
use Rattle.sqlite_value.proofs.OrderLemmas.{value_cmp_total}
use Rattle.store_tables.specs.Counters.{AreCounted, counted_to, counter_row, counts_records}
use Rattle.store_tables.{specs.Counters.{next_record, with_count}, proofs.Rowids.has_found}
use Rattle.store_tables.proofs.{Rowids.{has_itself, none_taken, of_each}, Updates.cast_int}
use Rattle.store_schema.{specs.Counting.{count_in, last_number}, proofs.Others.int_of}

-- ---- a row that counts the records

counts : (id : Value) (seq : ℤ) → counts_records (counter_row id seq) ≡ true
counts id seq = ap is_eq (tied_itself value_cmp_total (Text (codes "audits")))

counts_so : (id : Value) (seq : ℤ) → count_of (Some (counter_row id seq)) ≡ seq
unfolding unary
counts_so id seq = refl

-- ---- where it is put in

-- before rows of higher numbers it is the first
before_step : (new r : Row) (put rows : List Row) (o : Ordering) → counts_records new ≡ true
    → is_lt o ≡ false
    → find counts_records (match_ordering o (r ∷ put) (new ∷ rows) (new ∷ r ∷ rows)) ≡ Some new
before_step new r put rows Less is late = absurd (let e = late in cc)
before_step new r put rows Equal is late = ap (λ b. cond b (Some new) (find counts_records rows)) is
before_step new r put rows Greater is late =
    ap (λ b. cond b (Some new) (find counts_records (r ∷ rows))) is

first_put : (new : Row) (rows : List Row) → counts_records new ≡ true
    → AllByRecursion (λ r. is_lt (value_cmp (rowid r) (rowid new)) ≡ false) rows
    → find counts_records (put_row new rows) ≡ Some new
first_put new [] is late = ap (λ b. cond b (Some new) None) is
first_put new (r ∷ rows) is late =
    before_step new r (put_row new rows) rows (value_cmp (rowid r) (rowid new)) is late.0

-- behind rows that don't count it is the first that does
behind_step : (new r : Row) (put rows : List Row) (o : Ordering) → counts_records new ≡ true
    → counts_records r ≡ false → find counts_records put ≡ Some new
    → find counts_records (match_ordering o (r ∷ put) (new ∷ rows) (new ∷ r ∷ rows)) ≡ Some new
behind_step new r put rows Less is isnt found =
    ap (λ b. cond b (Some r) (find counts_records put)) isnt ∙ found
behind_step new r put rows Equal is isnt found =
    ap (λ b. cond b (Some new) (find counts_records rows)) is
behind_step new r put rows Greater is isnt found =
    ap (λ b. cond b (Some new) (find counts_records (r ∷ rows))) is

none_more : (r : Row) (rows : List Row) (b : Bool) → counts_records r ≡ b
    → cond b (Some r) (find counts_records rows) ≡ None
    → (counts_records r ≡ false) × (find counts_records rows ≡ None)
none_more r rows true is none = absurd (let e = none in cc)
none_more r rows false is none = (is, none)

only_put : (new : Row) (rows : List Row) → counts_records new ≡ true
    → find counts_records rows ≡ None → find counts_records (put_row new rows) ≡ Some new
only_put new [] is none = ap (λ b. cond b (Some new) None) is
only_put new (r ∷ rows) is none =
    let no = none_more r rows (counts_records r) refl none in
    behind_step new r (put_row new rows) rows (value_cmp (rowid r) (rowid new)) is no.0
    (only_put new rows is no.1)

-- ---- where it takes the place of the one before it

-- what is above a number isn't below it
later_step : (a b : Value) (o : Ordering) → value_cmp b a ≡ o → value_cmp a b ≡ Less
    → is_lt o ≡ false
later_step a b Less is less =
    absurd (let e = sym less ∙ value_cmp_total.antisymm a b ∙ ap ordering_reverse is in cc)
later_step a b Equal is less = refl
later_step a b Greater is less = refl

later : (id : Value) (rows : List Row) → AllByRecursion (λ r. value_cmp id (rowid r) ≡ Less) rows
    → AllByRecursion (λ r. is_lt (value_cmp (rowid r) id) ≡ false) rows
later id [] all = tt
later id (r ∷ rows) all =
    (later_step id (rowid r) (value_cmp (rowid r) id) refl all.0, later id rows all.1)

module _ (id seq : ℤ) where
  abbrev new : Row
  new = counter_row (Int id) seq

  put_there : (rows : List Row) (r : Row) → IsTable rows → rowid r ≡ Int id
      → find counts_records rows ≡ Some r
      → find counts_records (put_row new (without_rowid id rows)) ≡ Some new
  put_there [] r table is found = absurd (let e = found in cc)
  put_there (x ∷ rows) r table is found =
      by (counts_records x) refl found (put_there rows r table.1 is)
    where
      by : (b : Bool) → counts_records x ≡ b
          → cond b (Some x) (find counts_records rows) ≡ Some r
          → (find counts_records rows ≡ Some r
          → find counts_records (put_row new (without_rowid id rows)) ≡ Some new)
          → find counts_records (put_row new (without_rowid id (x ∷ rows))) ≡ Some new
      by true counts' e rest =
          let same : x ≡ r = cc in
          let at : rowid x ≡ Int id = ap rowid same ∙ is in
          let has : has_rowid id x ≡ true =
          ap (λ v. is_eq (value_cmp v (Int id))) at ∙ has_itself id in
          let above : AllByRecursion (λ y. value_cmp (Int id) (rowid y) ≡ Less) rows =
          subst (λ v. AllByRecursion (λ y. value_cmp v (rowid y) ≡ Less) rows) at table.0 in
          let left : without_rowid id (x ∷ rows) ≡ rows =
          ap (λ b. cond (not b) (x ∷ without_rowid id rows) (without_rowid id rows)) has
          ∙ none_taken id rows (later_rowids (Int id) x rows
          (subst (λ v. is_lt (value_cmp v (Int id)) ≡ false) (sym at)
          (ap is_lt (tied_itself value_cmp_total (Int id)))) table.0) in
          subst (λ l. find counts_records (put_row new l) ≡ Some new) (sym left)
          (first_put new rows (counts (Int id) seq) (later (Int id) rows above))
      by false counts' e rest =
          let below : value_cmp (rowid x) (rowid r) ≡ Less =
          of_each (λ y. value_cmp (rowid x) (rowid y) ≡ Less) rows table.0 r
          (has_found counts_records rows r e) in
          let below' : value_cmp (rowid x) (Int id) ≡ Less =
          subst (λ v. value_cmp (rowid x) v ≡ Less) is below in
          let left : without_rowid id (x ∷ rows) ≡ x ∷ without_rowid id rows =
          ap (λ b. cond (not b) (x ∷ without_rowid id rows) (without_rowid id rows))
          (ap is_eq below') in
          let put : put_row new (x ∷ without_rowid id rows)
          ≡ x ∷ put_row new (without_rowid id rows) =
          ap (λ o. match_ordering o (x ∷ put_row new (without_rowid id rows))
          (new ∷ without_rowid id rows) (new ∷ x ∷ without_rowid id rows)) below' in
          ap (λ l. find counts_records (put_row new l)) left ∙ ap (find counts_records) put
          ∙ ap (λ b. cond b (Some x) (find counts_records (put_row new (without_rowid id rows))))
          counts' ∙ rest e

-- ---- the counter

one_step : (seq : ℤ) (counters : List Row) → IsShaped Table counters
    → IsShaped Table (counted_to seq counters) × (count_in (counted_to seq counters) ≡ seq)
one_step seq counters shaped = by (find counts_records counters) refl
  where
    by : (o : Option Row) → find counts_records counters ≡ o
        → IsShaped Table (with_count seq counters o)
        × (count_in (with_count seq counters o) ≡ seq)
    by None none =
        let id = Int (next_rowid counters) in (
          IsShaped-put_row (counter_row id seq) counters refl shaped,
          ap count_of (only_put (counter_row id seq) counters (counts id seq) none)
              ∙ counts_so id seq,
        )
    by (Some r) found =
        let id = int_of (rowid r)
        (of_each _ counters shaped.1 r (has_found counts_records counters r found)) in
        let is : with_count seq counters (Some r)
        ≡ put_row (counter_row (Int id.0) seq) (without_rowid id.0 counters) =
        ap (λ v. put_row (counter_row (cast Integer v) seq) (without_rowid (id_in v) counters))
        id.1 ∙ ap (λ v. put_row (counter_row v seq) (without_rowid id.0 counters)) (cast_int id.0)
        in
        subst (λ l. IsShaped Table l × (count_in l ≡ seq)) (sym is) (
          IsShaped-put_row (counter_row (Int id.0) seq) (without_rowid id.0 counters) refl
              (IsShaped-filter Table (λ r. not (has_rowid id.0 r)) counters shaped),
          ap count_of (put_there id.0 seq counters r shaped.0 id.1 found)
              ∙ counts_so (Int id.0) seq,
        )

-- the counter is at the last record that was added
pub counter_follows : (counters audits more after : List Row) → IsShaped Table counters
    → AreCounted counters audits more after
    → count_in after ≡ last_number (count_in counters) more
counter_follows counters audits [] after shaped are = ap count_in are
counter_follows counters audits (r ∷ more) after shaped are =
    let seq = next_record counters audits in
    let step = one_step seq counters shaped in
    counter_follows (counted_to seq counters) (audits ++ r ∷ []) more after step.0 are.1
    ∙ ap (λ n. last_number n more) (step.1 ∙ sym (ap id_in are.0))

-- ---- one number for each record

after_last : (audits : List Row) (top : ℤ) (r : Row)
    → fold (λ _ x. id_in (rowid x) +ℤ pos 1) top (audits ++ r ∷ []) ≡ id_in (rowid r) +ℤ pos 1
after_last [] top r = refl
after_last (x ∷ audits) top r = after_last audits (id_in (rowid x) +ℤ pos 1) r

one_more : (count next : ℤ) → next ≤ℤ (count +ℤ pos 1)
    → at_least (Above count) next ≡ count +ℤ pos 1
one_more count next low = grind (arith, ints, nat_tests)

still_low : (seq count : ℤ) → count ≡ seq → (seq +ℤ pos 1) ≤ℤ (count +ℤ pos 1)
still_low seq count is = omega (arith, ints, is)

none_up : (count : ℤ) → count ≡ count +ℤ pos 0
none_up count = omega (arith, ints)

sums_up : (count mid last : ℤ) (n : ℕ) → mid ≡ count +ℤ pos 1 → last ≡ mid +ℤ pos n
    → last ≡ count +ℤ pos (suc n)
sums_up count mid last n one more = omega (arith, ints, one, more)

pub one_number_each : (counters audits more after : List Row) → IsShaped Table counters
    → next_rowid audits ≤ℤ (count_in counters +ℤ pos 1) → AreCounted counters audits more after
    → count_in after ≡ count_in counters +ℤ pos (length more)
one_number_each counters audits [] after shaped low are =
    ap count_in are ∙ none_up (count_in counters)
one_number_each counters audits (r ∷ more) after shaped low are =
    let seq = next_record counters audits in
    let step = one_step seq counters shaped in
    let next : next_rowid (audits ++ r ∷ []) ≡ seq +ℤ pos 1 = after_last audits (pos 1) r
    ∙ ap (λ v. id_in v +ℤ pos 1) are.0 in
    let low' : next_rowid (audits ++ r ∷ []) ≤ℤ (count_in (counted_to seq counters) +ℤ pos 1) =
    subst (λ n. n ≤ℤ (count_in (counted_to seq counters) +ℤ pos 1)) (sym next)
    (still_low seq (count_in (counted_to seq counters)) step.1) in
    sums_up (count_in counters) (count_in (counted_to seq counters)) (count_in after) (length more)
    (step.1 ∙ one_more (count_in counters) (next_rowid audits) low)
    (one_number_each (counted_to seq counters) (audits ++ r ∷ []) more after step.0 low' are.1)
