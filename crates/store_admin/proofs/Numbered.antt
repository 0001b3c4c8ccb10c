-- What the queries of the counter of records and of the object of the largest number show.
use Rattle.std.proofs.Common.{◌≡◌, ◌&&◌, ℕ, List, [], ◌∷◌, map, filter, codes, refl, subst, sym, Bool}
use Rattle.std.proofs.Common.{true, false, arith, IsTrue, Ok, Err}
use Rattle.std.proofs.{Math.Bool.and-true, lemmas.List.Sorted.length_permutation}
use Rattle.std.proofs.lemmas.Bool.{false≢true}
use Rattle.sqlite.specs.Effect.{Database}
use Rattle.std.specs.{List.Sorted.IsPermutation}
use Rattle.sqlite.specs.declared.types.Value.TheVariants.{Int, Text}
use Rattle.sqlite.specs.{Listing.{understood, reads_listing}, Order.{Row, column}, State.{State, Shown}}
use Rattle.sqlite.specs.{Term.{Term, col, lit, op2}, Tree.Trees}
use Rattle.sqlite.proofs.Callers.{IsPlain, command_of}
use Rattle.sqlite_resolve.specs.Compile.{first, returning}
use Rattle.sqlite_sql.specs.declared.ops.BinaryOp.TheVariants.{Compare}
use Rattle.sqlite_sql.specs.declared.ops.CompareOp.TheVariants.{Eq, Ge}
use Rattle.sqlite_value.specs.declared.keys.Collation.TheVariants.{Binary}
use Rattle.sqlite_tied.specs.Compute.{everything}
use Rattle.store_tables.specs.{Shown.IsRoom, Tables.room_schema}
use Rattle.store_tables.proofs.{Answers.passes, Bare.LacksReturning, Calls.selects_rows}
use Rattle.store_tables.proofs.{Tests.{at_least_int, equals_text}, Texts.{query_of, selects}}
use Rattle.store_tables.specs.{Trust.{IsTrusted, stays_on, trusted_first, trusted_last}}
use Rattle.store_tables.specs.Carries.{CallsInside, NoTables, Reading}
use Rattle.store_admin.specs.Numbers.{HasNumbers, HasObjectNumbers, HasRecordNumbers, ShowsLast}
use Rattle.store_admin.specs.Numbers.{ShowsSpent, is_last, is_spent, largest}
use Rattle.room_rows.specs.declared.keep.KeepFault.{KeepFault}
use Rattle.room_entry.proofs.Facts.Lists.{filter_same}

abbrev pub spent_text : List ℕ
spent_text =
    codes "SELECT seq FROM sqlite_sequence WHERE name = 'audits' AND seq >= 9223372036854775807"

abbrev tests : List Term
tests = op2 (Compare Eq Binary) (col 1 1) (lit (Text (codes "audits")))
    ∷ op2 (Compare Ge Binary) (col 1 2) (lit (Int largest)) ∷ []

spent_is : (command_of (understood room_schema spent_text)
    ≡ selects (query_of 8 tests (col 1 2 ∷ []) []) (codes "seq" ∷ []))
    × (reads_listing room_schema spent_text ≡ false)
unfolding understood everything
spent_is = (refl, refl)

plain_spent : IsPlain (understood room_schema spent_text)
unfolding understood everything
plain_spent = (refl, refl)

pub bare_spent : LacksReturning spent_text
unfolding first returning everything
bare_spent = λ schema base. refl

passes_spent : (r : Row) → passes tests [] r ≡ is_spent r
passes_spent r = cc (
  equals_text (column r 1) (codes "audits"),
  at_least_int (column r 2) largest,
  and-true _,
)

pub shows_spent : (old new : State) (rows : List Row) → IsRoom old.now
    → Shown spent_text [] old new rows → ShowsSpent old.now.trees rows
shows_spent old new rows room h =
    subst (λ (kept : List Row). IsPermutation (map (λ r. column r 2 ∷ []) kept) rows)
    (filter_same (passes tests []) is_spent passes_spent (old.now.trees 8))
    (selects_rows spent_text [] old new 8 tests (col 1 2 ∷ []) [] (codes "seq" ∷ []) spent_is
    plain_spent room.schema rows h)

-- ---- the object of the largest number

abbrev pub last_text : List ℕ
last_text = codes "SELECT id FROM nodes WHERE id >= 9223372036854775807"

abbrev last_tests : List Term
last_tests = op2 (Compare Ge Binary) (col 1 0) (lit (Int largest)) ∷ []

last_is : (command_of (understood room_schema last_text)
    ≡ selects (query_of 0 last_tests (col 1 0 ∷ []) []) (codes "id" ∷ []))
    × (reads_listing room_schema last_text ≡ false)
unfolding understood everything
last_is = (refl, refl)

plain_last : IsPlain (understood room_schema last_text)
unfolding understood everything
plain_last = (refl, refl)

pub bare_last : LacksReturning last_text
unfolding first returning everything
bare_last = λ schema base. refl

passes_last : (r : Row) → passes last_tests [] r ≡ is_last r
passes_last r = cc (at_least_int (column r 0) largest, and-true _)

pub shows_last : (old new : State) (rows : List Row) → IsRoom old.now
    → Shown last_text [] old new rows → ShowsLast old.now.trees rows
shows_last old new rows room h =
    subst (λ (kept : List Row). IsPermutation (map (λ r. column r 0 ∷ []) kept) rows)
    (filter_same (passes last_tests []) is_last passes_last (old.now.trees 0))
    (selects_rows last_text [] old new 0 last_tests (col 1 0 ∷ []) [] (codes "id" ∷ []) last_is
    plain_last room.schema rows h)

-- ---- no row is shown

module _ (f : Row → Row) where
  none_shown : (all rows : List Row) → IsPermutation (map f all) rows
      → (rows ≡ [] → all ≡ []) × (all ≡ [] → rows ≡ [])
  none_shown [] [] perm = (λ is. refl, λ is. refl)
  none_shown [] (r ∷ rows) perm = absurd (let e = length_permutation _ _ perm in omega (arith, e))
  none_shown (r ∷ all) [] perm = absurd (let e = length_permutation _ _ perm in omega (arith, e))
  none_shown (r ∷ all) (s ∷ rows) perm =
      (λ is. absurd (let e = is in cc), λ is. absurd (let e = is in cc))

-- no row is shown where no counter is spent
pub tells_spent : (db : Trees) (rows : List Row) → ShowsSpent db rows
    → (rows ≡ [] → filter is_spent (db 8) ≡ []) × (filter is_spent (db 8) ≡ [] → rows ≡ [])
tells_spent db rows shows = none_shown (λ r. column r 2 ∷ []) (filter is_spent (db 8)) rows shows

-- nor where no object has the largest number
pub tells_last : (db : Trees) (rows : List Row) → ShowsLast db rows
    → (rows ≡ [] → filter is_last (db 0) ≡ []) × (filter is_last (db 0) ≡ [] → rows ≡ [])
tells_last db rows shows = none_shown (λ r. column r 0 ∷ []) (filter is_last (db 0)) rows shows

-- ---- both

abbrev Says : (Database → Type 0) → Database → Bool → Type 0
Says Has db left = (IsTrue left → Has db) × (Has db → IsTrue left)

both_by : (db : Database) (records objects : Bool) → Says HasRecordNumbers db records
    → Says HasObjectNumbers db objects → Says HasNumbers db (records && objects)
both_by db true true r o =
    (λ _. record { records = r.0 refl; objects = o.0 refl }, λ _. refl)
both_by db true false r o = (λ e. absurd (false≢true e), λ has. o.1 has.objects)
both_by db false objects r o = (λ e. absurd (false≢true e), λ has. r.1 has.records)

module _ (a b c : State) (records : Bool)
    (first : CallsInside a b (Ok records) NoTables (Reading (Says HasRecordNumbers)))
    (same : IsTrusted a b → b.now ≡ a.now) where
  pub both : (objects left : Bool) → left ≡ (records && objects)
      → CallsInside b c (Ok objects) NoTables (Reading (Says HasObjectNumbers))
      → CallsInside a c (Ok left) NoTables (Reading (Says HasNumbers))
  both objects left is second = record {
    stays = stays_on a b c first.stays second.stays;
    becomes = λ trust.
        let before = trusted_first a b c first.stays second.stays trust in
        let last = trusted_last a b c first.stays second.stays trust in
        subst (Says HasNumbers a.now) (sym is)
        (both_by a.now records objects (first.becomes before)
        (subst (λ (db : Database). Says HasObjectNumbers db objects) (same before)
        (second.becomes last)));
    blames = λ trust id is. absurd is;
  }

  pub not_both : (why : KeepFault)
      → CallsInside b c (Err why) NoTables (Reading (Says HasObjectNumbers))
      → CallsInside a c (Err why) NoTables (Reading (Says HasNumbers))
  not_both why second = record {
    stays = stays_on a b c first.stays second.stays;
    becomes = λ _. tt;
    blames = λ trust id is.
        second.blames (trusted_last a b c first.stays second.stays trust) id is;
  }
