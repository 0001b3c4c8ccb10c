-- What the query of all records shows, and what it is read as.
use Rattle.std.proofs.Common.{◌≡◌, ◌&&◌, ℕ, negsuc, List, [], ◌∷◌, map, codes, Bool, Option, Some}
use Rattle.std.proofs.Common.{None, Vec, Global, refl, ap, ◌∙◌, true, false, Less, ◌⊎◌, inl, inr}
use Rattle.std.proofs.{Common.{lit≤, Result, IfErr, IsSome, arith}, lemmas.Bool.Decides.nat_tests}
use Rattle.std.specs.{Prelude.{MatchOption, is_some}, List.{cons_option, filter_map, list_all}}
use Rattle.sqlite.specs.declared.{types.Value.TheVariants.{Null, Int}, error.Error.Error}
use Rattle.sqlite.specs.{Effect.{Database, RefusesToRead}, Listing.{understood, reads_listing}}
use Rattle.sqlite.specs.{Order.{Row, value_cmp}, Program.overlay, Query.Query, State.State}
use Rattle.sqlite.specs.{State.{FailsToQuery, HasCleanDisk, IsTooLate, Shown}, Term.{Term, col}}
use Rattle.sqlite.{specs.{Term.lit, Tree.rowid}, proofs.Callers.{IsPlain, command_of, reads_as}}
use Rattle.sqlite_resolve.specs.Compile.{first, returning}
use Rattle.store_tables.proofs.{Bare.LacksReturning, Answers.passes, Ordered.as_stored}
use Rattle.store_tables.proofs.{Texts.{ascending_by, query_of, selects}, Failing.IsAsked}
use Rattle.store_tables.{proofs.Failing.fails_sql, specs.{Meaning.audit_in, Shown.IsRoom}}
use Rattle.store_tables.specs.{Tables.room_schema, Failing.FailsSql}
use Rattle.sqlite_tied.specs.Compute.{everything}
use Rattle.sqlite_keyed.proofs.ListLemmas.{ascending-filter}
use Rattle.room_rows.specs.declared.node.AuditRow.{AuditRow}
use Rattle.store_admin.specs.Operating.{AreRecords, HasRecords, HasUnreadRecord, record_seen}
use Rattle.store_admin.specs.Operating.{shown_record}
use Rattle.room_entry.proofs.Facts.Lists.{filter_all}

abbrev pub records_text : List ℕ
records_text = codes "SELECT at, user, path, bits, granted, entry FROM audits ORDER BY seq"

abbrev columns : List Term
columns = col 1 2 ∷ col 1 3 ∷ col 1 4 ∷ col 1 5 ∷ col 1 6 ∷ col 1 7 ∷ []

abbrev names : List (List ℕ)
names = codes "at" ∷ codes "user" ∷ codes "path" ∷ codes "bits" ∷ codes "granted" ∷ codes "entry"
    ∷ []

abbrev asked : Query
asked = query_of 7 [] columns (ascending_by 0 ∷ [])

records_are : (command_of (understood room_schema records_text) ≡ selects asked names)
    × (reads_listing room_schema records_text ≡ false)
unfolding understood everything
records_are = (refl, refl)

plain_records : IsPlain (understood room_schema records_text)
unfolding understood everything
plain_records = (refl, refl)

pub bare_records : LacksReturning records_text
unfolding first returning everything
bare_records = λ schema base. refl

asked_records : IsAsked records_text 0 (understood room_schema records_text)
unfolding understood everything
asked_records = (lit≤ tt, refl, refl, refl)

refused_records : (limit : Option ℕ) (db : Database) (e : Error)
    → RefusesToRead limit (selects asked names) (record db { schema = room_schema }) [] e
    → IsSome limit
unfolding everything
refused_records limit db e (inl (told, untyped)) =
    absurd (let x : true ≡ false = untyped in cc)
refused_records limit db e (inr (inl (told, inl grouped))) = absurd grouped
refused_records limit db e (inr (inl (told, inr folded))) = absurd folded.4
refused_records limit db e (inr (inr (told, limited))) = limited

pub fails_records : (old new : State) (r : Result (Vec Row Global) Error)
    → (HasCleanDisk new → IfErr r (λ e. FailsToQuery records_text [] old new e
    ⊎ IsTooLate records_text [] old new e)) → FailsSql old new r
fails_records old new r err =
    fails_sql records_text [] (selects asked names) asked_records records_are.0 records_are.1
    refused_records old new r err

pub shows_records : (old new : State) (rows : List Row) → IsRoom old.now
    → Shown records_text [] old new rows → HasRecords old.now.trees rows
shows_records old new rows room h =
    let read = reads_as records_text [] old new room_schema room.schema (selects asked names)
    records_are.0 plain_records records_are.1 rows h in
    let up = ascending-filter (λ a b. value_cmp (rowid a) (rowid b) ≡ Less) (passes [] [])
    (old.now.trees 7) room.audits.0 in
    as_stored 7 0 [] columns (lit (Int (negsuc 0))) (overlay old.now.trees []) [] rows
    (read.answer Null) up ∙ ap (λ l. map shown_record l) (filter_all (old.now.trees 7))

-- ---- as records

pub all_seen : (table : List Row)
    → list_all (λ r. is_some (record_seen r)) (map shown_record table)
    ≡ list_all (λ r. is_some (audit_in r)) table
all_seen [] = refl
all_seen (r ∷ table) = ap (λ b. is_some (audit_in r) && b) (all_seen table)

pub records_shown : (table : List Row)
    → filter_map record_seen (map shown_record table) ≡ filter_map audit_in table
records_shown [] = refl
records_shown (r ∷ table) = ap (cons_option (audit_in r)) (records_shown table)

-- ---- what holds of the shown rows holds of the table

abbrev is_read : Row → Bool
is_read r = is_some (record_seen r)

abbrev Told : List Row → Option (Vec AuditRow Global) → Type 0
Told shown o =
    MatchOption o (list_all is_read shown ≡ false)
    (λ records. (list_all is_read shown ≡ true) × (records.items ≡ filter_map record_seen shown))

pub tells_records : (db : Database) (rows shown : List Row) → shown ≡ rows
    → HasRecords db.trees rows → (o : Option (Vec AuditRow Global)) (records : Vec AuditRow Global)
    → o ≡ Some records → Told shown o → AreRecords db records.items
tells_records db rows shown same has o records is told =
    grind (arith, nat_tests, all_seen, records_shown)

pub tells_unread : (db : Database) (rows shown : List Row) → shown ≡ rows
    → HasRecords db.trees rows → (o : Option (Vec AuditRow Global)) → o ≡ None → Told shown o
    → HasUnreadRecord db
tells_unread db rows shown same has o is told = grind (arith, nat_tests, all_seen)
