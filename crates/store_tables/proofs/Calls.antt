-- What a read or a failure leaves of a connection.
use Rattle.std.proofs.Common.{◌≡◌, ℕ, List, [], ◌++◌, Result, Ok, Err, Option, inl, inr, ◌⊎◌, map}
use Rattle.std.proofs.Common.{filter, ap, ◌∙◌, false, IfOk, OnOk, Vec, Global, arith, ◌∷◌, subst}
use Rattle.std.proofs.{Common.{subst₂, sym}, lemmas.List.{append-nil, append_assoc}}
use Rattle.std.proofs.lemmas.{List.Elements.{All-append, All-nil}, Bool.Decides.nat_tests}
use Rattle.std.specs.List.Sorted.{IsPermutation}
use Rattle.sqlite.specs.{declared.{types.Value.TheVariants.Null, error.Error.Error}, Order.Row}
use Rattle.sqlite.specs.{Effect.Database, Program.overlay, Tree.Trees, Term.Term}
use Rattle.sqlite.specs.{Listing.{understood, reads_listing}, State.{State, HasCleanDisk}}
use Rattle.sqlite.specs.State.{IsUnchanged, IsRolledBack, Shown, FailsToQuery, IsNotRun}
use Rattle.sqlite.{specs.State.FailsToShow, proofs.Callers.{IsPlain, command_of, reads_as}}
use Rattle.sqlite_value.specs.declared.keys.Key.{Key}
use Rattle.sqlite_resolve.specs.declared.compiled.Compiled.{Compiled}
use Rattle.sqlite_schema.specs.declared.command.Returning.{Returning}
use Rattle.store_tables.specs.{Counters.{AreCounted, counted_to, next_record}, Tables.room_schema}
use Rattle.store_tables.specs.{Meaning.IsRecord, Shown.{Retains, Stays}, Printed.KeepsPrinted}
use Rattle.store_tables.proofs.{Texts.{query_of, selects}, Answers.{passes, shows, selected}}
use Rattle.store_tables.proofs.{Bare.{IsReading, shown_same}, Printed.{keeps_on, keeps_itself}}
use Rattle.store_tables.proofs.Within.{CommitsNothing, as_before, unchanged_within, undone_within}

-- ---- what is retained

-- where `meta`, `audits` and the counters are as they were, no record is lost or added
pub retains_by : (db next : Trees) → next 5 ≡ db 5 → next 7 ≡ db 7 → next 8 ≡ db 8
    → KeepsPrinted (db 0) (next 0) → Retains db next
retains_by db next meta audits counters texts = record {
  meta = meta;
  more = [];
  audits = audits ∙ sym (append-nil (db 7));
  records = All-nil IsRecord;
  counters = counters;
  texts = texts;
}

-- records that are counted, and then others, are counted together
pub counted_on : (counters audits first then mid last : List Row)
    → AreCounted counters audits first mid → AreCounted mid (audits ++ first) then last
    → AreCounted counters audits (first ++ then) last
counted_on counters audits [] then mid last p q =
    subst₂ (λ c a. AreCounted c a then last) p (append-nil audits) q
counted_on counters audits (r ∷ first) then mid last p q = (
  p.0,
  counted_on (counted_to (next_record counters audits) counters) (audits ++ r ∷ []) first then mid
      last p.1
      (subst (λ a. AreCounted mid a then last) (sym (append_assoc audits (r ∷ []) first)) q),
)

-- two changes, each of which keeps `meta` and all records, keep them together
pub retains_on : (a b c : Trees) → Retains a b → Retains b c → Retains a c
retains_on a b c p q =
    record {
      meta = q.meta ∙ p.meta;
      more = p.more ++ q.more;
      audits = q.audits ∙ ap (λ l. l ++ q.more) p.audits ∙ append_assoc (a 7) p.more q.more;
      records = All-append IsRecord p.more q.more p.records q.records;
      counters =
          counted_on (a 8) (a 7) p.more q.more (b 8) (c 8) p.counters
          (subst (λ l. AreCounted (b 8) l q.more (c 8)) p.audits q.counters);
      texts = keeps_on (a 0) (b 0) (c 0) p.texts q.texts;
    }

-- a database that is as it was has `meta` and all its records
pub retains_same : (db next : Database) → next ≡ db → Retains db.trees next.trees
retains_same db next same = grind (arith, nat_tests, keeps_itself, retains_by)

retains_at : (a b c d : Database) → c ≡ a → d ≡ b → Retains a.trees b.trees
    → Retains c.trees d.trees
retains_at a b c d one two h = grind (arith, nat_tests)

-- ---- calls

module _ (old new : State) (quiet : CommitsNothing old new) where
  -- a call that leaves the state unchanged leaves all that any call has to
  pub unchanged_stays : IsUnchanged old new → Stays old new
  unchanged_stays h = grind (arith, nat_tests, retains_at, unchanged_within)

  -- so does one that undoes the transaction, after which what was committed is seen
  pub rolled_back_stays : IsRolledBack old new → Stays old new
  rolled_back_stays h = grind (arith, nat_tests, retains_same, undone_within)

  -- and so does one that either leaves the state or undoes the transaction
  pub left_stays : IsUnchanged old new ⊎ IsRolledBack old new → Stays old new
  left_stays (inl same) = unchanged_stays same
  left_stays (inr undone) = rolled_back_stays undone

  -- what is so of the end of a clean disk is so of the call
  pub stays_by : (HasCleanDisk new → Stays old new) → Stays old new
  stays_by h = grind (arith, nat_tests, as_before)

not_shown : (sql : List ℕ) (c : Compiled) (full : Row) (old new : State) (e : Error)
    (r : Option Returning) → FailsToShow old new sql c full e r → IsUnchanged old new
    ⊎ IsRolledBack old new
not_shown sql c full old new e r f = grind (arith, nat_tests)

-- a query that is refused or fails leaves all, or the transaction is undone
pub failed_query : (sql : List ℕ) (params : Row) (old new : State) (e : Error)
    → FailsToQuery sql params old new e → IsUnchanged old new ⊎ IsRolledBack old new
unfolding FailsToQuery IsNotRun
failed_query sql params old new e (inl (inl h)) = inl h.1
failed_query sql params old new e (inl (inr h)) = inr h.3
failed_query sql params old new e (inr h) = not_shown sql h.0 _ old new e h.0.returning h.2

-- what a text that selects from one table shows
pub selects_rows : (sql : List ℕ) (params : Row) (old new : State) (tree : ℕ)
    (tests terms : List Term) (order : List (Term × Key)) (names : List (List ℕ))
    → (command_of (understood room_schema sql) ≡ selects (query_of tree tests terms order) names)
    × (reads_listing room_schema sql ≡ false) → IsPlain (understood room_schema sql)
    → old.now.schema ≡ room_schema
    → (rows : List Row) → Shown sql params old new rows
    → IsPermutation (map (shows terms params)
    (filter (passes tests params) (overlay old.now.trees [] tree))) rows
selects_rows sql params old new tree tests terms order names is plain has rows h =
    let read = reads_as sql params old new room_schema has _ is.0 plain is.1 rows h in
    selected Null tree tests terms order (overlay old.now.trees []) params rows (read.answer Null)

-- a query that answered Ok changed nothing; of an error nothing is said
pub same_ok : (sql : List ℕ) (params : Row) (old new : State) (r : Result (Vec Row Global) Error)
    → IsReading sql → IfOk r (λ rows. Shown sql params old new rows.items)
    → OnOk r (IsUnchanged old new)
same_ok sql params old new (Ok rows) reads h = shown_same sql params old new rows.items reads h
same_ok sql params old new (Err e) reads h = tt
