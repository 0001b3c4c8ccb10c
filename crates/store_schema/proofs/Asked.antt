-- What reading the schema's number shows.
use Rattle.std.proofs.Common.{rules, ◌≡◌, ℕ, ℤ, List, [], ◌∷◌, length, map, Result, Ok, Err, Option}
use Rattle.std.proofs.Common.{None, Some, IsTrue, inl, inr, ◌⊎◌, refl, sym, ap, subst, ◌∙◌, true}
use Rattle.std.proofs.Common.{false, Bool, arith, IsPermutation, Vec, Global, IfOk, IfErr}
use Rattle.std.proofs.lemmas.{List.Sorted.length_permutation, Bool.Decides.nat_tests}
use Rattle.std.proofs.Math.Bool.{and-true}
use Rattle.sqlite.specs.declared.{types.Value.TheVariants.Null, error.Error.Error}
use Rattle.sqlite.specs.{declared.error.Error.TheVariants.SqlInputError, Order.{Row, column}}
use Rattle.sqlite.specs.{Ops.{is_true, from_truth}, Program.overlay, Effect.Database}
use Rattle.sqlite.specs.{Effect.RefusesToRead, Command.{Command, TheVariants.{Rows, Select}}}
use Rattle.sqlite.specs.{Clock.timed, Listing.understood, State.{State, HasCleanDisk, Shown}}
use Rattle.sqlite.specs.State.{ShowsRows, FailsToQuery, FailsToShow, IsNotRun, IsTooLate}
use Rattle.sqlite.{specs.State.store_error, proofs.Callers.{IsPlain, one_permutation, reads_as}}
use Rattle.sqlite_resolve.specs.declared.compiled.Compiled.{Compiled}
use Rattle.sqlite_resolve.specs.declared.error.CompileError.{CompileError}
use Rattle.sqlite_trees.specs.declared.error.StoreError.{StoreError, TheVariants.{OutOfMemory, Io}}
use Rattle.sqlite_trees.specs.declared.error.StoreError.TheVariants.{Corrupt, Full, Broken}
use Rattle.sqlite_trees.specs.declared.error.StoreError.TheVariants.{Unstorable}
use Rattle.sqlite_schema.specs.declared.command.Returning.{Returning}
use Rattle.store_tables.specs.{Tables.{no_schema, room_schema}, Within.IsWithin}
use Rattle.store_tables.proofs.{Bare.reads_by, Within.{CommitsNothing, as_before, unchanged_within}}
use Rattle.store_tables.proofs.{Within.{undone_within, wrote_within}, Tests.equals_text}
use Rattle.store_schema.specs.{NewRoom.{is_version, meta_of, number_shown}, Opening.AsksVersion}
use Rattle.store_schema.specs.Opening.{CantBeAsked, IsCalled, IsFailure, IsRefusal, IsUnread}
use Rattle.store_schema.specs.Opening.{ReadsAs, ShowsVersion, number_text}
use Rattle.store_schema.specs.declared.fault.OpenFault.{OpenFault, TheVariants.NotRooms}
use Rattle.store_schema.specs.declared.fault.OpenFault.TheVariants.{OldVersion, NewVersion, Db}
use Rattle.store_schema.{specs.declared.fault.OpenFault.TheVariants.Memory, proofs.Answers.passes}
use Rattle.store_schema.proofs.{Answers.selected, Texts.{asked_bare, asked_is, asked_nowhere}}
use Rattle.store_schema.proofs.Texts.{asked_plain, asks_value, is_rooms}
use Rattle.room_entry.proofs.Facts.Lists.{filter_same}

-- ---- the rows that are shown

told : (b : Bool) → is_true (from_truth (Some b)) ≡ b
told true = refl
told false = refl

pub passes_rooms : (r : Row) → passes (is_rooms ∷ []) [] r ≡ is_version r
passes_rooms r = and-true _ ∙ equals_text (column r 1) _

-- a list that isn't of one row has no number, in whatever order
not_one : (rows : List Row) → (length rows ≡ 1 → ⊥) → number_shown rows ≡ None
not_one [] other = refl
not_one (r ∷ []) other = absurd (other refl)
not_one (r ∷ s ∷ rows) other = refl

same_number : (all rows : List Row) → IsPermutation all rows → number_shown rows ≡ number_shown all
same_number [] rows perm = grind (arith, nat_tests, length_permutation, not_one)
same_number (r ∷ []) rows perm = ap number_shown (one_permutation r rows perm)
same_number (r ∷ s ∷ all) rows perm = grind (arith, nat_tests, length_permutation, not_one)

shown_number : (old new : State) (rows : List Row) → old.now.schema ≡ room_schema
    → Shown number_text [] old new rows → number_shown rows ≡ meta_of old.now
shown_number old new rows has h =
    let read = reads_as number_text
    [] old new room_schema has asks_value asked_is.0 asked_plain asked_is.1 rows h in
    let perm = selected Null 5 (is_rooms ∷ []) _ [] (overlay old.now.trees []) [] rows
    (read.answer Null) in
    same_number _ rows perm
    ∙ ap (λ l. number_shown (map (λ r. column r 2 ∷ []) l))
    (filter_same _ _ passes_rooms (old.now.trees 5))

shown_same : (old new : State) (rows : List Row) → old.now.schema ≡ room_schema
    → Shown number_text [] old new rows → new.now ≡ old.now
unfolding Shown
shown_same old new rows has h =
    let plain = subst IsPlain (ap (λ s. understood s number_text) (sym has) ∙ h.1.is) asked_plain in
    let it = subst (ShowsRows old new number_text h.0 _ rows) plain.0 h.2 in
    it.3.0.now_is

-- ---- what a query inside a transaction leaves

module _ (old new : State) (quiet : CommitsNothing old new)
    (inside : IsTrue old.in_transaction) where
  shows_within : (sql : List ℕ) (c : Compiled) (full : Row) (rows : List Row) (r : Option Returning)
      → ShowsRows old new sql c full rows r → IsWithin old new
  shows_within sql c full rows None h = unchanged_within old new quiet h.3
  shows_within sql c full rows (Some what) h = grind (arith, nat_tests, wrote_within)

  shown_within : (sql : List ℕ) (params : Row) (rows : List Row) → Shown sql params old new rows
      → IsWithin old new
  unfolding Shown
  shown_within sql params rows h = shows_within sql h.0 _ rows h.0.returning h.2

  not_shown : (sql : List ℕ) (c : Compiled) (full : Row) (e : Error) (r : Option Returning)
      → FailsToShow old new sql c full e r → IsWithin old new
  not_shown sql c full e None f = unchanged_within old new quiet f.3
  not_shown sql c full e (Some what) (inl f) = unchanged_within old new quiet f.1
  not_shown sql c full e (Some what) (inr f) = undone_within old new quiet f.3

  failed_within : (sql : List ℕ) (params : Row) (e : Error) → FailsToQuery sql params old new e
      ⊎ IsTooLate sql params old new e → IsWithin old new
  unfolding FailsToQuery IsNotRun
  failed_within sql params e (inl (inl (inl h))) = unchanged_within old new quiet h.1
  failed_within sql params e (inl (inl (inr h))) = undone_within old new quiet h.3
  failed_within sql params e (inl (inr h)) = not_shown sql h.0 _ e h.0.returning h.2
  failed_within sql params e (inr late) = unchanged_within old new quiet late.5

  pub query_within : (sql : List ℕ) (params : Row) (r : Result (Vec Row Global) Error)
      → (HasCleanDisk new → IfOk r (λ rows. Shown sql params old new rows.items))
      → (HasCleanDisk new → IfErr r (λ e. FailsToQuery sql params old new e
      ⊎ IsTooLate sql params old new e)) → IsWithin old new
  query_within sql params (Ok rows) ok err = search (rules, shown_within, params, ok, as_before)
  query_within sql params (Err e) ok err = search (rules, failed_within, params, err, as_before)

-- ---- over a room's tables the text is understood

no_input : (cause : StoreError) (fault : CompileError) → SqlInputError fault ≡ store_error cause → ⊥
no_input OutOfMemory fault e = cc
no_input Io fault e = cc
no_input Corrupt fault e = cc
no_input Full fault e = cc
no_input Broken fault e = cc
no_input Unstorable fault e = cc

-- a query that is refused at its run isn't refused for its text
no_refusal : (limit : Option ℕ) (command : Command) (db : Database) (params : Row)
    (fault : CompileError) → RefusesToRead limit command db params (SqlInputError fault) → ⊥
no_refusal limit (Select q names) db params fault (inl h) = let e = h.0 in cc
no_refusal limit (Select q names) db params fault (inr (inl h)) = let e = h.0 in cc
no_refusal limit (Select q names) db params fault (inr (inr h)) = let e = h.0 in cc
no_refusal limit (Rows values width names) db params fault h = let e = h.0 in cc
no_refusal limit _ db params fault h = let e = h in cc

-- a query that is refused for its text can't be asked
pub refused_text : (old new : State) (fault : CompileError)
    → FailsToQuery number_text [] old new (SqlInputError fault)
    ⊎ IsTooLate number_text [] old new (SqlInputError fault) → CantBeAsked old.now
unfolding FailsToQuery IsNotRun
refused_text old new fault (inl (inl (inl (inl h, same)))) = (h.0, h.1)
refused_text old new fault (inl (inl (inl (inr (c, is, inl h), same)))) = absurd (let e = h.1 in cc)
refused_text old new fault (inl (inl (inl (inr (c, is, inr (inl h)), same)))) =
    absurd (let e = h.1 in cc)
refused_text old new fault (inl (inl (inl (inr (c, is, inr (inr h)), same)))) =
    absurd (let e = h.1 in cc)
refused_text old new fault (inl (inl (inr h))) = absurd (no_input h.0 fault h.1)
refused_text old new fault (inl (inr h)) =
    let none = reads_by number_text asked_bare old.now.schema h.0 h.1.is in
    let fails = subst (FailsToShow old new number_text h.0 (timed [] h.0.formats h.1.now)
    (SqlInputError fault)) none h.2 in
    absurd (no_refusal old.step_limit h.0.command fails.0 (timed [] h.0.formats h.1.now) fault
    fails.2)
refused_text old new fault (inr late) = absurd (let e = late.4 in cc)

understood_here : (old new : State) (fault : CompileError) → old.now.schema ≡ room_schema
    → FailsToQuery number_text [] old new (SqlInputError fault)
    ⊎ IsTooLate number_text [] old new (SqlInputError fault) → ⊥
understood_here old new fault has h =
    search (rules, refused_text, old, new, fault, h, has, asked_plain)

-- ---- over an empty database it isn't

pub shown_nowhere : (old new : State) (rows : List Row) → old.now.schema ≡ no_schema
    → Shown number_text [] old new rows → ⊥
unfolding Shown
shown_nowhere old new rows has h = let e =
    sym asked_nowhere ∙ ap (λ s. understood s number_text) (sym has) ∙ h.1.is in cc

read_as : (old new : State) (c : Compiled) (clock : ℕ) (rows : List Row) (r : Option Returning)
    → ShowsRows old new number_text c (timed [] c.formats clock) rows r
    → ReadsAs old.now c clock rows r
read_as old new c clock rows None h = (h.0, h.1, h.2)
read_as old new c clock rows (Some what) h = tt

shows_version : (old new : State) (rows : List Row) (version : Option ℤ)
    → Shown number_text [] old new rows → number_shown rows ≡ version → ShowsVersion version old.now
unfolding Shown
shows_version old new rows version h is = record {
  command = h.0;
  clock = h.1.now;
  rows = rows;
  is = h.1.is;
  read = read_as old new h.0 h.1.now rows h.0.returning h.2;
  number = is;
}

open_as : (old new : State) (sql : List ℕ) (c : Compiled) (full : Row) (rows : List Row)
    (r : Option Returning) → ShowsRows old new sql c full rows r
    → IsTrue old.is_open × IsTrue new.is_open
open_as old new sql c full rows None h = (h.3.0.was_open, h.3.0.is_open)
open_as old new sql c full rows (Some what) h = (h.1.shown.was_open, h.1.shown.is_open)

shown_open : (old new : State) (sql : List ℕ) (params : Row) (rows : List Row)
    → Shown sql params old new rows → IsTrue old.is_open × IsTrue new.is_open
unfolding Shown
shown_open old new sql params rows h = open_as old new sql h.0 _ rows h.0.returning h.2

refusal_of : (e : Error) (fault : OpenFault) → IsCalled e fault → IsRefusal fault
refusal_of e NotRooms called = tt
refusal_of e (OldVersion n) called = called
refusal_of e (NewVersion n) called = called
refusal_of e Db called = tt
refusal_of e Memory called = tt

-- ---- the call

module _ (old new : State) (quiet : CommitsNothing old new) where
  pub asks_ok : (rows : Vec Row Global) (version : Option ℤ) → version ≡ number_shown rows.items
      → (HasCleanDisk new → Shown number_text [] old new rows.items)
      → AsksVersion old new (Ok version)
  asks_ok rows version is ok = record {
    clean = quiet.clean;
    within = λ inside. query_within old new quiet inside number_text [] (Ok rows) ok (λ _. tt);
    told =
        λ now has. (search (rules, is, shown_number, ok, shown_same));
    empty = λ now has. absurd (shown_nowhere old new rows.items has (ok now));
    shown = search (rules, shown_open, rows.items, ok, shows_version, is);
  }

  pub asks_err : (e : Error) (fault : OpenFault) → IsCalled e fault
      → (HasCleanDisk new → FailsToQuery number_text [] old new e
      ⊎ IsTooLate number_text [] old new e)
      → AsksVersion old new (Err fault)
  asks_err e fault called err = record {
    clean = quiet.clean;
    within = λ inside. query_within old new quiet inside number_text [] (Err e) (λ _. tt) err;
    told = λ now has. by fault called has (err now);
    empty = λ now has. refusal_of e fault called;
    shown = λ now. unread fault called (err now);
  }
    where
      unread : (f : OpenFault) → IsCalled e f → FailsToQuery number_text [] old new e
          ⊎ IsTooLate number_text [] old new e → IsUnread old.now f
      unread NotRooms it h =
          refused_text old new it.0 (search rules)
      unread (OldVersion n) it h = it
      unread (NewVersion n) it h = it
      unread Db it h = tt
      unread Memory it h = tt

      by : (f : OpenFault) → IsCalled e f → old.now.schema ≡ room_schema
          → FailsToQuery number_text [] old new e ⊎ IsTooLate number_text [] old new e → IsFailure f
      by NotRooms it has h =
          understood_here old new it.0 has (search rules)
      by (OldVersion n) it has h = it
      by (NewVersion n) it has h = it
      by Db it has h = tt
      by Memory it has h = tt
