-- Why a query of a room's tables has no answer.
use Rattle.std.proofs.Common.{rules, ◌≡◌, ◌≤◌, ◌+◌, ◌-◌, ◌^◌, ◌⊎◌, ℕ, List, [], length, min, Result}
use Rattle.std.proofs.Common.{Ok, Err, None, Some, Option, IsTrue, IsSome, IfErr, inl, inr, true}
use Rattle.std.proofs.Common.{false, ap, subst, ◌∙◌, arith, append-nil}
use Rattle.std.proofs.lemmas.Bool.Decides.{nat_tests}
use Rattle.sqlite.specs.{Clock.timed, Effect.{Database, RefusesToRead}, Listing.understood}
use Rattle.sqlite.specs.{Listing.reads_listing, Order.Row, State.{State, HasCleanDisk}}
use Rattle.sqlite.specs.State.{FailsToQuery, FailsToShow, HasCause, IsNoStatement, IsNotRun}
use Rattle.sqlite.specs.{State.{IsTooLate, store_error}, declared.error.Error.Error}
use Rattle.sqlite.proofs.Callers.{command_of}
use Rattle.sqlite_resolve.specs.declared.compiled.Compiled.{Compiled}
use Rattle.sqlite_resolve.specs.declared.error.CompileError.{CompileError}
use Rattle.sqlite_schema.specs.declared.command.{Command.Command, Returning.Returning}
use Rattle.sqlite_trees.specs.declared.error.StoreError.{StoreError}
use Rattle.room_rows.specs.declared.keep.KeepFault.{KeepFault, TheVariants.Store}
use Rattle.store_tables.specs.{Seeing.{fault_for, wants_memory}, Tables.room_schema}
use Rattle.store_tables.specs.{Trust.IsTrusted, Failing.{FailsSql, HasFailed, HasRisen}}

-- the text is one statement with so many parameters, which shows no rows that it writes
abbrev pub IsAsked : List ℕ → ℕ → Result Compiled CompileError → Type 0
IsAsked sql count (Ok c) =
    (length sql ≤ c.tail) × (length c.names ≡ count) × (c.formats ≡ []) × (c.returning ≡ None)
IsAsked sql count (Err e) = ⊥

rises : (before after : ℕ) → min (before + 1) (2 ^ 64 - 1) ≤ after → HasRisen before after
rises before after more = grind (arith, nat_tests)

-- why the database has no answer, but for memory
abbrev pub Why : State → State → Error → Type 0
Why old new e = (wants_memory e ≡ true) ⊎ HasFailed old new

by_cause : (old new : State) (e : Error) (cause : StoreError) → e ≡ store_error cause
    → HasCause old new ⊥ cause → IsTrue old.is_open → Why old new e
by_cause old new e cause is has was = grind (arith, nat_tests, rises)

never_some : (r : Option Returning) → r ≡ None → IsSome r → ⊥
never_some None is some = absurd (cc)
never_some (Some what) is some = absurd (cc)

module _ (sql : List ℕ) (params : Row) (command : Command)
    (asked : IsAsked sql (length params) (understood room_schema sql))
    (is : command_of (understood room_schema sql) ≡ command)
    (unlisted : reads_listing room_schema sql ≡ false)
    (refuses : (limit : Option ℕ) (db : Database) (e : Error)
    → RefusesToRead limit command (record db { schema = room_schema }) params e
    → IsSome limit) where
  module _ (old new : State) (has : old.now.schema ≡ room_schema) (is_open : IsTrue new.is_open)
      (e : Error) where
    asked_as : (r : Result Compiled CompileError) → understood old.now.schema sql ≡ r
        → IsAsked sql (length params) r
    asked_as r known = grind (arith, nat_tests)

    is_statement : IsNoStatement old sql params e → ⊥
    is_statement given = grind (arith, nat_tests, asked_as)

    not_run : IsNotRun old new sql params e → Why old new e
    unfolding IsNotRun
    not_run (inl (none, same)) = absurd (is_statement none)
    not_run (inr fails) =
        by_cause old new e fails.0 fails.1 fails.2 (fails.3.was_open is_open)

    shows : (c : Compiled) (full : Row) (r : Option Returning)
        → understood old.now.schema sql ≡ Ok c → full ≡ params → r ≡ None
        → FailsToShow old new sql c full e r → Why old new e
    shows c full (Some what) known all none h = absurd (cc)
    shows c full None known all none (db, source, refused, same) =
        let now : db ≡ old.now = search (rules, db, source) in
        let which : c.command ≡ command = search (rules, known) in
        let P : Command → Row → Database → Type 0 =
        λ k given d. RefusesToRead old.step_limit k d given e in
        let one = subst (λ k. P k full db) which refused in
        let two = subst (λ given. P command given db) all one in
        let three = subst (λ d. P command params d) now two in
        inr (inr (refuses old.step_limit old.now e
        (subst (λ s. P command params (record old.now { schema = s })) has three)))

    pub why_failed : FailsToQuery sql params old new e ⊎ IsTooLate sql params old new e
        → Why old new e
    unfolding FailsToQuery
    why_failed (inl (inl none)) = not_run none
    why_failed (inl (inr (c, it, h))) =
        let known = asked_as (Ok c) it.is in
        shows c (timed params c.formats it.now) c.returning it.is
        (ap (λ formats. timed params formats it.now) known.2 ∙ append-nil params) known.3 h
    why_failed (inr late) =
        absurd (never_some late.0.returning (asked_as (Ok late.0) late.1.is).3 late.2)

  -- the clause of a query
  pub fails_sql : {X : Type 0} (old new : State) (r : Result X Error)
      → (HasCleanDisk new → IfErr r (λ e. FailsToQuery sql params old new e
      ⊎ IsTooLate sql params old new e)) → FailsSql old new r
  fails_sql old new (Ok x) err now is_open has = tt
  fails_sql old new (Err e) err now is_open has = why_failed old new has is_open e (err now)

-- a keeper's fault for that error
pub fails_inside : (begun mid : State) (e : Error) (why : KeepFault) → why ≡ fault_for e
    → (HasCleanDisk mid → IsTrue mid.is_open → begun.now.schema ≡ room_schema → Why begun mid e)
    → IsTrusted begun mid → why ≡ Store → HasFailed begun mid
fails_inside begun mid e why is fails trust store = grind (arith, nat_tests)

-- ---- in a transaction

-- the counts of a transaction around calls: it begins with that of the connection, and without a
-- limit of steps
pub record Counts (old begun mid end : State) : Type 0 where
  pub faults : begun.faults ≡ old.faults
  pub limit : begun.step_limit ≡ None
  pub rise : mid.faults ≤ end.faults

pub around : (old begun mid end : State) → Counts old begun mid end → HasFailed begun mid
    → HasRisen old.faults end.faults
around old begun mid end counts given = grind (arith, nat_tests)
