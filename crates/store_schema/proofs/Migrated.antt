-- A transaction that upgrades a room is committed, or its commit fails.
use Rattle.std.proofs.Common.{rules, ◌≡◌, ◌≤◌, [], pos, Result, Ok, Err, IsErrAnd, IsTrue, sym, ap}
use Rattle.std.proofs.{Common.{subst, ◌∙◌, false, inl, inr, arith}, lemmas.Bool.Decides.nat_tests}
use Rattle.sqlite_trees.specs.View.{doubt}
use Rattle.sqlite.specs.{Effect.{Database, IsDatabase}, State.{State, HasCleanDisk, KeepsCounts}}
use Rattle.sqlite.specs.{State.{Shows, Survives}, Steps.FailsToCommit, declared.error.Error.Error}
use Rattle.store_tables.specs.{Tables.no_schema, Shown.{HasTables, IsRoom, room_of}}
use Rattle.store_tables.specs.Within.{IsSettled, LeavesOrCommits}
use Rattle.store_schema.specs.{NewRoom.meta_of, Opening.{AnswersVersion, IsFailure, IsRefusal}}
use Rattle.store_schema.specs.{Opening.Says, Migrating.{AnswersMigration, CommitsMigration}}
use Rattle.store_schema.specs.Migrating.{IsInside, IsMigratedRoom, IsNoRoom, Migrates}
use Rattle.store_schema.specs.declared.fault.MigrateFault.{MigrateFault, TheVariants.Opening}
use Rattle.store_schema.specs.declared.fault.OpenFault.{OpenFault, TheVariants.NotRooms}
use Rattle.store_schema.specs.declared.fault.OpenFault.TheVariants.{OldVersion, NewVersion, Db}
use Rattle.store_schema.specs.declared.fault.OpenFault.TheVariants.{Memory}
use Rattle.store_schema.proofs.Ended.{Begins, clean_mid, failed_back, left_first, open_first}
use Rattle.store_schema.proofs.Ended.{open_mid, since}

-- the failure of a database says nothing of its tables
says : (db : Database) (fault : OpenFault) → IsFailure fault
    → Says (pos 1) (meta_of db) (Err fault)
says db NotRooms fails = absurd fails
says db (OldVersion n) fails = absurd fails
says db (NewVersion n) fails = absurd fails
says db Db fails = tt
says db Memory fails = tt

answers : (db : Database) (fault : OpenFault) → IsFailure fault
    → AnswersVersion (pos 1) db (Err fault)
answers db NotRooms fails = absurd fails
answers db (OldVersion n) fails = absurd fails
answers db (NewVersion n) fails = absurd fails
answers db Db fails = tt
answers db Memory fails = tt

refuses : (fault : OpenFault) → IsFailure fault → IsRefusal fault
refuses NotRooms fails = tt
refuses (OldVersion n) fails = fails
refuses (NewVersion n) fails = fails
refuses Db fails = tt
refuses Memory fails = tt

module _ (old begun mid end : State) (begins : Begins old begun)
    (sound : IsTrue old.is_open → IsDatabase old.now) (ended : end.in_transaction ≡ false) where
  module _ {r : Result (Unit {0}) MigrateFault} (clean : doubt mid.is_clean ≤ doubt end.is_clean)
      (inside : IsInside begun mid r) where
    since' : doubt old.is_clean ≤ doubt end.is_clean
    since' = since old begun mid end begins clean inside.within

    clean_mid' : HasCleanDisk end → HasCleanDisk mid
    clean_mid' = clean_mid old begun mid end begins clean inside.within

    open_first' : HasCleanDisk end → IsTrue mid.is_open → IsTrue old.is_open
    open_first' = open_first old begun mid end begins clean inside.within

    room_now : HasCleanDisk end → IsTrue mid.is_open → HasTables old.now → IsRoom begun.now
    room_now now open' tables =
        subst IsRoom (sym begins.now) (room_of tables (sound (open_first' now open')))

    room_committed : HasCleanDisk end → IsTrue mid.is_open → HasTables old.now
        → IsRoom begun.committed
    room_committed now open' tables = grind (arith, nat_tests, open_first')

    -- what is shown of the tables in the transaction is shown of them as they were
    shown_first : HasCleanDisk end → AnswersMigration old.now r
    shown_first now =
        subst (λ (d : Database). AnswersMigration d r) begins.now (inside.shown (clean_mid' now))

    empty_mid : HasCleanDisk end → old.now.schema ≡ no_schema → IsErrAnd r IsNoRoom
    empty_mid now has =
        inside.empty (clean_mid' now) (ap (λ (d : Database). d.schema) begins.now ∙ has)

  module _ (inside : IsInside begun mid (Ok tt))
      (survives : Survives mid end (λ db. db ≡ mid.now.trees)) where
    upgraded : HasCleanDisk end → HasTables old.now → IsMigratedRoom old.now mid.now
    upgraded now tables =
        let clean = clean_mid' survives.clean inside now in
        let open' = inside.opens clean in
        let settled = begins.settled (open_first' survives.clean inside now open') in
        let committed = room_committed survives.clean inside now open' tables in
        search (rules, room_now, now, open', tables, clean, committed, settled)

    -- whatever the commit answers, nothing but the room upgraded can have been committed
    crash : LeavesOrCommits old end (CommitsMigration old.now)
    crash = λ now db left.
        elim (survives.crash now db left) [
          | inl was ↦ search (rules, left_first, was)
          | inr is ↦ search (rules, shown_first, upgraded, is)
        ]

    -- the commit failed
    pub not_committed : (fault : OpenFault) → IsFailure fault → (why : Error)
        → (HasCleanDisk end → FailsToCommit mid end why) → Migrates old end (Err (Opening fault))
    not_committed fault fails why err =
        grind (
          arith,
          nat_tests,
          answers,
          crash,
          failed_back,
          open_first',
          open_mid,
          refuses,
          says,
          since',
        )

    pub committed : IsSettled end
        → (HasCleanDisk end → IsTrue mid.in_transaction × Shows mid end mid.now mid.now false
        × KeepsCounts mid end × (end.marks ≡ [])) → Migrates old end (Ok tt)
    committed settles ok =
        grind (
          arith,
          nat_tests,
          answers,
          crash,
          empty_mid,
          open_first',
          shown_first,
          since',
          upgraded,
        )
