-- Calls in a transaction that is committed or rolled back.
use Rattle.std.proofs.Common.{◌≡◌, ◌≤◌, ℕ, Some, Result, Ok, Err, IsTrue, IfOk, OnOk, inl, inr}
use Rattle.std.proofs.Common.{refl, sym, ap, subst, subst₂, ◌∙◌, false, arith}
use Rattle.std.proofs.lemmas.Bool.{cases_Bool}
use Rattle.sqlite_trees.specs.View.{doubt}
use Rattle.sqlite.specs.{Effect.Database, Tree.Trees, declared.error.Error.Error, State.State}
use Rattle.sqlite.specs.{State.{HasCleanDisk, Shows, IsRolledBack}, Steps.FailsToCommit}
use Rattle.room_rows.specs.{declared.keep.KeepFault.KeepFault, Keep.blamed_by, Rows.Rows}
use Rattle.store_tables.specs.{Meaning.rows_of, Shown.{HasTables, IsRoom, Retains, Stays, room_of}}
use Rattle.store_tables.specs.{Shown.tables_of, Trust.IsTrusted, Within.{IsSettled, LeavesAsBefore}}
use Rattle.store_tables.specs.{Within.{LeavesOnly, LeavesOrCommits}, Seeing.wants_memory}
use Rattle.store_tables.specs.Carries.{AnswersOpen, ByRows, CallsInside, OnRows, Reading}
use Rattle.store_tables.proofs.Calls.{retains_same}
use Rattle.store_transaction.specs.declared.fault.StoreFault.{StoreFault, TheVariants.{Memory, Db}}
use Rattle.store_transaction.specs.declared.fault.StoreFault.TheVariants.{Damaged}
use Rattle.store_transaction.specs.Transaction.{Begins, CommitsSeen, Finishes, GivesUp}
use Rattle.store_transaction.specs.Transaction.{commit_fault, fault_as}
use Rattle.room_store.specs.{Premise.StorePremise, Ran.{CommitsAnswer, IsAnswered, LeavesOpen}}
use Rattle.room_store.specs.Ran.{Looked, Ran}
use Rattle.room_rows.specs.declared.keep.KeepFault.TheVariants as keep

-- a commit that fails is no damage
pub never_damage : (why : Error) → commit_fault why ≡ Damaged → ⊥
never_damage why is =
    elim (cases_Bool (wants_memory why)) [
      | inl e ↦ (let known : Memory ≡ Damaged = rw e at is in absurd (cc))
      | inr e ↦ (let known : Db ≡ Damaged = rw e at is in absurd (cc))
    ]

-- the fault of a keeper that a store answers as `Damaged`
damage_of : (why : KeepFault) → fault_as why ≡ Damaged → (id : ℕ) × (blamed_by why ≡ Some id)
damage_of keep.Memory is = absurd (let e = is in cc)
damage_of keep.Store is = absurd (let e = is in cc)
damage_of keep.NoRoot is = (0, refl)
damage_of (keep.Damaged id) is = (id, refl)

pub same_fault : {X : Type 0} {a b : StoreFault} → ◌≡◌ {A = Result X StoreFault} (Err a) (Err b) → a ≡ b
same_fault e = cc

module _ (old begun mid end : State) (begins : Begins old begun) (stays : Stays begun mid)
    (ended : end.in_transaction ≡ false) (clean : doubt mid.is_clean ≤ doubt end.is_clean) where
  pub clean_mid : HasCleanDisk end → HasCleanDisk mid
  clean_mid h = omega arith

  pub old_clean : HasCleanDisk end → HasCleanDisk old
  old_clean h =
      let mid' : HasCleanDisk mid = clean_mid h in
      let begun' : HasCleanDisk begun = omega (arith, stays.within.clean, mid') in
      subst (λ b. doubt b ≡ 0) begins.same_clean begun'

  pub old_open : HasCleanDisk end → IsTrue mid.is_open → IsTrue old.is_open
  old_open now open' = sym begins.same_open ∙ stays.within.was_open (clean_mid now) open'

  -- whatever the tables are, nothing is committed before the end
  committed_mid : HasCleanDisk end → IsTrue mid.is_open → mid.committed ≡ old.now
  committed_mid now open' =
      stays.within.committed (clean_mid now) open' ∙ begins.committed
      ∙ sym (begins.settled (old_open now open'))

  -- what is known of the tables once the calls were made
  pub record Made : Type 0 where
    pub trusted : IsTrusted begun mid
    pub room : IsRoom mid.now
    pub retains : Retains old.now.trees mid.now.trees

  pub made : HasCleanDisk end → IsTrue mid.is_open → HasTables old.now → Made
  made now open' tables =
      let open'' : IsTrue old.is_open = old_open now open' in
      let room : IsRoom old.now = room_of tables (begins.sound open'') in
      let same = begins.settled open'' in
      let one = subst IsRoom (sym begins.now) room in
      let two = subst IsRoom (sym begins.committed) (subst IsRoom same room) in
      record {
        trusted = record { clean = clean_mid now; is_open = open'; now = one; committed = two };
        room = stays.room (clean_mid now) open' two one;
        retains =
            subst (λ (db : Database). Retains db.trees mid.now.trees) (committed_mid now open')
            (stays.retains (clean_mid now) open' two one
            (retains_same _ _ (begins.now ∙ same ∙ sym begins.committed)));
      }

  -- what a crash may leave after the calls it could leave before
  pub before : HasCleanDisk end → (db : Trees) → mid.may_leave db → old.may_leave db
  before now db left = begins.crash db (stays.within.crash (clean_mid now) db left)

  leaves : (HasCleanDisk end → IsTrue end.is_open → IsTrue mid.is_open) → LeavesOpen old end
  leaves was =
      record {
        ended = λ _. ended;
        clean = old_clean;
        was_open = λ now open'. old_open now (was now open');
      }

  pub undone_at : HasCleanDisk end → IsTrue end.is_open → IsRolledBack mid end → end.now ≡ old.now
  undone_at now open' back = (back.undone open').0 ∙ committed_mid now (back.was_open open')

  was_at : IsTrue end.is_open → (why : Error) → FailsToCommit mid end why → IsTrue mid.is_open
  was_at open' why (inl fails) = fails.3.was_open open'
  was_at open' why (inr (is, mode, same)) = same.0.was_open

  left_at : HasCleanDisk end → IsTrue end.is_open → (why : Error) → FailsToCommit mid end why
      → end.now ≡ old.now
  left_at now open' why (inl fails) = undone_at now open' fails.3
  left_at now open' why (inr (is, mode, same)) =
      let settled = stays.within.settled (clean_mid now) same.0.was_open
      (λ off. absurd (let e' = sym off ∙ begins.mode in cc)) mode in
      same.0.now_is ∙ settled ∙ committed_mid now same.0.was_open

  -- a commit that fails leaves what was committed
  kept_at : HasCleanDisk end → IsTrue end.is_open → (why : Error) → FailsToCommit mid end why
      → end.committed ≡ old.committed
  kept_at now open' why (inl fails) =
      (fails.3.undone open').1 ∙ stays.within.committed (clean_mid now) (fails.3.was_open open')
      ∙ begins.committed
  kept_at now open' why (inr (is, mode, same)) =
      same.0.committed_is ∙ stays.within.committed (clean_mid now) same.0.was_open
      ∙ begins.committed

  spared_at : IsSettled old → IsSettled end → IsTrue end.is_open
      → (HasCleanDisk end → IsTrue mid.is_open)
      → (HasCleanDisk end → end.committed ≡ old.committed) → LeavesAsBefore old end
  spared_at settled settled' open' was kept now db left =
      let is = (settled' open').only db left in
      subst old.may_leave (sym (is ∙ ap (λ (d : Database). d.trees) (kept now)))
      (settled (old_open now (was now))).left

  -- what is so of the tables after the calls is so once they are committed
  pub after : {X : Type 0} (P : Database → Type 0) (done : Result X KeepFault)
      (result : Result X StoreFault) → (IsTrusted begun mid → OnOk done (P mid.now))
      → (HasCleanDisk end → Finishes mid end done result) → StorePremise old end
      → OnOk result (P end.now)
  after P (Ok x) (Ok y) holds ends premise =
      let s = (ends premise.disk).2 in
      subst P (sym s.now_is) (holds (made premise.disk s.was_open premise.tables).trusted)
  after P (Ok x) (Err fault) holds ends premise = tt
  after P (Err why) (Ok y) holds ends premise = absurd (ends premise.disk)
  after P (Err why) (Err fault) holds ends premise = tt

  module _ {X : Type 0} (Blames : Rows → Type 0) (Becomes : Rows → X → Rows → Type 0) where
    -- a crash leaves what it could leave before, or what an answer stands for
    abbrev Crashes : Type 0
    Crashes = LeavesOrCommits old end (CommitsAnswer Becomes old)

    answered : HasCleanDisk end → IsTrue mid.is_open → (x : X)
        → (IsTrusted begun mid → Becomes (rows_of begun.now) x (rows_of mid.now))
        → HasTables old.now → IsAnswered Becomes old.now x mid.now
    answered now open' x becomes tables =
        let m = made now open' tables in
        record {
          room = m.room;
          retains = m.retains;
          becomes = subst (λ (d : Database). Becomes (rows_of d) x (rows_of mid.now)) begins.now
              (becomes m.trusted);
        }

    crashes : (done : Result X KeepFault)
        → (IsTrusted begun mid → IfOk done (λ x. Becomes (rows_of begun.now) x (rows_of mid.now)))
        → (HasCleanDisk mid → OnOk done (IsTrue mid.is_open))
        → LeavesOrCommits mid end (CommitsSeen mid done) → Crashes
    crashes (Ok x) becomes opens crash now db left =
        elim (crash now db left) [
          | inl was ↦ inl (before now db was)
          | inr is ↦ (let open' = opens (clean_mid now) in
              inr (
                old_open now open',
                λ tables. (x, (mid.now, answered now open' x becomes tables, is)),
              ))
        ]
    crashes (Err why) becomes opens crash now db left =
        elim (crash now db left) [
          | inl was ↦ inl (before now db was)
          | inr none ↦ absurd none
        ]

    committed : (x y : X) → (HasCleanDisk end → y ≡ x)
        → (IsTrusted begun mid → Becomes (rows_of begun.now) x (rows_of mid.now))
        → (HasCleanDisk end → Shows mid end mid.now mid.now false) → IsSettled end → Crashes
        → Ran old end (Ok y) Blames Becomes
    committed x y same becomes shows settled crash = record {
      leaves = leaves (λ now _. (shows now).was_open);
      answers = λ now. (old_open now (shows now).was_open, (shows now).is_open);
      committed = λ now. (shows now).committed_is ∙ sym (shows now).now_is;
      step = λ premise.
          let s = shows premise.disk in
          let m = made premise.disk s.was_open premise.tables in
          subst (λ z. Becomes (rows_of old.now) z (rows_of end.now)) (sym (same premise.disk))
          (subst₂ (λ a b. Becomes (rows_of a) x (rows_of b)) begins.now (sym s.now_is)
          (becomes m.trusted));
      kept = λ _ _. tt;
      tables = λ premise _.
          let s = shows premise.disk in
          subst HasTables (sym s.now_is)
          (tables_of (made premise.disk s.was_open premise.tables).room);
      retains = λ premise _.
          let s = shows premise.disk in
          subst (λ (db : Database). Retains old.now.trees db.trees) (sym s.now_is)
          (made premise.disk s.was_open premise.tables).retains;
      damaged = λ _ _ is. absurd (let e = is in cc);
      lasts = λ now.
          let s = shows now in
          subst (λ (d : Database). LeavesOnly end d) (s.committed_is ∙ sym s.now_is)
          (settled s.is_open);
      spared = λ _. tt;
      crash = crash;
    }

    given_up : (fault : StoreFault) → (HasCleanDisk end → IsTrue end.is_open → IsTrue mid.is_open)
        → (HasCleanDisk end → IsTrue end.is_open → end.now ≡ old.now)
        → (StorePremise old end → IsTrue end.is_open → fault ≡ Damaged → Blames (rows_of old.now))
        → (IsTrue end.is_open → LeavesAsBefore old end) → Crashes
        → Ran {X = X} old end (Err fault) Blames Becomes
    given_up fault was left damaged spared crash = record {
      leaves = leaves was;
      answers = λ _. tt;
      committed = λ _. tt;
      step = λ _. tt;
      kept = left;
      tables =
          λ premise open'. subst HasTables (sym (left premise.disk open')) premise.tables;
      retains = λ premise open'. retains_same old.now end.now (left premise.disk open');
      damaged = λ premise open' is. damaged premise open' (same_fault is);
      lasts = λ _. tt;
      spared = spared;
      crash = crash;
    }

    blamed : (why : KeepFault) (fault : StoreFault)
        → CallsInside {X = X} begun mid (Err why) (OnRows Blames) (ByRows Becomes)
        → StorePremise old end → IsTrue mid.is_open → fault ≡ fault_as why → fault ≡ Damaged
        → Blames (rows_of old.now)
    blamed why fault carries premise open' is damaged =
        let named = damage_of why (sym is ∙ damaged) in
        let m = made premise.disk open' premise.tables in
        subst (λ db. Blames (rows_of db)) begins.now
        (carries.blames m.trusted named.0 named.1)

    pub ran : (done : Result X KeepFault) (result : Result X StoreFault)
        → CallsInside begun mid done (OnRows Blames) (ByRows Becomes)
        → (HasCleanDisk end → Finishes mid end done result)
        → (HasCleanDisk mid → OnOk done (IsTrue mid.is_open))
        → LeavesOrCommits mid end (CommitsSeen mid done) → IsSettled old → IsSettled end
        → Ran old end result Blames Becomes
    ran (Ok x) (Ok y) carries ends opens crash settled settled' =
        committed x y (λ now. (ends now).0) (λ trust. carries.becomes trust) (λ now. (ends now).2)
        settled' (crashes (Ok x) carries.becomes opens crash)
    ran (Ok x) (Err fault) carries ends opens crash settled settled' =
        given_up fault (λ now open'. was_at open' (ends now).0 (ends now).2)
        (λ now open'. left_at now open' (ends now).0 (ends now).2)
        (λ premise _ is. absurd
        (never_damage (ends premise.disk).0 (sym (ends premise.disk).1 ∙ is)))
        (λ open'. spared_at settled settled' open'
        (λ now. was_at open' (ends now).0 (ends now).2)
        (λ now. kept_at now open' (ends now).0 (ends now).2))
        (crashes (Ok x) carries.becomes opens crash)
    ran (Err why) (Ok y) carries ends opens crash settled settled' = record {
      leaves = leaves (λ now _. absurd (ends now));
      answers = λ now. absurd (ends now);
      committed = λ now. absurd (ends now);
      step = λ premise. absurd (ends premise.disk);
      kept = λ _ _. tt;
      tables = λ premise _. absurd (ends premise.disk);
      retains = λ premise _. absurd (ends premise.disk);
      damaged = λ premise _ _. absurd (ends premise.disk);
      lasts = λ now. absurd (ends now);
      spared = λ _. tt;
      crash = λ now. absurd (ends now);
    }
    ran (Err why) (Err fault) carries ends opens crash settled settled' =
        given_up fault (λ now open'. (ends now).1.was_open open')
        (λ now open'. undone_at now open' (ends now).1)
        (λ premise open' is. blamed why fault carries premise ((ends premise.disk).1.was_open open')
        (ends premise.disk).0 is)
        (λ open'. spared_at settled settled' open' (λ now. (ends now).1.was_open open')
        (λ now. ((ends now).1.undone open').1
        ∙ stays.within.committed (clean_mid now) ((ends now).1.was_open open')
        ∙ begins.committed))
        (crashes (Err why) (λ _. tt) opens crash)

  module _ {X : Type 0} (Blames : Database → Type 0) (Answers : Database → X → Type 0) where
    -- calls that only read, and are rolled back whatever they answer
    look : (result : Result X StoreFault) → (HasCleanDisk end → IsRolledBack mid end)
        → (HasCleanDisk end → OnOk result (IsTrue old.is_open))
        → (StorePremise old end → IfOk result (Answers old.now))
        → (StorePremise old end → IsTrue mid.is_open → result ≡ Err Damaged → Blames old.now)
        → LeavesAsBefore mid end → Looked old end result Blames Answers
    look result back answers answer damaged crash = record {
      leaves = leaves (λ now open'. (back now).was_open open');
      same = λ now open'. undone_at now open' (back now);
      answers = answers;
      answer = answer;
      damaged = λ premise open' is. damaged premise ((back premise.disk).was_open open') is;
      crash = λ now db left. before now db (crash now db left);
    }

    pub looked : (done : Result X KeepFault) (result : Result X StoreFault)
        → CallsInside begun mid done Blames (Reading Answers) → AnswersOpen begun mid done
        → (HasCleanDisk end → GivesUp mid end done result) → LeavesAsBefore mid end
        → Looked old end result Blames Answers
    looked (Ok x) (Ok y) carries opens ends crash =
        look (Ok y) (λ now. (ends now).1) (λ now. sym begins.same_open ∙ (opens (clean_mid now)).0)
        (λ premise.
        let m = made premise.disk (opens (clean_mid premise.disk)).1 premise.tables in
        subst (Answers old.now) (sym (ends premise.disk).0)
        (subst (λ db. Answers db x) begins.now (carries.becomes m.trusted)))
        (λ _ _ is. absurd (let e = is in cc)) crash
    looked (Ok x) (Err fault) carries opens ends crash =
        look (Err fault) (λ now. absurd (ends now)) (λ _. tt) (λ _. tt)
        (λ premise. absurd (ends premise.disk)) crash
    looked (Err why) (Ok y) carries opens ends crash =
        look (Ok y) (λ now. absurd (ends now)) (λ now. absurd (ends now))
        (λ premise. absurd (ends premise.disk)) (λ premise. absurd (ends premise.disk)) crash
    looked (Err why) (Err fault) carries opens ends crash =
        look (Err fault) (λ now. (ends now).1) (λ _. tt) (λ _. tt)
        (λ premise open' is.
        let named = damage_of why (sym (ends premise.disk).0 ∙ same_fault is) in
        let m = made premise.disk open' premise.tables in
        subst Blames begins.now (carries.blames m.trusted named.0 named.1)) crash
