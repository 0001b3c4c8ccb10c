-- What is remembered from one transaction to the next.
use Rattle.std.proofs.Common.{rules, ◌≡◌, ◌≤◌, Result, Ok, Err, Option, None, Some, IsTrue, IsOk}
use Rattle.std.proofs.Common.{IfSome, OnErr, inl, false, sym, subst, ◌∙◌, arith}
use Rattle.sqlite.specs.State.{State, HasCleanDisk, IsRolledBack}
use Rattle.sqlite_trees.specs.View.{doubt}
use Rattle.room_remember.specs.{declared.memory.Memory.Memory, Agrees.AgreesWithRows}
use Rattle.room_rows.specs.{declared.keep.KeepFault.KeepFault, Rows.Rows}
use Rattle.store_tables.specs.{Meaning.rows_of, Shown.{HasTables, Stays}, Trust.IsTrusted}
use Rattle.store_tables.specs.{Within.{IsSettled, LeavesAsBefore}, Carries.{ByRows, CallsInside}}
use Rattle.store_tables.{specs.Carries.OnRows, proofs.Calls.retains_same}
use Rattle.store_transaction.specs.{declared.fault.StoreFault.StoreFault, Ending.EndsLook}
use Rattle.store_transaction.specs.{Ending.Settled, Transaction.{Begins, GivesUp}}
use Rattle.room_store.specs.{Ran.{LeavesOpen, Ran}, Remembers.Remembers}
use Rattle.store_request.specs.Inside.{IsKept}
use Rattle.room_store.proofs.Transact.{before, made, never_damage, old_clean, old_open, same_fault}
use Rattle.room_store.proofs.Transact.{undone_at}

-- a call that leaves the database leaves what is remembered of it
pub still : (old new : State) (known : Option Memory) → LeavesOpen old new
    → (HasCleanDisk new → IsTrue new.is_open → new.now ≡ old.now)
    → IfSome known (Remembers old) → IfSome known (Remembers new)
still old new None leaves same remembers = tt
still old new (Some memory) leaves same remembers = λ now open' tables. grind (arith, same, remembers, leaves.clean, leaves.was_open)

-- what is begun with agrees with what was remembered
pub begun_with : (s : State) (kept : Option Memory) (known : Memory)
    → ((rows : Rows) → IfSome kept (λ m. AgreesWithRows m rows) → AgreesWithRows known rows)
    → IfSome kept (Remembers s) → Remembers s known
begun_with s None known agrees remembers = λ _ _ _. agrees (rows_of s.now) tt
begun_with s (Some m) known agrees remembers =
    λ now is_open tables. agrees (rows_of s.now) (remembers now is_open tables)

-- what is remembered agrees as long as the calls are trusted
pub agrees_at : (old begun mid : State) → Begins old begun → Stays begun mid → (known : Memory)
    → Remembers old known → IsTrusted begun mid → AgreesWithRows known (rows_of begun.now)
agrees_at old begun mid begins stays known remembers t =
    let begun_clean : HasCleanDisk begun = omega (arith, stays.within.clean, t.clean) in
    let clean : HasCleanDisk old = subst (λ b. doubt b ≡ 0) begins.same_clean begun_clean in
    let open' : IsTrue old.is_open =
    sym begins.same_open ∙ stays.within.was_open t.clean t.is_open in
    grind (arith, known, remembers, clean, open')

module _ (old begun mid back end : State) (begins : Begins old begun) (stays : Stays begun mid)
    (back_ended : back.in_transaction ≡ false)
    (back_clean : doubt mid.is_clean ≤ doubt back.is_clean)
    (ended : end.in_transaction ≡ false) (clean : doubt back.is_clean ≤ doubt end.is_clean)
    (known kept : Memory) (is_kept : IsKept begun mid known kept)
    (back_crash : LeavesAsBefore mid back) (crash : LeavesAsBefore back end) where
  to_back : HasCleanDisk end → HasCleanDisk back
  to_back h = omega (arith, clean, h)

  was_open : HasCleanDisk end → IsTrue mid.is_open → IsTrue old.is_open
  was_open now = old_open old begun mid back begins stays back_ended back_clean (to_back now)

  was_clean : HasCleanDisk end → HasCleanDisk old
  was_clean now = old_clean old begun mid back begins stays back_ended back_clean (to_back now)

  undone : HasCleanDisk end → IsTrue back.is_open → IsRolledBack mid back → back.now ≡ old.now
  undone now = undone_at old begun mid back begins stays back_ended back_clean (to_back now)

  end_is : HasCleanDisk end → IsRolledBack mid back → Settled back end → end.now ≡ old.now
  end_is now rolled settled = settled.now ∙ undone now settled.was_open rolled

  made' : HasCleanDisk end → IsTrue mid.is_open → HasTables old.now
      → Rattle.room_store.proofs.Transact.Made old begun mid back begins stays back_ended back_clean
  made' now = made old begun mid back begins stays back_ended back_clean (to_back now)

  before' : LeavesAsBefore old end
  before' now db left = search (rules, before, to_back, now, left)

  module _ {X : Type 0} (Blames : Rows → Type 0) (Becomes : Rows → X → Rows → Type 0)
      (now_settled : IsSettled end) where
    looked_well : (x y z : X) → CallsInside begun mid (Ok x) (OnRows Blames) (ByRows Becomes)
        → (HasCleanDisk back → (y ≡ x) × IsRolledBack mid back)
        → (HasCleanDisk end → (z ≡ y) × Settled back end) → Ran old end (Ok z) Blames Becomes
    looked_well x y z carries gives ends =
        let rolled = λ (now : HasCleanDisk end). (gives (to_back now)).1 in
        let settled = λ (now : HasCleanDisk end). (ends now).1 in
        let mid_open = λ (now : HasCleanDisk end). (rolled now).was_open (settled now).was_open in
        let same = λ (now : HasCleanDisk end). end_is now (rolled now) (settled now) in
        record {
          leaves = grind (arith, was_clean, was_open, mid_open);
          answers = λ now. (was_open now (mid_open now), (settled now).is_open);
          committed = λ now. (settled now).committed;
          step = grind (arith, made', mid_open, carries.becomes, ends, gives, to_back, x, same);
          kept = λ _ _. tt;
          tables = λ premise _. subst HasTables (sym (same premise.disk)) premise.tables;
          retains = λ premise _. retains_same old.now end.now (same premise.disk);
          damaged = λ _ _ is. absurd (let e = is in cc);
          lasts = grind (arith, settled);
          spared = λ _. tt;
          crash = λ now db left. inl (before' now db left);
        }

    looked_badly : (fault : StoreFault) (x y : X)
        → (HasCleanDisk back → (y ≡ x) × IsRolledBack mid back)
        → (HasCleanDisk end → EndsLook {X = X} back end (Ok y) (Err fault))
        → Ran {X = X} old end (Err fault) Blames Becomes
    looked_badly fault x y gives ends =
        let rolled = λ (now : HasCleanDisk end). (gives (to_back now)).1 in
        let left = λ (now : HasCleanDisk end). (ends now).2 in
        let same : HasCleanDisk end → IsTrue end.is_open → end.now ≡ old.now =
        λ now open'. (left now).now open' ∙ undone now ((left now).was_open open') (rolled now) in
        record {
          leaves = grind (arith, was_clean, was_open, rolled, left);
          answers = λ _. tt;
          committed = λ _. tt;
          step = λ _. tt;
          kept = same;
          tables = λ premise open'. subst HasTables (sym (same premise.disk open')) premise.tables;
          retains = λ premise open'. retains_same old.now end.now (same premise.disk open');
          damaged = grind (arith, never_damage, ends, same_fault);
          lasts = λ _. tt;
          spared = λ _. before';
          crash = λ now db left. inl (before' now db left);
        }

    never : (HasCleanDisk end → ⊥) → (result : Result X StoreFault)
        → Ran old end result Blames Becomes
    never not' result = grind (arith, not', was_open)
      where
        spares : (result : Result X StoreFault) → OnErr result (LeavesAsBefore old end)
        spares (Ok x) = tt
        spares (Err fault) = before'

    -- a request that only read, and was rolled back
    pub look_ran : (done : Result X KeepFault) (looked result : Result X StoreFault) → IsOk done
        → CallsInside begun mid done (OnRows Blames) (ByRows Becomes)
        → (HasCleanDisk back → GivesUp mid back done looked)
        → (HasCleanDisk end → EndsLook back end looked result) → Ran old end result Blames Becomes
    look_ran (Ok x) (Ok y) (Ok z) is carries gives ends = looked_well x y z carries gives ends
    look_ran (Ok x) (Ok y) (Err fault) is carries gives ends = looked_badly fault x y gives ends
    look_ran (Ok x) (Err why) result is carries gives ends =
        never (λ now. gives (to_back now)) result
    look_ran (Err why) looked result is carries gives ends = absurd (let e = is in cc)

  -- what is remembered after it
  pub look_remembers : {X : Type 0} (done : Result X KeepFault) (looked result : Result X StoreFault)
      (memory : Option Memory) → Remembers old known → IsOk done
      → (HasCleanDisk back → GivesUp mid back done looked)
      → (HasCleanDisk end → EndsLook back end looked result)
      → IfSome memory (λ m. (m ≡ kept) × IsOk looked × IsOk result)
      → IfSome memory (Remembers end)
  look_remembers done looked result None remembers is gives ends h = tt
  look_remembers (Ok x) (Ok y) (Ok z) (Some m) remembers is gives ends h =
      subst (λ q. Remembers end q) (sym h.0) (λ now _ tables.
      let rolled = (gives (to_back now)).1 in
      grind (arith, ends, end_is, rolled, made', rolled.was_open, agrees_at, remembers))
  look_remembers (Ok x) (Ok y) (Err fault) (Some m) remembers is gives ends h = absurd (let e = h.2 in cc)
  look_remembers (Ok x) (Err why) result (Some m) remembers is gives ends h = absurd (let e = h.1 in cc)
  look_remembers (Err why) looked result (Some m) remembers is gives ends h = absurd (let e = is in cc)
