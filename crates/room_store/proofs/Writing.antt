-- A call of a store that writes, from its beginning to its end.
use Rattle.std.proofs.Common.{◌≡◌, ◌≤◌, Result, OnOk, IsTrue, false}
use Rattle.sqlite_trees.specs.View.{doubt}
use Rattle.sqlite.specs.State.{State, HasCleanDisk}
use Rattle.room_rows.specs.{declared.keep.KeepFault.KeepFault, Rows.Rows, Sound.AreSound}
use Rattle.room_machine.specs.{declared.reply.Reply.Reply, Run.{Asking, event_of, unanswered}}
use Rattle.store_tables.specs.{Within.{IsSettled, LeavesOrCommits}, Carries.{ByRows, CallsInside}}
use Rattle.store_tables.specs.Carries.{OnRows}
use Rattle.store_transaction.specs.{declared.fault.StoreFault.StoreFault, Transaction.Begins}
use Rattle.store_transaction.specs.Transaction.{CommitsSeen, Finishes}
use Rattle.room_store.{specs.{Crash.Outlasts, Leads.Leads, Ran.Ran}, proofs.Leading.IsEvent}
use Rattle.room_store.proofs.{Leading.leading, Outlasting.outlasting, Transact.ran}

module _ {X : Type 0} (Blames : Rows → Type 0) (Becomes : Rows → X → Rows → Type 0)
    (asking : Asking) (reply : X → Reply) where
  -- what it promises
  pub record Writes (old new : State) (result : Result X StoreFault) : Type 0 where
    pub ran : Ran old new result Blames Becomes
    pub leads : Leads old (event_of result (λ x. asking (reply x))) new
    pub outlasts :
        Outlasts old (unanswered result asking) (event_of result (λ x. asking (reply x))) new

  module _ (becomes : (before after : Rows) (x : X) → Becomes before x after → AreSound before
      → IsEvent (asking (reply x)) before after) where
    pub written : (old new : State) (result : Result X StoreFault)
        → Ran old new result Blames Becomes → Writes old new result
    written old new result it = record {
      ran = it;
      leads = leading old new Blames Becomes (λ x. asking (reply x)) becomes result it;
      outlasts = outlasting old new Blames Becomes asking reply becomes result it;
    }

    pub writes : (old begun mid end : State) (done : Result X KeepFault)
        (result : Result X StoreFault)
        → Begins old begun → CallsInside begun mid done (OnRows Blames) (ByRows Becomes)
        → (HasCleanDisk mid → OnOk done (IsTrue mid.is_open)) → end.in_transaction ≡ false
        → doubt mid.is_clean ≤ doubt end.is_clean
        → (HasCleanDisk end → Finishes mid end done result)
        → LeavesOrCommits mid end (CommitsSeen mid done) → IsSettled old → IsSettled end
        → Writes old end result
    writes old begun mid end done result begins carries opens ended clean ends crash settled
        settled' =
        written old end result
        (ran old begun mid end begins carries.stays ended clean Blames Becomes done result carries
        ends opens crash settled settled')
