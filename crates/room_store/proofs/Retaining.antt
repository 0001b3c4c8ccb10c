-- What calls retain.
use Rattle.std.proofs.Common.{arith, rules, Bool, Result, inl, inr}
use Rattle.sqlite.specs.State.{State}
use Rattle.room_rows.specs.Rows.{Rows}
use Rattle.store_tables.proofs.Calls.{retains_on}
use Rattle.room_store.specs.{Asks.Asks, Ran.Ran, Retained.StillHolds}
use Rattle.store_transaction.specs.declared.fault.StoreFault.{StoreFault}

-- a call that writes
pub ran_retains : {X : Type 0} (old new : State) (result : Result X StoreFault)
    (Blames : Rows → Type 0) (Becomes : Rows → X → Rows → Type 0)
    → Ran old new result Blames Becomes → StillHolds old new
ran_retains old new result Blames Becomes ran now = (
  ran.leaves.clean now,
  λ before holds. record {
    seen = search (rules, ran.leaves.was_open, now, ran.tables, retains_on, ran.retains);
    left = λ db left.
        elim (ran.crash now db left) [
          | inl was ↦ holds.left db was
          | inr (is_open, commits) ↦
              let was = holds.seen is_open in
              let c = commits was.0 in
              let it = c.1.0 in (
                it,
                record {
                  room = c.1.1.room;
                  retains = retains_on before old.now.trees it.trees was.1 c.1.1.retains;
                },
                c.1.2,
              )
        ];
  },
)

-- a test whether the connection is shut
pub asked_retains : (old new : State) (result : Result Bool StoreFault) → Asks old new result
    → StillHolds old new
asked_retains old new result asked now = (
  asked.leaves.clean now,
  grind (arith, asked.same, now, asked.leaves.was_open, asked.crash),
)
