-- What a statement inside a transaction leaves, whatever the tables are.
use Rattle.std.proofs.{Common.{◌≡◌, IsTrue, true, arith}, lemmas.Bool.Decides.nat_tests}
use Rattle.sqlite_trees.specs.{Tree.Trees, declared.store.Store.Ghosts}
use Rattle.sqlite.specs.{Held.{Held, state}, State.{State, Survives, IsUnchanged, IsRolledBack}}
use Rattle.sqlite.specs.State.{Shows}
use Rattle.store_tables.specs.Within.{IsSettled, IsWithin, LeavesAsBefore}

-- no fault is forgotten, and a crash leaves nothing new
abbrev pub CommitsNothing : State → State → Type 0
CommitsNothing old new = Survives old new (λ _. ⊥)

module _ (old new : State) (quiet : CommitsNothing old new) where
  pub as_before : LeavesAsBefore old new
  as_before = grind (arith, nat_tests)

  -- a call that leaves the state unchanged commits nothing
  pub unchanged_within : IsUnchanged old new → IsWithin old new
  unchanged_within h = grind (arith, nat_tests, as_before)

  -- nor does one that undoes the transaction
  pub undone_within : IsRolledBack old new → IsWithin old new
  undone_within h = grind (arith, nat_tests, as_before)

  -- nor does a write that leaves the transaction open
  pub wrote_within : Shows old new new.now old.committed true → IsWithin old new
  wrote_within h = grind (arith, nat_tests, as_before)

-- while a connection is open, a crash leaves its last commit, by the laws of its store
pub settled_by : {S : Type 0} (g : Ghosts S) (h : Held S)
    → ((db : Trees) → IsTrue (g.view h.store).is_open → g.recovers h.store db
    → db ≡ (g.view h.store).committed)
    → (IsTrue (g.view h.store).is_open → g.recovers h.store (g.view h.store).committed)
    → IsSettled (state g h)
settled_by g h only left = grind (arith, nat_tests)
