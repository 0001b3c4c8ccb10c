-- What a call inside a transaction leaves, whatever the tables are, and what a crash leaves of it.
use Rattle.std.specs.Prelude.{◌≡◌, ◌≤◌, ◌⊎◌, IsTrue, false, refl}
use Rattle.std.proofs.Common.{◌∙◌, arith}
use Rattle.sqlite_trees.specs.Tree.{Trees}
use Rattle.sqlite_trees.specs.View.{doubt}
use Rattle.sqlite.specs.Effect.{Database}
use Rattle.sqlite.specs.State.{State, HasCleanDisk}

-- ---- crashes

-- A crash may leave what it could leave before.
abbrev pub LeavesAsBefore : State → State → Type 0
LeavesAsBefore old new = HasCleanDisk new → (db : Trees) → new.may_leave db → old.may_leave db

-- A crash may leave what it could leave before, or what the call commits, and nothing between.
abbrev pub LeavesOrCommits : State → State → (Trees → Type 0) → Type 0
LeavesOrCommits old new Commits =
    HasCleanDisk new → (db : Trees) → new.may_leave db → old.may_leave db ⊎ Commits db

-- the trees of such a database
abbrev pub TreesOf : (Database → Type 0) → Trees → Type 0
TreesOf Is db = (it : Database) × Is it × (db ≡ it.trees)

-- A crash leaves this database and nothing else.
pub record LeavesOnly (s : State) (db : Database) : Type 0 where
  pub left : s.may_leave db.trees
  pub only : (other : Trees) → s.may_leave other → other ≡ db.trees

-- While the connection is open, a crash leaves what was last committed.
abbrev pub IsSettled : State → Type 0
IsSettled s = IsTrue s.is_open → LeavesOnly s s.committed

-- ---- calls

-- Whatever it answers, it commits nothing.
pub record IsWithin (old new : State) : Type 0 where
  pub clean : doubt old.is_clean ≤ doubt new.is_clean
  pub was_open : HasCleanDisk new → IsTrue new.is_open → IsTrue old.is_open
  pub committed : HasCleanDisk new → IsTrue new.is_open → new.committed ≡ old.committed
  -- where no transaction is open, what is seen is what was committed
  pub settled : HasCleanDisk new → IsTrue new.is_open
      → (old.in_transaction ≡ false → old.now ≡ old.committed) → new.in_transaction ≡ false
      → new.now ≡ new.committed
  -- nor does a crash leave anything new
  pub crash : LeavesAsBefore old new

-- a call that changes nothing commits nothing
pub within_itself : (a : State) → IsWithin a a
within_itself a =
    record {
      clean = omega arith;
      was_open = λ _ h. h;
      committed = λ _ _. refl;
      settled = λ _ _ was mode. was mode;
      crash = λ _ _ h. h;
    }

-- two calls, neither of which commits anything, commit nothing together
pub within_on : (a b c : State) → IsWithin a b → IsWithin b c → IsWithin a c
within_on a b c p q =
    let clean : HasCleanDisk c → HasCleanDisk b = λ h. omega (arith, q.clean, h) in
    record {
      clean = omega (arith, p.clean, q.clean);
      was_open = λ now open'. p.was_open (clean now) (q.was_open now open');
      committed =
          λ now open'. q.committed now open' ∙ p.committed (clean now) (q.was_open now open');
      settled =
          λ now open' was. q.settled now open' (p.settled (clean now) (q.was_open now open') was);
      crash = λ now db h. p.crash (clean now) db (q.crash now db h);
    }
