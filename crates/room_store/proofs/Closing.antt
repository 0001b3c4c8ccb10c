-- Requests on rows that needn't be sound.
use Rattle.std.proofs.Common.{arith, rules, ℕ, ℤ, List, Option, Result, Ok, Err}
use Rattle.sqlite.specs.State.{State, HasCleanDisk}
use Rattle.room_machine.specs.{declared.{reply.Reply.Reply, request.Request.Request}, Desk.Closes}
use Rattle.room_judge.specs.Closed.{Performs}
use Rattle.store_transaction.specs.declared.fault.StoreFault.{StoreFault}
use Rattle.room_store.specs.{Kept.Stores, Ran.Ran}
use Rattle.store_request.specs.Inside.{HasDamage}

pub closes : (user : Option (List ℕ)) (moment : ℤ) (request : Request) (old new : State)
    (result : Result Reply StoreFault)
    → Ran old new result HasDamage (Performs user moment request) → HasCleanDisk new
    → Closes (Stores old) user moment request result (Stores new)
closes user moment request old new (Ok reply) ran now = λ rows stored. grind (arith, ran.answers, now, old, new, request, ran.step, ran.tables)
closes user moment request old new (Err fault) ran now = λ rows stored is_open. search (rules, ran.leaves.was_open, now, ran.tables, ran.kept)
