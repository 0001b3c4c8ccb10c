use Rattle.std.proofs.{Common.{subst, w64, to_z, of_z}, lemmas.Int.to_z-of_z}
use Rattle.std.specs.Option.{option_copied}
use Rattle.sqlite.specs.Held.{state}
use Rattle.room_judge.specs.Closed.{Performs}
use Rattle.store_request.{specs.Inside.HasDamage, proofs.Turning.carried_with}
use Rattle.store_tables.specs.Carries.{ByRows, CallsInside, OnRows}
use Rattle.store_request.proofs.running.perform_by.Goals as goal

pub returns : goal.returns
returns g c =
    let begun = state g.S.Store c.args.keep.now.keeper.now.tx.now.conn.now in
    let mid = state g.S.Store c.perform.new.keep.keeper.now.tx.now.conn.now in
    let done = c.perform.ensures.done in
    record {
      same_keeper = done.follows.same_reference;
      same_memory = done.follows.same_memory;
      same_reference = done.follows.below.0;
      same_lender = done.follows.below.1;
      stays = done.follows.below.2;
      carries =
          λ agreed. subst (λ at. CallsInside begun mid c.perform.result (OnRows HasDamage)
          (ByRows (Performs (option_copied c.args.asked.now.caller) at c.args.asked.now.request.now)))
          (to_z-of_z w64 c.args.moment c.ranges.moment)
          (carried_with begun mid c.perform.result
          (Performs (option_copied c.args.asked.now.caller) (to_z w64 (of_z w64 c.args.moment))
          c.args.asked.now.request.now) _ _ _ done.follows.below.2
          (λ trust. record { below = trust; agreed = agreed trust }) done.becomes done.fault);
      kept = λ off. record { agrees = done.follows.agrees; same = done.follows.same off };
    }
