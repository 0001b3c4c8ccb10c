use Rattle.std.proofs.{Common.{arith, refl, inr}, lemmas.Bool.false≢true}
use Rattle.room_judge.proofs.{Calls.{none_done, finish, done, of_change}, UpTo.finish_up_to}
use Rattle.room_machine.specs.declared.reply.Reply.TheVariants.{Done}
use Rattle.room_desk.proofs.Owned.OwnersSet.{equal_owners, owners_themselves}
use Rattle.room_desk.proofs.Writes.Sufficing.{one_changed}
use Rattle.room_rows.specs.Keep.{with_owners}
use Rattle.room_desk.proofs.owning.set_at.Goals as goal

pub returns-then-are_same : goal.returns-then-are_same
returns-then-are_same g c =
    let m = g.met.K.Keep in
    record {
      done =
          finish m.laws Done (none_done m.laws c.args.keep.now)
          (grind (arith, equal_owners, c.are_same.ensures, c.if-are_same.true));
      quiet = λ same. refl;
      counted = omega arith;
    }

pub returns : goal.returns
returns g c =
    let m = g.met.K.Keep in
    record {
      done =
          finish_up_to m.laws Done (done (of_change c.in_ok-set_owners.ensures.written
          (λ old x new more changes enough.
          one_changed c.args.node.now.id (with_owners c.args.owners.now) c.args.node.now old new
          more changes enough.0 enough.1)))
          (λ old new are changes. (refl, inr changes));
      quiet = grind (arith, false≢true, c.if-are_same.false, c.are_same.ensures, owners_themselves);
      counted = c.in_ok-set_owners.ensures.unread;
    }
