use Rattle.std.proofs.Common.{rules, ◌≡◌, arith}
use Rattle.room_judge.specs.declared.arrival.Found.{Found}
use Rattle.room_judge.proofs.{Calls.{done, finish, none_done, then}, Halts.halts, Walked.walk_done}
use Rattle.room_judge.proofs.{Walked.{walk_ends, walks_on}, Ways.{way_begins, way_blames}}
use Rattle.room_judge.proofs.walking.walk_down.Goals as goal

pub names-init : goal.names-init
names-init g c = grind (arith, g.met.K.Keep, done, way_begins, g.K.Keep.rows, none_done)

pub returns-in_err-node : goal.returns-in_err-node
returns-in_err-node g c =
    let asker = c.args.ask.now.asker.now in
    let path = c.args.ask.now.path.now in
    let from : Found = record { node = c.names.node; depth = c.names.index } in
    record {
      counted = omega
          (arith, c.names.invariant.counted, c.in_err-node.ensures.counted, c.names-test.true);
      done =
          halts g.met.K.Keep.laws _ c.names.invariant.done c.in_err-node.ensures.done
          (grind (arith, way_blames, asker, path, from))
          (λ old mid new reply are walking step is.
          walk_ends asker path c.args.depth c.requires c.names.index c.names.node old mid new reply
          c.names-test.true (walking is) step) c.from_residual.result c.from_residual.ensures.1;
    }

pub names-preserved : goal.names-preserved
names-preserved g c =
    let asker = c.args.ask.now.asker.now in
    let next = c.in_ok-node.node in
    record {
      counted = omega (arith, c.names.invariant.counted, c.in_ok-node.ensures.counted);
      done =
          then g.met.K.Keep.laws c.names.invariant.done (done c.in_ok-node.ensures.done)
          (search (rules, walks_on, asker, c.requires, c.names.node, next, c.names-test.true));
    }

pub returns-clause-counted : goal.returns-clause-counted
returns-clause-counted g c =
    omega (arith, c.names.invariant.counted, c.names-test.false, c.names.auto.index-end)

pub returns-clause-done : goal.returns-clause-done
returns-clause-done g c =
    let all : c.names.index ≡ c.args.depth = omega arith in
    finish g.met.K.Keep.laws _ c.names.invariant.done (λ old new are walking is.
    search (rules, walk_done, all, c.requires, c.names.node))
