use Rattle.std.proofs.{Common.{arith, rules, subst, take}, lemmas.List.take_all}
use Rattle.room_judge.{proofs.Calls.{HasDone, done, fails, memory}, specs.Extent.{Unsaid, UpTo}}
use Rattle.room_desk.proofs.Steps.Bounds.{HasGone, answered, done_so, gone_more, no_replies}
use Rattle.room_desk.proofs.Steps.{Bounds.{none_gone, reads_halted}, InTurn.go_run}
use Rattle.room_desk.proofs.running.perform_all.Goals as goal

pub requests-init : goal.requests-init
requests-init g c =
    search (rules, none_gone, g.K.Keep, g.met.K.Keep.laws, c.new-replies.ensures.items)

pub returns-in_err-reply : goal.returns-in_err-reply
returns-in_err-reply g c =
    let k = g.K.Keep in
    let m = g.met.K.Keep in
    let n = c.requests.one-index in
    let asked = c.args.asked.now in
    let gone = c.requests.invariant in
    let halt = c.from_residual.result in
    record {
      done =
          fails m.laws
          (done_so k (take n asked) c.requests.replies.items c.args.keep.now c.requests.keep gone)
          c.in_err-reply.ensures.done (λ old mid at first damaged. record {
            count = n;
            below = c.requests-test.true;
            replies = c.requests.replies.items;
            rows = mid;
            most = first.0;
            first = first.1;
            damaged = damaged;
          }) halt c.from_residual.ensures.1;
      few = no_replies k asked c.args.keep.now c.perform_one.new.keep halt _
          c.from_residual.ensures.1;
      counted =
          reads_halted k asked n c.one-item.result c.args.keep.now c.requests.keep
          c.perform_one.new.keep _ _ halt c.requests-test.true c.one-item.is
          c.from_residual.ensures.1 gone.reads c.in_err-reply.ensures.counted;
    }

pub returns-in_err-add_reply : goal.returns-in_err-add_reply
returns-in_err-add_reply g c =
    let k = g.K.Keep in
    let m = g.met.K.Keep in
    let n = c.requests.one-index in
    let asked = c.args.asked.now in
    let gone = c.requests.invariant in
    let halt = c.from_residual-in_err-add_reply.result in
    let before : HasDone k.rows k.writes k.Follows k.IsTrusted (UpTo Unsaid) c.args.keep.now
    c.perform_one.new.keep (λ old new. Unit {0}) =
    grind (arith, m.laws.on, gone.follows, c.in_ok-reply.ensures.done.follows) in
    record {
      done = memory m.laws before halt c.from_residual-in_err-add_reply.ensures.1;
      few = no_replies k asked c.args.keep.now c.perform_one.new.keep halt _
          c.from_residual-in_err-add_reply.ensures.1;
      counted =
          reads_halted k asked n c.one-item.result c.args.keep.now c.requests.keep
          c.perform_one.new.keep _ _ halt c.requests-test.true c.one-item.is
          c.from_residual-in_err-add_reply.ensures.1 gone.reads c.in_ok-reply.ensures.counted;
    }

pub requests-preserved : goal.requests-preserved
requests-preserved g c =
    gone_more g.K.Keep g.met.K.Keep.laws c.args.asked.now c.requests.one-index c.one-item.result
    c.requests.replies.items c.add_reply.new.replies.items c.in_ok-reply.reply c.args.keep.now
    c.requests.keep c.perform_one.new.keep c.requests-test.true c.one-item.is
    c.in_ok-add_reply.ensures c.requests.invariant (done c.in_ok-reply.ensures.done)
    c.in_ok-reply.ensures.counted

pub returns : goal.returns
returns g c =
    let k = g.K.Keep in
    let asked = c.args.asked.now in
    let replies = c.requests.replies in
    let whole = take_all c.requests.one-index asked c.requests-test.false in
    let gone = subst
    (λ l. HasGone k l replies.items c.args.keep.now c.requests.keep) whole c.requests.invariant in
    record {
      done = record {
        follows = gone.follows;
        becomes = grind (arith, gone.writes, go_run, asked, replies.items, k.rows, c.requests.keep);
        few = λ t more never. absurd never;
        fault = tt;
      };
      few = gone.writes;
      counted = search (rules, answered, k, gone.reads);
    }
