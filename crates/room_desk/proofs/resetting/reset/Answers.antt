use Rattle.std.proofs.Common.{List, length, arith, sym, ap, ◌∙◌}
use Rattle.std.specs.Prelude.{◌+◌, ◌-◌, slice_get}
use Rattle.room_judge.proofs.{Calls.{none_done, fails, done, of_read}, UpTo.tail_provided}
use Rattle.room_rows.specs.declared.node.Node.{Node}
use Rattle.room_desk.proofs.Lists.{ResetClosed.reset_told, SetReset.reset_blames}
use Rattle.room_desk.proofs.Sound.RootedWays.{rooted_last, stands_last}
use Rattle.room_desk.proofs.Writes.{Sufficing.rooted_unrecorded, Reading.{reads_on, unanswered}}
use Rattle.room_sound.proofs.Blamed.{rootless_damaged}
use Rattle.room_desk.proofs.resetting.reset.Goals as goal

pub returns-in_err-found : goal.returns-in_err-found
returns-in_err-found g c =
    let k = g.K.Keep in
    let m = g.met.K.Keep in
    record {
      done = fails m.laws (none_done m.laws c.args.keep.now)
          (of_read c.in_err-found.ensures.read)
          (λ old mid at same h. rootless_damaged old mid at same h) c.from_residual.result
          c.from_residual.ensures.1;
      counted = grind (arith, unanswered, k, c.walk.new.keep, c.from_residual.ensures.1);
    }

-- the walk has met some object
pub unreachable-requires : goal.unreachable-requires
unreachable-requires g c =
    omega (
      arith,
      c.in_ok-found.ensures.some,
      ap length c.into_vec-chain.ensures,
      c.into_vec-chain.result.ok.0,
      c.in-None.ensures.cases.0,
    )

pub returns : goal.returns
returns g c =
    let k = g.K.Keep in
    let m = g.met.K.Keep in
    let chain = sym c.into_vec-chain.ensures ∙ c.in-Some.ensures.items in
    let front = c.pop.new.self.items in
    let above = c.last-above.ensures.value
    ∙ ap (λ (l : List Node). slice_get l (length l - 1)) c.deref.ensures.value in
    record {
      done =
          tail_provided m.laws (done (of_read c.in_ok-found.ensures.read))
          c.reset_at_end.ensures.done
          (λ old mid at are both h.
          reset_blames c.args.path.now c.args.which c.args.sent.now old mid c.in_ok-found.found
          front c.in-Some.node both.0.0 both.1 chain at are h)
          (λ old mid reply new are both said.
          reset_told c.args.path.now c.args.which c.args.sent.now old mid c.in_ok-found.found front
          c.in-Some.node both.0.0 both.1 chain _ above new reply are said)
          (λ old mid new more are both enough. (
            (
              stands_last old are.numbers c.args.path.now c.in_ok-found.found front c.in-Some.node
                  both.0.0 chain,
              rooted_unrecorded c.in-Some.node.id old
                  (rooted_last old are.numbers c.args.path.now c.in_ok-found.found front
                  c.in-Some.node both.0.0 chain),
            ),
            enough,
          ));
      counted =
          reads_on k c.reset_at_end.result c.args.keep.now c.walk.new.keep c.reset_at_end.new.keep
          (length c.args.path.now + 1) 2 (length c.args.path.now + 3) c.in_ok-found.ensures.counted
          (m.laws.grow _ _ c.in_ok-found.ensures.read.follows) (omega arith)
          c.reset_at_end.ensures.counted;
    }
