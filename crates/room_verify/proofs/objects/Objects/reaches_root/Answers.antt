use Rattle.std.proofs.Common.{◌<◌, length, sym, ◌∙◌, arith}
use Rattle.room_verify.{specs.Objects.only, proofs.Upward.{way_left, way_longer}}
use Rattle.room_inherit.proofs.Enough.{enough_steps}
use Rattle.room_verify.proofs.objects.Objects.reaches_root.Goals as goal

pub returns-then-contains : goal.returns-then-contains
returns-then-contains c = λ lead.
    let nodes = c.args.self.now in
    let known = lead c.in-Some.id (sym c.contains.ensures ∙ c.if-contains.true) in
    grind (arith, enough_steps, nodes, c.steps.step, c.steps.invariant.further, c.in-Some.is, known)

pub steps-preserved : goal.steps-preserved
steps-preserved c =
    let nodes = c.args.self.now in
    let below : c.steps.step < length nodes = grind (arith, c.steps-test.true) in
    let up = way_left (only nodes) c.steps.above c.in-Some.id c.in-Some-at.parent.now c.in-Some.is
    (sym c.in-Some-at.ensures) (length nodes) c.steps.step below in
    record {
      same = up ∙ c.steps.invariant.same;
      further =
          λ m. way_longer (only nodes) c.steps.above c.in-Some.id c.in-Some-at.parent.now
          c.in-Some.is (sym c.in-Some-at.ensures) m c.steps.step c.args.node.now.parent
          c.steps.invariant.further;
    }
