use Rattle.std.{proofs.Common.{◌<◌, length, refl, sym, ap, ◌∙◌, arith}, specs.BTreeSet.contains}
use Rattle.std.specs.Ordering.{nat_cmp}
use Rattle.room_rows.specs.Content.{reaches_root}
use Rattle.room_verify.{specs.Objects.only, proofs.Upward.{leads_too, way_above}}
use Rattle.room_verify.proofs.objects.Objects.note_way.Goals as goal

pub steps-preserved : goal.steps-preserved
steps-preserved c = λ lead is.
    let nodes = c.args.self.now in
    let sofar = c.steps.invariant lead is in
    let below : c.steps.step < length nodes = grind (arith, c.steps-test.true) in (
      leads_too nodes c.in-Some.id (contains nat_cmp c.steps.known)
          (contains nat_cmp c.insert.new.self) sofar.0
          (sym (ap (reaches_root (length nodes) (only nodes)) c.in-Some.is) ∙ sofar.1)
          c.in_ok-insert.ensures.updates.0,
      way_above (only nodes) c.steps.above c.in-Some.id c.in-Some-at.parent.now c.in-Some.is
          (sym c.in-Some-at.ensures) (length nodes) c.steps.step below refl sofar.1,
    )
