use Rattle.std.proofs.Common.{◌∷◌, [], ◌++◌, ap, ◌∙◌, length, arith}
use Rattle.room_verify.{specs.Objects.only, proofs.Upward.one_up}
use Rattle.room_verify.proofs.objects.Objects.names_up.Goals as goal

pub steps-preserved : goal.steps-preserved
steps-preserved c =
    one_up (length c.args.self.now) c.steps.step
    (only c.args.self.now) c.steps.object.now c.in-Some.parent.now c.steps.names.items
    c.push.new.self.items
    (omega (arith, c.steps-test.true, ap length c.as_slice-step-end.ensures.value))
    c.in-Some.ensures (c.in_ok-push.ensures.items
    ∙ ap (λ x. c.steps.names.items ++ x ∷ []) c.in_ok-copy.ensures)
    ∙ c.steps.invariant
