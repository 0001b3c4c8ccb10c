use Rattle.std.{proofs.Common.{◌≡◌, ◌∙◌, None, Some, sym, ap}, specs.Prelude.is_none}
use Rattle.room_verify.{specs.Objects.first_fallen, proofs.Numbers.none_fallen}
use Rattle.room_verify.proofs.objects.Objects.new.Goals as goal

pub invariant_of-result : goal.invariant_of-result
invariant_of-result c =
    let none : first_fallen 0 c.args.nodes ≡ None =
    ap (λ nodes. first_fallen 0 nodes) (sym c.as_slice.ensures) ∙ sym c.first_fallen.ensures
    ∙ c.in-None.is in
    sym (none_fallen 0 c.args.nodes) ∙ ap is_none none

pub returns-in-Some : goal.returns-in-Some
returns-in-Some c =
    let some : first_fallen 0 c.args.nodes ≡ Some c.in-Some.id =
    ap (λ nodes. first_fallen 0 nodes) (sym c.as_slice.ensures) ∙ sym c.first_fallen.ensures
    ∙ c.in-Some.is in
    (sym (none_fallen 0 c.args.nodes) ∙ ap is_none some, some)
