use Rattle.std.proofs.{Common.{arith, sym, ap, ◌∙◌}, lemmas.Bool.false≢true}
use Rattle.room_desk.{specs.Setting.list_of, proofs.Lists.SameHeld.{flags_itself, flags_same}}
use Rattle.room_desk.proofs.Lists.SameHeld.{held_equal, inh_itself, own_itself}
use Rattle.room_desk.proofs.setting.is_same_list.Goals.{then-eq, else-eq}
use Rattle.room_desk.proofs.setting.is_same_list.Goals as goal

pub returns-then-is_same : goal.returns-then-is_same
returns-then-is_same c = (
  λ is. elim c.if-eq.branch [
    | then-eq w ↦
        held_equal (list_of c.args.flags c.args.own.now c.args.inh.now) c.args.held.now
        (ap (flags_same c.args.flags) (sym c.flags.ensures) ∙ sym c.eq.ensures ∙ w.if-eq.true)
        (grind (arith, w.own.ensures, w.is_same.ensures, w.value-is, c.if-is_same.true))
        (grind (arith, c.inh.ensures, c.is_same-then-is_same.ensures))
    | else-eq w ↦ absurd (false≢true (sym w.if-eq.false ∙ sym w.value-is ∙ c.if-is_same.true))
  ],
  grind (arith, c.is_same-then-is_same.ensures, c.inh.ensures, inh_itself),
)

pub returns-else-is_same : goal.returns-else-is_same
returns-else-is_same c = (
  λ is. absurd (false≢true (sym c.if-is_same.false ∙ is)),
  λ same. elim c.if-eq.branch [
    | then-eq w ↦ grind (arith, w.value-is, w.is_same.ensures, w.own.ensures, own_itself)
    | else-eq w ↦
        absurd
        (false≢true (sym w.if-eq.false ∙ c.eq.ensures ∙ ap (flags_same c.args.flags) c.flags.ensures
        ∙ flags_itself (list_of c.args.flags c.args.own.now c.args.inh.now) c.args.held.now same))
  ],
)
