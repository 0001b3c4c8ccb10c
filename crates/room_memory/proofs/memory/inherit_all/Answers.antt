use Rattle.std.proofs.{Common.{◌∷◌, [], Bool, true, Ok, get_or, sym, subst}, lemmas.List.take_more}
use Rattle.room_memory.{specs.Memory.Inherits, proofs.Inheriting.{inherits_more, inherits_none}}
use Rattle.room_memory.proofs.memory.inherit_all.Goals as goal

pub ids-init : goal.ids-init
ids-init c = inherits_none c.args.which c.args.entries.now c.args.nodes.now

pub ids-preserved : goal.ids-preserved
ids-preserved c =
    let ids = c.args.ids.now in
    let at = c.ids.id-index in
    let which = c.args.which in
    let entries = c.args.entries.now in
    let old = c.args.nodes.now in
    let new = c.inherit.new.nodes in
    subst (λ l. Inherits l which entries old new (Ok true))
    (sym (take_more ids at 0 c.ids-test.true))
    (inherits_more which entries old c.ids.nodes new _ (get_or ids at 0 ∷ []) c.ids.invariant
    (subst (λ (b : Bool). Inherits (get_or ids at 0 ∷ []) which entries c.ids.nodes new (Ok b))
    c.if-not-branch.false c.in_ok-inherit.ensures))
