use Rattle.std.proofs.{Common.{◌∙◌, ap, string_bytes}, lemmas.Result.IfOk-weaker}
use Rattle.room_rows.specs.Finding.{find_named}
use Rattle.room_memory.proofs.objects.ObjectMap.named.Goals as goal

pub returns : goal.returns
returns c =
    let place = c.in_ok-place.place in
    IfOk-weaker c.copy_of.result _ _
    (λ x e. e ∙ c.found.ensures
    ∙ ap (λ p. find_named p (string_bytes place.1) c.args.self.now) c.in_ok-place.ensures.parent
    ∙ ap (λ n. find_named c.args.parent n c.args.self.now) c.in_ok-place.ensures.name)
    c.copy_of.ensures
