use Rattle.std.{proofs.{Common.◌∙◌, lemmas.Result.IfOk-weaker}, specs.Option.option_copied}
use Rattle.room_memory.proofs.Tying.{found_at}
use Rattle.room_memory.proofs.objects.ObjectMap.at.Goals as goal

pub returns : goal.returns
returns c =
    IfOk-weaker c.copy_of.result _ _
    (λ x e. e ∙ found_at c.args.id c.self.inside.by_number.entries c.self.inside.places.ids.entries
    c.args.self.now (option_copied c.get.result) c.self.invariant c.self.view_is
    c.get.ensures.value) c.copy_of.ensures
