use Rattle.std.proofs.Common.{◌∙◌}
use Rattle.room_memory.proofs.Placing.{looked_up}
use Rattle.room_memory.proofs.places.Places.at.Goals as goal

pub returns : goal.returns
returns c =
    c.copied.ensures ∙ c.get.ensures.value ∙ looked_up c.args.place.now c.args.self.now.ids.entries
