use Rattle.std.proofs.{Common.{◌≡◌, arith, take}, lemmas.Grind.common_steps}
use Rattle.room_rows.proofs.Cutting.{front_is_path}
use Rattle.room_rows.proofs.path.Path.front.Goals as goal

pub invariant_of-result : goal.invariant_of-result
invariant_of-result c =
    let front : c.loop-name.names.items ≡ take c.args.count c.self.inside.names.items = grind
    (arith, common_steps) in
    grind (arith, front, front_is_path, c.self.inside.names.items, c.self.invariant)
