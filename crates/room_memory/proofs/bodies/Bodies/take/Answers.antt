use Rattle.std.proofs.Common.{◌∙◌, ◌==◌, ℕ, List, ap, not, filter}
use Rattle.room_memory.proofs.Kept.{body_taken}
use Rattle.room_memory.proofs.bodies.Bodies.take.Goals as goal

pub returns : goal.returns
returns c =
    c.remove.ensures.entries ∙ body_taken c.args.id c.self.inside.items.entries c.self.invariant
    ∙ ap (filter (λ (row : ℕ × List ℕ). not (row.0 == c.args.id))) c.self.view_is
