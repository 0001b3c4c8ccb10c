use Rattle.std.proofs.Common.{◌∙◌, ap}
use Rattle.room_rows.specs.Content.{put_body}
use Rattle.room_memory.proofs.Kept.{body_put}
use Rattle.room_memory.proofs.bodies.Bodies.put.Goals as goal

pub returns-clause-ok : goal.returns-clause-ok
returns-clause-ok c =
    c.in_ok-insert.ensures.entries ∙ body_put c.args.id c.args.bytes c.self.inside.items.entries
    ∙ ap (put_body c.args.id c.args.bytes) c.self.view_is
