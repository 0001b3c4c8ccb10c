use Rattle.std.{proofs.Common.{◌∙◌, Some, sym, ap}, specs.Option.option_copied}
use Rattle.room_rows.specs.Content.{body_at}
use Rattle.room_memory.proofs.Kept.{body_kept}
use Rattle.room_memory.proofs.bodies.Bodies.at.Goals as goal

pub returns-in_ok-copy-in-Some : goal.returns-in_ok-copy-in-Some
returns-in_ok-copy-in-Some c =
    ap Some c.in_ok-copy-in-Some.ensures ∙ sym (ap option_copied c.in-Some.is) ∙ c.get.ensures.value
    ∙ body_kept c.args.id c.self.inside.items.entries
    ∙ ap (λ rows. body_at rows c.args.id) c.self.view_is

pub returns-in-None : goal.returns-in-None
returns-in-None c =
    sym (ap option_copied c.in-None.is) ∙ c.get.ensures.value
    ∙ body_kept c.args.id c.self.inside.items.entries
    ∙ ap (λ rows. body_at rows c.args.id) c.self.view_is
