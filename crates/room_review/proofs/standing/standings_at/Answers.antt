use Rattle.std.{proofs.Common.{◌≡◌, List, sym, subst, ap, ◌∙◌, IfOk}, specs.Option.option_copied}
use Rattle.room_machine.specs.{Site.Site, Stored.stored_site}
use Rattle.room_review.{specs.Standing.{before_last, standings}, proofs.Kept.mapped_none}
use Rattle.room_review.proofs.Kept.{mapped_some, none_last}
use Rattle.room_review.proofs.standing.standings_at.Goals as goal

pub returns-in-None : goal.returns-in-None
returns-in-None c above path is =
    let parties = c.args.parties.now in
    subst (λ (sites : List Site). IfOk c.standings_at_root.result (λ here.
    here ≡ standings parties sites (stored_site path c.args.node.now)))
    (sym (none_last above (mapped_none _ _ (sym is ∙ ap option_copied c.in-None.is))))
    (c.standings_at_root.ensures path)

pub returns-in-Some : goal.returns-in-Some
returns-in-Some c above path is =
    let found = mapped_some (standings c.args.parties.now (before_last above)) _ _
    (sym is ∙ ap option_copied c.in-Some.is) in
    c.standings_below.ensures above found.0 path found.1 (c.as_slice.ensures ∙ sym found.2)
