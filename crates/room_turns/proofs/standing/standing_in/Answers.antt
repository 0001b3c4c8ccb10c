use Rattle.std.{proofs.Common.{List, ap, sym, ◌∙◌}, specs.Option.{option_copied, option_map}}
use Rattle.room_machine.specs.{Site.Site, Stored.stored_site, Rights.last_of}
use Rattle.room_review.{specs.Standing.{before_last, standing}, proofs.Kept.mapped_none}
use Rattle.room_review.proofs.Kept.{none_last}
use Rattle.room_turns.specs.declared.spot.Stand.{Stand}
use Rattle.room_turns.proofs.standing.standing_in.Goals as goal

pub returns-in-None : goal.returns-in-None
returns-in-None c above path is =
    let caller = c.args.caller.now in
    c.at_root.ensures path
    ∙ ap (λ (sites : List Site). standing caller sites (stored_site path c.args.node.now))
    (sym (none_last above (mapped_none (standing caller (before_last above)) (last_of above)
    (sym is ∙ ap (option_map (λ (s : Stand). s.standing)) (ap option_copied c.in-None.is)))))
