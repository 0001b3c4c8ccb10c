use Rattle.std.proofs.Common.{ap, sym, map, ◌∙◌}
use Rattle.room_rows.specs.declared.node.Node.{Node}
use Rattle.room_machine.specs.Stored.{stored_site}
use Rattle.room_review.specs.Standing.{standing}
use Rattle.room_turns.{specs.Turns.found_by, proofs.Found.{claimed_standing, folder_found}}
use Rattle.room_turns.proofs.Found.{kept_standing}
use Rattle.room_turns.proofs.standing.standing_to.Goals as goal

pub returns-in_ok-mine : goal.returns-in_ok-mine
returns-in_ok-mine c own above path is folder =
    let caller = c.args.caller.now in
    let sites = map (found_by own caller) above in
    c.standing_in.ensures sites path (folder ∙ folder_found own caller above)
    ∙ ap (λ (n : Node). standing caller sites (stored_site path n)) c.in_ok-mine.ensures
    ∙ claimed_standing own caller above path c.args.here.now.node.now (sym c.if-here.true ∙ is)

pub returns-else-here : goal.returns-else-here
returns-else-here c own above path is folder =
    let caller = c.args.caller.now in
    c.standing_in-else-here.ensures (map (found_by own caller) above) path
    (folder ∙ folder_found own caller above)
    ∙ kept_standing own caller above path c.args.here.now.node.now (sym c.if-here.false ∙ is)
