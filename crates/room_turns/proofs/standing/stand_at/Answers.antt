use Rattle.std.proofs.{Common.{◌≡◌, ◌&&◌, false, ap, sym, ◌∙◌}, Math.Bool.{false-and, true-and}}
use Rattle.std.specs.Option.{option_copied, option_map, option_map_or}
use Rattle.room_machine.specs.{Stored.stored_site, Rights.last_of}
use Rattle.room_review.specs.Standing.{before_last}
use Rattle.room_turns.specs.{declared.spot.Stand.Stand, Turns.{is_said, says_alike, turn_at}}
use Rattle.room_turns.{specs.Stands.{stand_of, standing_to, turn_of}, proofs.Behind.map_twice}
use Rattle.room_turns.proofs.{Found.{had_is, said_is}, standing.stand_at.Goals.else-here}
use Rattle.room_turns.proofs.standing.stand_at.Goals.{then-here}
use Rattle.room_turns.proofs.standing.stand_at.Goals as goal

pub returns : goal.returns
returns c view above path is folder earlier =
    let caller = c.args.caller.now in
    let here = c.args.here.now in
    let target = stored_site path here.node.now in
    let stands : c.in_ok-standing.standing ≡ standing_to view.own caller above target =
    c.in_ok-standing.ensures view.own above path is.own
    (ap (option_map (λ (s : Stand). s.standing)) folder
    ∙ map_twice (stand_of view caller (before_last above)) (λ (s : Stand). s.standing)
    (last_of above)) in
    let had : (c.rights_of.result, c.removes.result) ≡ (turn_at view caller above target).had =
    (λ i. (c.rights_of.ensures i, c.removes.ensures i))
    ∙ had_is view caller above target (option_copied c.args.earlier) earlier in
    let stand : Stand = record {
      standing = c.in_ok-standing.standing;
      had_rights = c.rights_of.result;
      had_remove = c.removes.result;
      repeats = false;
    } in
    let turns : turn_of stand ≡ turn_at view caller above target =
    λ i. record { had = had i; has = ((stands i).rights, (stands i).remove) } in
    let repeated = option_map_or (λ (f : Stand). says_alike here.looks (turn_of stand) (turn_of f))
    (option_copied c.args.folder) false in
    let both : c.if-here.stand ≡ (here.follows && repeated) = elim c.if-here.branch [
      | then-here w ↦
          w.stand-is ∙ w.repeats.ensures ∙ sym (true-and repeated)
          ∙ ap (λ t. t && repeated) (sym w.if-here.true)
      | else-here w ↦
          w.stand-is ∙ w.if-here.false ∙ sym (false-and repeated)
          ∙ ap (λ t. t && repeated) (sym w.if-here.false)
    ] in
    let said : c.if-here.stand ≡ is_said view caller above target =
    both ∙ said_is view caller above target here.follows here.looks (option_copied c.args.folder)
    stand is.follows is.looks folder turns in
    λ i. record {
      standing = stands i;
      had_rights = (had i).0;
      had_remove = (had i).1;
      repeats = said i;
    }
