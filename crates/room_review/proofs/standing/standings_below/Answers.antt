use Rattle.std.proofs.{Common.{length, take, ap, sym, ◌∙◌, rules}, lemmas.List.length_push}
use Rattle.std.proofs.lemmas.Slice.Zip.{zip_end, zip_turn}
use Rattle.room_machine.specs.Stored.{stored_site}
use Rattle.room_review.specs.{declared.parties.Party.Party, Standing.{before_last, standing}}
use Rattle.room_review.{specs.Standing.standings, proofs.Kept.{all_mapped, next_mapped}}
use Rattle.room_review.proofs.standing.standings_below.Goals as goal

pub loop-party-preserved : goal.loop-party-preserved
loop-party-preserved c above site path last is =
    let parties = c.args.parties.now in
    let folder = c.args.folder.now in
    let turn = zip_turn parties folder c.loop-party.yielded c.into_iter-party-iterator.result
    c.loop-party.party-iterator c.next.new.self c.next.result (search rules) (search rules)
    c.loop-party.yielded_by
    (c.in-Some.party, c.in-Some.above) c.in-Some.is c.next.ensures.steps in
    c.in_ok-push.ensures.items
    ∙ next_mapped (λ (party : Party). standing party.caller (before_last above) site)
    (λ (party : Party). standing party.caller above (stored_site path c.args.node.now)) parties
    folder
    (length c.loop-party.yielded) c.in-Some.party.now c.in-Some.above.now c.loop-party.items.items
    c.below.result turn.0 turn.2 turn.3 is (c.below.ensures above site path last)
    (c.loop-party.invariant above site path last is)
    ∙ ap (λ n. standings (take n parties) above (stored_site path c.args.node.now))
    (sym (length_push c.loop-party.yielded (c.in-Some.party, c.in-Some.above)))

pub returns : goal.returns
returns c above site path last is =
    let parties = c.args.parties.now in
    let folder = c.args.folder.now in
    all_mapped (λ (party : Party). standing party.caller (before_last above) site)
    (λ (party : Party). standing party.caller above (stored_site path c.args.node.now)) parties
    folder
    (length c.loop-party.yielded) c.loop-party.items.items
    (zip_end parties folder c.loop-party.yielded c.into_iter-party-iterator.result
    c.loop-party.party-iterator c.next.new.self c.next.result (search rules) (search rules)
    c.loop-party.yielded_by
    c.in-None.is c.next.ensures.steps) is (c.loop-party.invariant above site path last is)
