use Rattle.std.proofs.Common.{◌≡◌, List, Some, [], ◌∷◌, ◌++◌, length, map, refl, sym, take, ap, ◌∙◌}
use Rattle.std.proofs.lemmas.Option.{get_or_from_slice_get, slice_get_read, slice_get_within}
use Rattle.std.{proofs.lemmas.List.map_more, specs.{List.slice_get, Option.option_map}}
use Rattle.room_machine.specs.Stored.{stored_site}
use Rattle.room_review.specs.declared.parties.Party.{Party}
use Rattle.room_turns.specs.{Stands.{grant_of, stand_of}, declared.spot.Stand.Stand}
use Rattle.room_turns.proofs.{Behind.got, Spots.{one_at_folder, one_was}}
use Rattle.room_turns.proofs.walking.stands_at.Goals as goal

pub loop-index-preserved : goal.loop-index-preserved
loop-index-preserved c view above path here beside =
    let parties = c.args.asked.now.parties.items in
    let folder = c.args.folder.now in
    let earlier = c.args.earlier.now in
    let node = c.args.here.now.node.now in
    let site = stored_site path node in
    let i = c.loop-index.index in
    let items = c.deref-party-items.result.now in
    let party = c.party-item.result in
    let at : slice_get parties i ≡ Some party =
    ap (λ (l : List Party). slice_get l i) (sym c.deref-party-items.ensures.value)
    ∙ slice_get_read items (length items) i party refl c.loop-index-test.true c.party-item.is in
    let stand = c.in_ok-stand.ensures view above path here
    (got c.get.result folder i _ c.get.ensures.lookup.1 c.get.ensures.lookup.3
    ∙ one_at_folder view parties above node.id folder earlier beside i party at)
    (ap (option_map grant_of) (got c.get-in-loop-index.result earlier i _
    c.get-in-loop-index.ensures.lookup.1 c.get-in-loop-index.ensures.lookup.3)
    ∙ one_was view parties above node.id folder earlier beside i party at) in
    let each : Party → Stand = λ one. stand_of view one.caller above site in
    c.in_ok-push.ensures.items
    ∙ (λ j. c.loop-index.invariant view above path here beside j ++ stand j ∷ [])
    ∙ sym (map_more each parties i party (slice_get_within parties i party at)
    ∙ ap (λ (one : Party). map each (take i parties) ++ each one ∷ [])
    (get_or_from_slice_get parties i party party at))
