use Rattle.std.{proofs.Common.{◌≡◌, ◌&&◌, true, not, map, ap, ◌∙◌}, specs.Option.option_copied}
use Rattle.std.specs.Option.{option_map, option_map_or}
use Rattle.room_machine.specs.Stored.{stored_site}
use Rattle.room_turns.specs.{Turns.{follows_clear, is_clear, is_known}, Stands.{grant_of, noted}}
use Rattle.room_turns.specs.{Stands.{noted_by, stands_of}, declared.spot.Spot.Spot}
use Rattle.room_turns.proofs.Spots.{at_folder, follows_is, known_is, was_known, were_there}
use Rattle.room_turns.proofs.walking.spot_at.Goals as goal

pub returns : goal.returns
returns c view above path shows folder =
    let parties = c.args.asked.now.parties.items in
    let node = c.args.node.now in
    let target = stored_site path node in
    let over = option_copied c.args.folder in
    let earlier = option_copied c.get-earlier.result in
    let was : option_map noted earlier
    ≡ option_map (noted_by view.own view.hidden_earlier parties) (view.earlier node.id) =
    ap (option_map noted) c.get-earlier.ensures.value ∙ shows.earlier node.id in
    let known : c.is_seen-known.result ≡ is_known view.hidden above target =
    c.is_seen-known.ensures
    ∙ ap (λ hidden. option_map_or (λ (s : Spot). s.known) over true && not hidden)
    (c.contains-hidden.ensures ∙ shows.hidden node.id)
    ∙ known_is view parties above target over folder in
    let clear : c.stays_known.result ≡ is_clear view above target =
    c.stays_known.ensures
    ∙ (λ i. known i && was_known view parties above target earlier was i) in
    let follows : c.is_clear.result ≡ follows_clear view above =
    c.is_clear.ensures ∙ follows_is view parties above target over folder in
    let stands : c.in_ok-stands_at.field-0 ≡ stands_of view parties above target =
    c.in_ok-stands_at.ensures view above path (record {
      own = c.contains-own.ensures ∙ shows.own node.id;
      follows = follows;
      looks = shows.looks;
    }) (record {
      at_folder = c.stands_of.ensures ∙ at_folder view parties above target over folder;
      were = ap (map grant_of) c.stands_of-2.ensures
          ∙ were_there view parties above target earlier was;
    }) in
    λ i. record {
      known = known i;
      clear = clear i;
      follows = follows i;
      stands = stands i;
    }
