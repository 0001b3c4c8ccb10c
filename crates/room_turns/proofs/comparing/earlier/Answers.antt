use Rattle.std.{proofs.Common.{List, [], ℕ, None, map, nat_eq, refl, ap, ◌∙◌}, specs.Map.lookup}
use Rattle.std.specs.Option.{option_map}
use Rattle.room_dump.proofs.Reading.{answered, knows, learns}
use Rattle.room_turns.specs.{Turns.{View, objects_from}, Stands.{entry_of, noted, spot_in}}
use Rattle.room_turns.{specs.declared.spot.{Spot.Spot, Told.Told}, proofs.Rows.table_there}
use Rattle.room_turns.proofs.comparing.earlier.Goals as goal

pub returns : goal.returns
returns g c =
    let k = g.K.Keep in
    let laws = g.met.K.Keep.laws in
    let a = c.args.keep.now in
    let b = c.spots_from-2.new.keep in
    let asked = c.args.asked.now in
    let objects = c.in_ok-objects.objects in
    let view : View = record {
      own = asked.own;
      looks = asked.looks;
      hidden = asked.hidden_before;
      hidden_earlier = [];
      earlier = λ number. None;
    } in
    record {
      read =
          answered k laws a b c.in_ok-by_number.field-0
          (learns k laws a a b objects (knows k laws a (λ rows are. are))
          c.in_ok-objects.ensures.read (λ rows are _ gives number.
          let all = gives view (record {
            own = c.in_ok-scene.ensures.own;
            looks = refl;
            hidden = c.in_ok-scene.ensures.hidden;
            earlier = λ n. ap (λ (entries : List (ℕ × Spot)). option_map noted
                (lookup (nat_eq n) entries))
                (ap (λ table. table.entries) c.in_ok-scene.ensures.earlier ∙ c.new.ensures.empty);
          }) in
          ap (option_map noted) (c.in_ok-by_number.ensures number)
          ∙ ap (λ (l : List Told). option_map noted (spot_in l number)) all
          ∙ ap (λ (path : List (List ℕ)). option_map noted (spot_in (map
          (entry_of view asked.parties.items) (objects_from rows path)) number)) c.root.ensures
          ∙ table_there view asked.parties.items (objects_from rows []) number));
    }
