use Rattle.std.proofs.Common.{◌≡◌, [], ◌∷◌, ◌++◌, take, sym, ap, ◌∙◌}
use Rattle.room_dump.specs.declared.visiting.Visit.{Visit}
use Rattle.room_machine.specs.Stored.{stored_site}
use Rattle.room_review.specs.Table.{site_of}
use Rattle.room_turns.{specs.Stands.{along, entry_at, spot_of}, proofs.Way.{along_on, last_along}}
use Rattle.room_turns.proofs.walking.stand_next.Goals as goal

pub returns : goal.returns
returns c view place node shows is on =
    let parties = c.args.asked.now.parties.items in
    let way : c.truncate.new.self.items ≡ along view parties [] place.above =
    c.truncate.ensures.items
    ∙ ap (λ (v : Visit). take v.depth c.args.stood.now.way.items) is ∙ on in
    let spot : c.in_ok-spot.spot ≡ spot_of view parties place.above (site_of place node) =
    c.in_ok-spot.ensures view place.above place.path shows
    (c.last.ensures.value
    ∙ last_along view parties place.above c.deref.result.now (c.deref.ensures.value ∙ way))
    ∙ ap (λ (v : Visit). spot_of view parties place.above (stored_site place.path v.node)) is in (
      c.in_ok-push_told.ensures
          ∙ (λ i. c.args.stood.now.all.items ++ entry_at (is i) (spot i) ∷ []),
      c.in_ok-push.ensures.items ∙ (λ i. way i ++ spot i ∷ [])
          ∙ sym (along_on view parties [] place.above (site_of place node)),
    )
