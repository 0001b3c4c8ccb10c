use Rattle.std.proofs.Common.{◌≡◌, ◌∷◌, ◌++◌, [], take, sym, ap, ◌∙◌}
use Rattle.room_dump.specs.declared.visiting.Visit.{Visit}
use Rattle.room_machine.specs.Stored.{stored_site}
use Rattle.room_review.specs.{Standing.standings, Table.site_of, Telling.along}
use Rattle.room_review.proofs.Above.{along_on}
use Rattle.room_review.proofs.telling.push_rows.Goals as goal

pub returns : goal.returns
returns c place node is on =
    let parties = c.args.asked.now.parties.items in
    let way : c.truncate.new.self.items ≡ along parties [] place.above = c.truncate.ensures.items
    ∙ ap (λ (v : Visit). take v.depth c.args.way.now.items) is ∙ on in
    let here : c.in_ok-here.here ≡ standings parties place.above (site_of place node) =
    c.in_ok-here.ensures place.above place.path (c.as_slice.ensures.value ∙ way)
    ∙ ap (λ (v : Visit). standings parties place.above (stored_site place.path v.node)) is in (
      c.in_ok-push_told.ensures place node is here,
      c.in_ok-push.ensures.items ∙ (λ i. way i ++ here i ∷ [])
          ∙ sym (along_on parties [] place.above (site_of place node)),
    )
