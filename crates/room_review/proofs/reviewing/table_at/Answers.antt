use Rattle.std.proofs.Common.{arith, ◌≡◌, List, Some, length, ap, ◌∙◌}
use Rattle.room_rows.specs.Rows.{Rows, numbers_of}
use Rattle.room_machine.specs.{Site.{Site, site_at}, Stored.{stored_along, stored_site}}
use Rattle.room_dump.proofs.Reading.{Knows, knows, learns, tail}
use Rattle.room_review.specs.Telling.{AreOn, GivesParties, Starts}
use Rattle.room_review.proofs.reviewing.table_at.Goals as goal

pub returns : goal.returns
returns g c =
    let k = g.K.Keep in
    let laws = g.met.K.Keep.laws in
    let a = c.args.keep.now in
    let b = c.ids.new.self in
    let d = c.parties_at.new.keep in
    let most = c.len-most.result in
    let parties = c.in_ok-parties.parties in
    let first = c.args.start.now in
    let counted : Knows k laws a b (λ rows. most ≡ length (numbers_of rows)) =
    learns k laws a a b c.in_ok-ids.field-0 (knows k laws a (λ rows are. are))
    c.in_ok-ids.ensures.read (λ rows are _ is. c.len-most.ensures ∙ ap length is) in
    let found : Knows k laws a d (λ rows. (most ≡ length (numbers_of rows))
    × GivesParties most first c.args.pairs.now c.args.question.now.user rows parties.items) =
    learns k laws a b d parties counted c.in_ok-parties.ensures.read
    (λ rows are many gives. (many, gives)) in
    let starts : (rows : Rows) → most ≡ length (numbers_of rows) → (sites : List Site)
    → site_at (stored_along rows.read first.path) first.path
    ≡ Some (stored_site first.path first.node)
    → AreOn first.above sites → Starts most first sites rows = grind arith in
    record {
      read =
          tail k laws a d c.table_from.new.keep c.table_from.result found
          (λ rows are is row astray sites there way. astray sites (starts rows is.0 sites there way))
          (grind (arith, starts, parties, parties.items))
          c.table_from.ensures.read;
    }
