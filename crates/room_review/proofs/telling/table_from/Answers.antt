use Rattle.std.proofs.Common.{◌∙◌}
use Rattle.room_dump.proofs.Reading.{answered, knows, learns}
use Rattle.room_review.{specs.{Table.table_rows, Telling.place_at}, proofs.Tabled.under_header}
use Rattle.room_review.proofs.telling.table_from.Goals as goal

pub returns : goal.returns
returns g c =
    let k = g.K.Keep in
    let laws = g.met.K.Keep.laws in
    let a = c.args.keep.now in
    let b = c.push_table.new.keep in
    let asked = c.args.asked.now in
    let start = c.args.start.now in
    record {
      read =
          answered k laws a b c.into_bytes.result
          (learns k laws a a b tt (knows k laws a (λ rows are. are)) c.in_ok-push_table.ensures.read
          (λ rows are _ told sites starts. c.into_bytes.ensures
          ∙ under_header c.in_ok-sheet.sheet c.push_table.new.sheet
          (table_rows rows asked.all asked.parties.items (place_at start sites) start.node)
          c.in_ok-sheet.ensures (told sites starts)));
    }
