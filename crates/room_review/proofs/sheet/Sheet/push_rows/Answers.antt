use Rattle.std.{proofs.Common.{ℕ, ◌++◌, List, ap, ◌∙◌}, specs.List.zip}
use Rattle.room_import.specs.Exports.{rows_text}
use Rattle.room_review.{specs.Lines.lines, proofs.Printed.{lines_at, on_ok_append}}
use Rattle.room_review.proofs.sheet.Sheet.push_rows.Goals as goal

pub returns : goal.returns
returns c above target at of_kind kept =
    let told = c.args.told.now in
    let rows = rows_text (lines told.path.now told.kind told.all
    (zip c.args.parties.now told.here.now)) in
    on_ok_append c.extend_from_slice.result c.extend_from_slice.new.self.items
    c.self.inside.text.items c.as_slice.result.now _ c.extend_from_slice.ensures.items
    (ap (λ (text : List ℕ). text ++ c.as_slice.result.now) c.self.view_is
    ∙ ap (λ (text : List ℕ). c.args.self.now ++ text)
    (c.as_slice.ensures ∙ c.in_ok-rows.ensures ∙ c.in_ok-push_lines.ensures
    ∙ ap (λ (text : List ℕ). text ++ rows) c.rows_into-writer.ensures.none
    ∙ ap (λ all. rows_text all) (lines_at told.path.now told.kind told.all c.args.parties.now
    told.here.now above target at of_kind kept)))
