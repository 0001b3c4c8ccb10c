use Rattle.std.proofs.{Common.{◌≡◌, ◌∙◌, arith, sym, ◌<◌, length}, lemmas.Bool.eqb-false}
use Rattle.std.specs.List.{list_all}
use Rattle.room_rows.{specs.Paths.is_name_byte, proofs.Cutting.name_by_bytes}
use Rattle.room_rows.proofs.path.is_object_name.Goals as goal

pub returns : goal.returns
returns c =
    let name = c.args.name.now in
    let bytes : c.are_name_bytes.result ≡ list_all is_name_byte name = cc in
    let some : 0 < length name = grind (arith, eqb-false, name, c.if-is_empty.ensures) in
    bytes
    ∙ sym (name_by_bytes name some c.if-name-gt-LONGEST_NAME.false (sym c.if-eq.ensures)
    (sym c.if-eq-2.ensures) c.utf8.name)
