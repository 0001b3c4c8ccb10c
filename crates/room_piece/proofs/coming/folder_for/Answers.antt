use Rattle.std.proofs.Common.{◌≡◌, ℕ, ◌+◌, ◌∙◌, List, Some, length, arith, ap, subst}
use Rattle.std.specs.Prelude.{◌-◌}
use Rattle.room_judge.proofs.Spots.{take_front}
use Rattle.room_memory.specs.Memory.{rows_in}
use Rattle.room_machine.specs.Site.{front}
use Rattle.room_piece.specs.{Coming.{IsBarred, way_fault}, Holding.IsWell, Walking.IsWay}
use Rattle.room_piece.proofs.Placing.{barred_way, blames_so, folder_ok}
use Rattle.room_piece.proofs.coming.folder_for.Goals as goal

pub returns-clause-found : goal.returns-clause-found
returns-clause-found c =
    let path = c.args.object.now.path in
    let size : length c.names-depth.result.now ≡ length path = ap length c.names-depth.ensures in
    let deep : length path ≡ (length c.names-depth.result.now - 1) + 1 =
    omega (arith, c.requires, size) in
    let above : c.in_ok-above.above ≡ front path =
    c.in_ok-above.ensures ∙ take_front path (length c.names-depth.result.now - 1) deep in
    folder_ok path c.in_ok-above.above c.in_ok-way.way _ _ c.requires above _ c.folder_at.result
    c.in_ok-way.ensures.found c.folder_at.ensures.found

pub returns-clause-refused : goal.returns-clause-refused
returns-clause-refused c =
    let path = c.args.object.now.path in
    let old = rows_in c.args.keep.now in
    let way = c.in_ok-way.way in
    let size : length c.names-depth.result.now ≡ length path = ap length c.names-depth.ensures in
    let deep : length path ≡ (length c.names-depth.result.now - 1) + 1 =
    omega (arith, c.requires, size) in
    let above : c.in_ok-above.above ≡ front path =
    c.in_ok-above.ensures ∙ take_front path (length c.names-depth.result.now - 1) deep in
    blames_so (λ why. way_fault way ≡ Some why)
    (λ why. IsWell c.args.keep.now → IsBarred path old why) c.args.object.now.line
    c.folder_at.result c.folder_at.ensures.refused
    (λ why fault well.
    barred_way path c.requires old well.rows well.sound way
    (subst (λ (p : List (List ℕ)). IsWay p way old) above
    (c.in_ok-way.ensures.found well.rows).0) why fault)
