use Rattle.std.proofs.Common.{◌≡◌, Some, sym, ap, ◌∙◌, rules, arith}
use Rattle.std.proofs.lemmas.{List.Sorted.{answers_always, searchable_from_sorted}, Bool.cases_lt}
use Rattle.std.specs.Cmp.{nat_cmp_total}
use Rattle.room_rows.specs.{declared.node.Node.Node, Finding.find_id}
use Rattle.room_verify.proofs.Numbers.{found_at, none_at, sorted_by_number, equal_from_cmp}
use Rattle.room_verify.proofs.Numbers.{apart_from_less, apart_from_greater}
use Rattle.room_verify.proofs.objects.find_rising.Goals as goal

pub returns-in-Ok : goal.returns-in-Ok
returns-in-Ok c =
    let nodes = c.args.nodes.now in
    let by_key = c.in-Ok.ensures.position (λ (n : Node). n.id)
    (answers_always _ _ _ (λ f a r g called. search rules)) in
    let x = c.index-nodes-place.result in
    let same : x.id ≡ c.args.id = ap (λ (n : Node). n.id) c.index-nodes-place.is
    ∙ equal_from_cmp _ _ (by_key x) in
    ap (λ (n : Node). Some n) c.index-nodes-place.is
    ∙ sym (found_at 0 nodes c.requires c.in-Ok.place x c.in-Ok.ensures.bound)
    ∙ ap (λ id. find_id id nodes) (sym (ap (λ (n : Node). n.id) c.index-nodes-place.is) ∙ same)

pub returns-in-Err : goal.returns-in-Err
returns-in-Err c =
    let nodes = c.args.nodes.now in
    let by_key = c.in-Err.ensures.position (λ (n : Node). n.id)
    (answers_always _ _ _ (λ f a r g called. search rules)) in
    let apart = by_key (searchable_from_sorted nat_cmp_total (λ (n : Node). n.id) nodes c.args.id
    (sorted_by_number 0 nodes c.requires)) in
    grind (arith, none_at, cases_lt, apart_from_less, apart_from_greater, nodes, apart.0, apart.1)
