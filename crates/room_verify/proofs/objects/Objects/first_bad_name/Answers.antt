use Rattle.std.proofs.{Common.{◌≡◌, true, false, not, take, sym, ap, ◌∙◌}, lemmas.Bool.and_left}
use Rattle.std.{proofs.lemmas.Bool.and_right, specs.{List.list_any, BTreeSet.contains}}
use Rattle.room_rows.specs.{Paths.is_object_name, Sound.has_sound_name}
use Rattle.room_verify.{specs.Objects.only, proofs.Given.{key_order, holds, one_more, name_test}}
use Rattle.room_verify.proofs.Looking.{fails_here, passes_here}
use Rattle.room_verify.proofs.objects.Objects.first_bad_name.Goals.{then-not-is_object_name-via-then-not-is_object_name}
use Rattle.room_verify.proofs.objects.Objects.first_bad_name.Goals.{then-not-is_object_name-via-else-not-is_object_name+in_ok-insert+then-not-branch}
use Rattle.room_verify.proofs.objects.Objects.first_bad_name.Goals as goal

pub returns-then-not-is_object_name : goal.returns-then-not-is_object_name
returns-then-not-is_object_name c =
    let nodes = c.as_slice-node-items.result.now in
    let node = c.node-item.result in
    let tested =
    name_test nodes c.nodes.node-index node c.in-Some.parent c.as_str-name.result
    c.nodes-test.true c.node-item.is c.in-Some.is c.as_str-name.ensures
    c.as_slice-node-items.ensures.rising in
    let fails : has_sound_name (only nodes) node ≡ false =
    elim c.then-not-is_object_name.branch [
      | then-not-is_object_name-via-then-not-is_object_name w ↦ tested
          ∙ and_left _ _ (ap is_object_name (sym c.as_str-name.ensures)
          ∙ sym c.is_object_name.ensures ∙ w.if-not-is_object_name.true)
      | then-not-is_object_name-via-else-not-is_object_name+in_ok-insert+then-not-branch w ↦ tested
          ∙ and_right _ _
          (ap not (sym (c.nodes.invariant.given (c.in-Some.parent, c.as_str-name.result)))
          ∙ sym w.in_ok-insert.ensures.added ∙ w.if-not-branch.true)
    ] in
    sym (fails_here (has_sound_name (only c.args.self.now)) nodes c.nodes.node-index node
    c.nodes-test.true c.node-item.is
    (ap (λ ns. has_sound_name (only ns) node) (sym c.as_slice-node-items.ensures.value) ∙ fails))
    ∙ c.nodes.invariant.same

pub nodes-preserved : goal.nodes-preserved
nodes-preserved c =
    let nodes = c.as_slice-node-items.result.now in
    let node = c.node-item.result in
    let tested =
    name_test nodes c.nodes.node-index node c.in-Some.parent c.as_str-name.result
    c.nodes-test.true c.node-item.is c.in-Some.is c.as_str-name.ensures
    c.as_slice-node-items.ensures.rising in
    let fits : is_object_name node.name ≡ true = cc in
    let free : not (list_any (holds (c.in-Some.parent, c.as_str-name.result))
    (take c.nodes.node-index nodes)) ≡ true =
    ap not (sym (c.nodes.invariant.given (c.in-Some.parent, c.as_str-name.result)))
    ∙ sym c.in_ok-insert.ensures.added ∙ c.if-not-branch.false in
    record {
      same =
          passes_here (has_sound_name (only c.args.self.now)) nodes c.nodes.node-index node
          c.nodes-test.true c.node-item.is
          (cc) ∙ c.nodes.invariant.same;
      given =
          one_more nodes c.nodes.node-index node c.in-Some.parent c.as_str-name.result
          c.nodes-test.true c.node-item.is c.in-Some.is c.as_str-name.ensures
          (contains key_order c.nodes.given)
          (contains key_order c.insert.new.self) c.nodes.invariant.given
          (c.in_ok-insert.ensures.updates.0);
    }
