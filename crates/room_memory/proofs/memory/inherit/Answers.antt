use Rattle.std.{proofs.Common.{arith, ◌≡◌, ◌&&◌, ◌∙◌, Some, true, sym, ap}, specs.Prelude.is_some}
use Rattle.room_rows.specs.{Finding.find_id, Held.held_of, Keep.with_inh}
use Rattle.room_rows.proofs.{InPlace.{place-with_inh, with_held-id}, Lookups.found_number}
use Rattle.room_rows.proofs.Many.{one_changed}
use Rattle.room_memory.{specs.Memory.memory_rows, proofs.Changed.{stands_held, keeps_rows, changes}}
use Rattle.room_memory.proofs.Inheriting.{same_put}
use Rattle.room_memory.proofs.memory.inherit.Goals as goal

pub replace-requires : goal.replace-requires
replace-requires c =
    stands_held c.args.which
    (record (held_of c.args.which c.in-Some.node) { inh = c.args.entries.now })
    c.args.nodes.now c.args.id c.in-Some.node c.in_ok-inh_changed.field-0
    (sym c.in_ok-node.ensures ∙ c.in-Some.is) c.in_ok-inh_changed.ensures

pub returns : goal.returns
returns c =
    let old = c.args.nodes.now in
    let new = c.replace.new.self in
    let node = c.in-Some.node in
    let change = with_inh c.args.which c.args.entries.now in
    let found : find_id c.args.id old ≡ Some node = sym c.in_ok-node.ensures ∙ c.in-Some.is in
    let is = c.in_ok-inh_changed.ensures in
    record {
      rows =
          λ bodies members audits are. keeps_rows old new bodies members audits c.args.id node
          c.in_ok-inh_changed.field-0 found (grind (arith, is, with_held-id, node))
          c.replace.ensures are;
      same =
          λ at. ap (λ l. is_some (find_id at l)) c.replace.ensures
          ∙ same_put old c.in_ok-inh_changed.field-0 node c.args.id found
          (grind (arith, is, with_held-id, node, found_number, old, found)) at;
      found = sym (ap (λ o. is_some o && true) found);
      changed =
          λ _ bodies members audits are. one_changed change
          (place-with_inh c.args.which c.args.entries.now) c.args.id
          (memory_rows old bodies members audits) (memory_rows new bodies members audits) are
          (changes old new bodies members audits c.args.id change node
          c.in_ok-inh_changed.field-0 found is c.replace.ensures);
    }
