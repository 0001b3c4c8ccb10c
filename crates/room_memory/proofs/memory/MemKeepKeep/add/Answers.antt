use Rattle.std.proofs.Common.{◌≡◌, ◌∙◌, ◌+◌, ap, refl, arith}
use Rattle.room_rows.specs.declared.{keep.KeepFault.TheVariants.Memory, node.Node.Node}
use Rattle.room_rows.specs.{Content.put_node, Finding.find_id, Keep.{node_of, with_bytes}}
use Rattle.room_rows.proofs.Steps.{handed_on}
use Rattle.room_memory.{specs.Objects.greatest, proofs.Changed.{added, added_rows, node_rows}}
use Rattle.room_memory.proofs.Changed.{none_past, err_writes, err_becomes}
use Rattle.room_memory.proofs.memory.MemKeepKeep.add.Goals as goal

pub add-requires-clause-new : goal.add-requires-clause-new
add-requires-clause-new c =
    let next : c.in-Some.id ≡ greatest c.args.self.now.nodes + 1 = c.in-Some.ensures in
    let same = ap (λ (n : Node). n.id) c.at_number-object.ensures in
    ap (λ i. find_id i c.args.self.now.nodes) same
    ∙ none_past c.args.self.now.nodes c.in-Some.id (omega (arith, next))

pub returns-in_err-put_new-clause-written : goal.returns-in_err-put_new-clause-written
returns-in_err-put_new-clause-written c =
    let k = c.args.self.now in
    let next : c.in-Some.id ≡ greatest k.nodes + 1 = c.in-Some.ensures in
    let same = ap (λ (n : Node). n.id) c.at_number-object.ensures in
    let is =
    handed_on c.from_residual-in_err-put_new.result Memory
    c.from_residual-in_err-put_new.ensures.1 in
    record {
      follows = (
        omega arith,
        omega arith,
        node_rows k.nodes c.add.new.self k.bodies c.put_new.new.self k.members
            k.notes c.at_number-object.result
            (omega (arith, next, same)) c.in_ok-add.ensures.ok c.in_err-put_new.ensures.err,
      );
      written = err_writes c.from_residual-in_err-put_new.result Memory _ is;
      becomes = λ t. err_becomes c.from_residual-in_err-put_new.result Memory _ is;
      unfailed = err_becomes c.from_residual-in_err-put_new.result Memory _ is;
      fault = rw is tt;
    }

pub returns-clause-written : goal.returns-clause-written
returns-clause-written c =
    let k = c.args.self.now in
    let next : c.in-Some.id ≡ greatest k.nodes + 1 = c.in-Some.ensures in
    let puts : c.add.new.self ≡ put_node (node_of c.in-Some.id c.args.node) k.nodes =
    c.in_ok-add.ensures.ok ∙ ap (λ (n : Node). put_node n k.nodes) c.at_number-object.ensures in
    let new = with_bytes c.args.node c.args.bytes.now in
    record {
      follows = (
        omega arith,
        c.count_one.ensures.no_less,
        added_rows k.nodes c.add.new.self k.bodies c.put_new.new.self k.members
            k.notes c.in-Some.id new (omega (arith, next)) puts c.in_ok-put_new.ensures.ok,
      );
      written = c.count_one.ensures.capped;
      becomes = λ t can. record {
        from_one = omega (arith, next);
        is_new = none_past k.nodes c.in-Some.id (omega (arith, next));
        is_free = refl;
        becomes =
            added k.nodes c.add.new.self k.bodies c.put_new.new.self k.members k.notes c.in-Some.id
            new puts c.in_ok-put_new.ensures.ok;
      };
      unfailed = refl;
      fault = tt;
    }
