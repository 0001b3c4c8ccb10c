use Rattle.std.{proofs.Common.{◌≡◌, ◌∙◌, Some, sym, ap, refl, arith}, specs.Prelude.is_some}
use Rattle.room_rows.specs.{declared.node.Node.Node, Finding.find_id, Keep.with_place}
use Rattle.room_memory.proofs.Changed.{found_itself, keeps_rows, changes}
use Rattle.room_memory.proofs.memory.MemKeepKeep.set_place.Goals as goal

pub place-requires-clause-there : goal.place-requires-clause-there
place-requires-clause-there c =
    ap (λ (n : Node). is_some (find_id n.id c.args.self.now.nodes)) c.in_ok-node-2.ensures
    ∙ ap is_some (found_itself c.args.self.now.nodes c.args.id c.in-Some-2.node
    (sym c.in_ok-node.ensures ∙ c.in-Some-2.is))

pub returns-clause-written : goal.returns-clause-written
returns-clause-written c =
    let k = c.args.self.now in
    let found : find_id c.args.id k.nodes ≡ Some c.in-Some-2.node = sym c.in_ok-node.ensures
    ∙ c.in-Some-2.is in
    let is = c.in_ok-node-2.ensures in
    record {
      follows = (
        omega arith,
        c.count_one.ensures.no_less,
        keeps_rows k.nodes c.place.new.self k.bodies k.members k.notes c.args.id
            c.in-Some-2.node c.in_ok-node-2.node found
            (ap (λ n. n.id) is) c.in_ok-place-2.ensures.ok,
      );
      written = c.count_one.ensures.capped;
      becomes =
          λ t folder free. changes k.nodes c.place.new.self k.bodies k.members k.notes c.args.id
          (with_place c.args.parent c.args.name.now) c.in-Some-2.node c.in_ok-node-2.node found is
          c.in_ok-place-2.ensures.ok;
      unfailed = refl;
      fault = tt;
    }
