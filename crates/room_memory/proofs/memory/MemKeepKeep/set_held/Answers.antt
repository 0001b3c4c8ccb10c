use Rattle.std.proofs.Common.{◌≡◌, ◌∙◌, Some, sym, ap, refl, arith}
use Rattle.room_rows.{specs.{Finding.find_id, Held.with_held}, proofs.InPlace.with_held-id}
use Rattle.room_memory.proofs.Changed.{stands_held, keeps_rows, changes}
use Rattle.room_memory.proofs.memory.MemKeepKeep.set_held.Goals as goal

pub replace-requires : goal.replace-requires
replace-requires c =
    stands_held c.args.which c.args.held.now c.args.self.now.nodes c.args.id c.in-Some.node
    c.in_ok-held_changed.field-0
    (sym c.in_ok-node.ensures ∙ c.in-Some.is) c.in_ok-held_changed.ensures

pub returns-clause-written : goal.returns-clause-written
returns-clause-written c =
    let k = c.args.self.now in
    let found : find_id c.args.id k.nodes ≡ Some c.in-Some.node = sym c.in_ok-node.ensures
    ∙ c.in-Some.is in
    let is = c.in_ok-held_changed.ensures in
    record {
      follows = (
        omega arith,
        c.count_one.ensures.no_less,
        keeps_rows k.nodes c.replace.new.self k.bodies k.members k.notes c.args.id c.in-Some.node
            c.in_ok-held_changed.field-0 found
            (ap (λ n. n.id) is ∙ with_held-id c.args.which c.args.held.now c.in-Some.node)
            c.replace.ensures,
      );
      written = c.count_one.ensures.capped;
      becomes =
          λ t. changes k.nodes c.replace.new.self k.bodies k.members k.notes c.args.id
          (with_held c.args.which c.args.held.now) c.in-Some.node c.in_ok-held_changed.field-0 found
          is c.replace.ensures;
      unfailed = refl;
      fault = tt;
    }
