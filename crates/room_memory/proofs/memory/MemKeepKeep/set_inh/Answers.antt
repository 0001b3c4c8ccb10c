use Rattle.std.proofs.Common.{◌≡◌, ◌∙◌, Some, sym, refl, arith}
use Rattle.room_rows.specs.{Finding.find_id, Held.held_of, Keep.with_inh}
use Rattle.room_memory.proofs.Changed.{stands_held, keeps_rows, changes}
use Rattle.room_rows.proofs.InPlace.{with_held-id}
use Rattle.room_memory.proofs.memory.MemKeepKeep.set_inh.Goals as goal

pub replace-requires : goal.replace-requires
replace-requires c =
    stands_held c.args.which
    (record (held_of c.args.which c.in-Some.node) { inh = c.args.entries.now })
    c.args.self.now.nodes c.args.id c.in-Some.node c.in_ok-inh_changed.field-0
    (sym c.in_ok-node.ensures ∙ c.in-Some.is) c.in_ok-inh_changed.ensures

pub returns-clause-written : goal.returns-clause-written
returns-clause-written c =
    let k = c.args.self.now in
    let found : find_id c.args.id k.nodes ≡ Some c.in-Some.node = sym c.in_ok-node.ensures
    ∙ c.in-Some.is in
    let is = c.in_ok-inh_changed.ensures in
    record {
      follows = (
        omega arith,
        c.count_one.ensures.no_less,
        keeps_rows k.nodes c.replace.new.self k.bodies k.members k.notes c.args.id c.in-Some.node
            c.in_ok-inh_changed.field-0 found
            (grind (arith, is, with_held-id, c.in-Some.node)) c.replace.ensures,
      );
      written = c.count_one.ensures.capped;
      becomes =
          λ t. changes k.nodes c.replace.new.self k.bodies k.members k.notes c.args.id
          (with_inh c.args.which c.args.entries.now) c.in-Some.node c.in_ok-inh_changed.field-0
          found is c.replace.ensures;
      unfailed = refl;
      fault = tt;
    }
