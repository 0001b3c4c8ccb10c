use Rattle.std.proofs.Common.{refl, arith}
use Rattle.room_memory.proofs.Changed.{gone, gone_rows}
use Rattle.room_memory.proofs.memory.MemKeepKeep.remove.Goals as goal

pub returns-then-not-was_there-clause-written : goal.returns-then-not-was_there-clause-written
returns-then-not-was_there-clause-written c =
    let k = c.args.self.now in
    record {
      follows = (
        c.failed.ensures.no_less,
        omega arith,
        gone_rows k.nodes c.take.new.self k.bodies c.take-2.new.self k.members k.notes c.args.id
            c.in_ok-was_there.ensures.ok c.take-2.ensures,
      );
      written = refl;
      becomes = λ t. tt;
      unfailed = tt;
      fault = rw c.failed.ensures.store c.failed.ensures.capped;
    }

pub returns-clause-written : goal.returns-clause-written
returns-clause-written c =
    let k = c.args.self.now in
    record {
      follows = (
        omega arith,
        c.count_one.ensures.no_less,
        gone_rows k.nodes c.take.new.self k.bodies c.take-2.new.self k.members
            k.notes c.args.id c.in_ok-was_there.ensures.ok c.take-2.ensures,
      );
      written = c.count_one.ensures.capped;
      becomes =
          λ t can. gone k.nodes c.take.new.self k.bodies c.take-2.new.self k.members k.notes
          c.args.id c.in_ok-was_there.ensures.ok c.take-2.ensures;
      unfailed = refl;
      fault = tt;
    }
