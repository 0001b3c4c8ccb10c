use Rattle.std.proofs.Common.{◌≡◌, ◌+◌, ◌≤◌, drop}
use Rattle.room_rows.specs.{Along.after_chain, Rooted.HasRoot, Walk.{walk_of, walk_from}}
use Rattle.room_rows.proofs.Steps.{HasRead}
use Rattle.room_rows.proofs.chain.walk.Given as goal

-- the reads have answered, and the walk goes on from the object that was found last
abbrev pub invariant-names : goal.invariant-names
invariant-names g l =
    let k = g.K.Keep in
    record {
      few : k.reads l.keep ≤ k.reads l.fn.keep + (l.index + 1);
      read : HasRead k.rows k.failures k.writes k.Follows k.IsTrusted l.fn.keep l.keep;
      rooted : k.IsTrusted l.fn.keep l.keep → HasRoot (k.rows l.fn.keep);
      along : k.IsTrusted l.fn.keep l.keep
          → after_chain l.chain (walk_from (k.rows l.fn.keep).read l.node (drop l.index l.names))
          ≡ walk_of (k.rows l.fn.keep).read l.path;
    }
