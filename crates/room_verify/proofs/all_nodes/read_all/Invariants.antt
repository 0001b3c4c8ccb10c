use Rattle.std.{proofs.Common.{◌≡◌, ◌++◌, drop}, specs.List.{find, filter_map}}
use Rattle.room_rows.specs.{Content.node_at, Rows.numbers_of, Sound.has_bad_list}
use Rattle.room_rows.proofs.Steps.{HasRead}
use Rattle.room_verify.proofs.all_nodes.read_all.Given as goal

-- the reads have answered; none so far is bad, and the objects are those of the numbers so far
abbrev pub invariant-ids : goal.invariant-ids
invariant-ids g l =
    let k = g.K.Keep in
    record {
      read : HasRead k.rows k.failures k.writes k.Follows k.IsTrusted l.fn.keep l.keep;
      numbers : k.IsTrusted l.fn.keep l.keep → l.id-items ≡ numbers_of (k.rows l.fn.keep);
      sound : k.IsTrusted l.fn.keep l.keep
          → find (has_bad_list (k.rows l.fn.keep)) (drop l.id-index l.id-items)
          ≡ find (has_bad_list (k.rows l.fn.keep)) l.id-items;
      found : k.IsTrusted l.fn.keep l.keep
          → l.nodes ++ filter_map (node_at (k.rows l.fn.keep).read) (drop l.id-index l.id-items)
          ≡ filter_map (node_at (k.rows l.fn.keep).read) l.id-items;
    }
