use Rattle.std.{proofs.Common.{◌≡◌, not, drop}, specs.List.find}
use Rattle.room_rows.{specs.{declared.node.Node.Node, Sound.has_sound_body}, proofs.Steps.HasRead}
use Rattle.room_verify.proofs.bodies.first_bad_body.Given as goal

-- the reads have answered, and what is left has the same answer
abbrev pub invariant-nodes : goal.invariant-nodes
invariant-nodes g l =
    let k = g.K.Keep in
    record {
      read : HasRead k.rows k.failures k.writes k.Follows k.IsTrusted l.fn.keep l.keep;
      same : k.IsTrusted l.fn.keep l.keep
          → find (λ (n : Node). not (has_sound_body (k.rows l.fn.keep).read n))
          (drop l.node-index l.node-items)
          ≡ find (λ (n : Node). not (has_sound_body (k.rows l.fn.keep).read n)) l.objects;
    }
