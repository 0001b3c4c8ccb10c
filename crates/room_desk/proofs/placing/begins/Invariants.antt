use Rattle.std.proofs.Common.{◌≡◌, ◌≤◌, drop, length}
use Rattle.room_desk.specs.Moving.{begins}
use Rattle.room_desk.proofs.placing.begins.Given as goal

-- this many names are the same, and the rest decides
abbrev pub invariant-each : goal.invariant-each
invariant-each l =
    record {
      fits : length l.names ≤ length l.others;
      same : begins (drop l.index l.names) (drop l.index l.others) ≡ begins l.names l.others;
    }
