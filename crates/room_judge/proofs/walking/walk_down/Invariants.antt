use Rattle.std.proofs.Common.{◌≡◌, ◌+◌, ◌≤◌, Some, take}
use Rattle.room_rows.specs.Content.{root_of}
use Rattle.room_judge.{specs.Extent.OnlyRecords, proofs.{Calls.HasDone, Ways.IsOnWay}}
use Rattle.room_judge.proofs.walking.walk_down.Given as goal

-- this many steps are done
abbrev pub invariant-names : goal.invariant-names
invariant-names g l =
    let k = g.K.Keep in
    record {
      counted : k.reads l.keep ≤ k.reads l.fn.keep + l.index;
      done : HasDone k.rows k.writes k.Follows k.IsTrusted OnlyRecords l.fn.keep l.keep
          (λ old now. root_of old.read ≡ Some l.fn.root
          → IsOnWay l.ask.asker.now (take l.depth l.ask.path.now)
          (record { node = l.node; depth = l.index }) old now);
    }
