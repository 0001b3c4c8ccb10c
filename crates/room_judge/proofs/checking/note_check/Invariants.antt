use Rattle.std.proofs.Common.{◌≤◌, take}
use Rattle.room_judge.specs.{Stored.found_site, Extent.OnlyRecords}
use Rattle.room_judge.proofs.{Calls.HasDone, Noting.Notes}
use Rattle.room_judge.proofs.checking.note_check.Given as goal

-- the records of the first places are noted
abbrev pub invariant-places : goal.invariant-places
invariant-places g l =
    let k = g.K.Keep in
    record {
      few : k.reads l.keep ≤ k.reads l.fn.keep;
      done : HasDone k.rows k.writes k.Follows k.IsTrusted OnlyRecords l.fn.keep l.keep
          (Notes l.checked.ask.now.asker.now l.checked.granted
          (found_site l.checked.ask.now.path.now l.checked.found.now)
          l.checked.bits (take l.place-index l.place-items));
    }
