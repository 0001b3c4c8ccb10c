use Rattle.std.proofs.Common.{◌≡◌, ◌++◌, drop}
use Rattle.room_desk.specs.Setting.{entries_marked}
use Rattle.room_desk.proofs.setting.sent_entries.Given as goal

-- what is taken so far, and what is left to take
abbrev pub invariant-sent : goal.invariant-sent
invariant-sent l =
    l.entries ++ entries_marked l.inherited (drop l.entry-index l.sent.entries)
    ≡ entries_marked l.inherited l.sent.entries
