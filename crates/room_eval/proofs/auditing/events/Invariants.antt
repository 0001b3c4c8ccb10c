use Rattle.std.proofs.Common.{◌≡◌, ◌+◌, ◌++◌, drop}
use Rattle.room_eval.specs.Events.{events_of, events_from}
use Rattle.room_eval.proofs.auditing.events.Given as goal

-- the places so far and those of the rest are all
abbrev pub invariant-loop-index : goal.invariant-loop-index
invariant-loop-index l =
    l.places.items ++ events_from (l.index + 1)
    (drop l.index l.sacl) l.caller l.owners l.asked l.granted
    ≡ events_of l.sacl l.caller l.owners l.asked l.granted
