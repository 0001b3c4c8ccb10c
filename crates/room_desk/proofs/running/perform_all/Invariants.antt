use Rattle.std.proofs.Common.{take}
use Rattle.room_desk.proofs.Steps.Bounds.{HasGone}
use Rattle.room_desk.proofs.running.perform_all.Given as goal

-- the first requests are carried out
abbrev pub invariant-requests : goal.invariant-requests
invariant-requests g l =
    HasGone g.K.Keep (take l.one-index l.asked) l.replies.items l.fn.keep l.keep
