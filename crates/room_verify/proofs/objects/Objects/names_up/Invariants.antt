use Rattle.std.proofs.Common.{◌≡◌, ◌-◌, ◌++◌, length, reverse}
use Rattle.room_verify.specs.Objects.{only}
use Rattle.room_rows.specs.Sound.{names_up}
use Rattle.room_verify.proofs.objects.Objects.names_up.Given as goal

-- the names that are left, and then those so far
abbrev pub invariant-steps : goal.invariant-steps
invariant-steps l =
    names_up (length l.self - l.step) (only l.self) l.object ++ reverse l.names.items
    ≡ names_up (length l.self) (only l.self) l.node
