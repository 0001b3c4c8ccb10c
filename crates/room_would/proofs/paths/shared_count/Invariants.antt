use Rattle.std.{proofs.Common.{◌≡◌, ◌+◌, drop, length}, specs.Prelude.◌-◌}
use Rattle.room_would.specs.Paths.{shared_count}
use Rattle.room_would.proofs.paths.shared_count.Given as goal

-- the names so far are shared
abbrev pub invariant-names : goal.invariant-names
invariant-names l =
    l.count + shared_count (drop l.count l.one) (drop l.count l.other) ≡ shared_count l.one l.other

abbrev pub decreases-names : goal.decreases-names
decreases-names l = length l.one - l.count
