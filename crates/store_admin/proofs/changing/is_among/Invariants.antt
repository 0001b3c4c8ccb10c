use Rattle.std.proofs.Common.{◌≡◌, drop}
use Rattle.store_admin.specs.Changing.{is_among}
use Rattle.store_admin.proofs.changing.is_among.Given as goal

-- whether it is one of those that are left
abbrev pub invariant-loop-other : goal.invariant-loop-other
invariant-loop-other l =
    is_among l.fn.pair (drop l.other-index l.others) ≡ is_among l.fn.pair l.fn.others
