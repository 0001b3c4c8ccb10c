use Rattle.std.proofs.Common.{◌≡◌, ℕ, ◌+◌, ◌-◌, true, length}
use Rattle.room_rows.specs.{Content.reaches_root, Sound.reaches}
use Rattle.room_verify.specs.Objects.{only}
use Rattle.room_verify.proofs.objects.Objects.reaches_root.Given as goal

-- the steps that are left lead to the root exactly if all do, and any steps from here make a way
abbrev pub invariant-steps : goal.invariant-steps
invariant-steps l =
    record {
      same : reaches_root (length l.self - l.step) (only l.self) l.above
          ≡ reaches (only l.self) l.node;
      further : (m : ℕ) → reaches_root m (only l.self) l.above ≡ true
          → reaches_root (m + l.step) (only l.self) l.node.parent ≡ true;
    }
