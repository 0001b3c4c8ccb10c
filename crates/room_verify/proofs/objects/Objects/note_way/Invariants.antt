use Rattle.std.proofs.Common.{◌≡◌, true, length}
use Rattle.std.specs.{BTreeSet.contains, Ordering.nat_cmp, Prelude.IsTrue}
use Rattle.room_rows.specs.{Content.reaches_root, Sound.reaches}
use Rattle.room_verify.specs.Objects.{AllLead, only}
use Rattle.room_verify.proofs.objects.Objects.note_way.Given as goal

-- what is known leads to the root, and so does what is above
abbrev pub invariant-steps : goal.invariant-steps
invariant-steps l =
    AllLead l.self (contains nat_cmp l.fn.known) → IsTrue (reaches (only l.self) l.node)
    → AllLead l.self (contains nat_cmp l.known)
    × (reaches_root (length l.self) (only l.self) l.above ≡ true)
