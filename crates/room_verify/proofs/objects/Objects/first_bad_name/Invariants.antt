use Rattle.std.{proofs.Common.{◌≡◌, ℕ, not, List, drop, take}, specs.{Borrow.Bor, List.find}}
use Rattle.std.specs.{List.list_any, BTreeSet.contains}
use Rattle.room_rows.specs.{declared.node.Node.Node, Sound.has_sound_name}
use Rattle.room_verify.{specs.Objects.only, proofs.Given.{key_order, holds}}
use Rattle.room_verify.proofs.objects.Objects.first_bad_name.Given as goal

-- what is left has the same answer, and the set has the parents and names so far
abbrev pub invariant-nodes : goal.invariant-nodes
invariant-nodes l = record {
  same : find (λ (n : Node). not (has_sound_name (only l.self) n)) (drop l.node-index l.node-items)
      ≡ find (λ (n : Node). not (has_sound_name (only l.self) n)) l.self;
  given : (key : ℕ × Bor (List ℕ))
      → contains key_order l.given key ≡ list_any (holds key) (take l.node-index l.node-items);
}
