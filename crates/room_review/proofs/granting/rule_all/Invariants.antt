use Rattle.room_eval.specs.Verdict.{is_allowed}
use Rattle.room_review.{specs.Standing.is_denied, proofs.Ruled.FoundBefore}
use Rattle.room_review.proofs.granting.rule_all.Given as goal

-- the rights that the entries before this one allow or deny, and those that none of them rules
abbrev pub invariant-loop-index : goal.invariant-loop-index
invariant-loop-index l = record {
  allows : FoundBefore is_allowed l.entries l.caller l.owners l.allowed l.unruled l.index;
  denies : FoundBefore is_denied l.entries l.caller l.owners l.denied l.unruled l.index;
}
