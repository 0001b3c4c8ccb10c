use Rattle.std.{proofs.Common.{◌≡◌, None, take}, specs.List.fold}
use Rattle.room_would.specs.Paths.{met, target}
use Rattle.room_would.proofs.paths.first_path.Given as goal

-- what the first changes have in common
abbrev pub invariant-changes : goal.invariant-changes
invariant-changes l = l.front ≡ fold (λ front change. met front (target change)) None
    (take l.change-index l.question.changes)

-- and the first looks
abbrev pub invariant-looks : goal.invariant-looks
invariant-looks l = l.front ≡ fold (λ front look. met front look.path)
    (fold (λ front change. met front (target change)) None l.question.changes)
    (take l.look-index l.question.looks)
