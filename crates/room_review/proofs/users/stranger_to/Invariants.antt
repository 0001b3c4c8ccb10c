use Rattle.std.{proofs.Common.{ℕ, ◌<◌, ◌≡◌, true}, specs.Prelude.decimal}
use Rattle.room_review.specs.Users.{is_listed}
use Rattle.room_review.proofs.users.stranger_to.Given as goal

-- the numbers that were tried are users
abbrev pub invariant-loop-number : goal.invariant-loop-number
invariant-loop-number l = (k : ℕ) → k < l.number → is_listed (decimal k) l.names ≡ true
