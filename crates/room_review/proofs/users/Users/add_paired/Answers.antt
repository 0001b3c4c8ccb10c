use Rattle.std.proofs.{Common.{rules, ℕ, List, subst}, lemmas.List.Concat.flat_map_single}
use Rattle.room_review.{specs.Users.Gathers, proofs.Listed.gathers_all}
use Rattle.room_review.proofs.users.Users.add_paired.Goals as goal

pub returns : goal.returns
returns c =
    let start = c.args.self.now in
    subst (λ (more : List (List ℕ)). Gathers start more c.loop-pair.self)
    (flat_map_single (λ (pair : List ℕ × List ℕ). pair.1) c.args.pairs.now)
    (search (rules, gathers_all, c.loop-pair-test.false, c.loop-pair.invariant))
