use Rattle.std.{proofs.Common.{ℕ, ◌||◌, List, [], ◌∷◌, ap, ◌∙◌}, specs.List.insert}
use Rattle.room_review.{specs.Users.is_listed, proofs.Listed.gathers_put}
use Rattle.room_review.proofs.users.Users.add.Goals as goal

pub returns-in_ok-insert-in-Some : goal.returns-in_ok-insert-in-Some
returns-in_ok-insert-in-Some c other =
    ap (λ (names : List (List ℕ)). is_listed other names)
    (c.in_ok-insert-in-Some.ensures.items
    ∙ ap (λ (n : List ℕ). insert c.self.inside.items.items c.in-Some.place n)
    c.in_ok-copy-in-Some.ensures)
    ∙ gathers_put c.self.inside.items.items c.in-Some.place c.args.name.now other
    ∙ ap (λ (names : List (List ℕ)). is_listed other names
    || is_listed other (c.args.name.now ∷ [])) c.self.view_is
