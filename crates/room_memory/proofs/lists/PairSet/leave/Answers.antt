use Rattle.std.proofs.{Common.{◌≡◌, ℕ, List, not, filter, rules}, lemmas.Fn.filter_same}
use Rattle.room_memory.{specs.Pairs.is_same_pair, proofs.Paired.{filter_sorted, sorted_set}}
use Rattle.room_memory.proofs.lists.PairSet.leave.Goals as goal

left : (c : goal.After-retain)
    → c.retain.new.self.items
    ≡ filter
    (λ (pair : List ℕ × List ℕ). not (is_same_pair (c.args.group.now, c.args.user.now) pair))
    c.self.inside.items.items
left c =
    filter_same _ (λ (pair : List ℕ × List ℕ).
    not (is_same_pair (c.args.group.now, c.args.user.now) pair)) _
    (λ x b f' k. search rules) _ _ c.retain.ensures.filtered

pub invariant_of-self : goal.invariant_of-self
invariant_of-self c = search (rules, left, c, filter_sorted, c.self.invariant)

pub returns-clause-left : goal.returns-clause-left
returns-clause-left c = search (rules, left, c, c.self.view_is)

pub returns-clause-ordered : goal.returns-clause-ordered
returns-clause-ordered c = search (rules, left, c, sorted_set, filter_sorted, c.self.invariant)
