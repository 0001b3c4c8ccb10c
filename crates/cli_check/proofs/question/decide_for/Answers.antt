use Rattle.std.proofs.Common.{List, ℕ, ◌≡◌, ◌∙◌, ◌&&◌, refl, sym, ap, is_some}
use Rattle.std.proofs.lemmas.List.Sorted.{list_any-IsPermutation}
use Rattle.room_entry.specs.{Matching.is_member, Pieces.same_text}
use Rattle.cli_check.proofs.question.decide_for.Goals as goal

pub returns : goal.returns
returns c =
    let given = c.args.caller.now in
    let alike : (group : List ℕ)
    → is_member (record given { groups = c.sort.new.self }) group ≡ is_member given group =
    λ group. sym (ap (λ among. is_some given.user && among)
    (list_any-IsPermutation
    (λ other. same_text other group) given.groups c.sort.new.self c.sort.ensures.same)) in
    c.decide.ensures
    ∙ (c.members_decide.ensures c.args.entries.now _ given c.args.owners.now (refl, alike)).1
    c.args.asked
