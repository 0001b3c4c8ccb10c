use Rattle.std.proofs.{Common.{◌≡◌, rules, nat_cmp, ◌∙◌}, lemmas.Fn.always_returns_same}
use Rattle.std.specs.Cmp.Lexicographic.{slice_cmp}
use Rattle.room_entry.proofs.Rising.{searched}
use Rattle.room_entry.proofs.parties.search.Goals as goal

pub returns : goal.returns
returns c =
    let name = c.args.name.now in
    let at = c.binary_search_by.ensures.position (λ other. slice_cmp nat_cmp other name)
    (always_returns_same _ (λ a r. r ≡ slice_cmp nat_cmp a.0.now name) _
    (λ a r q k. search rules)) in
    c.is_ok.ensures.value
    ∙ searched c.args.names.now name _ c.requires c.binary_search_by.ensures.bound at
