use Rattle.std.{proofs.Common.{rules, arith, nat_cmp, sym, ◌∙◌}, specs.Cmp.Lexicographic.slice_cmp}
use Rattle.room_review.proofs.Listed.{all_put, found_there, place_here, place_last}
use Rattle.room_review.proofs.users.place_for.Goals as goal

pub returns-in-Equal : goal.returns-in-Equal
returns-in-Equal c =
    found_there c.args.names.now c.args.name.now c.loop-place.place c.index-names-place.result
    c.loop-place-test.true c.index-names-place.is
    (sym (c.cmp.ensures
    ∙ (λ i. slice_cmp nat_cmp (c.as_str.ensures i) (c.as_str-in-loop-place.ensures i)))
    ∙ c.in-Equal.is)

pub returns-in-Greater : goal.returns-in-Greater
returns-in-Greater c = (
  omega arith,
  place_here c.args.names.now c.args.name.now c.loop-place.place c.index-names-place.result
      c.loop-place-test.true c.index-names-place.is
      (sym (c.cmp.ensures
      ∙ (λ i. slice_cmp nat_cmp (c.as_str.ensures i) (c.as_str-in-loop-place.ensures i)))
      ∙ c.in-Greater.is) c.requires.apart c.loop-place.invariant,
  all_put c.args.names.now c.loop-place.place c.args.name.now c.requires.valid c.is_known.ensures,
)

pub returns : goal.returns
returns c = (
  omega arith,
  search (rules, place_last, c.loop-place-test.false, c.requires.apart, c.loop-place.invariant),
  grind (arith, all_put, c.requires.valid, c.is_known.ensures),
)
