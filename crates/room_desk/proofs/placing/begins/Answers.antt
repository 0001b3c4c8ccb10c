use Rattle.std.proofs.Common.{◌≡◌, length, sym, ◌∙◌, arith}
use Rattle.room_desk.proofs.Moves.OnePath.{all_compared, one_differs, one_same, too_many}
use Rattle.room_desk.proofs.placing.begins.Goals as goal

pub returns-then-are_more : goal.returns-then-are_more
returns-then-are_more c = too_many c.args.names.now c.args.others.now c.if-are_more.true

pub each-preserved : goal.each-preserved
each-preserved c = record {
  fits = c.each.invariant.fits;
  same =
      one_same c.args.names.now c.args.others.now c.each.index c.each.invariant.same
      c.each-test.true c.each.invariant.fits c.index-names-index.result c.index-others-index.result
      c.index-names-index.is c.index-others-index.is
      (sym c.if-not-is_same.false ∙ c.is_same_name-is_same.ensures);
}

pub returns-then-not-is_same : goal.returns-then-not-is_same
returns-then-not-is_same c =
    one_differs c.args.names.now c.args.others.now c.each.index c.each.invariant.same
    c.each-test.true c.each.invariant.fits c.index-names-index.result c.index-others-index.result
    c.index-names-index.is c.index-others-index.is
    (sym c.if-not-is_same.true ∙ c.is_same_name-is_same.ensures)

pub returns : goal.returns
returns c = let ended : c.each.index ≡ length c.args.names.now = omega arith in
    all_compared c.args.names.now c.args.others.now c.each.index c.each.invariant.same ended
