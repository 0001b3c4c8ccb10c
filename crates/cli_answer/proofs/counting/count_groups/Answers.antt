use Rattle.std.proofs.Common.{[], refl, arith}
use Rattle.cli_answer.{specs.Counting.with_group, proofs.Groups.{after_all, after_next, seen_next}}
use Rattle.cli_answer.proofs.Groups.{seen_none}
use Rattle.cli_answer.proofs.counting.count_groups.Goals as goal

pub pairs-init : goal.pairs-init
pairs-init c = ([], seen_none _ c.new-seen.ensures.empty, refl)

pub pairs-preserved : goal.pairs-preserved
pairs-preserved c =
    let so_far = c.pairs.invariant in
    let insert = c.in_ok-insert.ensures in (
      with_group so_far.0 c.pair-item.result.0,
      seen_next _ _ _ c.as_str.result _ _ so_far.1 c.as_str.ensures insert.added insert.updates.0
          insert.unchanged insert.len,
      after_next _ _ _ _ _ c.pairs-test.true c.pair-item.is so_far.2,
    )

pub returns : goal.returns
returns c =
    grind (arith, after_all, c.pairs.invariant, c.len.ensures.len, c.pairs-test.false)
