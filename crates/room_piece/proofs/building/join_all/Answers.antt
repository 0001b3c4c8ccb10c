use Rattle.std.{proofs.Common.{ℕ, List, drop, length, ap, arith, ◌∙◌}, specs.Prelude.◌-◌}
use Rattle.room_memory.specs.Memory.{rows_in}
use Rattle.room_piece.proofs.Joining.{Joined, joined_next, joined_none, next_drop}
use Rattle.room_piece.proofs.building.join_all.Goals as goal

pub pairs-init : goal.pairs-init
pairs-init c = λ are none. (joined_none _ c.args.pairs.now none, are)

pub pairs-preserved : goal.pairs-preserved
pairs-preserved c = λ are none.
    let sofar = c.pairs.invariant are none in
    let joins = c.in_ok-join_one.ensures in
    let pairs = c.args.pairs.now in
    let here = joined_next (rows_in c.args.keep.now) (rows_in c.pairs.keep)
    (rows_in c.join_one.new.keep) (drop (length pairs - c.pairs.index) pairs)
    c.index-pairs-count.result sofar.0 sofar.1.members joins.rows in (
      here
          ∙ ap (λ (l : List (List ℕ × List ℕ)). Joined (rows_in c.args.keep.now) l)
          (next_drop pairs c.pairs.index _ c.index-pairs-count.result c.pairs-test.true
          (omega arith) c.index-pairs-count.is),
      joins.stay_rows sofar.1,
    )
