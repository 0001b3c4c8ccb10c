use Rattle.std.proofs.Common.{ap, arith, ◌∙◌}
use Rattle.room_rows.specs.{Counts.capped_rises, Keep.{capped, one_more}}
use Rattle.store_tables.proofs.keeper.KeeperKeep.set_body.Goals as goal

pub returns : goal.returns
returns g c =
    let put = c.in_ok-fill_bytes.ensures in
    let counted = ap capped put.unwritten in
    record {
      written = record {
        follows = (
          put.same_reference,
          put.same_lender,
          put.puts.stays,
          put.puts.no_less,
          omega (arith, counted, capped_rises _ _ c.count_one.ensures.no_less),
        );
        written = c.count_one.ensures.capped ∙ ap one_more counted;
        becomes = λ trust document. put.puts.becomes trust;
        unfailed = ap capped put.puts.unfailed;
        fault = tt;
      };
      unread = omega arith;
    }
