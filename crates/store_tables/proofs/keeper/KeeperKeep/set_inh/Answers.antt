use Rattle.std.proofs.Common.{ap, arith}
use Rattle.room_rows.specs.{Keep.{capped}}
use Rattle.store_tables.proofs.{Changing.{cause_in, writes_rise}, Tests.if_ok}
use Rattle.store_tables.proofs.keeper.KeeperKeep.set_inh.Goals as goal

pub returns : goal.returns
returns g c =
    let put = c.put_inh.ensures in
    record {
      written = record {
        follows = (
          put.same_reference,
          put.same_lender,
          put.puts.stays,
          put.puts.no_less,
          writes_rise _ c.put_inh.result _ _ put.written,
        );
        written = put.written;
        becomes = put.puts.becomes;
        unfailed = if_ok c.put_inh.result _ _ (λ done same. ap capped same) put.puts.unfailed;
        fault =
            grind (arith, cause_in, put, put.puts.no_less, put.puts.fault);
      };
      unread = omega arith;
    }
