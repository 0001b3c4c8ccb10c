use Rattle.std.proofs.Common.{ap, arith}
use Rattle.room_rows.specs.{Keep.{capped}}
use Rattle.store_tables.proofs.{Changing.{cause_in, writes_rise}, Tests.if_ok}
use Rattle.store_tables.proofs.keeper.KeeperKeep.set_place.Goals as goal

pub returns : goal.returns
returns g c =
    let put = c.put_place.ensures in
    record {
      written = record {
        follows = (
          put.same_reference,
          put.same_lender,
          put.puts.stays,
          put.puts.no_less,
          writes_rise _ c.put_place.result _ _ put.written,
        );
        written = put.written;
        becomes =
            λ trust. if_ok c.put_place.result _ _ (λ done alters folder free. alters)
            (put.puts.becomes trust);
        unfailed = if_ok c.put_place.result _ _ (λ done same. ap capped same) put.puts.unfailed;
        fault =
            grind (arith, cause_in, put, put.puts.no_less, put.puts.fault);
      };
      unread = omega arith;
    }
