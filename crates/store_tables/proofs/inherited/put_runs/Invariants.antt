use Rattle.std.{proofs.Common.{◌≡◌, ◌++◌, List, ℕ, Ok, take}, specs.List.range_with_len}
use Rattle.sqlite.specs.Held.{state}
use Rattle.room_entry.specs.Ace.{Ace}
use Rattle.room_rows.specs.Keep.{with_inh}
use Rattle.store_tables.{specs.Printed.IsPrinted, proofs.Putting.PutsAll}
use Rattle.store_tables.proofs.inherited.put_runs.Given as goal

-- those that came are written, but the last ones, which follow one another
abbrev pub invariant-ids : goal.invariant-ids
invariant-ids g l =
    record {
      same_reference : l.keeper.tx.ghost_name ≡ l.fn.keeper.tx.ghost_name;
      same_lender : l.keeper.tx.now.conn.ghost_name ≡ l.fn.keeper.tx.now.conn.ghost_name;
      unwritten : l.keeper.writes ≡ l.fn.keeper.writes;
      written : List ℕ;
      whole : written ++ range_with_len l.first l.count ≡ take l.id-index l.ids;
      puts : (entries : List Ace) → IsPrinted entries l.fn.text
          → PutsAll (state g.S.Store l.fn.keeper.tx.now.conn.now)
          (state g.S.Store l.keeper.tx.now.conn.now) l.fn.keeper.failures l.keeper.failures (Ok tt)
          written (with_inh l.fn.which entries);
    }
