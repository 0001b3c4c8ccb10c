use Rattle.std.proofs.Common.{rules, subst, ◌∙◌, arith}
use Rattle.sqlite.specs.Held.{state}
use Rattle.store_tables.specs.{Statements.ExecutesSql, Trust.{stays_on, trusted_first}}
use Rattle.store_tables.specs.Trust.{trusted_last}
use Rattle.store_tables.proofs.{Changed.of_one, Filling.{filled_rows, replaced}}
use Rattle.store_tables.proofs.bodies.replace_bytes.Goals as goal

pub returns-clause-puts : goal.returns-clause-puts
returns-clause-puts g c =
    let old = state g.S.Store c.args.keeper.now.tx.now.conn.now in
    let mid = state g.S.Store c.delete_bytes.new.tx.conn.now in
    let new = state g.S.Store c.insert_bytes.new.tx.conn.now in
    let took = c.in_ok-wrote_one.ensures in
    let came = c.in_ok-or_blamed.ensures in
    let first = c.delete_bytes.ensures.writes in
    let second = subst (ExecutesSql _ mid new) came.answer c.insert_bytes.ensures.writes in
    record {
      stays = stays_on old mid new first.stays second.stays;
      no_less = omega (arith, took.no_less, came.no_less);
      unfailed = came.unfailed ∙ took.unfailed;
      fault = tt;
      becomes = λ trust.
          let one = trusted_first old mid new first.stays second.stays trust in
          let two = trusted_last old mid new first.stays second.stays trust in
          let gone = of_one c.delete_bytes.result _ _ took.answer
          (first.leaves one.clean one.now) in
          search (rules, filled_rows, gone.0, replaced, gone.1, second.leaves, two.clean);
    }
