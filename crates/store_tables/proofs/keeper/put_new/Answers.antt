use Rattle.std.proofs.Common.{arith, ◌≡◌, rules, w64, Some, pos, ap, sym, subst, ◌∙◌}
use Rattle.std.{proofs.Math.Facts.to_z-of_z, specs.Prelude.FitsSigned}
use Rattle.sqlite.specs.{Held.state, declared.types.Value.TheVariants.Int}
use Rattle.store_tables.specs.{Columns.{ReadsAsNode, values_of}, Filed.number_is, Meaning.number_in}
use Rattle.store_tables.{specs.{Shown.AddsRow, Statements.ExecutesSql}, proofs.Adding.same_int}
use Rattle.store_tables.proofs.keeper.put_new.Goals as goal

pub returns-in-Some-number_of-clause-puts : goal.returns-in-Some-number_of-clause-puts
returns-in-Some-number_of-clause-puts g c =
    let old = state g.S.Store c.args.keeper.now.tx.now.conn.now in
    let new = state g.S.Store c.insert_node-done.new.tx.conn.now in
    let columns = c.in-Some.columns in
    let came = c.in_ok-or_blamed.ensures in
    let writes = subst (ExecutesSql _ old new) came.answer c.insert_node-done.ensures.writes in
    let stores : ReadsAsNode c.args.node.now columns = rw c.in-Some.is at c.in_ok-columns.ensures in
    let fits : FitsSigned w64 c.last_insert_rowid.result = first_of
    (search (c.last_insert_rowid.type_inv, rules), search rules) in
    let told : number_in (Int new.last_rowid) ≡ Some c.in-Some-number_of.id = ap
    (λ z. number_in (Int z)) (sym c.last_insert_rowid.ensures ∙ sym (to_z-of_z fits))
    ∙ sym c.number_of.ensures ∙ c.in-Some-number_of.is in
    let number = number_is (Int new.last_rowid) c.in-Some-number_of.id told in
    record {
      stays = writes.stays;
      no_less = came.no_less;
      unfailed = came.unfailed;
      fault = tt;
      becomes = λ trust.
          let leaves = writes.leaves trust.clean trust.now in
          record {
            columns = columns;
            stores = stores;
            adds =
                subst (λ z. AddsRow z (values_of columns) old.now.trees new.now.trees)
                (sym leaves.1 ∙ same_int new.last_rowid (pos c.in-Some-number_of.id) number.0)
                leaves.0;
            from_one = number.1;
          };
    }

pub insert_node-done-requires : goal.insert_node-done-requires
insert_node-done-requires g c =
    grind (arith, c.in-Some.columns, c.in-Some.is, c.in_ok-columns.ensures)
