use Rattle.std.proofs.Common.{rules, [], ap, ◌∙◌, not}
use Rattle.sqlite.specs.Held.{state}
use Rattle.store_transaction.proofs.Testing.{same_rows, was, left_by}
use Rattle.store_transaction.proofs.ending.still_open.Goals as goal

pub returns-in-Err-clause-ends : goal.returns-in-Err-clause-ends
returns-in-Err-clause-ends g c now =
    let old = state g.S.Store c.args.conn.now in
    let new = state g.S.Store c.prepare.new.self in
    let left = left_by _ old new _ _ (c.in-Err.ensures.err now []) in
    let settled = c.is_autocommit-settled.ensures.settled
    (c.is_autocommit-settled.ensures.value ∙ ap not c.requires) in (
      c.in-Err.error,
      c.commit_fault.ensures,
      search (rules, was, old, new, left, same_rows, settled),
    )
