use Rattle.std.proofs.Common.{rules, ap, ◌∙◌, not}
use Rattle.sqlite.specs.Held.{state}
use Rattle.room_store.proofs.laws.what_is_committed_lasts.Goals as goal

pub returns : goal.returns
returns g c =
    λ is_open.
    let s = state g.S.Store c.args.conn.now in
    let store = c.args.conn.now.store in
    let same = c.is_autocommit-settled.ensures.settled
    (c.is_autocommit-settled.ensures.value ∙ ap not c.requires) is_open in (
      (c.schema-schema.ensures.live is_open).0,
      search (rules, same, g.met.S.Store.stays, g.met.S.Store.settled),
    )
