use Rattle.std.proofs.Common.{arith}
use Rattle.sqlite.specs.Held.{state}
use Rattle.room_store.{specs.Leads.all_events, proofs.FromRoot.stays_from_root}
use Rattle.room_store.proofs.laws.stored_lists_are_full.Goals as goal

pub returns : goal.returns
returns g c =
    λ first calls follows ends.
    stays_from_root c.rooms_store_full_lists.ensures (state g.S.Store first)
    (state g.S.Store c.args.store.now.conn) (all_events calls)
    (grind (arith, g.S.Store, c.calls_are_a_run.ensures))
    c.what_is_seen_lasts.ensures
