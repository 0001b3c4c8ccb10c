use Rattle.std.proofs.Common.{arith, rules, ap}
use Rattle.sqlite.specs.Held.{state}
use Rattle.room_store.specs.View.{StoreView}
use Rattle.room_store.proofs.{Outlasting.asked_outlasts, Retaining.asked_retains}
use Rattle.room_store.proofs.Shutting.{asked_keeps, asked_sound, asked_stored}
use Rattle.room_store.proofs.desk.StoreDesk.is_shut.Goals as goal

pub returns-in-Ok-clause-kept : goal.returns-in-Ok-clause-kept
returns-in-Ok-clause-kept g c = search (rules, asked_keeps, c.is_shut.ensures.asks)

pub returns-in-Ok-clause-sound : goal.returns-in-Ok-clause-sound
returns-in-Ok-clause-sound g c = search (rules, asked_sound, c.is_shut.ensures.asks)

pub returns-in-Err-clause-kept : goal.returns-in-Err-clause-kept
returns-in-Err-clause-kept g c =
    grind (arith, g.row.S.Denot, c.self.view_is, asked_keeps, c.is_shut.ensures.asks)

pub returns-in-Err-clause-sound : goal.returns-in-Err-clause-sound
returns-in-Err-clause-sound g c =
    grind (arith, g.row.S.Denot, c.self.view_is, asked_sound, c.is_shut.ensures.asks)

pub returns-in-Ok-clause-held : goal.returns-in-Ok-clause-held
returns-in-Ok-clause-held g c = search (rules, asked_stored, c.is_shut.ensures.asks)

pub returns-in-Err-clause-held : goal.returns-in-Err-clause-held
returns-in-Err-clause-held g c =
    grind (arith, g.row.S.Denot, c.self.view_is, asked_stored, c.is_shut.ensures.asks)

pub returns-in-Ok-clause-outlasts : goal.returns-in-Ok-clause-outlasts
returns-in-Ok-clause-outlasts g c =
    search (rules, asked_outlasts, c.is_shut.ensures.asks, asked_retains)

pub returns-in-Err-clause-outlasts : goal.returns-in-Err-clause-outlasts
returns-in-Err-clause-outlasts g c =
    let old = state g.S.Store c.args.self.now.conn in
    let new = state g.S.Store c.is_shut.new.self.conn in
    rw (ap (λ (v : StoreView g.row.S.Denot). v.conn) c.self.view_is)
    (asked_outlasts old new _ c.is_shut.ensures.asks, asked_retains old new _ c.is_shut.ensures.asks)
