use Rattle.sqlite.specs.Held.{state}
use Rattle.room_store.proofs.Reopened as reopened
use Rattle.room_store.proofs.laws.rooms_can_be_opened.Goals as goal

pub returns : goal.returns
returns g c = reopened.rooms_can_be_opened (state g.S.Store)
