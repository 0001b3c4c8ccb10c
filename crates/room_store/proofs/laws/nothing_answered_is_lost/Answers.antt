use Rattle.std.proofs.Common.{rules}
use Rattle.room_store.proofs.Outlasting.{nothing_lost}
use Rattle.room_store.proofs.laws.nothing_answered_is_lost.Goals as goal

pub returns : goal.returns
returns g c = search (rules, nothing_lost)
