use Rattle.std.proofs.Common.{◌≡◌, drop}
use Rattle.serde_json.specs.{Data.no_members, View.members_view}
use Rattle.http_message.specs.Bodies.{with_rulings}
use Rattle.http_message.proofs.data.rulings_value.Given as goal

abbrev pub invariant-loop-mask : goal.invariant-loop-mask
invariant-loop-mask l =
    with_rulings (members_view l.members.entries) (drop l.mask-index l.rulings)
    ≡ with_rulings no_members l.rulings
