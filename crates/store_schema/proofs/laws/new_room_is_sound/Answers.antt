use Rattle.std.proofs.Common.{refl}
use Rattle.store_schema.proofs.laws.new_room_is_sound.Goals as goal

pub returns : goal.returns
returns c = λ owners. refl
