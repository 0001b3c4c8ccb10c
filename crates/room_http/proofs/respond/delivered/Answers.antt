use Rattle.std.proofs.Common.{refl}
use Rattle.room_http.proofs.respond.delivered.Goals as goal

pub returns-in-Err : goal.returns-in-Err
returns-in-Err c = refl
