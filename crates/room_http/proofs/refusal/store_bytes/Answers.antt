use Rattle.room_http.proofs.FixedTexts.{store}
use Rattle.room_http.proofs.refusal.store_bytes.Goals as goal

pub returns : goal.returns
returns c = store
