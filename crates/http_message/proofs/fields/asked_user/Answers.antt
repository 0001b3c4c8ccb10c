use Rattle.std.proofs.Common.{refl}
use Rattle.http_message.proofs.fields.asked_user.Goals as goal
use Rattle.room_entry.proofs.Visible.{no_text_no_name}

pub returns-in-None : goal.returns-in-None
returns-in-None c =
    rw (no_text_no_name c.args.bytes.now c.in-None.ensures) refl
