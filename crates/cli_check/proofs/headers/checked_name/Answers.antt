use Rattle.std.proofs.Common.{refl}
use Rattle.cli_check.proofs.headers.checked_name.Goals as goal
use Rattle.room_entry.proofs.Visible.{no_text_no_name}

pub returns-in-None : goal.returns-in-None
returns-in-None c =
    rw (no_text_no_name c.args.value.now c.in-None.ensures) refl
