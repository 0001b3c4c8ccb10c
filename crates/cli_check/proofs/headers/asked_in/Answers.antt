use Rattle.std.proofs.Common.{refl}
use Rattle.cli_check.proofs.Ascii.{no_text_no_letters}
use Rattle.cli_check.proofs.headers.asked_in.Goals as goal

pub returns-in-None : goal.returns-in-None
returns-in-None c = rw (no_text_no_letters c.args.value.now c.in-None.ensures) refl
