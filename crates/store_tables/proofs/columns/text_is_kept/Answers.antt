use Rattle.std.proofs.Common.{refl}
use Rattle.store_tables.proofs.columns.text_is_kept.Goals as goal
use Rattle.room_entry.proofs.Texts.{passes_as_utf8}

pub returns : goal.returns
returns c = rw (passes_as_utf8 c.args.text.now c.utf8.text) refl
