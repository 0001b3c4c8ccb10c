use Rattle.std.proofs.lemmas.Str.{IsUtf8-string_bytes}
use Rattle.room_rows.proofs.text.Text.is_known.Goals as goal
use Rattle.room_entry.proofs.Texts.{passes_as_utf8}

pub returns : goal.returns
returns c = rw (← c.self.view_is) (passes_as_utf8 _ (IsUtf8-string_bytes c.self.inside.text))
