use Rattle.std.proofs.{Common.{ap, ◌∙◌}, lemmas.Str.IsUtf8-from_ascii}
use Rattle.room_entry.{specs.Names.is_name, proofs.Visible.{ascii, name_ascii}}
use Rattle.room_entry.proofs.name.Name.as_str.Goals as goal

pub from_utf8_unchecked-requires : goal.from_utf8_unchecked-requires
from_utf8_unchecked-requires c =
    let bytes = c.as_slice-bytes.result.now in
    IsUtf8-from_ascii bytes
    (ascii bytes (name_ascii bytes (ap is_name c.as_slice-bytes.ensures ∙ c.self.invariant)))
