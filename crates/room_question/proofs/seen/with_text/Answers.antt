use Rattle.std.proofs.Common.{true, string_bytes}
use Rattle.std.proofs.lemmas.Map.Text.{btree_set_updates_text}
use Rattle.std.specs.BTreeSet.{contains_text}
use Rattle.room_question.proofs.SeenMore.{text_more}
use Rattle.room_question.proofs.seen.with_text.Goals as goal

pub returns : goal.returns
returns c = λ texts has text.
    text_more texts (string_bytes c.args.text) text (contains_text c.args.set text)
    (contains_text c.insert.new.self text) (has text)
    (btree_set_updates_text (string_bytes c.args.text) c.args.set c.insert.new.self true
    c.in_ok-_added.ensures.updates text)
