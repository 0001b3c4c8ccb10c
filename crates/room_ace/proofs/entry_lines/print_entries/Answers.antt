use Rattle.std.proofs.{Common.{◌≡◌, ap, ◌∙◌, string_bytes, rules, arith}, lemmas.Grind.common_steps}
use Rattle.room_ace.specs.{Column.entries_of, Lists.entry_lines}
use Rattle.room_ace.proofs.ListsBack.{entries_read_back}
use Rattle.room_ace.proofs.entry_lines.print_entries.Goals as goal

pub returns-clause-back : goal.returns-clause-back
returns-clause-back c =
    let all : string_bytes c.loop-entry.text ≡ entry_lines c.args.entries.now = first_of
    (search rules, grind (arith, common_steps)) in
    ap entries_of all ∙ entries_read_back c.args.entries.now c.are_known.ensures
