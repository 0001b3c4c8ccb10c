use Rattle.room_entry.proofs.Alike.{not_as_long}
use Rattle.room_entry.proofs.comparing.same_lists.Goals as goal

pub returns-then-entries-others : goal.returns-then-entries-others
returns-then-entries-others c =
    not_as_long c.args.entries.now c.args.others.now c.if-entries-others.true
