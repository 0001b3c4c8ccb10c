use Rattle.std.proofs.Common.{◌∙◌}
use Rattle.room_review.proofs.Kept.{closed_standing}
use Rattle.room_review.proofs.standing.below.Goals as goal

pub returns-else-folder : goal.returns-else-folder
returns-else-folder c above site path last is =
    c.unreached.ensures
    ∙ closed_standing c.args.caller.now path c.args.node.now above site last c.args.folder.now is
    c.if-folder.false
