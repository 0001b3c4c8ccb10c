use Rattle.room_piece.specs.{Changing.{CannotDo, IsDone}, Holding.IsWell, InTurn.StopsInTurn}
use Rattle.room_piece.proofs.{Come.blames_turn, Done.done_well, Turns.{next_turn, stops_there}}
use Rattle.room_piece.proofs.changing.change.Goals as goal

pub changes-preserved : goal.changes-preserved
changes-preserved c =
    next_turn (IsDone c.args.unread.now) (done_well c.args.unread.now) c.args.changes.now
    c.changes.one-index c.one-item.result c.changes-test.true c.one-item.is c.args.piece.now
    c.changes.piece c.changes.invariant c.change_by.new.piece c.in-Ok.ensures.done

pub returns-in-Err-clause-refused : goal.returns-in-Err-clause-refused
returns-in-Err-clause-refused c =
    blames_turn (λ refusal. IsWell c.changes.piece.keep
    → CannotDo c.one-item.result c.changes.piece refusal)
    (λ refusal. IsWell c.args.piece.now.keep
    → StopsInTurn (IsDone c.args.unread.now) CannotDo c.args.changes.now c.args.piece.now refusal)
    c.in-Err.failure c.in-Err.ensures.refused
    (λ refusal said.
    stops_there (IsDone c.args.unread.now) (done_well c.args.unread.now) c.args.changes.now
    c.changes.one-index c.one-item.result c.changes-test.true c.one-item.is c.args.piece.now
    c.changes.piece c.changes.invariant CannotDo refusal said)
