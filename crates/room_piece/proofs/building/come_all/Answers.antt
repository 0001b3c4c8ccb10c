use Rattle.room_piece.specs.{Coming.{CannotCome, HasCome}, Holding.IsWell, InTurn.StopsInTurn}
use Rattle.room_piece.proofs.{Come.blames_turn, Turns.{next_turn, stops_there}}
use Rattle.room_piece.proofs.building.come_all.Goals as goal

pub objects-preserved : goal.objects-preserved
objects-preserved c =
    next_turn (HasCome c.args.unread.now) (λ x a b step. step.well) c.args.objects.now
    c.objects.object-index c.object-item.result c.objects-test.true c.object-item.is
    c.args.piece.now c.objects.piece c.objects.invariant c.come.new.piece c.in-Ok.ensures.done

pub returns-in-Err-clause-refused : goal.returns-in-Err-clause-refused
returns-in-Err-clause-refused c =
    blames_turn (CannotCome c.object-item.result c.objects.piece)
    (λ refusal. IsWell c.args.piece.now.keep
    → StopsInTurn (HasCome c.args.unread.now) CannotCome c.args.objects.now c.args.piece.now
    refusal) c.in-Err.failure c.in-Err.ensures.refused
    (λ refusal said.
    stops_there (HasCome c.args.unread.now) (λ x a b step. step.well) c.args.objects.now
    c.objects.object-index c.object-item.result c.objects-test.true c.object-item.is
    c.args.piece.now c.objects.piece c.objects.invariant CannotCome refusal (λ well. said))
