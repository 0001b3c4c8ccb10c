use Rattle.room_piece.specs.Building.{Below, CannotGoOn}
use Rattle.room_piece.specs.{Coming.{CannotCome, HasCome}, Holding.IsWell, InTurn.StopsInTurn}
use Rattle.room_piece.proofs.{Built.goes_on, Come.blames_all}
use Rattle.room_piece.proofs.building.build_on.Goals as goal

pub returns-in-Ok-clause-built : goal.returns-in-Ok-clause-built
returns-in-Ok-clause-built c =
    goes_on c.args.unread.now c.args.root.now c.args.pairs.now c.args.objects.now c.come_on.result
    c.in-Ok.start c.in-Ok.ensures.started c.come_on.ensures.done

pub returns-in-Ok-clause-refused : goal.returns-in-Ok-clause-refused
returns-in-Ok-clause-refused c =
    blames_all (λ refusal. IsWell c.in-Ok.start.keep
    → StopsInTurn (HasCome c.args.unread.now) CannotCome c.args.objects.now c.in-Ok.start refusal)
    (CannotGoOn c.args.unread.now c.args.root.now c.args.pairs.now c.args.objects.now)
    c.come_on.result c.come_on.ensures.refused
    (λ refusal said.
    Below c.in-Ok.start c.in-Ok.ensures.started (said c.in-Ok.ensures.started.well))
