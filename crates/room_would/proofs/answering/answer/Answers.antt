use Rattle.std.proofs.Common.{refl}
use Rattle.room_piece.specs.Building.{CannotBuild, IsPiece}
use Rattle.room_would.specs.Would.{Behind, IsStopped, StopsFrom, Unbuilt}
use Rattle.room_would.proofs.Blamed.{blames_all, blames_unbuilt}
use Rattle.room_would.proofs.answering.answer.Goals as goal

pub returns-in-Ok-clause-refused : goal.returns-in-Ok-clause-refused
returns-in-Ok-clause-refused c =
    let free = c.in_ok-free.free in
    let question = c.args.question.now in
    let before = c.in-Ok.before in
    blames_all (λ fault. IsPiece free.unread question before
    → StopsFrom c.args.lines free.unread free.stranger question before fault)
    (IsStopped c.args.lines question)
    (λ fault stops. Behind free.unread free.stranger c.in_ok-free.ensures before
    c.in-Ok.ensures.built (stops c.in-Ok.ensures.built))
    c.answer_from.result c.answer_from.ensures.refused

pub returns-clause-refused : goal.returns-clause-refused
returns-clause-refused c =
    let free = c.in_ok-free.free in
    let question = c.args.question.now in
    blames_unbuilt (CannotBuild free.unread question) (IsStopped c.args.lines question)
    c.in-Err.failure c.unbuilt.result c.in-Err.ensures.refused c.unbuilt.ensures
    (λ refusal cannot.
    Unbuilt free.unread free.stranger c.in_ok-free.ensures refusal cannot refl)
