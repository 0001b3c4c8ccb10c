use Rattle.std.proofs.Common.{rules, ◌≡◌, ◌∷◌, sym}
use Rattle.room_piece.specs.Building.{CannotBuild, CannotGoOn}
use Rattle.room_piece.proofs.{Built.{is_built, is_stopped}, Come.blames_all}
use Rattle.room_piece.proofs.building.build.Goals as goal

pub returns-else-not-begins-clause-built : goal.returns-else-not-begins-clause-built
returns-else-not-begins-clause-built c =
    let whole : c.args.question.now.objects ≡ c.in-Some.root.now ∷ c.in-Some.objects.now =
    search (rules, c.in-Some.ensures.cases, c.as_slice.ensures) in
    is_built c.args.unread.now c.in-Some.root.now _ c.in-Some.objects.now c.args.question.now whole
    (sym c.as_slice-in-Some.ensures) c.build_on.result
    (search (rules, c.is_top-begins.ensures, c.if-not-begins.false)) c.build_on.ensures.built

pub returns-else-not-begins-clause-refused : goal.returns-else-not-begins-clause-refused
returns-else-not-begins-clause-refused c =
    let whole : c.args.question.now.objects ≡ c.in-Some.root.now ∷ c.in-Some.objects.now =
    search (rules, c.in-Some.ensures.cases, c.as_slice.ensures) in
    blames_all (CannotGoOn c.args.unread.now c.in-Some.root.now c.as_slice-in-Some.result.now
    c.in-Some.objects.now) (CannotBuild c.args.unread.now c.args.question.now) c.build_on.result
    c.build_on.ensures.refused
    (is_stopped c.args.unread.now c.in-Some.root.now c.as_slice-in-Some.result.now
    c.in-Some.objects.now c.args.question.now whole (sym c.as_slice-in-Some.ensures))
