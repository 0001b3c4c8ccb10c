use Rattle.std.proofs.Common.{◌≡◌, ◌∷◌, [], ◌++◌, length, refl, sym, subst, arith, ap}
use Rattle.std.proofs.Common.{length-append}
use Rattle.room_desk.proofs.Moves.MovingSteps.{name_is}
use Rattle.room_piece.specs.{Coming.CannotCome, Refusing.Blames}
use Rattle.room_piece.proofs.Come.{come_ok, root_barred}
use Rattle.room_piece.proofs.coming.come.Goals as goal

pub place_for-requires : goal.place_for-requires
place_for-requires c =
    let path = c.args.object.now.path in
    let whole : length path ≡ length (c.in-Some.field-0-1.now ++ c.in-Some.name.now ∷ []) =
    ap length c.in-Some.ensures.parts in
    record {
      some = omega (arith, whole, length-append c.in-Some.field-0-1.now (c.in-Some.name.now ∷ []));
      last = name_is path c.in-Some.field-0-1.now c.in-Some.name.now c.in-Some.name.now
          c.in-Some.ensures.parts refl;
      sound = c.in-Some.ensures.name;
    }

pub returns-in-Ok-clause-done : goal.returns-in-Ok-clause-done
returns-in-Ok-clause-done c =
    let path = c.args.object.now.path in
    come_ok c.args.unread.now c.args.object.now c.args.piece.now _ c.come_into.new.piece
    c.in-Ok.folder c.in-Some.name.now
    (name_is path c.in-Some.field-0-1.now c.in-Some.name.now c.in-Some.name.now
    c.in-Some.ensures.parts refl)
    c.in-Some.ensures.name c.in-Ok.ensures.found refl refl c.come_into.result
    c.come_into.ensures.done

pub returns-in-None-clause-refused : goal.returns-in-None-clause-refused
returns-in-None-clause-refused c =
    subst (Blames (CannotCome c.args.object.now c.args.piece.now)) (sym c.refused.ensures)
    (root_barred c.args.object.now c.args.piece.now _ c.in-None.ensures.parts refl refl)
