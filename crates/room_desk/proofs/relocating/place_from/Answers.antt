use Rattle.std.proofs.Common.{◌≡◌, ℕ, ◌<◌, arith, length, sym, subst}
use Rattle.std.proofs.lemmas.Bool.Decides.{nat_tests}
use Rattle.room_rows.specs.Rows.{Rows}
use Rattle.room_judge.proofs.Calls.{finish, none_done, tail}
use Rattle.room_desk.specs.Relocating.{FailsFrom, RelocatesFrom}
use Rattle.room_desk.proofs.Moves.{MovingSteps.empty_path, Relocated.{ended_from, exists_from}}
use Rattle.room_desk.proofs.Moves.Relocated.{root_from}
use Rattle.room_desk.proofs.relocating.place_from.Goals as goal

pub returns-then-is_ended : goal.returns-then-is_ended
returns-then-is_ended g c =
    let m = g.met.K.Keep in
    let moving = c.args.moving.now in
    record {
      done =
          finish m.laws c.in_ok-gone.gone (none_done m.laws c.args.keep.now)
          (λ old new are same known ends sound.
          ended_from old known sound moving.path.now moving.to.now moving.target.now c.args.rest
          c.in_ok-gone.gone new c.if-is_ended.true ends c.in_ok-gone.ensures same);
    }

pub returns-then-is_top : goal.returns-then-is_top
returns-then-is_top g c =
    let m = g.met.K.Keep in
    let moving = c.args.moving.now in
    let none : c.args.rest ≡ 0 = omega (arith, c.if-is_ended.false) in
    record {
      done =
          finish m.laws c.in_ok-root.root (none_done m.laws c.args.keep.now)
          (λ old new are same.
          subst (λ (n : ℕ). RelocatesFrom moving.path.now moving.to.now moving.target.now n old
          c.in_ok-root.root new) (sym none)
          (λ known ends sound.
          root_from old known sound moving.path.now moving.to.now moving.target.now ends
          c.in_ok-root.root new
          (empty_path moving.path.now c.is_root-is_top.result c.is_root-is_top.ensures
          c.if-is_top.true)
          c.in_ok-root.ensures same));
    }

pub returns-then-is_over : goal.returns-then-is_over
returns-then-is_over g c =
    let m = g.met.K.Keep in
    let moving = c.args.moving.now in
    let none : c.args.rest ≡ 0 = omega (arith, c.if-is_ended.false) in
    let some : 0 < length moving.path.now =
    grind (arith, nat_tests, c.is_root-is_top.ensures, c.if-is_top.false) in
    record {
      done =
          finish m.laws c.in_ok-exists.exists (none_done m.laws c.args.keep.now)
          (λ old new are same.
          subst (λ (n : ℕ). RelocatesFrom moving.path.now moving.to.now moving.target.now n old
          c.in_ok-exists.exists new) (sym none)
          (λ known ends sound.
          exists_from old known sound moving.path.now moving.to.now moving.target.now ends some
          c.in_ok-exists.exists new
          (empty_path moving.to.now c.is_root-is_over.result c.is_root-is_over.ensures
          c.if-is_over.true) c.in_ok-exists.ensures same));
    }

pub returns : goal.returns
returns g c =
    let m = g.met.K.Keep in
    let moving = c.args.moving.now in
    let none : c.args.rest ≡ 0 = omega (arith, c.if-is_ended.false) in
    record {
      done =
          tail m.laws (none_done m.laws c.args.keep.now) c.place_found.ensures.done
          (λ old mid at same h.
          subst (λ (n : ℕ). FailsFrom moving.path.now moving.target.now n old at) (sym none)
          (subst (λ (r : Rows). FailsFrom moving.path.now moving.target.now 0 r at) same h))
          (λ old mid reply new same said.
          subst (λ (n : ℕ). RelocatesFrom moving.path.now moving.to.now moving.target.now n old
          reply
          new) (sym none)
          (subst (λ (r : Rows). RelocatesFrom moving.path.now moving.to.now moving.target.now 0 r
          reply
          new) same said));
    }
