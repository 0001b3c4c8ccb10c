use Rattle.std.proofs.Common.{List, ◌++◌, inl, map, sym, subst, ap, ◌∙◌}
use Rattle.room_rows.specs.declared.node.Node.{Node}
use Rattle.room_dump.proofs.Reading.{answered, fails, knows, learns}
use Rattle.room_review.specs.Telling.{AreOn}
use Rattle.room_turns.specs.{Stands.entry_of, declared.spot.Told.Told}
use Rattle.room_turns.proofs.Walked.{comes_all, goes_all, objects}
use Rattle.room_turns.proofs.walking.spots_at.Goals as goal

pub returns-in_err-stand_all : goal.returns-in_err-stand_all
returns-in_err-stand_all g c =
    let k = g.K.Keep in
    let laws = g.met.K.Keep.laws in
    let a = c.args.keep.now in
    let asked = c.args.asked.now in
    let scene = c.args.scene.now in
    let most = c.args.most in
    let start = c.args.start.now in
    let walk = c.in_ok-walk.walk in
    let from = c.in_ok-walk.ensures in
    record {
      read =
          fails k laws a a c.stand_all.new.keep c.in_err-stand_all.field-0.0
          c.from_residual-in_err-stand_all.result
          (λ rows are _ row blocked sites starts.
          inl (blocked (goes_all asked scene rows are most start sites starts walk from)))
          (knows k laws a (λ rows are. are)) c.in_err-stand_all.ensures.read
          c.from_residual-in_err-stand_all.ensures.1;
    }

pub returns : goal.returns
returns g c =
    let k = g.K.Keep in
    let laws = g.met.K.Keep.laws in
    let a = c.args.keep.now in
    let d = c.stand_all.new.keep in
    let asked = c.args.asked.now in
    let scene = c.args.scene.now in
    let most = c.args.most in
    let start = c.args.start.now in
    let walk = c.in_ok-walk.walk in
    let from = c.in_ok-walk.ensures in
    let way = c.in_ok-spots_along.field-0.items in
    record {
      read =
          answered k laws a d c.stand_all.new.stood.all
          (learns k laws a a d tt (knows k laws a (λ rows are. are)) c.in_ok-stand_all.ensures.read
          (λ rows are _ told view shows sites starts.
          let all = objects asked scene rows are most start sites starts walk from in
          told view sites all shows
          (comes_all asked scene rows are most start sites starts walk from view way
          (c.in_ok-spots_along.ensures view sites shows
          (subst (λ (nodes : List Node). AreOn nodes sites) (sym c.as_slice.ensures) starts.way)))
          ∙ ap (λ (l : List Told). l ++ map (entry_of view asked.parties.items) all)
          c.new.ensures.items));
    }
