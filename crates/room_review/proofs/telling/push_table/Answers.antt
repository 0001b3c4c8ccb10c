use Rattle.std.proofs.Common.{◌≡◌, List, [], ℕ, sym, ap, subst, inl, ◌++◌, ◌∙◌}
use Rattle.room_import.specs.Exports.{rows_text}
use Rattle.room_dump.proofs.Reading.{knows, tail}
use Rattle.room_rows.specs.declared.node.Node.{Node}
use Rattle.room_machine.specs.Site.{Site}
use Rattle.room_review.{specs.Telling.{AreOn, along}, proofs.Told.{come, objects, rows_are}}
use Rattle.room_review.proofs.telling.push_table.Goals as goal

pub returns : goal.returns
returns g c =
    let k = g.K.Keep in
    let laws = g.met.K.Keep.laws in
    let a = c.args.keep.now in
    let d = c.push_all.new.keep in
    let asked = c.args.asked.now in
    let most = c.args.most in
    let start = c.args.start.now in
    let walk = c.in_ok-walk.walk in
    let from = c.in_ok-walk.ensures in
    let way = c.in_ok-way.way.items in
    let along_way : (sites : List Site) → AreOn start.above sites
    → way ≡ along asked.parties.items [] sites = λ sites on. c.in_ok-way.ensures sites
    (subst (λ (nodes : List Node). AreOn nodes sites) (sym c.as_slice.ensures) on) in
    record {
      read =
          tail k laws a a d c.push_all.result (knows k laws a (λ rows are. are))
          (λ rows are _ row blocked sites starts.
          inl (blocked sites (objects asked rows are most start sites starts walk from)
          (come asked rows are most start sites starts walk from way (along_way sites starts.way))))
          (λ rows are _ x all sites starts.
          all sites (objects asked rows are most start sites starts walk from)
          (come asked rows are most start sites starts walk from way (along_way sites starts.way))
          ∙ ap (λ (l : List (List (List ℕ))). c.args.sheet.now ++ rows_text l)
          (rows_are asked rows are most start sites starts walk from))
          c.push_all.ensures.read;
    }
