use Rattle.std.proofs.Common.{inl, subst}
use Rattle.room_rows.specs.declared.node.Node.{Node}
use Rattle.room_dump.specs.{declared.visiting.Visit.Visit, Visits.{IsFrom, first_visit}}
use Rattle.room_dump.proofs.Reading.{knows, tail}
use Rattle.room_review.proofs.Gathered.{gathered_below}
use Rattle.room_review.proofs.gathering.gather_below.Goals as goal

pub returns : goal.returns
returns g c =
    let k = g.K.Keep in
    let laws = g.met.K.Keep.laws in
    let a = c.args.keep.now in
    let d = c.gather_all.new.keep in
    let most = c.args.most in
    let walk = c.in_ok-walk.walk in
    let from = subst (λ (n : Node). IsFrom most (first_visit n) walk) c.in_ok-copy.ensures
    (subst (λ (v : Visit). IsFrom most v walk) c.first.ensures c.in_ok-walk.ensures) in
    record {
      read =
          tail k laws a a d c.gather_all.result (knows k laws a (λ rows are. are))
          (λ rows are _ row blocked path node start alone.
          let begun = gathered_below rows are most path c.args.node.now node start alone walk from in
          inl (blocked begun.0))
          (λ rows are _ x all path node start alone.
          (gathered_below rows are most path c.args.node.now node start alone walk from).1
          c.args.users.now c.gather_all.new.users all)
          c.gather_all.ensures.read;
    }
