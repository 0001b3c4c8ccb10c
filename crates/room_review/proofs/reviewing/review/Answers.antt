use Rattle.std.proofs.Common.{arith, ◌≡◌, ◌++◌, ◌∷◌, [], List, sym, ◌∙◌}
use Rattle.room_entry.proofs.Facts.Members.{no_length}
use Rattle.room_rows.specs.{declared.node.{Node.Node, Walk.Walk}, Walk.walk_of}
use Rattle.room_dump.proofs.Reading.{Knows, knows, learns, rootless, tail}
use Rattle.room_review.proofs.Ending.{rootless as no_root}
use Rattle.room_review.proofs.reviewing.review.Goals as goal

pub returns-in-None : goal.returns-in-None
returns-in-None g c =
    let k = g.K.Keep in
    let laws = g.met.K.Keep.laws in
    let a = c.args.keep.now in
    let b = c.walk.new.keep in
    let found = c.in_ok-found.found in
    let none = sym c.into_vec-above.ensures
    ∙ no_length c.into_vec-above.result.items
    (sym c.into_vec-above.result.ok.0 ∙ c.in-None.ensures.cases.0) in
    record {
      read =
          rootless k laws a b
          (learns k laws a a b found (knows k laws a (λ rows are. are)) c.in_ok-found.ensures.read
          (λ rows are _ is. no_root rows c.args.question.now.path found is.0 none));
    }

pub returns-in_ok-copy-in-Some : goal.returns-in_ok-copy-in-Some
returns-in_ok-copy-in-Some g c =
    let k = g.K.Keep in
    let laws = g.met.K.Keep.laws in
    let a = c.args.keep.now in
    let b = c.walk.new.keep in
    let found = c.in_ok-found.found in
    let walk_with : List Node → Walk = λ chain. record { chain = chain; rest = found.rest } in
    let chain = sym c.into_vec-above.ensures ∙ c.in-Some.ensures.items in
    let walked : Knows k laws a b (λ rows.
    walk_with (c.from_vec.result ++ c.in-Some.node ∷ []) ≡ walk_of rows.read c.args.question.now.path) =
    learns k laws a a b found (knows k laws a (λ rows are. are)) c.in_ok-found.ensures.read
    (grind (arith, walk_with, c.in-Some.node, c.from_vec.ensures, chain)) in
    record {
      read =
          tail k laws a b c.review_from.new.keep c.review_from.result walked
          (λ rows are walked row stranded. stranded c.in_ok-copy-in-Some.ensures walked)
          (λ rows are walked x gives. gives c.in_ok-copy-in-Some.ensures walked)
          c.review_from.ensures.read;
    }
