use Rattle.std.proofs.Common.{arith, ◌≡◌, ◌++◌, ◌∷◌, [], List, ℕ, sym, subst, ap, ◌∙◌}
use Rattle.room_rows.specs.{declared.node.{Node.Node, Walk.Walk}, Walk.walk_of}
use Rattle.room_dump.proofs.Reading.{Knows, knows, learns, tail}
use Rattle.room_turns.specs.Stands.{GivesFrom}
use Rattle.room_turns.proofs.walking.spots_from.Goals as goal

pub returns-in_ok-copy-in-Some : goal.returns-in_ok-copy-in-Some
returns-in_ok-copy-in-Some g c =
    let k = g.K.Keep in
    let laws = g.met.K.Keep.laws in
    let a = c.args.keep.now in
    let b = c.walk.new.keep in
    let found = c.in_ok-found.found in
    let same = c.in_ok-copy-in-Some.ensures in
    let walk_with : List Node → Walk = λ chain. record { chain = chain; rest = found.rest } in
    let chain = sym c.into_vec-above.ensures ∙ c.in-Some.ensures.items in
    let walked : Knows k laws a b (λ rows.
    walk_with (c.from_vec.result ++ c.in-Some.node ∷ []) ≡ walk_of rows.read c.args.path.now) =
    learns k laws a a b found (knows k laws a (λ rows are. are)) c.in_ok-found.ensures.read
    (grind (arith, walk_with, c.in-Some.node, c.from_vec.ensures, chain)) in
    record {
      read =
          tail k laws a b c.spots_behind.new.keep c.spots_behind.result walked
          (λ rows are walked row stranded. stranded (walked ∙ ap (walk_of rows.read) (sym same)))
          (λ rows are walked all gives.
          subst (λ (path : List (List ℕ)).
          GivesFrom path c.args.asked.now c.args.scene.now rows all.items) same
          (gives (walked ∙ ap (walk_of rows.read) (sym same))))
          c.spots_behind.ensures.read;
    }
