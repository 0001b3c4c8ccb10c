use Rattle.std.proofs.Common.{List, sym, ap, ◌∙◌}
use Rattle.room_rows.specs.declared.node.{Node.Node, Walk.Walk}
use Rattle.room_dump.proofs.{Ends.blamed_at_end, Reading.{Knows, knows, learns, tail}}
use Rattle.room_dump.specs.Fetching.{EndsAt}
use Rattle.room_dump.proofs.fetching.fetch.Goals as goal

pub returns-clause-read : goal.returns-clause-read
returns-clause-read g c =
    let k = g.K.Keep in
    let laws = g.met.K.Keep.laws in
    let a = c.args.keep.now in
    let b = c.walk.new.keep in
    let path = c.args.path.now in
    let found = c.in_ok-found.found in
    let last = c.in-Some.last in
    let walk_with : List Node → Walk = λ chain. record { chain = chain; rest = found.rest } in
    let chain = sym c.into_vec-chain.ensures ∙ c.in-Some.ensures.items in
    let ended : Knows k laws a b (λ rows. EndsAt path rows last found.rest) =
    learns k laws a a b found (knows k laws a (λ rows are. are)) c.in_ok-found.ensures.read
    (λ rows are _ is. (c.pop.new.self.items, sym is.0 ∙ ap walk_with chain)) in
    tail k laws a b c.fetch_at.new.keep c.fetch_at.result ended
    (λ rows are ends row lacks. blamed_at_end rows are path last found.rest ends row lacks)
    (λ rows are ends fetched is. (last, found.rest, ends, is))
    c.fetch_at.ensures.read
