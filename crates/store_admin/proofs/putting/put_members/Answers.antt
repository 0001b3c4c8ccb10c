use Rattle.std.proofs.Common.{map, subst, sym, IsPermutation, rules}
use Rattle.store_admin.proofs.Following.{exchanged}
use Rattle.store_admin.proofs.putting.put_members.Goals as goal

pub returns-clause-carries : goal.returns-clause-carries
returns-clause-carries g c =
    let pairs = c.args.pairs.now in
    let moved = subst (λ l. IsPermutation pairs (map (λ p. p.now) l))
    (sym c.as_slice.ensures.value) c.in_ok-order.ensures.same in
    search (rules, exchanged, c.in-Ok.ensures.writes, c.insert_each.ensures.carries)
