use Rattle.std.proofs.Common.{◌≡◌, refl, sym, ap, subst, ◌∙◌, take, map, is_some, true, rules}
use Rattle.sqlite.specs.Held.{state}
use Rattle.room_rows.specs.Content.{set_of}
use Rattle.store_tables.specs.{Meaning.pairs_of, Trust.stays_itself}
use Rattle.store_admin.specs.Operating.{are_pairs, stored_pair}
use Rattle.store_admin.proofs.Gathering.{again, one_more, pairs_put, read_pair, so_far}
use Rattle.store_admin.proofs.putting.insert_at.Goals as goal

pub returns-then-is_again-clause-carries : goal.returns-then-is_again-clause-carries
returns-then-is_again-clause-carries g c = record {
  stays = stays_itself (state g.S.Store c.args.tx.now.conn.now);
  becomes = λ trust held. record {
    nodes = refl;
    bodies = refl;
    members =
        search (rules, again, c.requires, c.is_again.ensures.0, c.if-is_again.true);
    meta = refl;
    audits = refl;
    counters = refl;
    only = λ all. all;
  };
  blames = λ trust id is. absurd is;
}

pub returns-in-Ok-clause-carries : goal.returns-in-Ok-clause-carries
returns-in-Ok-clause-carries g c =
    let p = c.index-order-index.result in
    let wrote = c.in-Ok.ensures.writes in
    let done = take c.args.index (map (λ p. p.now) c.args.order.now) in
    let names = c.is_read_back.ensures in
    record {
      stays = wrote.stays;
      becomes = λ trust held.
          let join = wrote.leaves trust.clean trust.now in
          record {
            nodes = join.puts.nodes;
            bodies = join.puts.bodies;
            members = ap pairs_of join.puts.members
                ∙ one_more p.now done _ _
                (read_pair join.id p.now.0 p.now.1 names.group names.user) join.fresh held
                ∙ ap set_of
                (sym (so_far c.args.order.now c.args.index p c.requires c.index-order-index.is));
            meta = join.puts.meta;
            audits = join.puts.audits;
            counters = join.puts.counters;
            only = λ all. subst (λ rows. are_pairs rows ≡ true) (sym join.puts.members)
                (pairs_put (stored_pair join.id p.now.0 p.now.1)
                ((state g.S.Store c.args.tx.now.conn.now).now.trees 3)
                (ap is_some (read_pair join.id p.now.0 p.now.1 names.group names.user)) all);
          };
      blames = λ trust id is. absurd is;
    }

pub returns-in-Ok-clause-again : goal.returns-in-Ok-clause-again
returns-in-Ok-clause-again g c =
    λ stands. absurd (let is = c.is_again.ensures.1 stands in cc)

pub returns-in-Err-clause-again : goal.returns-in-Err-clause-again
returns-in-Err-clause-again g c =
    λ stands. absurd (let is = c.is_again.ensures.1 stands in cc)
