use Rattle.std.{proofs.Common.{rules, ◌≡◌, ℕ, Ok, sym, subst}, specs.List.range_with_len}
use Rattle.sqlite.specs.Held.{state}
use Rattle.room_rows.{specs.Keep.with_inh, proofs.InPlace.place-with_inh}
use Rattle.store_tables.proofs.Putting.{PutsAll, puts_none, puts_one}
use Rattle.store_tables.proofs.inherited.put_run.Goals as goal

pub returns-then-count-eq0-clause-puts : goal.returns-then-count-eq0-clause-puts
returns-then-count-eq0-clause-puts g c = λ entries printed.
    let now = state g.S.Store c.args.keeper.now.tx.now.conn.now in
    let failures = c.args.keeper.now.failures in
    let change = with_inh c.args.which entries in
    let none : c.args.count ≡ 0 = c.if-count-eq0.true in
    subst
    (λ (n : ℕ). PutsAll now now failures failures (Ok tt) (range_with_len c.args.first n) change)
    (sym none) (puts_none now failures change)

pub returns-then-count-eq1-clause-puts : goal.returns-then-count-eq1-clause-puts
returns-then-count-eq1-clause-puts g c = λ entries printed.
    let old = state g.S.Store c.args.keeper.now.tx.now.conn.now in
    let new = state g.S.Store c.put_text.new.keeper.tx.now.conn.now in
    let before = c.args.keeper.now.failures in
    let after = c.put_text.new.keeper.failures in
    let change = with_inh c.args.which entries in
    let one : c.args.count ≡ 1 = c.if-count-eq1.true in
    subst
    (λ (n : ℕ). PutsAll old new before after c.put_text.result (range_with_len c.args.first n)
    change) (sym one) (search (rules, puts_one, place-with_inh, old, new, c.put_text.ensures.puts))
