use Rattle.std.proofs.Common.{rules, ◌≡◌, ◌++◌, ◌∷◌, [], ℕ, List, Ok, get_or, refl, sym, subst, ap}
use Rattle.std.proofs.{Common.◌∙◌, lemmas.List.{append_assoc, take_all, take_more}}
use Rattle.std.specs.List.{range_with_len}
use Rattle.sqlite.specs.Held.{state}
use Rattle.room_rows.specs.Keep.{with_inh}
use Rattle.room_rows.proofs.{InPlace.place-with_inh, Many.with_inh-once, Steps.handed_on}
use Rattle.store_tables.proofs.Putting.{PutsAll, puts_failed, puts_more, puts_none}
use Rattle.store_tables.proofs.inherited.put_runs.Goals as goal

pub ids-init : goal.ids-init
ids-init g c = record {
  same_reference = refl;
  same_lender = refl;
  unwritten = refl;
  written = [];
  whole = refl;
  puts = search (rules, puts_none);
}

pub ids-preserved : goal.ids-preserved
ids-preserved g c =
    let before = c.ids.invariant in
    let step = c.in_ok-put_next.ensures in
    let next = step.puts in
    record {
      same_reference = step.same_reference ∙ before.same_reference;
      same_lender = step.same_lender ∙ before.same_lender;
      unwritten = step.unwritten ∙ before.unwritten;
      written = before.written ++ next.0;
      whole =
          append_assoc before.written next.0
          (range_with_len c.put_next.new.first c.put_next.new.count)
          ∙ ap (λ (l : List ℕ). before.written ++ l) next.1
          ∙ sym (search (rules, append_assoc))
          ∙ ap (λ (l : List ℕ). l ++ get_or c.args.ids.now c.ids.id-index 0 ∷ []) before.whole
          ∙ sym (take_more c.args.ids.now c.ids.id-index 0 c.ids-test.true);
      puts =
          λ entries printed. puts_more (with_inh c.args.which entries)
          (place-with_inh c.args.which entries) (with_inh-once c.args.which entries)
          (state g.S.Store c.args.keeper.now.tx.now.conn.now)
          (state g.S.Store c.ids.keeper.tx.now.conn.now)
          (state g.S.Store c.put_next.new.keeper.tx.now.conn.now) _ _ _ before.written next.0
          (Ok tt) (before.puts entries printed) (next.2 entries printed);
    }

pub returns-in_err-put_next-clause-puts : goal.returns-in_err-put_next-clause-puts
returns-in_err-put_next-clause-puts g c = λ entries printed.
    let before = c.ids.invariant in
    let next = c.in_err-put_next.ensures.puts in
    let change = with_inh c.args.which entries in
    let old = state g.S.Store c.args.keeper.now.tx.now.conn.now in
    let new = state g.S.Store c.put_next.new.keeper.tx.now.conn.now in
    puts_failed change c.args.ids.now (before.written ++ next.0) old new _ _
    c.from_residual.result c.in_err-put_next.field-0.0
    (handed_on c.from_residual.result c.in_err-put_next.field-0.0 c.from_residual.ensures.1)
    (puts_more change (place-with_inh c.args.which entries) (with_inh-once c.args.which entries)
    old (state g.S.Store c.ids.keeper.tx.now.conn.now) new _ _ _ before.written next.0 _
    (before.puts entries printed) (next.2 entries printed))

pub returns-clause-puts : goal.returns-clause-puts
returns-clause-puts g c = λ entries printed.
    let before = c.ids.invariant in
    let ids = c.args.ids.now in
    let change = with_inh c.args.which entries in
    let old = state g.S.Store c.args.keeper.now.tx.now.conn.now in
    let new = state g.S.Store c.put_run.new.keeper.tx.now.conn.now in
    let all : before.written ++ range_with_len c.ids.first c.ids.count ≡ ids = before.whole
    ∙ take_all c.ids.id-index ids c.ids-test.false in
    subst
    (λ (l : List ℕ). PutsAll old new c.args.keeper.now.failures c.put_run.new.keeper.failures
    c.put_run.result l change) all
    (puts_more change (place-with_inh c.args.which entries) (with_inh-once c.args.which entries)
    old (state g.S.Store c.ids.keeper.tx.now.conn.now) new _ _ _ before.written
    (range_with_len c.ids.first c.ids.count) c.put_run.result (before.puts entries printed)
    (c.put_run.ensures.puts entries printed))
