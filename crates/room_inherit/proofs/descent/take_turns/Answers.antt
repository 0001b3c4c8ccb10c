use Rattle.std.proofs.Common.{◌≡◌, ℕ, ◌+◌, List, Result, refl, sym, ap, subst, ◌∙◌, inl, arith}
use Rattle.std.proofs.{Common.{add-one, length}, lemmas.List.{append-nil, length_push}}
use Rattle.room_rows.specs.{declared.node.Node.Node}
use Rattle.room_inherit.specs.Turns.{AreTurns, TakesTurns}
use Rattle.room_inherit.specs.declared.outcome.SpreadFault.{SpreadFault}
use Rattle.room_entry.proofs.Facts.Members.{no_length}
use Rattle.room_inherit.proofs.Calls.{capped_add, handed_on, uncapped}
use Rattle.room_inherit.proofs.descent.take_turns.Goals as goal

pub turns-init : goal.turns-init
turns-init g c = grind arith

pub returns-in_default-clause-turns : goal.returns-in_default-clause-turns
returns-in_default-clause-turns g c =
    let (total, are, is) = c.turns.invariant.sofar in
    let same : c.turns.waiting.items ≡ c.pop.new.self.items = c.in_default.ensures.items
    ∙ append-nil c.pop.new.self.items in
    record {
      turns = c.turns._turn;
      total = total;
      are = grind (arith, g.K.Keep, c.turns._turn, total, c.turns.keep, same, are);
      counted = is;
      bounded = c.turns.invariant.within;
      ends =
          inl (sym same ∙ no_length c.turns.waiting.items
          (sym c.turns.waiting.ok.0 ∙ c.in_default.ensures.cases.0));
    }

pub returns-in_default-clause-counted : goal.returns-in_default-clause-counted
returns-in_default-clause-counted g c = λ reach few.
    let sofar = c.turns.invariant.counted reach few in
    grind (arith, c.in_default.ensures.items, append-nil, c.pop.new.self.items, sofar)

pub returns-in_err-visited-clause-turns : goal.returns-in_err-visited-clause-turns
returns-in_err-visited-clause-turns g c =
    let k = g.K.Keep in
    let d = c.args.descent.now in
    let (total, are, is) = c.turns.invariant.sofar in
    let fault = c.in_err-visited.field-0.0 in
    let before = c.args.waiting.now.items in
    subst
    (λ (r : Result ℕ SpreadFault).
    TakesTurns k d c.args.most before c.visit-visited.new.waiting.items c.args.keep.now
    c.visit-visited.new.keep r)
    (sym (handed_on c.from_residual.result fault c.from_residual.ensures.1)) (record {
      turns = c.turns._turn;
      total = total;
      rest = c.pop.new.self.items;
      above = c.in-Some.above;
      mid = c.turns.keep;
      are =
          subst
          (λ (l : List Node). AreTurns k d c.turns._turn before l total c.args.keep.now
          c.turns.keep) c.in-Some.ensures.items are;
      fails = c.in_err-visited.ensures.visit;
    })

pub turns-preserved : goal.turns-preserved
turns-preserved g c =
    let k = g.K.Keep in
    let d = c.args.descent.now in
    let (total, are, is) = c.turns.invariant.sofar in
    let number = c.in_ok-visited.field-0 in
    let before = c.args.waiting.now.items in
    record {
      sofar = (
        total + number,
        subst (λ (n : ℕ). AreTurns k d n before c.visit-visited.new.waiting.items
            (total + number) c.args.keep.now c.visit-visited.new.keep) (sym (add-one c.turns._turn)) (
              c.pop.new.self.items,
              c.in-Some.above,
              total,
              number,
              c.turns.keep,
              subst
                  (λ (l : List Node). AreTurns k d c.turns._turn before l total c.args.keep.now
                  c.turns.keep) c.in-Some.ensures.items are,
              c.in_ok-visited.ensures.visit,
              refl,
            ),
        grind (arith, c.saturating_add-written.ensures, number, is, capped_add, total),
      );
      within = let below = c.turns-test.true in omega (arith, below);
      counted = λ reach few.
          let told = uncapped c.saturating_add-written.result (c.turns.written + number)
          c.saturating_add-written.ensures few in
          let sofar = c.turns.invariant.counted reach (omega (arith, told, few)) in
          let visit = c.in_ok-visited.ensures.counted reach in
          let popped = ap length c.in-Some.ensures.items
          ∙ length_push c.pop.new.self.items c.in-Some.above in
          omega (arith, told, sofar, visit, popped);
    }

pub returns-clause-turns : goal.returns-clause-turns
returns-clause-turns g c =
    let (total, are, is) = c.turns.invariant.sofar in
    grind (arith, c.turns._turn, total, are, is, c.turns.invariant.within, c.turns-test.false)
