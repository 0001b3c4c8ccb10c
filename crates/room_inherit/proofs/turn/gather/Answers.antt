use Rattle.std.proofs.Common.{ℕ, ◌+◌, List, Result, length, drop, sym, ap, subst, ◌∙◌, arith}
use Rattle.std.proofs.lemmas.Iterator.{Adapters.YieldsList-from_vec, Consumers.YieldsList-turn}
use Rattle.std.proofs.lemmas.{Iterator.Consumers.YieldsList-end, List.length_push}
use Rattle.std.proofs.Math.Seq.{drop-length}
use Rattle.room_rows.specs.declared.{keep.KeepFault.KeepFault, node.Node.Node}
use Rattle.room_rows.proofs.Steps.{handed_on}
use Rattle.room_inherit.{specs.Turn.Gathers, proofs.Gathered.{Gathering, gathering_begins}}
use Rattle.room_inherit.proofs.Gathered.{gathering_ends, gathering_on, gathering_stops, rest_of}
use Rattle.room_inherit.proofs.turn.gather.Goals as goal

pub children-init : goal.children-init
children-init g c = grind (arith, gathering_begins, g.K.Keep, g.met.K.Keep.laws)

pub returns-in_err-gather_next-clause-gathered : goal.returns-in_err-gather_next-clause-gathered
returns-in_err-gather_next-clause-gathered g c = λ above is.
    let laws = g.met.K.Keep.laws in
    let d = c.args.descent.now in
    let all = c.args.children.items in
    let before = c.args.waiting.now.items in
    let none = c.args.outdated.now in
    let i = length c.children.yielded in
    let child = c.in-Some.child in
    let turn = YieldsList-turn
    (YieldsList-from_vec
    {s = c.into_iter-child-iterator.result} all
    c.into_iter-child-iterator.ensures.into_iter_gives.0
    (c.into_iter-child-iterator.ensures.into_iter_gives.1 ∙ c.args.children.ok.0))
    c.children.yielded c.children.child-iterator c.children.yielded_by c.next.result
    c.next.new.self child c.in-Some.is c.next.ensures.steps in
    let sofar = subst
    (λ (l : List Node). Gathering g.K.Keep laws d above all before none l
    c.children.waiting.items c.children.outdated c.args.keep.now c.children.keep)
    (rest_of all i child turn.0 turn.1) (c.children.invariant.gathering above is) in
    let fault = c.in_err-gather_next.field-0.0 in
    subst
    (λ (r : Result (Unit {0}) KeepFault).
    Gathers g.K.Keep c.args.keep.now c.gather_next.new.keep d above all before
    c.gather_next.new.waiting.items none c.gather_next.new.outdated r)
    (sym (handed_on c.from_residual.result fault c.from_residual.ensures.1))
    (gathering_stops g.K.Keep laws d above all before none child (drop (i + 1) all)
    c.children.waiting.items c.gather_next.new.waiting.items c.children.outdated
    c.gather_next.new.outdated c.args.keep.now c.children.keep c.gather_next.new.keep sofar fault
    (c.in_err-gather_next.ensures.gathered above is))

pub children-preserved : goal.children-preserved
children-preserved g c = record {
  gathering = λ above is.
      let laws = g.met.K.Keep.laws in
      let d = c.args.descent.now in
      let all = c.args.children.items in
      let before = c.args.waiting.now.items in
      let none = c.args.outdated.now in
      let i = length c.children.yielded in
      let child = c.in-Some.child in
      let turn = YieldsList-turn
      (YieldsList-from_vec
      {s = c.into_iter-child-iterator.result} all
      c.into_iter-child-iterator.ensures.into_iter_gives.0
      (c.into_iter-child-iterator.ensures.into_iter_gives.1 ∙ c.args.children.ok.0))
      c.children.yielded c.children.child-iterator c.children.yielded_by c.next.result
      c.next.new.self child c.in-Some.is c.next.ensures.steps in
      let sofar = subst
      (λ (l : List Node). Gathering g.K.Keep laws d above all before none l
      c.children.waiting.items c.children.outdated c.args.keep.now c.children.keep)
      (rest_of all i child turn.0 turn.1) (c.children.invariant.gathering above is) in
      subst (λ (n : ℕ). Gathering g.K.Keep laws d above all before none (drop n all)
      c.gather_next.new.waiting.items c.gather_next.new.outdated c.args.keep.now
      c.gather_next.new.keep) (sym (length_push c.children.yielded child))
      (gathering_on g.K.Keep laws d above all before none child (drop (i + 1) all)
      c.children.waiting.items c.gather_next.new.waiting.items c.children.outdated
      c.gather_next.new.outdated c.args.keep.now c.children.keep c.gather_next.new.keep sofar
      (c.in_ok-gather_next.ensures.gathered above is));
  few =
      let pushed = length_push c.children.yielded c.in-Some.child in
      grind (arith, c.children.invariant.few, c.in_ok-gather_next.ensures.one, pushed);
  counted = grind (arith, c.children.invariant.counted, c.in_ok-gather_next.ensures.counted);
}

pub returns-clause-gathered : goal.returns-clause-gathered
returns-clause-gathered g c = λ above is.
    let laws = g.met.K.Keep.laws in
    let d = c.args.descent.now in
    let all = c.args.children.items in
    let before = c.args.waiting.now.items in
    let none = c.args.outdated.now in
    let end = YieldsList-end
    (YieldsList-from_vec
    {s = c.into_iter-child-iterator.result} all
    c.into_iter-child-iterator.ensures.into_iter_gives.0
    (c.into_iter-child-iterator.ensures.into_iter_gives.1 ∙ c.args.children.ok.0))
    c.children.yielded c.children.child-iterator c.children.yielded_by c.next.result
    c.next.new.self c.in-None.is c.next.ensures.steps in
    gathering_ends g.K.Keep laws d above all before none c.children.waiting.items
    c.children.outdated c.args.keep.now c.children.keep
    (subst
    (λ (l : List Node). Gathering g.K.Keep laws d above all before none l
    c.children.waiting.items c.children.outdated c.args.keep.now c.children.keep)
    (ap (λ (n : ℕ). drop n all) end.1 ∙ drop-length all)
    (c.children.invariant.gathering above is))

pub returns-clause-few : goal.returns-clause-few
returns-clause-few g c =
    let end = YieldsList-end
    (YieldsList-from_vec
    {s = c.into_iter-child-iterator.result} c.args.children.items
    c.into_iter-child-iterator.ensures.into_iter_gives.0
    (c.into_iter-child-iterator.ensures.into_iter_gives.1 ∙ c.args.children.ok.0))
    c.children.yielded c.children.child-iterator c.children.yielded_by c.next.result
    c.next.new.self c.in-None.is c.next.ensures.steps in
    grind (arith, c.children.invariant.few, end.1)
