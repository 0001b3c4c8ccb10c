use Rattle.std.proofs.Common.{rules, ◌≡◌, true, ◌+◌, ◌<◌, ◌^◌, length, [], Ok, Err, sym, ap, ◌∙◌}
use Rattle.std.proofs.{Common.arith, lemmas.Bool.{eqb-true, eqb-false, false≢true, ltb-true}}
use Rattle.std.specs.Prelude.{nat_lt}
use Rattle.room_rows.specs.{declared.keep.KeepFault.TheVariants.Damaged, Keep.capped}
use Rattle.room_inherit.specs.declared.outcome.SpreadFault.TheVariants.{Keeper}
use Rattle.room_inherit.proofs.{Turns.first_turn_fails, Bounded.{soon_fails, soon_done, ids_fail}}
use Rattle.room_inherit.proofs.Bounded.{later_fails, later_done, never_too_many}
use Rattle.room_inherit.proofs.Descending.{descends, descends_not}
use Rattle.room_inherit.proofs.descent.go_down.Goals.{then-is_empty, else-is_empty}
use Rattle.room_entry.proofs.Facts.Members.{no_length}
use Rattle.room_inherit.proofs.descent.go_down.Goals as goal

pub returns-in_err-begun-clause-descends : goal.returns-in_err-begun-clause-descends
returns-in_err-begun-clause-descends g c = λ none same.
    let k = g.K.Keep in
    let laws = g.met.K.Keep.laws in
    let d = c.args.descent.now in
    let start = c.args.start.now in
    let a = c.args.keep.now in
    let b = c.visit.new.keep in
    let fault = c.in_err-begun.field-0.0 in
    descends_not k laws d start same a b c.from_residual.result fault c.from_residual.ensures.1
    (search (rules, first_turn_fails, k, laws, d, start, c.in_err-begun.ensures.visit))

pub returns-in_err-soon-clause-descends : goal.returns-in_err-soon-clause-descends
returns-in_err-soon-clause-descends g c = λ none same.
    let k = g.K.Keep in
    let laws = g.met.K.Keep.laws in
    let d = c.args.descent.now in
    let start = c.args.start.now in
    let a = c.args.keep.now in
    let b = c.visit.new.keep in
    let e = c.take_turns.new.keep in
    let fault = c.in_err-soon.field-0.0 in
    descends_not k laws d start same a e c.from_residual-in_err-soon.result fault
    c.from_residual-in_err-soon.ensures.1
    (λ p. soon_fails k laws d start p c.in_ok-begun.begun c.args.waiting.now.items
    c.visit.new.waiting.items none a b c.in_ok-begun.ensures.visit c.take_turns.new.waiting.items
    fault e c.in_err-soon.ensures.turns)

pub returns-then-is_done-clause-descends : goal.returns-then-is_done-clause-descends
returns-then-is_done-clause-descends g c = λ none same.
    let k = g.K.Keep in
    let laws = g.met.K.Keep.laws in
    let d = c.args.descent.now in
    let start = c.args.start.now in
    let a = c.args.keep.now in
    let b = c.visit.new.keep in
    let e = c.take_turns.new.keep in
    let next = c.take_turns.new.waiting.items in
    let told = c.saturating_add-changed.result in
    let facts : (c.is_empty.result ≡ true) × (nat_lt told (2 ^ 63) ≡ true) =
    grind (arith, c.if-is_empty.branch, c.if-is_done.true, false≢true) in
    let over : next ≡ [] = no_length next
    (sym c.take_turns.new.waiting.ok.0
    ∙ eqb-true c.take_turns.new.waiting.len 0 (sym c.is_empty.ensures ∙ facts.0)) in
    descends k laws d start same a e (Ok (record { changed = told }))
    (λ p. soon_done k laws d start p c.in_ok-begun.begun c.args.waiting.now.items
    c.visit.new.waiting.items none a b c.in_ok-begun.ensures.visit 65536 c.in_ok-soon.soon next e
    c.in_ok-soon.ensures.turns told (ltb-true told (2 ^ 63) facts.1)
    c.saturating_add-changed.ensures over)

pub returns-in_err-ids-clause-descends : goal.returns-in_err-ids-clause-descends
returns-in_err-ids-clause-descends g c = λ none same.
    let k = g.K.Keep in
    let laws = g.met.K.Keep.laws in
    let d = c.args.descent.now in
    let start = c.args.start.now in
    let a = c.args.keep.now in
    let b = c.visit.new.keep in
    let e = c.take_turns.new.keep in
    let n = c.ids.new.self in
    let fault = c.in_err-ids.field-0.0 in
    descends_not k laws d start same a n c.from_residual-in_err-ids.result (Keeper fault)
    c.from_residual-in_err-ids.ensures.1
    (λ p. ids_fail k laws d start p c.in_ok-begun.begun c.args.waiting.now.items
    c.visit.new.waiting.items none a b c.in_ok-begun.ensures.visit 65536 c.in_ok-soon.soon
    c.take_turns.new.waiting.items e c.in_ok-soon.ensures.turns fault n c.in_err-ids.ensures.read)

pub returns-in_err-later-clause-descends : goal.returns-in_err-later-clause-descends
returns-in_err-later-clause-descends g c = λ none same.
    let k = g.K.Keep in
    let laws = g.met.K.Keep.laws in
    let d = c.args.descent.now in
    let start = c.args.start.now in
    let a = c.args.keep.now in
    let b = c.visit.new.keep in
    let e = c.take_turns.new.keep in
    let f = c.take_turns-2.new.keep in
    let fault = c.in_err-later.field-0.0 in
    descends_not k laws d start same a f c.from_residual-in_err-later.result fault
    c.from_residual-in_err-later.ensures.1
    (λ p. later_fails k laws d start p c.in_ok-begun.begun c.args.waiting.now.items
    c.visit.new.waiting.items none a b c.in_ok-begun.ensures.visit 65536 c.in_ok-soon.soon
    c.take_turns.new.waiting.items e c.in_ok-soon.ensures.turns c.in_ok-ids.field-0
    (length c.as_slice-most.result.now) (ap length c.as_slice-most.ensures) c.ids.new.self
    c.in_ok-ids.ensures.read c.take_turns-2.new.waiting.items fault f c.in_err-later.ensures.turns)

pub returns-then-is_empty-2-clause-descends : goal.returns-then-is_empty-2-clause-descends
returns-then-is_empty-2-clause-descends g c = λ none same.
    let k = g.K.Keep in
    let laws = g.met.K.Keep.laws in
    let d = c.args.descent.now in
    let start = c.args.start.now in
    let a = c.args.keep.now in
    let b = c.visit.new.keep in
    let e = c.take_turns.new.keep in
    let most = length c.as_slice-most.result.now in
    let f = c.take_turns-2.new.keep in
    let last = c.take_turns-2.new.waiting.items in
    let many : most ≡ length c.as_slice.inside.items.items = ap length
    (c.as_slice-most.ensures ∙ sym c.as_slice.view_is) in
    let fits : most < 2 ^ 63 = let ok = c.as_slice.inside.items.ok.0 in
    grind (arith, c.as_slice.inside.items.ok.1, c.as_slice.inside.items.small, many, ok) in
    let later = c.in_ok-later.later in
    let over : last ≡ [] = no_length last
    (sym c.take_turns-2.new.waiting.ok.0
    ∙ eqb-true c.take_turns-2.new.waiting.len 0
    (sym c.is_empty-2.ensures ∙ c.if-is_empty-2.true)) in
    let told = c.saturating_add-changed-2.ensures
    ∙ ap (λ m. capped (m + later)) c.saturating_add-changed.ensures in
    descends k laws d start same a f
    (Ok (record { changed = c.saturating_add-changed-2.result }))
    (λ p. later_done k laws d start p c.in_ok-begun.begun c.args.waiting.now.items
    c.visit.new.waiting.items none a b c.in_ok-begun.ensures.visit 65536 c.in_ok-soon.soon
    c.take_turns.new.waiting.items e c.in_ok-soon.ensures.turns c.in_ok-ids.field-0 most
    (ap length c.as_slice-most.ensures) c.ids.new.self c.in_ok-ids.ensures.read later last f
    c.in_ok-later.ensures.turns fits c.saturating_add-changed-2.result told over)

pub returns-else-is_empty-2-clause-descends : goal.returns-else-is_empty-2-clause-descends
returns-else-is_empty-2-clause-descends g c = λ none same.
    let k = g.K.Keep in
    let laws = g.met.K.Keep.laws in
    let d = c.args.descent.now in
    let start = c.args.start.now in
    let a = c.args.keep.now in
    let b = c.visit.new.keep in
    let e = c.take_turns.new.keep in
    let f = c.take_turns-2.new.keep in
    let last = c.take_turns-2.new.waiting.items in
    let some : last ≡ [] → ⊥ = λ over. eqb-false c.take_turns-2.new.waiting.len 0
    (sym c.is_empty-2.ensures ∙ c.if-is_empty-2.false)
    (c.take_turns-2.new.waiting.ok.0 ∙ ap length over) in
    descends k laws d start same a f (Err (Keeper (Damaged d.start)))
    (λ p. never_too_many k laws d start p c.in_ok-begun.begun c.args.waiting.now.items
    c.visit.new.waiting.items none a b c.in_ok-begun.ensures.visit 65536 c.in_ok-soon.soon
    c.take_turns.new.waiting.items e c.in_ok-soon.ensures.turns c.in_ok-ids.field-0
    (length c.as_slice-most.result.now) (ap length c.as_slice-most.ensures) c.ids.new.self
    c.in_ok-ids.ensures.read c.in_ok-later.later last f c.in_ok-later.ensures.turns d.start some)
