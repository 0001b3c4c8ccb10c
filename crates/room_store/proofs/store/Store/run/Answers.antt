use Rattle.std.proofs.{Common.{arith, rules, IfSome, subst, sym, w64}, lemmas.Int.to_z-of_z}
use Rattle.std.specs.Option.{option_copied}
use Rattle.sqlite.specs.Held.{Held, state}
use Rattle.room_judge.specs.Closed.{Performs}
use Rattle.room_machine.specs.Run.{Asked}
use Rattle.store_tables.specs.Within.{IsSettled}
use Rattle.room_store.specs.{Ran.Ran, Remembers.Remembers}
use Rattle.store_request.specs.Inside.{HasDamage}
use Rattle.room_store.proofs.{Closing.closes, Leading.performed, Recalled.{agrees_at, begun_with}}
use Rattle.room_store.proofs.{Recalled.{look_ran, look_remembers}, Transact.ran, Turning.stands}
use Rattle.room_store.proofs.Writing.{written}
use Rattle.room_store.proofs.store.Store.run.Goals as goal

-- a request that wrote or failed

pub returns : goal.returns
returns g c =
    let old = state g.S.Store c.self.inside.conn in
    let begun = state g.S.Store c.begin-tx.result.conn.now in
    let inside = c.perform_inside-done in
    let mid = state g.S.Store inside.new.tx.conn.now in
    let tested = c.if_open-done in
    let last = state g.S.Store tested.new.tx.conn.now in
    let left = c.finish-reply in
    let end = state g.S.Store left.new.tx.0 in
    let begins = c.begin-tx.ensures.begun in
    let remembers = begun_with old c.take.result c.known_of-memory.result
    c.known_of-memory.ensures
    (subst (λ o. IfSome o (Remembers old)) (sym c.take.ensures.value) c.self.invariant.1) in
    let carries = inside.ensures.carries
    (agrees_at old begun mid begins inside.ensures.stays c.known_of-memory.result remembers) in
    let whole = stands begun mid last _ _ tested.ensures.stays inside.result.0 tested.result carries
    tested.ensures.stands in
    let settled : (h : Held g.row.S.Denot) → IsSettled (state g.S.Store h) = λ h o. record {
      left = g.met.S.Store.stays h.store o;
      only = λ db l. g.met.S.Store.settled h.store db o l;
    } in
    let user = option_copied c.args.caller in
    let asked = c.args.request.now in
    let done = subst (λ at. Ran old end left.result HasDamage (Performs user at asked))
    (to_z-of_z w64 c.args.moment c.ranges.moment)
    (ran old begun last end begins whole.stays left.ensures.ended left.ensures.clean HasDamage _
    tested.result left.result whole left.ensures.finishes tested.ensures.opens left.ensures.crash
    (settled c.self.inside.conn) (settled left.new.tx.0)) in
    let it = written HasDamage (Performs user c.args.moment asked) (Asked user c.args.moment asked)
    (λ reply. reply) (performed user c.args.moment asked) old end left.result done in
    grind (arith, c.self.view_is, ran, done, closes, user, asked, old, end, it.leads, it.outlasts)

pub invariant_of-self-2 : goal.invariant_of-self-2
invariant_of-self-2 g c = (c.finish-reply.ensures.ended, λ _ _ _. c.forget.ensures _)

-- a request that only read

pub returns-then-only_read : goal.returns-then-only_read
returns-then-only_read g c =
    let old = state g.S.Store c.self.inside.conn in
    let begun = state g.S.Store c.begin-tx.result.conn.now in
    let inside = c.perform_inside-done in
    let mid = state g.S.Store inside.new.tx.conn.now in
    let back = c.give_up-looked in
    let rolled = state g.S.Store back.new.tx.0 in
    let left = c.end_look-reply in
    let end = state g.S.Store left.new.conn in
    let begins = c.begin-tx.ensures.begun in
    let remembers = begun_with old c.take.result c.known_of-memory.result
    c.known_of-memory.ensures
    (subst (λ o. IfSome o (Remembers old)) (sym c.take.ensures.value) c.self.invariant.1) in
    let carries = inside.ensures.carries
    (agrees_at old begun mid begins inside.ensures.stays c.known_of-memory.result remembers) in
    let kept = inside.ensures.kept c.if-only_read.true in
    let then : IsSettled end = λ o. search (rules, g.met.S.Store.stays, g.met.S.Store.settled) in
    let user = option_copied c.args.caller in
    let asked = c.args.request.now in
    let done = subst (λ at. Ran old end left.result.0 HasDamage (Performs user at asked))
    (to_z-of_z w64 c.args.moment c.ranges.moment)
    (look_ran old begun mid rolled end begins inside.ensures.stays back.ensures.ended
    back.ensures.clean left.ensures.ended left.ensures.clean c.known_of-memory.result
    inside.new.known kept.1 back.ensures.crash left.ensures.crash HasDamage _ then inside.result.0
    back.result left.result.0 kept.0 carries back.ensures.gives_up left.ensures.ends) in
    let it = written HasDamage (Performs user c.args.moment asked) (Asked user c.args.moment asked)
    (λ reply. reply) (performed user c.args.moment asked) old end left.result.0 done in
    rw (← c.self.view_is)
    (grind (arith, ran, done, closes, user, asked, old, end, left.result.0, it.leads, it.outlasts))

pub invariant_of-self : goal.invariant_of-self
invariant_of-self g c =
    let old = state g.S.Store c.self.inside.conn in
    let begun = state g.S.Store c.begin-tx.result.conn.now in
    let inside = c.perform_inside-done in
    let mid = state g.S.Store inside.new.tx.conn.now in
    let back = c.give_up-looked in
    let left = c.end_look-reply in
    let remembers = begun_with old c.take.result c.known_of-memory.result
    c.known_of-memory.ensures
    (subst (λ o. IfSome o (Remembers old)) (sym c.take.ensures.value) c.self.invariant.1) in
    let kept = inside.ensures.kept c.if-only_read.true in (
      left.ensures.ended,
      look_remembers old begun mid (state g.S.Store back.new.tx.0) (state g.S.Store left.new.conn)
          c.begin-tx.ensures.begun inside.ensures.stays back.ensures.ended back.ensures.clean
          left.ensures.ended left.ensures.clean c.known_of-memory.result inside.new.known kept.1
          back.ensures.crash left.ensures.crash inside.result.0 back.result left.result.0
          left.result.1 remembers kept.0 back.ensures.gives_up left.ensures.ends left.ensures.kept,
    )
