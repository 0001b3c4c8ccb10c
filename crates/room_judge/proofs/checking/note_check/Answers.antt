use Rattle.std.proofs.Common.{rules, ◌≡◌, List, ap, ◌∙◌, length, arith}
use Rattle.room_entry.specs.Ace.{Ace}
use Rattle.room_eval.specs.Events.{events_of}
use Rattle.room_judge.proofs.Calls.{none_done, then, finish, fails, memory, done, of_write}
use Rattle.room_judge.proofs.Noting.{note_placed, notes_none, notes_one, notes_all, of_note}
use Rattle.room_judge.specs.Stored.{found_site}
use Rattle.room_judge.proofs.checking.note_check.Goals as goal

pub places-init : goal.places-init
places-init g c = search (rules, g.met.K.Keep, done, then, none_done, notes_none)

pub returns-in_err-row : goal.returns-in_err-row
returns-in_err-row g c =
    let m = g.met.K.Keep in
    record {
      done =
          memory m.laws c.places.invariant.done c.from_residual-in_err-row.result
          c.from_residual-in_err-row.ensures.1;
      counted = c.places.invariant.few;
    }

pub returns-in_err-note : goal.returns-in_err-note
returns-in_err-note g c =
    let m = g.met.K.Keep in
    record {
      done = fails m.laws c.places.invariant.done (of_write c.in_err-note.ensures.written)
          (λ old mid at sofar never. never) c.from_residual-in_err-note.result
          c.from_residual-in_err-note.ensures.1;
      counted = omega (arith, c.places.invariant.few, c.in_err-note.ensures.unread);
    }

pub places-preserved : goal.places-preserved
places-preserved g c =
    let m = g.met.K.Keep in
    let checked = c.args.checked.now in
    let asker = checked.ask.now.asker.now in
    let are = c.as_slice-place-items.ensures.value ∙ c.in_ok-places.ensures
    ∙ ap
    (λ (es : List Ace). events_of es asker.caller checked.found.now.node.owners checked.bits
    checked.granted) c.full.ensures in
    let site = found_site checked.ask.now.path.now checked.found.now in
    let places = c.as_slice-place-items.result.now in
    record {
      few = omega (arith, c.places.invariant.few, c.in_ok-note.ensures.unread);
      done =
          then m.laws c.places.invariant.done
          (done (of_note c.in_ok-row.row (note_placed asker checked.granted site checked.bits places
          c.places.place-index c.in_ok-row.row c.places-test.true c.in_ok-row.ensures are)
          c.in_ok-note.ensures.written))
          (λ old now next sofar more.
          notes_one asker checked.granted site checked.bits places c.places.place-index
          c.in_ok-row.row old now next c.places-test.true c.in_ok-row.ensures sofar more);
    }

pub returns : goal.returns
returns g c =
    let m = g.met.K.Keep in
    let checked = c.args.checked.now in
    let asker = checked.ask.now.asker.now in
    let full : c.places.place-index ≡ length c.as_slice-place-items.result.now = omega
    (arith, c.places-test.false, c.places.auto.place-index-end) in
    let are = c.as_slice-place-items.ensures.value ∙ c.in_ok-places.ensures
    ∙ ap
    (λ (es : List Ace). events_of es asker.caller checked.found.now.node.owners checked.bits
    checked.granted) c.full.ensures in
    record {
      done = search (rules, finish, m.laws, c.places.invariant.done, notes_all, asker, full, are);
      counted = c.places.invariant.few;
    }
