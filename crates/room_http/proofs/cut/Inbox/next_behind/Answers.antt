use Rattle.std.proofs.Common.{arith, ◌∙◌, ap, take, Ok, List, ℕ}
use Rattle.room_http.specs.{Message.body_size, Spans.head_at}
use Rattle.room_http.proofs.Following.{whole-next, part-next, stopped-next}
use Rattle.room_http.proofs.cut.Inbox.next_behind.Goals as goal

pub returns-in-Ok-true-clause-next : goal.returns-in-Ok-true-clause-next
returns-in-Ok-true-clause-next g c =
    let at = c.args.parts in
    let spans = c.args.spans.now in
    let found = c.requires in
    whole-next c.args.self.now.buf.items _ _ spans at found.0 c.in-Ok.head _ found.1 found.2
    (c.in-Ok.ensures ∙ ap (λ (t : List ℕ). head_at (take at.len t) spans at) c.deref.ensures.value)
    (c.in-Ok-declared_size.ensures.value ∙ ap body_size c.as_slice.ensures)
    c.in-Ok-declared_size.ensures.small c.in-Ok-true.ensures.came.2
    (c.read_body.ensures.whole (c.in-Ok-true.is ∙ ap Ok c.in-Ok-true.field-0-test))

pub returns-in-Ok-false-clause-next : goal.returns-in-Ok-false-clause-next
returns-in-Ok-false-clause-next g c =
    let at = c.args.parts in
    let spans = c.args.spans.now in
    let found = c.requires in
    let cut = c.read_body.ensures.cut (c.in-Ok-false.is ∙ ap Ok c.in-Ok-false.field-0-test) in (
      cut.1,
      part-next c.args.self.now.buf.items _ _ spans at found.0 c.in-Ok.head _ found.1 found.2
          (grind (arith, c.in-Ok.ensures, at.len, spans, c.deref.ensures.value))
          (c.in-Ok-declared_size.ensures.value ∙ ap body_size c.as_slice.ensures)
          c.in-Ok-false.ensures.came.2 cut.0,
    )

pub returns-in-Err-read_body-clause-lost : goal.returns-in-Err-read_body-clause-lost
returns-in-Err-read_body-clause-lost g c = λ near.
    let at = c.args.parts in
    let spans = c.args.spans.now in
    let found = c.requires in
    stopped-next c.args.self.now.buf.items _ _ spans at found.0 c.in-Ok.head _ c.in-Err-read_body.cause
    found.1 found.2
    (c.in-Ok.ensures ∙ ap (λ (t : List ℕ). head_at (take at.len t) spans at) c.deref.ensures.value)
    (c.in-Ok-declared_size.ensures.value ∙ ap body_size c.as_slice.ensures)
    c.in-Ok-declared_size.ensures.small c.in-Err-read_body.ensures.lost
