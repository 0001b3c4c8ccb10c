use Rattle.std.proofs.Common.{false}
use Rattle.room_http.specs.{declared.connection.Wrote.Wrote, Text.store_text, Tell.Tells}
use Rattle.room_http.proofs.Telling.{from-value, told-text}
use Rattle.room_http.proofs.connection.tell.Goals as goal

pub returns-in-Ok-Refused : goal.returns-in-Ok-Refused
returns-in-Ok-Refused g c =
    let old = g.W.Write.contents c.args.w.now in
    let new = g.W.Write.contents c.write_text.new.w in
    let result = c.after_writing.result in
    from-value (λ r. Tells r old new result) _ _ _ c.in-Ok-Refused.is c.in-Ok-Refused.field-0-is
    (told-text _ c.in-Ok-Refused.text.items Wrote.Answered false old new c.write_text.result result
    c.as_slice.ensures.value c.write_text.ensures.ok c.write_text.ensures.err
    c.write_text.ensures.cause c.after_writing.ensures.ok c.after_writing.ensures.err)

pub returns-in-Ok-Fault : goal.returns-in-Ok-Fault
returns-in-Ok-Fault g c =
    let old = g.W.Write.contents c.args.w.now in
    let new = g.W.Write.contents c.write_text-in-Ok-Fault.new.w in
    let result = c.after_writing-in-Ok-Fault.result in
    from-value (λ r. Tells r old new result) _ _ _ c.in-Ok-Fault.is c.in-Ok-Fault.field-0-is
    (told-text _ store_text Wrote.Failed false old new c.write_text-in-Ok-Fault.result result
    c.store_bytes.ensures c.write_text-in-Ok-Fault.ensures.ok
    c.write_text-in-Ok-Fault.ensures.err c.write_text-in-Ok-Fault.ensures.cause
    c.after_writing-in-Ok-Fault.ensures.ok c.after_writing-in-Ok-Fault.ensures.err)
