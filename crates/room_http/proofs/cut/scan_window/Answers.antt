use Rattle.std.proofs.Common.{◌∙◌, rules}
use Rattle.httparse.specs.Spans.{IsRequestWithin, IsRequestOf}
use Rattle.room_http.proofs.Heads.{whole-in-window, at-complete}
use Rattle.room_http.proofs.cut.scan_window.Goals as goal

pub returns-in-Ok-Complete : goal.returns-in-Ok-Complete
returns-in-Ok-Complete c =
    let w = c.args.window.now in
    let spans = c.parse_request.new.headers in
    let found = at-complete
    (IsRequestOf w spans) _ _ _ c.in-Ok-Complete.is c.in-Ok-Complete.field-0-is
    c.parse_request.ensures.complete in
    let within = at-complete
    (IsRequestWithin w spans) _ _ _ c.in-Ok-Complete.is c.in-Ok-Complete.field-0-is
    c.parse_request.ensures.within in
    let whole = whole-in-window w spans _ found.0
    (c.parse_request.auto.headers ∙ c.requires.room) c.requires.short within found.1 in
    (found.0, whole.0, whole.1, whole.2)

pub returns-in-Err-TooManyHeaders : goal.returns-in-Err-TooManyHeaders
returns-in-Err-TooManyHeaders c = search rules
