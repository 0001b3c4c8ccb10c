use Rattle.std.proofs.Common.{◌≡◌, ◌+◌, ◌≤◌, subst, sym, ap, ◌∙◌, inr, List, ℕ, Ok, length, arith}
use Rattle.std.proofs.lemmas.List.{length-append}
use Rattle.room_http.specs.{Limits.read_size, Spans.{Scans, SpansHead}}
use Rattle.room_http.specs.declared.cut.HeadScan.{HeadScan}
use Rattle.room_http.proofs.{KnownBytes.Came-then, Near.{near-found, none-or-part, stops-reading}}
use Rattle.room_http.proofs.cut.Inbox.read_head.Goals as goal

pub returns-in-Whole-clause-near : goal.returns-in-Whole-clause-near
returns-in-Whole-clause-near g c short =
    let spans = c.scan_head.new.spans in
    let head = c.in-Whole.head in
    let found = subst (λ (b : List ℕ). SpansHead b spans head) c.as_slice.ensures.value
    c.in-Whole.ensures in
    near-found c.args.self.now.buf.items c.reading.self.buf.items spans head c.reading.invariant.1 found short

pub returns-in-Ok-false-clause-head : goal.returns-in-Ok-false-clause-head
returns-in-Ok-false-clause-head g c =
    let spans = c.scan_head.new.spans in
    let end = c.fill.ensures.end (c.in-Ok-false.is ∙ ap Ok c.in-Ok-false.field-0-test) in
    let same = c.as_slice.ensures.value ∙ sym {A = List ℕ} end.0 in
    let part = subst (λ (b : List ℕ). Scans b spans HeadScan.Part) same c.in-Part.ensures in
    (end.1, part)

pub returns-in-Err-clause-lost : goal.returns-in-Err-clause-lost
returns-in-Err-clause-lost g c =
    let buf = c.reading.self.buf.items in
    let part = subst (λ (b : List ℕ). Scans b c.scan_head.new.spans HeadScan.Part)
    c.as_slice.ensures.value c.in-Part.ensures in
    let short = part.0 in
    stops-reading _ _ _ _ buf read_size _ c.reading.invariant.0 c.in-Err.ensures.lost
    (none-or-part buf part) (omega (arith, short))

pub returns-in-Ok-false-clause-came : goal.returns-in-Ok-false-clause-came
returns-in-Ok-false-clause-came g c =
    Came-then (g.R.Read.remaining c.args.r.now) (g.R.Read.remaining c.reading.r)
    (g.R.Read.remaining c.fill.new.r) c.args.self.now.buf.items c.reading.self.buf.items
    c.fill.new.self.buf.items c.reading.invariant.0 c.in-Ok-false.ensures.came

pub reading-preserved : goal.reading-preserved
reading-preserved g c =
    let buf = c.reading.self.buf.items in
    let came = c.in-Ok-true.ensures.came in
    let part = subst (λ (b : List ℕ). Scans b c.scan_head.new.spans HeadScan.Part)
    c.as_slice.ensures.value c.in-Part.ensures in
    let sum : length c.fill.new.self.buf.items ≡ length buf + length came.0 =
    ap length came.2 ∙ length-append buf came.0 in
    let few : length came.0 ≤ read_size = omega (arith, sum, c.in-Ok-true.ensures.size) in (
      Came-then (g.R.Read.remaining c.args.r.now) (g.R.Read.remaining c.reading.r)
          (g.R.Read.remaining c.fill.new.r) c.args.self.now.buf.items buf c.fill.new.self.buf.items
          c.reading.invariant.0 came,
      inr (buf, came.0, came.2, part.1, part.0, few),
    )
