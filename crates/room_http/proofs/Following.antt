-- The message at the front of the bytes.
use Rattle.std.proofs.Common.{rules, ◌≡◌, ℕ, ◌+◌, ◌<◌, ◌≤◌, List, ◌++◌, length, take, drop, inr}
use Rattle.std.proofs.Common.{sym, ap, ◌∙◌, arith, append_assoc, Option, Ok}
use Rattle.std.proofs.lemmas.List.{take-append-drop, length-append, length-take-le}
use Rattle.std.proofs.{lemmas.Bool.Decides.nat_tests, Math.Seq.{drop-append_seam, take-append_seam}}
use Rattle.std.{proofs.Math.Seq.drop-append-add, specs.List.slice_range}
use Rattle.httparse.specs.declared.spans.{HeaderSpan.HeaderSpan, RequestSpans.RequestSpans}
use Rattle.httparse.specs.Grammar.{RequestHead, print_request}
use Rattle.http_message.specs.declared.head.Head.{Head}
use Rattle.room_http.specs.Message.{print_message, BeginsWith, IsPart, head_of, body_size}
use Rattle.room_http.specs.{declared.ended.Cause.Cause, Limits.max_body, Spans.AreSpansOf}
use Rattle.room_http.specs.{Spans.{head_at, StopsBody, StopsReading}, Exchange.WholeNext}

parts-of-spans : (spans : List HeaderSpan) (r : RequestSpans) (h : RequestHead)
    → AreSpansOf spans r h
    → head_at (print_request h) spans r ≡ head_of h
parts-of-spans spans r h s = grind (arith, nat_tests)

-- the head's own bytes
head-bytes : (buf : List ℕ) (h : RequestHead) (n : ℕ) → BeginsWith buf h (drop n buf)
    → n ≡ length (print_request h)
    → take n buf ≡ print_request h
head-bytes buf h n b len = grind (arith, nat_tests, take-append_seam)

-- the copied parts are those of the head
pub parts-are : (buf : List ℕ) (spans : List HeaderSpan) (r : RequestSpans) (h : RequestHead)
    (head : Head)
    → BeginsWith buf h (drop r.len buf) → AreSpansOf spans r h
    → head ≡ head_at (take r.len buf) spans r
    → head ≡ head_of h
parts-are buf spans r h head b s e =
    e ∙ ap (λ t. head_at t spans r) (head-bytes buf h r.len b s.len) ∙ parts-of-spans spans r h s

more-whole : (buf after more : List ℕ) (h : RequestHead) (n : ℕ) → BeginsWith buf h (drop n buf)
    → after ≡ buf ++ more
    → after ≡ print_request h ++ (drop n buf ++ more)
more-whole buf after more h n b came =
    came ∙ ap (λ t. t ++ more) b.whole ∙ append_assoc (print_request h) (drop n buf) more

body-slice : (p rest after : List ℕ) (n size : ℕ) → after ≡ p ++ rest → n ≡ length p
    → slice_range after n (n + size) ≡ take size rest
body-slice p rest after n size all len = grind (arith, nat_tests, drop-append_seam)

pub whole-next : (buf after more : List ℕ) (spans : List HeaderSpan) (r : RequestSpans)
    (h : RequestHead) (head : Head) (size : ℕ)
    → BeginsWith buf h (drop r.len buf) → AreSpansOf spans r h
    → head ≡ head_at (take r.len buf) spans r
    → Ok size ≡ body_size head.fields → size ≤ max_body
    → after ≡ buf ++ more → r.len + size ≤ length after
    → WholeNext after (record { head = head; start = r.len; end = r.len + size })
unfolding print_message
whole-next buf after more spans r h head size b s copied sized small came fits =
    let p = print_request h in
    let rest = drop r.len buf ++ more in
    let all : after ≡ p ++ rest = more-whole buf after more h r.len b came in
    let parts : head ≡ head_of h = parts-are buf spans r h head b s copied in
    let len : length after ≡ length p + length rest = ap length all ∙ length-append p rest in
    let room : size ≤ length rest = omega (arith, len, fits, s.len) in
    let body : length (take size rest) ≡ size = length-take-le size rest room in
    let tail : drop (r.len + size) after ≡ drop size rest =
    ap (λ t. drop (r.len + size) t) all ∙ ap (λ k. drop (k + size) (p ++ rest)) s.len
    ∙ drop-append-add p rest size in
    record {
      message = record { head = h; body = take size rest };
      is =
          record {
            head = b.head;
            size = ap (λ (q : Head). body_size q.fields) (sym parts) ∙ sym sized ∙ ap Ok (sym body);
          };
      head = parts;
      whole =
          all ∙ ap (λ t. p ++ t) (sym (take-append-drop size rest)
          ∙ ap (λ t. take size rest ++ t) (sym tail))
          ∙ sym (append_assoc p (take size rest) (drop (r.len + size) after));
      ordered = omega arith;
      small = let short = b.head.short in let same = s.len in omega (arith, short, same, small);
      in_range = fits;
      body = body-slice p rest after r.len size all s.len;
    }

pub part-next : (buf after more : List ℕ) (spans : List HeaderSpan) (r : RequestSpans)
    (h : RequestHead) (head : Head) (size : ℕ)
    → BeginsWith buf h (drop r.len buf) → AreSpansOf spans r h
    → head ≡ head_at (take r.len buf) spans r
    → Ok size ≡ body_size head.fields
    → after ≡ buf ++ more → length after < r.len + size
    → IsPart after
part-next buf after more spans r h head size b s copied sized came short =
    let p = print_request h in
    let rest = drop r.len buf ++ more in
    let all : after ≡ p ++ rest = more-whole buf after more h r.len b came in
    let parts : head ≡ head_of h = parts-are buf spans r h head b s copied in
    let len : length after ≡ length p + length rest = ap length all ∙ length-append p rest in
    let less : length rest < size = omega (arith, len, short, s.len) in
    inr (
      h,
      rest,
      size,
      search (rules, b.head),
      ap (λ (q : Head). body_size q.fields) (sym parts) ∙ sym sized,
      less,
    )

-- a body that a read failed within is part of a message
pub stopped-next : (buf : List ℕ) (u v : Option (List ℕ)) (spans : List HeaderSpan)
    (r : RequestSpans) (h : RequestHead) (head : Head)
    (size : ℕ) (cause : Cause)
    → BeginsWith buf h (drop r.len buf) → AreSpansOf spans r h
    → head ≡ head_at (take r.len buf) spans r
    → Ok size ≡ body_size head.fields → size ≤ max_body
    → StopsBody u v buf (r.len + size) cause → StopsReading u v buf cause
stopped-next buf u v spans r h head size Cause.Read b s copied sized small stop =
    grind (arith, nat_tests, part-next)
stopped-next buf u v spans r h head size Cause.Write b s copied sized small stop = absurd stop.2
stopped-next buf u v spans r h head size Cause.Memory b s copied sized small stop =
    grind (arith, nat_tests)
