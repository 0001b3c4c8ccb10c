-- A head found in a window of the bytes is a head of the bytes.
use Rattle.std.proofs.Common.{rules, ◌≡◌, ℕ, ◌<◌, ◌≤◌, List, [], ◌∷◌, ◌++◌, length, take, drop, map}
use Rattle.std.proofs.Common.{refl, inl, inr, sym, ap, subst, ◌∙◌, arith, min, append_assoc, Result}
use Rattle.std.proofs.{Common.Ok, lemmas.List.{take-append-le, drop-append-le, take-append-drop}}
use Rattle.std.proofs.lemmas.List.{length-drop, length-take, take_min, take_all, length-map}
use Rattle.std.proofs.lemmas.{List.Elements.recursion_from_All, Bool.Decides.nat_tests}
use Rattle.std.proofs.Math.{Seq.drop-append_seam, Nat.{min_comm, le_trans}}
use Rattle.std.specs.List.{All, AllByRecursion, slice_range}
use Rattle.httparse.specs.declared.{Status.{Status, TheVariants.Complete}, spans.Span.Span}
use Rattle.httparse.specs.declared.spans.{HeaderSpan.HeaderSpan, RequestSpans.RequestSpans}
use Rattle.httparse.specs.{Outcome.IfComplete, Grammar.{RequestHead, print_request, HasNoRequest}}
use Rattle.httparse.specs.{Grammar.{NeverHasRequest, MayBecomeRequest}, Spans.span_bytes}
use Rattle.httparse.specs.Spans.{header_bytes, IsWithin, IsHeaderWithin, IsRequestWithin}
use Rattle.httparse.specs.Spans.{IsRequestAt}
use Rattle.room_http.specs.{Limits.{max_head, max_fields}, Message.{IsHead, BeginsWith, HasTooMany}}
use Rattle.room_http.specs.declared.{cut.HeadScan.HeadScan, refusal.Refusal.Refusal}
use Rattle.room_http.specs.Spans.{AreSpansOf, MayGoOn, Scans, ScansWindow}

-- a slice of the front is a slice of the whole
pub slice_range-append : (p q : List ℕ) (a b : ℕ) → a ≤ b → b ≤ length p
    → slice_range p a b ≡ slice_range (p ++ q) a b
slice_range-append p q a b ab bp =
    grind (arith, nat_tests, drop-append-le, length-drop, take-append-le)

map-agree-rec : {X Y : Type 0} (f g : X → Y) (P : X → Type 0) (each : (x : X) → P x → f x ≡ g x)
    → (xs : List X) → AllByRecursion P xs → map f xs ≡ map g xs
map-agree-rec f g P each [] all = refl
map-agree-rec f g P each (x ∷ xs) all =
    ap (λ y. y ∷ map f xs) (each x all.0) ∙ ap (λ t. g x ∷ t) (map-agree-rec f g P each xs all.1)

pub map-agree : {X Y : Type 0} (f g : X → Y) (P : X → Type 0) (each : (x : X) → P x → f x ≡ g x)
    → (xs : List X) → All P xs → map f xs ≡ map g xs
map-agree f g P each xs all = map-agree-rec f g P each xs (recursion_from_All P xs all)

-- a span of the front covers the same bytes of the whole
pub span-front : (w p q : List ℕ) (s : Span) (n : ℕ) → w ≡ p ++ q → n ≡ length p → IsWithin n s
    → span_bytes p s ≡ span_bytes w s
span-front w p q s n whole len within = grind (arith, nat_tests, slice_range-append)

pub header-front : (w p q : List ℕ) (n : ℕ) → w ≡ p ++ q → n ≡ length p → (s : HeaderSpan)
    → IsHeaderWithin n s
    → header_bytes p s ≡ header_bytes w s
header-front w p q n whole len s within = grind (arith, nat_tests, span-front)

pub spans-of-head : (w : List ℕ) (spans : List HeaderSpan) (r : RequestSpans) (h : RequestHead)
    → IsRequestWithin w spans r → IsRequestAt w spans r h → AreSpansOf spans r h
spans-of-head w spans r h within at =
    let p = print_request h in
    let q = drop r.len w in
    let whole : w ≡ p ++ q = at.reads.1 in
    record {
      len = at.len;
      method_in = within.method;
      path_in = within.path;
      fields_in = within.section.headers_fit;
      count = within.section.count_fits;
      method = span-front w p q r.method r.len whole at.len within.method ∙ at.method;
      path = span-front w p q r.path r.len whole at.len within.path ∙ at.path;
      version = at.version;
      fields =
          map-agree (header_bytes p) (header_bytes w) (IsHeaderWithin r.len)
          (header-front w p q r.len whole at.len) (take r.headers spans) within.section.headers_fit
          ∙ at.fields;
    }

-- the window is the first bytes
pub window-is : (n k : ℕ) (buf : List ℕ) → k ≡ min (length buf) n → take k buf ≡ take n buf
window-is n k buf e = ap (λ j. take j buf) (e ∙ min_comm (length buf) n) ∙ take_min n buf

pub few-fields : (w : List ℕ) (spans : List HeaderSpan) (r : RequestSpans) (h : RequestHead)
    → IsRequestAt w spans r h → length h.fields ≤ length spans
few-fields w spans r h at = grind (arith, nat_tests, length-map, length-take)

-- what the parser answers, in a window of the limit's length with room for the limit's fields
pub whole-in-window : (w : List ℕ) (spans : List HeaderSpan) (r : RequestSpans) (h : RequestHead)
    → length spans ≡ max_fields → length w ≤ max_head → IsRequestWithin w spans r
    → IsRequestAt w spans r h
    → IsHead h × (w ≡ print_request h ++ drop r.len w) × AreSpansOf spans r h
whole-in-window w spans r h room short within at = (
  search (rules, at.reads.0, room, few-fields, short, at.len, le_trans, within.section.len_fits),
  at.reads.1,
  spans-of-head w spans r h within at,
)

-- what begins the window begins the bytes
pub begins-from-window : (buf w : List ℕ) (h : RequestHead) (n : ℕ) → w ≡ take max_head buf
    → IsHead h → n ≡ length (print_request h) → w ≡ print_request h ++ drop n w
    → BeginsWith buf h (drop n buf)
begins-from-window buf w h n window head len whole =
    let p = print_request h in
    let all : buf ≡ p ++ (drop n w ++ drop max_head buf) =
    sym (take-append-drop max_head buf) ∙ ap (λ t. t ++ drop max_head buf) (sym window ∙ whole)
    ∙ append_assoc p (drop n w) (drop max_head buf) in
    search (rules, p, drop-append_seam, head, whole)

short-window : (n k len : ℕ) → k ≡ min n len → k < n → len < n
short-window n k len e lt = omega arith

full-window : (n k len : ℕ) → k ≡ min n len → n ≤ k → n ≤ len
full-window n k len e le = omega arith

pub scans-from-window : (buf w : List ℕ) (spans : List HeaderSpan) (found : HeadScan)
    → w ≡ take max_head buf
    → ScansWindow w spans found → Scans buf spans found
scans-from-window buf w spans (HeadScan.Whole r) window at =
    (at.0, begins-from-window buf w at.0 r.len window at.1 at.3.len at.2, at.3)
scans-from-window buf w spans HeadScan.Part window at =
    let len : length w ≡ min max_head (length buf) = ap length window ∙ length-take max_head buf in
    let below : length buf < max_head = search (rules, short-window, at.0) in
    let same : w ≡ buf = window ∙ take_all max_head buf (omega (arith, below)) in
    subst MayGoOn same at
scans-from-window buf w spans (HeadScan.Refused Refusal.BadHead) window at =
    subst NeverHasRequest window at
scans-from-window buf w spans (HeadScan.Refused Refusal.TooManyFields) window at =
    elim at [
      | inl many ↦ inl (subst HasTooMany window many)
      | inr full ↦
          let len : length w ≡ min max_head (length buf) = ap length window
          ∙ length-take max_head buf in
          inr (
            full-window max_head (length w) (length buf) len full.0,
            subst HasNoRequest window full.1,
            subst MayBecomeRequest window full.2,
          )
    ]
scans-from-window buf w spans (HeadScan.Refused Refusal.TransferCoding) window at = absurd at
scans-from-window buf w spans (HeadScan.Refused Refusal.BadLength) window at = absurd at
scans-from-window buf w spans (HeadScan.Refused Refusal.TooLarge) window at = absurd at

-- what holds of a complete parse, at the arm that found one
pub at-complete : {A E : Type 0} (P : A → Type 0) (result : Result (Status A) E) (status : Status A)
    (a : A)
    → result ≡ Ok status → status ≡ Complete a → IfComplete result P → P a
at-complete {A} {E} P result status a e f h = grind (arith, nat_tests)
