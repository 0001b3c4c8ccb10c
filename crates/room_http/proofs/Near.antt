-- How far the bytes that were read reach, and what is there where a read brings nothing.
use Rattle.std.proofs.Common.{rules, ◌≡◌, ℕ, ◌+◌, ◌-◌, ◌<◌, ◌≤◌, ◌⊎◌, List, [], ◌∷◌, ◌++◌, length}
use Rattle.std.proofs.Common.{take, drop, max, refl, inl, inr, sym, ap, subst, ◌∙◌, arith, Option}
use Rattle.std.proofs.lemmas.{Bool.{cases_lt, Decides.nat_tests}, List.{append-nil, length-append}}
use Rattle.std.proofs.lemmas.List.{length-drop, take-append-le, take-append-drop}
use Rattle.std.{proofs.Math.Seq.take-append_seam, specs.Io.KnownBytes.Consumes}
use Rattle.httparse.specs.Grammar.{RequestHead, print_request, HasNoRequest}
use Rattle.httparse.specs.declared.spans.{RequestSpans.RequestSpans, HeaderSpan.HeaderSpan}
use Rattle.room_http.specs.declared.{ended.Cause.Cause, next.NextMessage.NextMessage}
use Rattle.room_http.specs.{Limits.{max_head, max_unanswered, read_size}, Message.BeginsWith}
use Rattle.room_http.specs.{Message.IsPart, Serve.IsNear, Spans.{Came, Loses, MayGoOn, SpansHead}}
use Rattle.room_http.specs.{Spans.{StopsBody, StopsReading}, Exchange.WholeNext}
use Rattle.room_http.proofs.KnownBytes.{Came-then}

-- while a head is read: nothing came yet, or there was no head before the last read
abbrev pub Grown : List ℕ → List ℕ → Type 0
Grown start buf =
    (buf ≡ start)
    ⊎ ((before : List ℕ) × (more : List ℕ) × (buf ≡ before ++ more) × HasNoRequest before
    × (length before < max_head) × (length more ≤ read_size))

-- a head that the bytes begin with, and that ends before more came, was there before
there-before : (buf before more : List ℕ) (h : RequestHead) (rest : List ℕ) → BeginsWith buf h rest
    → buf ≡ before ++ more
    → length (print_request h) ≤ length before → HasNoRequest before → ⊥
there-before buf before more h rest begins split le none =
    let p = print_request h in
    let n = length p in
    let front : take n before ≡ p =
    sym (take-append-le n before more le) ∙ ap (λ t. take n t) (sym split ∙ begins.whole)
    ∙ take-append_seam p rest in
    none h (drop n before)
    (begins.head.valid, sym (take-append-drop n before) ∙ ap (λ t. t ++ drop n before) front)

near-after : (buf before more : List ℕ) (n : ℕ) → buf ≡ before ++ more → length more ≤ read_size
    → length before < n
    → length buf < n + read_size
near-after buf before more n split size lt = grind (arith, nat_tests, length-append)

pub near-found : (start buf : List ℕ) (spans : List HeaderSpan) (r : RequestSpans) → Grown start buf
    → SpansHead buf spans r
    → length start < read_size → length buf < r.len + read_size
near-found start buf spans r (inl same) found short = search (rules, same, short)
near-found start buf spans r (inr g) found short =
    elim (cases_lt (length g.0) r.len) [
      | inl lt ↦ near-after buf g.0 g.1 r.len g.2 g.5 lt
      | inr le ↦
          absurd (there-before buf g.0 g.1 found.0 (drop r.len buf) found.1 g.2
          (subst (λ n. n ≤ length g.0) found.2.len le) g.3)
    ]

-- what is left of the bytes where a message stands in front of them
pub near-message : (buf : List ℕ) (next : NextMessage) (w : WholeNext buf next)
    → length buf < next.end + read_size → IsNear w.message buf
near-message buf next w near = grind (arith, nat_tests, length-append, length-drop)

pub near-rest : (buf after : List ℕ) (n : ℕ) → after ≡ drop n buf → length buf < n + read_size
    → length after < read_size
near-rest buf after n e near = grind (arith, nat_tests, length-drop)

-- ---- where a read brings nothing

pub none-or-part : (buf : List ℕ) → MayGoOn buf → (buf ≡ []) ⊎ IsPart buf
none-or-part [] part = inl refl
none-or-part (b ∷ rest) part = grind (arith, nat_tests)

came-nothing : (u v w : Option (List ℕ)) (a b : List ℕ) → Came u v a b → Consumes v w []
    → Came u w a b
came-nothing u v w a b x y = Came-then u v w a b b x ([], y, sym (append-nil b))

pub stops-reading : (u v w : Option (List ℕ)) (a b : List ℕ) (room : ℕ) (cause : Cause)
    → Came u v a b → Loses room v w cause → (b ≡ []) ⊎ IsPart b
    → length b + room < max_unanswered → StopsReading u w a cause
stops-reading u v w a b room Cause.Read x y part few = (b, came-nothing u v w a b x y, part)
stops-reading u v w a b room Cause.Write x y part few = absurd y
stops-reading u v w a b room Cause.Memory x y part few =
    let all = length-append b y.0 in
    let more = y.1 in (
      b ++ y.0,
      Came-then u v w a b (b ++ y.0) x (y.0, y.2, refl),
      omega (arith, all, more, few),
    )

pub stops-body : (u v w : Option (List ℕ)) (a b : List ℕ) (total room : ℕ) (cause : Cause)
    → Came u v a b → Loses room v w cause → length b < total
    → room ≤ max read_size (total - length b) → StopsBody u w a total cause
stops-body u v w a b total room Cause.Read x y short near = (b, came-nothing u v w a b x y, short)
stops-body u v w a b total room Cause.Write x y short near = absurd y
stops-body u v w a b total room Cause.Memory x y short near =
    let all = length-append b y.0 in
    let more = y.1 in (
      b ++ y.0,
      Came-then u v w a b (b ++ y.0) x (y.0, y.2, refl),
      omega (arith, all, more, short, near),
    )
