-- The parts of a head, as spans of its own bytes, and what the search for a head found.
use Rattle.std.specs.Prelude.{◌≡◌, ℕ, ◌+◌, ◌<◌, ◌≤◌, ◌⊎◌, List, [], ◌++◌, length, take}
use Rattle.std.specs.Prelude.{drop, map, All, Option, ⊤}
use Rattle.std.specs.Io.KnownBytes.{Consumes, IsAtEnd}
use Rattle.httparse.specs.declared.spans.HeaderSpan.{HeaderSpan}
use Rattle.httparse.specs.declared.spans.RequestSpans.{RequestSpans}
use Rattle.httparse.specs.Grammar.{RequestHead, print_request, HasNoRequest, NeverHasRequest}
use Rattle.httparse.specs.Grammar.{MayBecomeRequest}
use Rattle.httparse.specs.Spans.{span_bytes, header_bytes, IsWithin, IsHeaderWithin, AreFieldsAt}
use Rattle.httparse.specs.Spans.{RequestExceeds}
use Rattle.http_message.specs.declared.head.Head.{Head}
use Rattle.room_http.specs.declared.cut.HeadScan.{HeadScan}
use Rattle.room_http.specs.declared.cut.HeadRead.{HeadRead}
use Rattle.room_http.specs.declared.refusal.Refusal.{Refusal}
use Rattle.room_http.specs.declared.ended.Cause.{Cause}
use Rattle.room_http.specs.Limits.{max_head, max_fields, read_size}
use Rattle.room_http.specs.Message.{field_of, IsHead, BeginsWith, HasNoHead, HasTooMany}
use Rattle.room_http.specs.Serve.{BlamesBefore, IsNearHead}

-- the spans cover the parts of the head
pub record AreSpansOf (spans : List HeaderSpan) (r : RequestSpans) (h : RequestHead) : Type 0 where
  pub len : r.len ≡ length (print_request h)
  pub method_in : IsWithin r.len r.method
  pub path_in : IsWithin r.len r.path
  pub fields_in : All (IsHeaderWithin r.len) (take r.headers spans)
  pub count : r.headers ≤ length spans
  pub method : span_bytes (print_request h) r.method ≡ h.method
  pub path : span_bytes (print_request h) r.path ≡ h.target
  pub version : r.version ≡ h.minor
  pub fields : AreFieldsAt (print_request h) spans r.headers h.fields

-- the parts that the spans cover
abbrev pub head_at : List ℕ → List HeaderSpan → RequestSpans → Head
head_at bytes spans r = record {
  method = span_bytes bytes r.method;
  target = span_bytes bytes r.path;
  minor = r.version;
  fields = map field_of (map (header_bytes bytes) (take r.headers spans));
}

-- the spans cover a head at the front of the bytes
abbrev pub SpansHead : List ℕ → List HeaderSpan → RequestSpans → Type 0
SpansHead buf spans r =
    (h : RequestHead) × BeginsWith buf h (drop r.len buf) × AreSpansOf spans r h

-- no head is there yet, and nothing refuses one that the bytes begin
abbrev pub MayGoOn : List ℕ → Type 0
MayGoOn buf =
    (length buf < max_head) × HasNoRequest buf × MayBecomeRequest buf
    × (¬ (RequestExceeds max_fields buf))

-- what the search for a head found
abbrev pub Scans : List ℕ → List HeaderSpan → HeadScan → Type 0
Scans buf spans (HeadScan.Whole r) = SpansHead buf spans r
Scans buf spans HeadScan.Part = MayGoOn buf
Scans buf spans (HeadScan.Refused refusal) = HasNoHead buf refusal

-- what it found in the bytes where a head may stand
abbrev pub ScansWindow : List ℕ → List HeaderSpan → HeadScan → Type 0
ScansWindow w spans (HeadScan.Whole r) =
    (h : RequestHead) × IsHead h × (w ≡ print_request h ++ drop r.len w) × AreSpansOf spans r h
ScansWindow w spans HeadScan.Part = MayGoOn w
ScansWindow w spans (HeadScan.Refused Refusal.BadHead) = NeverHasRequest w
ScansWindow w spans (HeadScan.Refused Refusal.TooManyFields) =
    HasTooMany w ⊎ ((max_head ≤ length w) × HasNoRequest w × MayBecomeRequest w)
ScansWindow w spans (HeadScan.Refused refusal) = ⊥

-- these bytes came from the reader, after those that were there
abbrev pub Came : Option (List ℕ) → Option (List ℕ) → List ℕ → List ℕ → Type 0
Came old_left new_left old new =
    (more : List ℕ) × Consumes old_left new_left more × (new ≡ old ++ more)

-- what a read of so many bytes that brought nothing took from the reader, by what failed
abbrev pub Loses : ℕ → Option (List ℕ) → Option (List ℕ) → Cause → Type 0
Loses room old new Cause.Read = Consumes old new []
Loses room old new Cause.Write = ⊥
Loses room old new Cause.Memory =
    (more : List ℕ) × (length more ≤ room) × Consumes old new more

-- these bytes came, and then a read brought nothing, which this explains
abbrev pub StopsReading : Option (List ℕ) → Option (List ℕ) → List ℕ → Cause → Type 0
StopsReading old_left new_left old cause =
    (all : List ℕ) × Came old_left new_left old all × BlamesBefore cause all

-- the same within a body: where a read failed, fewer bytes came than up to its end, and where
-- memory ran out, less than one read more
abbrev pub BlamesBody : Cause → ℕ → List ℕ → Type 0
BlamesBody Cause.Read total all = length all < total
BlamesBody Cause.Write total all = ⊥
BlamesBody Cause.Memory total all = length all < total + read_size

abbrev pub StopsBody : Option (List ℕ) → Option (List ℕ) → List ℕ → ℕ → Cause → Type 0
StopsBody old_left new_left old total cause =
    (all : List ℕ) × Came old_left new_left old all × BlamesBody cause total all

-- how far the bytes reach beyond the head, or beyond bytes that aren't one
abbrev pub HeadNear : List ℕ → HeadRead → Type 0
HeadNear buf (HeadRead.Found r) = length buf < r.len + read_size
HeadNear buf HeadRead.Ended = ⊤
HeadNear buf (HeadRead.NotHead refusal) = IsNearHead buf

-- what was found when the reading of a head ended
abbrev pub HeadCame : List ℕ → List HeaderSpan → Option (List ℕ) → HeadRead → Type 0
HeadCame buf spans left (HeadRead.Found r) = SpansHead buf spans r
HeadCame buf spans left HeadRead.Ended = IsAtEnd left × MayGoOn buf
HeadCame buf spans left (HeadRead.NotHead refusal) = HasNoHead buf refusal
