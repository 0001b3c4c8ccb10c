-- A message: a head, and as many bytes of body as its Content-Length says (own). The tests of what
-- stands at the front of a stream.
use Rattle.std.specs.Prelude.{◌≡◌, ℕ, ◌<◌, ◌≤◌, ◌⊎◌, Bool, ◌&&◌, List, [], ◌∷◌, ◌++◌, length, take}
use Rattle.std.specs.Prelude.{map, codes, if◌then◌else◌, nat_lt, nat_le, Result, Ok, Err}
use Rattle.std.specs.List.{list_all}
use Rattle.std.specs.Char.{is_ascii_digit}
use Rattle.std.specs.Str.Parse.{digits_value}
use Rattle.httparse.specs.Grammar.{RequestHead, IsRequestHead, print_request, HasNoRequest}
use Rattle.httparse.specs.Grammar.{NeverHasRequest, MayBecomeRequest, ReadsRequest}
use Rattle.httparse.specs.Spans.{name_and_value, RequestExceeds, RequestOverflows}
use Rattle.http_message.specs.declared.head.Head.{Head}
use Rattle.http_message.specs.declared.head.Field.{Field}
use Rattle.http_message.specs.Fields.{field_values, trimmed}
use Rattle.http_message.specs.Asked as message
use Rattle.http_message.specs.Close.{asks_close}
use Rattle.http_message.specs.declared.fault.HttpFault.{HttpFault}
use Rattle.room_http.specs.declared.refusal.Refusal.{Refusal}
use Rattle.room_http.specs.Limits.{max_head, max_fields, max_body}

-- ---- a head, and the length of the body after it

abbrev pub field_of : List ℕ × List ℕ → Field
field_of pair = record { name = pair.0; value = pair.1 }

-- the parts of a head that are read
abbrev pub head_of : RequestHead → Head
head_of h = record {
  method = h.method;
  target = h.target;
  minor = h.minor;
  fields = map field_of (map name_and_value h.fields);
}

-- 1: a head within the limits
pub record IsHead (h : RequestHead) : Type 0 where
  pub valid : IsRequestHead h
  pub few : length h.fields ≤ max_fields
  pub short : length (print_request h) ≤ max_head

-- one or more digits
abbrev pub is_number : List ℕ → Bool
is_number text = nat_lt 0 (length text) && list_all is_ascii_digit text

-- the number that the value of a Content-Length gives
unfoldable pub length_of_text : List ℕ → Result ℕ Refusal
length_of_text text =
    if is_number text
    then (if nat_le (digits_value 10 text) max_body then Ok (digits_value 10 text)
    else Err Refusal.TooLarge)
    else Err Refusal.BadLength

-- 3: the length that the values of Content-Length give
abbrev pub length_from : List (List ℕ) → Result ℕ Refusal
length_from [] = Ok 0
length_from (value ∷ []) = length_of_text (trimmed value)
length_from (value ∷ other ∷ values) = Err Refusal.BadLength

-- 2: no field is a transfer coding
abbrev pub length_unless : List (List ℕ) → Result ℕ Refusal → Result ℕ Refusal
length_unless [] length = length
length_unless (coding ∷ codings) length = Err Refusal.TransferCoding

-- how many bytes of body follow a head with these fields, or why it is refused
abbrev pub body_size : List Field → Result ℕ Refusal
body_size fields =
    length_unless (field_values (codes "transfer-encoding") fields)
    (length_from (field_values (codes "content-length") fields))

abbrev pub body_size_of : RequestHead → Result ℕ Refusal
body_size_of h = body_size (head_of h).fields

-- ---- a message

pub record Message : Type 0 where
  pub head : RequestHead
  pub body : List ℕ

-- the bytes of a message
unfoldable pub print_message : Message → List ℕ
print_message m = print_request m.head ++ m.body

-- none of the tests 1 to 3 fails, and 4: the body is whole
pub record IsMessage (m : Message) : Type 0 where
  pub head : IsHead m.head
  pub size : body_size_of m.head ≡ Ok (length m.body)

-- who asks, and what; or the first of the tests 5 to 12 that fails
abbrev pub Parsed : Type 0
Parsed = Result message.UserRequest HttpFault

abbrev pub asked : Message → Parsed
asked m = message.request_of (head_of m.head) m.body

-- the message asks that the connection ends
abbrev pub closes : Message → Bool
closes m = asks_close (head_of m.head)

-- ---- what is refused, and what is cut off

-- more field lines than the limit stand there; or they stand in each head that the bytes can
-- become, and there is one
abbrev pub HasTooMany : List ℕ → Type 0
HasTooMany bytes =
    RequestExceeds max_fields bytes
    ⊎ (RequestOverflows max_fields bytes
    × ((more : List ℕ) × (h : RequestHead) × ReadsRequest (bytes ++ more) h []))

-- the limit of bytes without the head's end, and the head may still go on
abbrev pub HasLongHead : List ℕ → Type 0
HasLongHead bytes =
    (max_head ≤ length bytes) × HasNoRequest (take max_head bytes)
    × MayBecomeRequest (take max_head bytes)

-- no head is there, for this reason
abbrev pub HasNoHead : List ℕ → Refusal → Type 0
-- no bytes can follow that make a head
HasNoHead bytes Refusal.BadHead = NeverHasRequest (take max_head bytes)
-- too many fields, or the limit of bytes without the head's end
HasNoHead bytes Refusal.TooManyFields =
    HasTooMany (take max_head bytes) ⊎ HasLongHead bytes
HasNoHead bytes refusal = ⊥

-- the bytes begin with a head within the limits, and then the rest
pub record BeginsWith (bytes : List ℕ) (h : RequestHead) (rest : List ℕ) : Type 0 where
  pub head : IsHead h
  pub whole : bytes ≡ print_request h ++ rest

-- the head at the front is refused for its fields
abbrev pub HeadIsRefused : List ℕ → Refusal → Type 0
HeadIsRefused bytes refusal =
    (h : RequestHead) × (rest : List ℕ) × BeginsWith bytes h rest × (body_size_of h ≡ Err refusal)

-- What stands at the front is refused before a body is read. `httparse` leaves some answers open,
-- and there two of these hold: both reasons, where there are too many fields and another fault too,
-- or where a target with a fault is unended at the limit; a reason and `IsPart` below, where such a
-- target, or one field more than the limit, is unended at the end of the input.
abbrev pub IsRefusedHead : List ℕ → Refusal → Type 0
IsRefusedHead bytes refusal = HasNoHead bytes refusal ⊎ HeadIsRefused bytes refusal

-- a head that has begun and may go on, and hasn't ended more fields than the limit
pub record IsPartOfHead (bytes : List ℕ) : Type 0 where
  pub some : 0 < length bytes
  pub short : length bytes < max_head
  pub none : HasNoRequest bytes
  pub may : MayBecomeRequest bytes
  pub few : ¬ (RequestExceeds max_fields bytes)

-- a whole head, and less than its body
abbrev pub IsPartOfBody : List ℕ → Type 0
IsPartOfBody bytes =
    (h : RequestHead) × (part : List ℕ) × (size : ℕ) × BeginsWith bytes h part
    × (body_size_of h ≡ Ok size) × (length part < size)

-- a message that has begun and isn't whole
abbrev pub IsPart : List ℕ → Type 0
IsPart bytes = IsPartOfHead bytes ⊎ IsPartOfBody bytes
