-- The form of a reply's text: its status line, its fields, an empty line and its body (own).
use Rattle.std.specs.Prelude.{ℕ, List, [], ◌++◌, length, codes, Option, Some, None, Bool, true}
use Rattle.std.specs.Prelude.{false, decimal, unwrap_or}
use Rattle.http.specs.StatusCode.{code_digits, reason_phrase}
use Rattle.json.specs.Token.{Token}
use Rattle.json.specs.Tree.{json_tokens}
use Rattle.serde_json.specs.Data.{Data}
use Rattle.serde_json.specs.Written.{compact_text, outline}

-- the phrase of a status, as `http` has it
abbrev pub phrase_of : ℕ → List ℕ
phrase_of status = unwrap_or (reason_phrase status) []

-- the version, the three digits of the status, and its phrase
abbrev pub first_line : List ℕ → List ℕ → List ℕ
first_line digits phrase = codes "HTTP/1.1 " ++ (digits ++ (codes " " ++ (phrase ++ codes "\r\n")))

abbrev pub status_line : ℕ → List ℕ
status_line status = first_line (code_digits status) (phrase_of status)

abbrev pub field_line : List ℕ → List ℕ → List ℕ
field_line name value = name ++ (codes ": " ++ (value ++ codes "\r\n"))

abbrev pub field_if : List ℕ → Option (List ℕ) → List ℕ
field_if name None = []
field_if name (Some value) = field_line name value

abbrev pub length_line : Option (List ℕ) → List ℕ
length_line None = []
length_line (Some body) = field_line (codes "Content-Length") (decimal (length body))

abbrev pub close_line : Bool → List ℕ
close_line true = codes "Connection: close\r\n"
close_line false = []

abbrev pub body_bytes : Option (List ℕ) → List ℕ
body_bytes None = []
body_bytes (Some body) = body

-- A reply of a status, with the type of its body, the methods that are allowed, and the body, each
-- where there is one. The flag says whether the connection ends with it.
unfoldable pub reply_form : ℕ → Option (List ℕ) → Option (List ℕ) → Option (List ℕ) → Bool → List ℕ
reply_form status kind allow body close =
    status_line status
    ++ field_if (codes "Content-Type") kind
    ++ field_if (codes "Allow") allow
    ++ length_line body
    ++ close_line close
    ++ codes "\r\n"
    ++ body_bytes body

-- all of that text that stands before the body
abbrev pub head_form : ℕ → Option (List ℕ) → Option (List ℕ) → Option (List ℕ) → Bool → List ℕ
head_form status kind allow body close =
    status_line status
    ++ field_if (codes "Content-Type") kind
    ++ field_if (codes "Allow") allow
    ++ length_line body
    ++ close_line close
    ++ codes "\r\n"

-- a reply with a text of JSON
abbrev pub json_text_form : ℕ → List ℕ → Bool → List ℕ
json_text_form status text close =
    reply_form status (Some (codes "application/json")) None (Some text) close

-- a reply with JSON
abbrev pub json_form : ℕ → Data → Bool → List ℕ
json_form status value close = json_text_form status (compact_text value) close

-- the tokens of which that text is the print
abbrev pub data_tokens : Data → List Token
data_tokens value = json_tokens (outline value)
