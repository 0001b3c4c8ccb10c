-- The replies of fixed text, each of which ends its connection (own).
use Rattle.std.specs.Prelude.{ℕ, List, codes, true}
use Rattle.http_message.specs.Form.{json_form}
use Rattle.http_message.specs.Bodies.{why_data}
use Rattle.room_http.specs.declared.refusal.Refusal.{Refusal}

abbrev pub last_reply : ℕ → List ℕ → List ℕ
last_reply status why = json_form status (why_data why) true

-- to what is refused before its body is read
unfoldable pub refusal_reply : Refusal → List ℕ
refusal_reply Refusal.BadHead = last_reply 400 (codes "bad-head")
refusal_reply Refusal.TooManyFields = last_reply 431 (codes "too-many-fields")
refusal_reply Refusal.TransferCoding = last_reply 501 (codes "transfer-coding")
refusal_reply Refusal.BadLength = last_reply 400 (codes "bad-length")
refusal_reply Refusal.TooLarge = last_reply 413 (codes "too-large")

-- to a message that the desk failed at
unfoldable pub store_text : List ℕ
store_text = last_reply 500 (codes "store")
