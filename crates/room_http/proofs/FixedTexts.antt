-- Worked replies: those of a fixed text, byte for byte.
use Rattle.std.{proofs.Common.{◌≡◌, refl, codes}, specs.Fmt.digits}
use Rattle.serde_json.proofs.OnLiterals.{serde_json_on_literals}
use Rattle.http_message.specs.Form.{reply_form}
use Rattle.room_http.specs.{declared.refusal.Refusal.Refusal, Text.{refusal_reply, store_text}}

pub store : codes
    "HTTP/1.1 500 Internal Server Error\r\nContent-Type: application/json\r\nContent-Length: 15\r\nConnection: close\r\n\r\n{\"why\":\"store\"}"
    ≡ store_text
unfolding store_text reply_form digits serde_json_on_literals
store = refl

bad_length : refusal_reply Refusal.BadLength
    ≡ codes
    "HTTP/1.1 400 Bad Request\r\nContent-Type: application/json\r\nContent-Length: 20\r\nConnection: close\r\n\r\n{\"why\":\"bad-length\"}"
unfolding refusal_reply reply_form digits serde_json_on_literals
bad_length = refl

too_large : refusal_reply Refusal.TooLarge
    ≡ codes
    "HTTP/1.1 413 Payload Too Large\r\nContent-Type: application/json\r\nContent-Length: 19\r\nConnection: close\r\n\r\n{\"why\":\"too-large\"}"
unfolding refusal_reply reply_form digits serde_json_on_literals
too_large = refl

transfer_coding : refusal_reply Refusal.TransferCoding
    ≡ codes
    "HTTP/1.1 501 Not Implemented\r\nContent-Type: application/json\r\nContent-Length: 25\r\nConnection: close\r\n\r\n{\"why\":\"transfer-coding\"}"
unfolding refusal_reply reply_form digits serde_json_on_literals
transfer_coding = refl
