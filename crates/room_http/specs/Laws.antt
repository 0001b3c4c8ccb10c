-- Laws of the stream (own).
use Rattle.std.specs.Prelude.{◌≡◌, ℕ, List, ◌++◌}
use Rattle.room_http.specs.Message.{Message, print_message, IsMessage}

-- Bytes begin with one message at most, and with one rest after it.
abbrev pub MessageUnique : Type 0
MessageUnique =
    (bytes first second : List ℕ) (m k : Message) →
    IsMessage m → IsMessage k →
    bytes ≡ print_message m ++ first → bytes ≡ print_message k ++ second →
    (m ≡ k) × (first ≡ second)
