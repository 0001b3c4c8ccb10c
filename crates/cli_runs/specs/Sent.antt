-- The bytes of replies (own).
use Rattle.std.specs.Prelude.{◌≡◌, List, None, IsSome, ⊤}
use Rattle.room_http.specs.Stream.{Exchange, Last}
use Rattle.cli_listen.specs.Peers.{Wire}
use Rattle.cli_listen.specs.Visits.{EndsTalk}

-- the end is no refusal of bytes that are no message
abbrev pub IsNoRefusal : Last → Type 0
IsNoRefusal (Last.Refused refusal) = ⊥
IsNoRefusal last = ⊤

-- Two connections with the same messages and the same replies, neither of which a fault, a refusal
-- or a failure of the desk ended: if the same was written to both before, as far as that is known, it
-- is so then.
abbrev pub ExchangesAreBytes : Type 0
ExchangesAreBytes = (had has had' has' : Wire) (exchanges : List Exchange)
    → (one : EndsTalk had has exchanges None) → (two : EndsTalk had' has' exchanges None)
    → IsNoRefusal one.last → IsNoRefusal two.last → IsSome had.sent
    → had.sent ≡ had'.sent → has.sent ≡ has'.sent
