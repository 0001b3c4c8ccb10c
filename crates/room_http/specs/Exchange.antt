-- One exchange, and a connection so far.
use Rattle.std.specs.Prelude.{◌≡◌, ℕ, ℤ, ◌+◌, ◌<◌, ◌≤◌, false, List, [], ◌∷◌, ◌++◌, length, drop}
use Rattle.std.specs.Prelude.{slice_range, Option, Some, None, Result, Ok, Err, ⊤}
use Rattle.std.specs.Io.KnownBytes.{Appends, Consumes, IsAtEnd}
use Rattle.room_machine.specs.declared.desk.Desk.{Ghosts}
use Rattle.room_http.specs.declared.ended.Ended.{Ended}
use Rattle.room_http.specs.declared.connection.Connection.{Connection}
use Rattle.room_http.specs.declared.connection.ExchangeFault.{ExchangeFault}
use Rattle.room_http.specs.declared.next.NextMessage.{NextMessage}
use Rattle.room_http.specs.declared.next.Upcoming.{Upcoming}
use Rattle.room_http.specs.Limits.{max_body, max_head, max_messages, read_size}
use Rattle.room_http.specs.Message.{Message, print_message, IsMessage}
use Rattle.room_http.specs.Message.{IsRefusedHead, IsPart, head_of}
use Rattle.room_http.specs.Stream.{Exchange, IsOpen, exchange_text, Last}
use Rattle.room_http.specs.Stream.{EndsStream, ended_of, events_by, last_asking, last_text}
use Rattle.room_http.specs.Stream.{last_exchange, DeskRuns, OpensStream, texts_of}
use Rattle.room_http.specs.Serve.{Snapshot, AtEndIf, FaultsRose, Next, IsNext, next_asking}
use Rattle.room_http.specs.Serve.{next_exchange, next_text, did_act, Blames, NextRose, IsNearHead}
use Rattle.room_http.specs.Serve.{NearLast, NearNext}
use Rattle.room_http.specs.Spans.{Came}

-- a front of the text was written
abbrev pub WritesSome : Option (List ℕ) → Option (List ℕ) → List ℕ → Type 0
WritesSome old new text =
    (front : List ℕ) × (back : List ℕ) × (text ≡ front ++ back) × Appends old new front

-- a front of the text was written, and not all of it
abbrev pub WritesPart : Option (List ℕ) → Option (List ℕ) → List ℕ → Type 0
WritesPart old new text = (wrote : WritesSome old new text) × (0 < length wrote.1)

-- ---- the next message

-- the message at the front of the bytes, with its head and the place of its body
pub record WholeNext (buf : List ℕ) (next : NextMessage) : Type 0 where
  pub message : Message
  pub is : IsMessage message
  pub head : next.head ≡ head_of message.head
  pub whole : buf ≡ print_message message ++ drop next.end buf
  pub ordered : next.start ≤ next.end
  pub small : next.end ≤ max_head + max_body
  pub in_range : next.end ≤ length buf
  pub body : slice_range buf next.start next.end ≡ message.body

-- what the next message turned out to be
abbrev pub Coming : List ℕ → Option (List ℕ) → Upcoming → Type 0
Coming buf left Upcoming.Clean = IsAtEnd left × (buf ≡ [])
Coming buf left Upcoming.Cut = IsAtEnd left × IsPart buf
Coming buf left (Upcoming.Refused refusal) = IsRefusedHead buf refusal
Coming buf left (Upcoming.Whole next) = WholeNext buf next

-- how far the bytes reach beyond what turned out to be next
abbrev pub ComesNear : List ℕ → Upcoming → Type 0
ComesNear buf Upcoming.Clean = ⊤
ComesNear buf Upcoming.Cut = ⊤
ComesNear buf (Upcoming.Refused refusal) = IsNearHead buf
ComesNear buf (Upcoming.Whole next) = length buf < next.end + read_size

module _ {D : Type 0} (d : Ghosts D) (moment : ℤ) (n : ℕ) (old new : Snapshot D) where
  -- ---- an exchange, after n messages

  pub record ExchangesOpen (buf : List ℕ) (connection : Connection) : Type 0 where
    pub x : Exchange
    pub is_open : IsOpen x
    pub more : n + 1 < max_messages
    pub counts : connection.answered ≡ n + 1
    pub came :
        Came old.left new.left buf (print_message x.message ++ connection.inbox.buf.items)
    pub near : length connection.inbox.buf.items < read_size
    pub writes : Appends old.sent new.sent (exchange_text false x)
    pub did : DeskRuns d old.desk [] (events_by moment (x ∷ [])) new.desk
    pub faults : d.faults new.desk ≡ d.faults old.desk

  pub record ExchangesLast (buf : List ℕ) (ended : Ended) : Type 0 where
    pub last : Last
    pub is : ended ≡ ended_of last
    pub rest : List ℕ
    pub came : Came old.left new.left buf rest
    pub ends : EndsStream rest n last
    pub near : NearLast last rest
    pub writes : Appends old.sent new.sent (last_text last)
    pub at_end : AtEndIf last new.left
    pub did : DeskRuns d old.desk (last_asking moment last)
        (events_by moment (last_exchange last)) new.desk
    pub faults : FaultsRose last (d.faults old.desk) (d.faults new.desk)

  pub record ExchangesStop (buf : List ℕ) (stop : ExchangeFault) : Type 0 where
    pub next : Next
    pub rest : List ℕ
    pub came : Came old.left new.left buf rest
    pub is_next : IsNext rest n next
    pub near : NearNext next rest
    pub writes : WritesSome old.sent new.sent (next_text next)
    pub acted : stop.acted ≡ did_act next
    pub cause : Blames stop.cause next rest writes.0 writes.1
    pub did : DeskRuns d old.desk (next_asking moment next)
        (events_by moment (next_exchange next)) new.desk
    pub faults : NextRose next (d.faults old.desk) (d.faults new.desk)

  abbrev pub Exchanges : List ℕ → Connection → Result (Option Ended) ExchangeFault → Type 0
  Exchanges buf connection (Ok None) = ExchangesOpen buf connection
  Exchanges buf connection (Ok (Some ended)) = ExchangesLast buf ended
  Exchanges buf connection (Err stop) = ExchangesStop buf stop

  -- ---- a connection so far

  pub record Along (buf : List ℕ) : Type 0 where
    pub read : List ℕ
    pub exchanges : List Exchange
    pub reads : Consumes old.left new.left read
    pub opens : OpensStream read exchanges buf
    pub count : n ≡ length exchanges
    pub few : n < max_messages
    pub near : length buf < read_size
    pub writes : Appends old.sent new.sent (texts_of exchanges)
    pub did : DeskRuns d old.desk [] (events_by moment exchanges) new.desk
    pub faults : d.faults new.desk ≡ d.faults old.desk
