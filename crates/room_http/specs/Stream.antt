-- The stream: the bytes of a connection as messages with their replies, and its end (own).
use Rattle.std.specs.Prelude.{◌≡◌, ℕ, ℤ, ◌+◌, ◌<◌, Bool, true, false, ◌||◌, ◌==◌, List, [], ◌∷◌}
use Rattle.std.specs.Prelude.{◌++◌, length, Option, Some, None, Ok, Err, All, ⊤}
use Rattle.std.specs.List.{flat_map}
use Rattle.room_rows.specs.Content.{Content}
use Rattle.room_machine.specs.Desk.{RunsClosed}
use Rattle.room_machine.specs.declared.desk.Desk.{Ghosts}
use Rattle.room_machine.specs.declared.reply.Reply.{Reply}
use Rattle.room_machine.specs.Run.{Asking, Event, Run}
use Rattle.http_message.specs.Reply.{reply_text, fault_text}
use Rattle.room_http.specs.declared.refusal.Refusal.{Refusal}
use Rattle.room_http.specs.declared.ended.Ended.{Ended}
use Rattle.room_http.specs.Limits.{max_messages}
use Rattle.room_http.specs.Message.{Message, print_message, IsMessage, IsRefusedHead, IsPart, Parsed}
use Rattle.room_http.specs.Message.{asked, closes}
use Rattle.room_http.specs.Text.{refusal_reply, store_text}

-- ---- a message and its reply

-- a message, and the reply of the desk if it was asked
pub record Exchange : Type 0 where
  pub message : Message
  pub reply : Option Reply

-- the desk is asked exactly where no test refuses the message
abbrev pub HasReply : Parsed → Option Reply → Type 0
HasReply (Ok call) (Some reply) = ⊤
HasReply (Err fault) None = ⊤
HasReply (Ok call) None = ⊥
HasReply (Err fault) (Some reply) = ⊥

pub record IsExchange (x : Exchange) : Type 0 where
  pub message : IsMessage x.message
  pub agrees : HasReply (asked x.message) x.reply

-- the text of the reply: that of the first test that fails, else that of the desk's reply
abbrev pub answer_text : Bool → Parsed → Option Reply → List ℕ
answer_text close (Err fault) reply = fault_text fault close
answer_text close (Ok call) (Some reply) = reply_text reply close
answer_text close (Ok call) None = []

abbrev pub exchange_text : Bool → Exchange → List ℕ
exchange_text close x = answer_text close (asked x.message) x.reply

-- what happens at the desk, at this moment
abbrev pub events_at : ℤ → Parsed → Option Reply → List Event
events_at moment (Ok call) (Some reply) = Event.Asked call.0 moment call.1 reply ∷ []
events_at moment (Ok call) None = []
events_at moment (Err fault) reply = []

abbrev pub event_at : ℤ → Exchange → List Event
event_at moment x = events_at moment (asked x.message) x.reply

-- what happens by these exchanges, one after the other
abbrev pub events_by : ℤ → List Exchange → List Event
events_by moment xs = flat_map (event_at moment) xs

-- what the message asks of the desk, at this moment, if no test refuses it
abbrev pub asking_at : ℤ → Parsed → List Asking
asking_at moment (Ok call) = Event.Asked call.0 moment call.1 ∷ []
asking_at moment (Err fault) = []

-- these events are a run from what the desk kept to what it keeps then
abbrev pub Runs : (Content → Type 0) → List Event → (Content → Type 0) → Type 0
Runs old events new =
    (room : Content) → old room → (next : Content) × Run room events next × new next

-- What a desk did from one state to a later one: a run over these events, if it was sound before and
-- is trusted afterwards. Sound or not, each of them was judged by the lists that its rows stored
-- then, and nothing else changed these rows. Of any desk it is said what outlasts the events, and
-- what was asked for and got no answer.
pub record DeskRuns {D : Type 0} (d : Ghosts D) (old : D) (asked : List Asking)
    (events : List Event) (new : D) : Type 0 where
  pub trusted : d.trusted new → d.trusted old
  pub sound : d.trusted new → d.sound old → d.sound new
  pub run : d.trusted new → d.sound old → Runs (d.content old) events (d.content new)
  pub closed : d.trusted new → RunsClosed (d.stored old) events (d.stored new)
  pub outlasts : d.Outlasts old asked events new

-- ---- the end

-- what ended the stream after the exchanges that left it open: the input between messages or inside
-- one, a refusal, an exchange whose reply closes, or a message that the desk failed at
pub data Last : Type 0 where
  Clean Cut : Last
  Refused : Refusal → Last
  Closing : Exchange → Last
  Failed : Message → Last

-- the message asks something of the desk
abbrev pub IsRequest : Parsed → Type 0
IsRequest (Ok call) = ⊤
IsRequest (Err fault) = ⊥

-- the reply to the message after n others says that the connection ends
abbrev pub says_close : Message → ℕ → Bool
says_close m n = closes m || ((n + 1) == max_messages)

-- the bytes begin with the message
abbrev pub StartsWith : List ℕ → Message → Type 0
StartsWith bytes m = (rest : List ℕ) × (bytes ≡ print_message m ++ rest)

-- the bytes that are left after n exchanges are this end
abbrev pub EndsStream : List ℕ → ℕ → Last → Type 0
EndsStream left n Last.Clean = left ≡ []
EndsStream left n Last.Cut = IsPart left
EndsStream left n (Last.Refused refusal) = IsRefusedHead left refusal
EndsStream left n (Last.Closing x) =
    IsExchange x × (says_close x.message n ≡ true) × StartsWith left x.message
EndsStream left n (Last.Failed m) = IsMessage m × IsRequest (asked m) × StartsWith left m

-- the text that the end brings
abbrev pub last_text : Last → List ℕ
last_text Last.Clean = []
last_text Last.Cut = []
last_text (Last.Refused refusal) = refusal_reply refusal
last_text (Last.Closing x) = exchange_text true x
last_text (Last.Failed m) = store_text

-- the exchange that ended the stream, if one did
abbrev pub last_exchange : Last → List Exchange
last_exchange (Last.Closing x) = x ∷ []
last_exchange last = []

-- what was asked for and got no answer from the desk
abbrev pub last_asking : ℤ → Last → List Asking
last_asking moment (Last.Failed m) = asking_at moment (asked m)
last_asking moment last = []

abbrev pub ended_of : Last → Ended
ended_of Last.Clean = Ended.Clean
ended_of Last.Cut = Ended.Cut
ended_of last = Ended.Closed

-- ---- the whole

-- an exchange after which the connection stays open
pub record IsOpen (x : Exchange) : Type 0 where
  pub is : IsExchange x
  pub stays : closes x.message ≡ false

-- the bytes of the exchanges
abbrev pub bytes_of : List Exchange → List ℕ
bytes_of xs = flat_map (λ x. print_message x.message) xs

-- the texts of their replies
abbrev pub texts_of : List Exchange → List ℕ
texts_of xs = flat_map (exchange_text false) xs

-- the bytes begin with these exchanges, each of which leaves the connection open, and then the rest
pub record OpensStream (bytes : List ℕ) (xs : List Exchange) (rest : List ℕ) : Type 0 where
  pub whole : bytes ≡ bytes_of xs ++ rest
  pub each : All IsOpen xs

-- The bytes are these exchanges and this end.
pub record Stream (bytes : List ℕ) (xs : List Exchange) (last : Last) : Type 0 where
  pub rest : List ℕ
  pub opens : OpensStream bytes xs rest
  pub few : length xs < max_messages
  pub ends : EndsStream rest (length xs) last
