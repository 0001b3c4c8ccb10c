-- What serving a connection does (own).
use Rattle.std.specs.Prelude.{◌≡◌, ℕ, ℤ, ◌+◌, ◌<◌, ◌⊎◌, Bool, false, List, [], ◌∷◌, ◌++◌}
use Rattle.std.specs.Prelude.{length, Option, is_some, ⊤}
use Rattle.std.specs.Io.KnownBytes.{Appends, Consumes, IsAtEnd}
use Rattle.room_machine.specs.declared.desk.Desk.{Ghosts}
use Rattle.room_machine.specs.Run.{Asking}
use Rattle.room_http.specs.declared.ended.Cause.{Cause}
use Rattle.room_http.specs.declared.ended.Ended.{Ended}
use Rattle.room_http.specs.declared.ended.ServeFault.{ServeFault}
use Rattle.room_http.specs.declared.refusal.Refusal.{Refusal}
use Rattle.room_http.specs.Limits.{max_head, max_messages, max_unanswered, read_size}
use Rattle.room_http.specs.Message.{Message, print_message, IsMessage, IsRefusedHead, IsPart, asked}
use Rattle.room_http.specs.Text.{refusal_reply, store_text}
use Rattle.room_http.specs.Answer.{Rose}
use Rattle.room_http.specs.Stream.{Exchange, IsExchange, exchange_text, Last, IsRequest, says_close}
use Rattle.room_http.specs.Stream.{StartsWith, asking_at, ended_of, events_by, last_asking}
use Rattle.room_http.specs.Stream.{last_exchange, last_text, DeskRuns, OpensStream}
use Rattle.room_http.specs.Stream.{Stream, texts_of}

-- one moment: the bytes that the reader has left and that the writer took, where they are known,
-- and the desk
pub record Snapshot (D : Type 0) : Type 0 where
  pub left : Option (List ℕ)
  pub sent : Option (List ℕ)
  pub desk : D

abbrev pub seen : {D : Type 0} → Option (List ℕ) → Option (List ℕ) → D → Snapshot D
seen left sent desk = record { left = left; sent = sent; desk = desk }

-- the reader has nothing left where the end says so
abbrev pub AtEndIf : Last → Option (List ℕ) → Type 0
AtEndIf Last.Clean left = IsAtEnd left
AtEndIf Last.Cut left = IsAtEnd left
AtEndIf last left = ⊤

-- What was read reaches less than one read beyond the message, since no read was made once the
-- message was whole.
abbrev pub IsNear : Message → List ℕ → Type 0
IsNear m left = length left < length (print_message m) + read_size

-- the same for what is refused, which is no longer than a head
abbrev pub IsNearHead : List ℕ → Type 0
IsNearHead left = length left < max_head + read_size

-- the bytes that were read ahead of the end are fewer than one read
abbrev pub NearLast : Last → List ℕ → Type 0
NearLast (Last.Refused refusal) left = IsNearHead left
NearLast (Last.Closing x) left = IsNear x.message left
NearLast (Last.Failed m) left = IsNear m left
NearLast last left = ⊤

-- the count of faults rose where the desk failed, and nowhere else
abbrev pub FaultsRose : Last → ℕ → ℕ → Type 0
FaultsRose (Last.Failed m) old new = Rose old new
FaultsRose last old new = new ≡ old

-- The bytes of a connection that ended: what was read is a stream, and what was written its replies.
pub record Talks (left sent left' sent' : Option (List ℕ)) (exchanges : List Exchange) (last : Last)
    : Type 0 where
  pub read : List ℕ
  pub reads : Consumes left left' read
  pub stream : Stream read exchanges last
  pub near : NearLast last stream.rest
  pub writes : Appends sent sent' (texts_of exchanges ++ last_text last)
  pub at_end : AtEndIf last left'

-- A connection that ended, with its bytes, and what the desk did: a run over their requests, if it
-- was sound before and is trusted afterwards. What the desk failed at, if it did, was asked for and
-- got no answer from it.
pub record Serves {D : Type 0} (d : Ghosts D) (moment : ℤ) (old new : Snapshot D) (ended : Ended)
    : Type 0 where
  pub exchanges : List Exchange
  pub last : Last
  pub talks : Talks old.left old.sent new.left new.sent exchanges last
  pub ended_is : ended ≡ ended_of last
  pub did : DeskRuns d old.desk (last_asking moment last)
      (events_by moment (exchanges ++ last_exchange last)) new.desk
  pub faults : FaultsRose last (d.faults old.desk) (d.faults new.desk)

-- ---- a connection, however it ended

-- what comes next, as far as the fault lets it be known: an exchange, with what its reply says of
-- the connection; a refusal; or a message that the desk failed at
pub data Next : Type 0 where
  Unknown : Next
  Exchanging : Exchange → Bool → Next
  Refusing : Refusal → Next
  Failing : Message → Next

-- it stands at the front of the bytes that are left, after that many exchanges
abbrev pub IsNext : List ℕ → ℕ → Next → Type 0
IsNext left n Next.Unknown = ⊤
IsNext left n (Next.Exchanging x close) =
    IsExchange x × (says_close x.message n ≡ close) × StartsWith left x.message
IsNext left n (Next.Refusing refusal) = IsRefusedHead left refusal
IsNext left n (Next.Failing m) = IsMessage m × IsRequest (asked m) × StartsWith left m

-- the bytes that were read ahead of it are fewer than one read
abbrev pub NearNext : Next → List ℕ → Type 0
NearNext Next.Unknown left = ⊤
NearNext (Next.Exchanging x close) left = IsNear x.message left
NearNext (Next.Refusing refusal) left = IsNearHead left
NearNext (Next.Failing m) left = IsNear m left

abbrev pub next_text : Next → List ℕ
next_text Next.Unknown = []
next_text (Next.Exchanging x close) = exchange_text close x
next_text (Next.Refusing refusal) = refusal_reply refusal
next_text (Next.Failing m) = store_text

abbrev pub next_exchange : Next → List Exchange
next_exchange (Next.Exchanging x close) = x ∷ []
next_exchange next = []

-- what was asked for and got no answer from the desk
abbrev pub next_asking : ℤ → Next → List Asking
next_asking moment (Next.Failing m) = asking_at moment (asked m)
next_asking moment next = []

-- the desk took the step of the next message
abbrev pub did_act : Next → Bool
did_act (Next.Exchanging x close) = is_some x.reply
did_act next = false

-- the count of faults rose where the desk failed, and nowhere else
abbrev pub NextRose : Next → ℕ → ℕ → Type 0
NextRose (Next.Failing m) old new = Rose old new
NextRose next old new = new ≡ old

-- what failed before the next message was known, where these bytes are left: the reader is asked
-- only while no message is whole, and where memory runs out, they are no more than a message and
-- what is read ahead of its end
abbrev pub BlamesBefore : Cause → List ℕ → Type 0
BlamesBefore Cause.Read left = (left ≡ []) ⊎ IsPart left
BlamesBefore Cause.Write left = ⊥
BlamesBefore Cause.Memory left = length left < max_unanswered

-- what failed once a text was due, of which this was written, and this was not: a writer fails
-- only where something is not
abbrev pub BlamesText : Cause → List ℕ → List ℕ → Type 0
BlamesText Cause.Read begun back = ⊥
BlamesText Cause.Write begun back = 0 < length back
BlamesText Cause.Memory begun back = begun ≡ []

-- the same for the text that reports a fault of the desk: it takes no memory
abbrev pub BlamesWriter : Cause → List ℕ → Type 0
BlamesWriter Cause.Read back = ⊥
BlamesWriter Cause.Write back = 0 < length back
BlamesWriter Cause.Memory back = ⊥

abbrev pub Blames : Cause → Next → List ℕ → List ℕ → List ℕ → Type 0
Blames cause Next.Unknown left begun back = BlamesBefore cause left
Blames cause (Next.Exchanging x close) left begun back = BlamesText cause begun back
Blames cause (Next.Refusing refusal) left begun back = BlamesText cause begun back
Blames cause (Next.Failing m) left begun back = BlamesWriter cause back

-- The bytes of a connection, however it ended: those that were read begin with messages that leave
-- it open; what was written are their replies, and a beginning of what comes next.
pub record TalksUpTo (left sent left' sent' : Option (List ℕ)) (exchanges : List Exchange)
    (next : Next)
    : Type 0 where
  pub read : List ℕ
  pub rest : List ℕ
  pub reads : Consumes left left' read
  pub opens : OpensStream read exchanges rest
  pub few : length exchanges < max_messages
  pub is_next : IsNext rest (length exchanges) next
  pub near : NearNext next rest
  pub begun : List ℕ
  pub beginning : (back : List ℕ) × (next_text next ≡ begun ++ back)
  pub writes : Appends sent sent' (texts_of exchanges ++ begun)

-- What a connection is, however it ended: its bytes, and what the desk did, which is a run of the
-- room machine over their requests, with the next message where its step was taken. What the desk
-- failed at, if it did, was asked for and got no answer from it.
pub record Connects {D : Type 0} (d : Ghosts D) (moment : ℤ) (old new : Snapshot D) : Type 0 where
  pub exchanges : List Exchange
  pub next : Next
  pub talks : TalksUpTo old.left old.sent new.left new.sent exchanges next
  pub did : DeskRuns d old.desk (next_asking moment next)
      (events_by moment (exchanges ++ next_exchange next)) new.desk
  pub faults : NextRose next (d.faults old.desk) (d.faults new.desk)

-- What failed is to blame where the bytes broke off.
abbrev pub BreaksOff : Cause → {left sent left' sent' : Option (List ℕ)} → {xs : List Exchange}
    → (next : Next) → TalksUpTo left sent left' sent' xs next → Type 0
BreaksOff cause next talks = Blames cause next talks.rest talks.begun talks.beginning.0

-- A connection that a fault ended: how many replies went out whole, whether the desk took the step
-- of the next message, and what failed.
pub record Stops {D : Type 0} (d : Ghosts D) (moment : ℤ) (old new : Snapshot D)
    (fault : ServeFault)
    : Type 0 where
  pub connects : Connects d moment old new
  pub answered : fault.answered ≡ length connects.exchanges
  pub acted : fault.acted ≡ did_act connects.next
  pub cause : BreaksOff fault.cause connects.next connects.talks
