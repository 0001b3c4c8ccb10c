-- What answering one message does (own).
use Rattle.std.specs.Prelude.{◌≡◌, ℕ, ℤ, ◌-◌, ◌^◌, ◌<◌, ◌≤◌, ◌⊎◌, Bool, true, false, List, []}
use Rattle.std.specs.Prelude.{◌∷◌, Result, Ok, Err}
use Rattle.room_machine.specs.declared.desk.Desk.{Ghosts}
use Rattle.room_machine.specs.declared.reply.Reply.{Reply}
use Rattle.room_machine.specs.Run.{Event}
use Rattle.http_message.specs.Asked as message
use Rattle.http_message.specs.Reply.{reply_text, fault_text}
use Rattle.http_message.specs.declared.fault.HttpFault.{HttpFault}
use Rattle.room_http.specs.declared.response.Answer.{Answer}
use Rattle.room_http.specs.declared.response.Response.{Response}
use Rattle.room_http.specs.declared.response.Lost.{Lost}
use Rattle.room_http.specs.Message.{Parsed}
use Rattle.room_http.specs.Stream.{DeskRuns, IsRequest, asking_at}

-- the count of faults rose, or is at its end
abbrev pub Rose : ℕ → ℕ → Type 0
Rose old new = (old < new) ⊎ (2 ^ 64 - 1 ≤ old)

-- of a desk, at a moment, from one state to another
module _ {D : Type 0} (d : Ghosts D) (moment : ℤ) (old new : D) where
  -- the desk took the step that the message asks for, and replied so
  pub record Stepped (asked : Parsed) (reply : Reply) : Type 0 where
    pub call : message.UserRequest
    pub asks : asked ≡ Ok call
    pub did : DeskRuns d old [] (Event.Asked call.0 moment call.1 reply ∷ []) new
    pub faults : d.faults new ≡ d.faults old

  -- the desk failed at what the message asks, and keeps what it kept
  pub record Failed (asked : Parsed) : Type 0 where
    pub asks : IsRequest asked
    pub did : DeskRuns d old (asking_at moment asked) [] new
    pub faults : Rose (d.faults old) (d.faults new)

  -- the step was taken where the flag says so, and else the desk is as it was
  abbrev pub ActedIf : Bool → Parsed → Type 0
  ActedIf true asked = (reply : Reply) × Stepped asked reply
  ActedIf false asked = new ≡ old

  -- the text of the first test that fails, where the desk is as it was
  abbrev pub SendsRefusal : Bool → Parsed → List ℕ → Type 0
  SendsRefusal close asked text =
      ((fault : HttpFault) × (asked ≡ Err fault) × (text ≡ fault_text fault close)) × (new ≡ old)

  -- the text of the desk's reply, where it took the step
  abbrev pub TellsReply : Bool → Parsed → List ℕ → Type 0
  TellsReply close asked text =
      (reply : Reply) × Stepped asked reply × (text ≡ reply_text reply close)

  abbrev pub Responds : Bool → Parsed → Result Response Lost → Type 0
  Responds close asked (Ok (Response.Refused text)) = SendsRefusal close asked text.items
  Responds close asked (Ok (Response.Replied text)) = TellsReply close asked text
  Responds close asked (Ok Response.Fault) = Failed asked
  Responds close asked (Err lost) = ActedIf lost.acted asked

  -- What the answer to a message says of its text and of the desk.
  abbrev pub AnswersMessage : Bool → Parsed → Result Answer Lost → Type 0
  AnswersMessage close asked (Ok (Answer.Text text)) =
      SendsRefusal close asked text.items ⊎ TellsReply close asked text.items
  AnswersMessage close asked (Ok Answer.Fault) = Failed asked
  AnswersMessage close asked (Err lost) = ActedIf lost.acted asked

-- the text of the answer where the desk isn't asked
abbrev pub RefusesMessage : HttpFault → Bool → Result Response Lost → Type 0
RefusesMessage fault close (Ok (Response.Refused text)) = text.items ≡ fault_text fault close
RefusesMessage fault close (Ok (Response.Replied text)) = ⊥
RefusesMessage fault close (Ok Response.Fault) = ⊥
RefusesMessage fault close (Err lost) = lost.acted ≡ false

-- the same where the desk took the step, and answered this reply
abbrev pub Delivers : Reply → Bool → Result Response Lost → Type 0
Delivers reply close (Ok (Response.Refused text)) = ⊥
Delivers reply close (Ok (Response.Replied text)) = text ≡ reply_text reply close
Delivers reply close (Ok Response.Fault) = ⊥
Delivers reply close (Err lost) = lost.acted ≡ true

-- the text in one piece, where there is memory for it
abbrev pub JoinsText : List ℕ → Result Answer Lost → Type 0
JoinsText text (Ok (Answer.Text whole)) = whole.items ≡ text
JoinsText text (Ok Answer.Fault) = ⊥
JoinsText text (Err lost) = lost.acted ≡ true
