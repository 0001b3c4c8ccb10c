-- How one message was answered.
use Rattle.std.proofs.Common.{rules, ◌≡◌, ℕ, ℤ, ◌+◌, ◌-◌, ◌^◌, ◌<◌, ◌≤◌, ◌⊎◌, Bool, List, [], min}
use Rattle.std.proofs.Common.{refl, inl, inr, sym, subst, arith, Option, Some, None, Result, Ok}
use Rattle.std.proofs.{Common.{Err, OnOk, OnErr, IfErr}, lemmas.Bool.{cases_lt, Decides.nat_tests}}
use Rattle.std.specs.Io.KnownBytes.{Appends}
use Rattle.room_machine.specs.{declared.{desk.Desk.Ghosts, reply.Reply.Reply}, Desk.DeskLaws}
use Rattle.http_message.specs.declared.fault.HttpFault.{HttpFault}
use Rattle.room_http.specs.{Message.Parsed, Answer.{Stepped, ActedIf, AnswersMessage, Delivers}}
use Rattle.room_http.specs.Answer.{JoinsText, Failed, Responds, SendsRefusal, TellsReply, Rose}
use Rattle.room_http.specs.declared.response.{Answer.Answer, Response.Response, Lost.Lost}
use Rattle.room_http.specs.declared.connection.{ExchangeFault.ExchangeFault, Wrote.Wrote}
use Rattle.room_http.specs.declared.ended.Cause.{Cause}
use Rattle.room_http.specs.{Stream.{HasReply, DeskRuns, answer_text, events_at}, Text.store_text}
use Rattle.room_http.specs.{Serve.BlamesWriter, Exchange.{WritesPart, WritesSome}, Tell.StopsWithin}
use Rattle.room_http.{specs.Tell.{Tells, TellsText}, proofs.Runs.nothing-done}
use Rattle.room_entry.proofs.Facts.KnownBytes.{Appends-none}

rose-by : (old new : ℕ) → (old < 2 ^ 64 - 1) ⊎ (2 ^ 64 - 1 ≤ old) → new ≡ min (old + 1) (2 ^ 64 - 1)
    → Rose old new
rose-by old new (inl lt) e = inl (omega arith)
rose-by old new (inr le) e = inr le

-- a count that rises by one, up to the greatest
pub rose : (old new : ℕ) → new ≡ min (old + 1) (2 ^ 64 - 1) → Rose old new
rose old new e = rose-by old new (cases_lt old (2 ^ 64 - 1)) e

pub nothing-sent : (sent sent' : Option (List ℕ)) → sent' ≡ sent → Appends sent sent' []
nothing-sent sent sent' e =
    subst (λ (s : Option (List ℕ)). Appends sent s []) (sym e) (Appends-none sent)

-- what holds of an `Ok`, at the arm that found which
pub at-value : {A E : Type 0} (P : Result A E → Type 0) (result : Result A E) (found value : A)
    → result ≡ Ok found → found ≡ value → P result → P (Ok value)
at-value P result found value e f h =
    subst (λ x. P (Ok x)) f (subst P e h)

-- and the other way round
pub from-value : {A E : Type 0} (P : Result A E → Type 0) (result : Result A E) (found value : A)
    → result ≡ Ok found → found ≡ value → P (Ok value) → P result
from-value P result found value e f h =
    subst P (sym e) (subst (λ x. P (Ok x)) (sym f) h)

-- a text that is due, and what came of writing it
pub told-text : (text due : List ℕ) (told : Wrote) (acted : Bool) (u v : Option (List ℕ))
    (wrote : Result (Unit {0}) Cause) (result : Result Wrote ExchangeFault) → text ≡ due
    → OnOk wrote (Appends u v text) → OnErr wrote (WritesPart u v text)
    → IfErr wrote (λ why. why ≡ Cause.Write) → OnOk wrote (result ≡ Ok told)
    → IfErr wrote (λ why. result ≡ Err (record { acted = acted; cause = why }))
    → TellsText due told acted u v result
told-text text due told acted u v (Ok done) result e all part why ok err =
    subst (TellsText due told acted u v) (sym ok) (refl, subst (λ t. Appends u v t) e all)
told-text text due told acted u v (Err cause) result e all part why ok err =
    subst (TellsText due told acted u v) (sym err)
    (subst (λ t. WritesPart u v t) e part, why, refl)

Appends-is : (u v : Option (List ℕ)) (a b : List ℕ) → a ≡ b → Appends u v a → Appends u v b
Appends-is u v a b e w = subst (λ t. Appends u v t) e w

module _ {D : Type 0} (d : Ghosts D) (moment : ℤ) (old new : D) where
  -- the desk did what the message asks, and this is its reply, or a test refuses the message
  pub record Replies (asked : Parsed) (reply : Option Reply) : Type 0 where
    pub agrees : HasReply asked reply
    pub did : DeskRuns d old [] (events_at moment asked reply) new
    pub faults : d.faults new ≡ d.faults old

module _ {D : Type 0} (d : Ghosts D) (moment : ℤ) (old new : D) where
  -- the desk took the step, and its reply is the text
  pub responds-by : (close : Bool) (asked : Parsed) (reply : Reply)
      → Stepped d moment old new asked reply → (result : Result Response Lost)
      → Delivers reply close result → Responds d moment old new close asked result
  responds-by close asked reply s (Ok (Response.Refused text)) b = absurd b
  responds-by close asked reply s (Ok (Response.Replied text)) b = (reply, s, b)
  responds-by close asked reply s (Ok Response.Fault) b = absurd b
  responds-by close asked reply s (Err lost) b =
      subst (λ (a : Bool). ActedIf d moment old new a asked) (sym b) (reply, s)

  -- the same where the text is put together
  pub joined-answers : (close : Bool) (asked : Parsed) (text : List ℕ)
      → TellsReply d moment old new close asked text → (result : Result Answer Lost)
      → JoinsText text result → AnswersMessage d moment old new close asked result
  joined-answers close asked text tells (Ok (Answer.Text whole)) j = grind (arith, nat_tests)
  joined-answers close asked text tells (Ok Answer.Fault) j = absurd j
  joined-answers close asked text tells (Err lost) j = grind (arith, nat_tests)

  -- of a message that a test refuses
  replies-refused : DeskLaws d.Outlasts → (asked : Parsed) (fault : HttpFault) → asked ≡ Err fault
      → new ≡ old → Replies d moment old new asked None
  replies-refused laws asked fault e same = grind (arith, nat_tests, nothing-done)

  -- of the desk
  pub replies-stepped : (asked : Parsed) (reply : Reply) → Stepped d moment old new asked reply
      → Replies d moment old new asked (Some reply)
  replies-stepped asked reply s = grind (arith, nat_tests)

  pub refused-tells : DeskLaws d.Outlasts → (close : Bool) (asked : Parsed) (text : List ℕ)
      → SendsRefusal d moment old new close asked text
      → Replies d moment old new asked None × (text ≡ answer_text close asked None)
  refused-tells laws close asked text a = grind (arith, nat_tests, replies-refused)

  pub replied-tells : (close : Bool) (asked : Parsed) (text : List ℕ)
      → TellsReply d moment old new close asked text
      → (reply : Reply) × Replies d moment old new asked (Some reply)
      × (text ≡ answer_text close asked (Some reply))
  replied-tells close asked text a = grind (arith, nat_tests, replies-stepped)

  -- the whole text of a reply was written
  pub answers-whole : DeskLaws d.Outlasts → (close : Bool) (asked : Parsed)
      (sent sent' : Option (List ℕ)) (response : Result Response Lost)
      → Responds d moment old new close asked response
      → Tells response sent sent' (Ok Wrote.Answered)
      → (reply : Option Reply) × Replies d moment old new asked reply
      × Appends sent sent' (answer_text close asked reply)
  answers-whole laws close asked sent sent' (Ok (Response.Refused text)) r t =
      search (rules, refused-tells, laws, asked, r, t.1)
  answers-whole laws close asked sent sent' (Ok (Response.Replied text)) r t =
      let a = replied-tells close asked text r in
      (Some a.0, a.1, Appends-is sent sent' text _ a.2 t.1)
  answers-whole laws close asked sent sent' (Ok Response.Fault) r t =
      absurd (let e = t.0 in cc)
  answers-whole laws close asked sent sent' (Err lost) r t = absurd t

  -- and that the desk failed
  pub fails-whole : (close : Bool) (asked : Parsed)
      (sent sent' : Option (List ℕ)) (response : Result Response Lost)
      → Responds d moment old new close asked response
      → Tells response sent sent' (Ok Wrote.Failed)
      → Failed d moment old new asked × Appends sent sent' store_text
  fails-whole close asked sent sent' (Ok (Response.Refused text)) r t = grind (arith, nat_tests)
  fails-whole close asked sent sent' (Ok (Response.Replied text)) r t = grind (arith, nat_tests)
  fails-whole close asked sent sent' (Ok Response.Fault) r t = (r, t.1)
  fails-whole close asked sent sent' (Err lost) r t = absurd t

-- a write failed within the text
pub within-write : (u v : Option (List ℕ)) (a b : List ℕ) (cause : Cause) → a ≡ b
    → cause ≡ Cause.Write
    → WritesPart u v a → StopsWithin u v b cause
within-write u v a b cause e f w =
    let part = subst (λ t. WritesPart u v t) e w in search (rules, f)

-- the same for the text that reports a fault of the desk
pub within-fault : (u v : Option (List ℕ)) (cause : Cause) → cause ≡ Cause.Write
    → WritesPart u v store_text → (wrote : WritesSome u v store_text) × BlamesWriter cause wrote.1
within-fault u v cause f part = search (rules, f)
