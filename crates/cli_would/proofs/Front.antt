-- A front that shows that a question is too long gets the reply to the whole question.
use Rattle.std.proofs.Common.{ℕ, ◌≡◌, ◌≤◌, ◌+◌, ◌∙◌, ap, sym, subst, Bool, true, false, List}
use Rattle.std.proofs.Common.{length, Option, Some, None, Result, Ok, Err, refl, inl, inr, arith}
use Rattle.std.proofs.Common.{cond}
use Rattle.std.proofs.lemmas.{List.{length-take-le, take_all}, Bool.{cases_Bool, ltb-true}}
use Rattle.std.proofs.lemmas.Bool.{ltb-false, false≢true}
use Rattle.std.specs.Prelude.{IfSome, nat_lt, take}
use Rattle.cli_outcome.specs.declared.status.Status.{Status}
use Rattle.room_ace.specs.Lists.{lines_of}
use Rattle.room_entry.specs.declared.failure.Failure.{Failure}
use Rattle.room_entry.specs.declared.failure.Failure.TheVariants.{Fault}
use Rattle.room_question.specs.Items.{items_from}
use Rattle.room_question.specs.Reading.{nothing_said, question_from, question_of, with_objects}
use Rattle.room_question.specs.Words.{and_then, fault_at}
use Rattle.room_question.specs.declared.fault.QuestionWhy.TheVariants.{TooMuch}
use Rattle.room_question.specs.declared.question.Question.{Question}
use Rattle.room_would.specs.Would.{IsRefused, IsWould, Unread, Stopped}
use Rattle.room_would.specs.declared.fault.WouldFault.{WouldFault}
use Rattle.cli_would.specs.Answering.{IsReply, IsReplyFor}

-- What is said of bytes, where one more than `most` tells that they are too many.
by_front : {A : Type 0} (most : ℕ) (bytes : List ℕ) (many few : List ℕ → A)
    → cond (nat_lt most (length (take (most + 1) bytes)))
    (many (take (most + 1) (take (most + 1) bytes))) (few (take (most + 1) bytes))
    ≡ cond (nat_lt most (length bytes)) (many (take (most + 1) bytes)) (few bytes)
by_front most bytes many few =
    elim (cases_Bool (nat_lt most (length bytes))) [
      | inl long ↦ (
          let more = ltb-true most (length bytes) long in
          let least : most + 1 ≤ length bytes = omega arith in
          let cut = length-take-le (most + 1) bytes least in
          let all : length (take (most + 1) bytes) ≤ most + 1 = omega (arith, cut) in
          grind (arith, take_all (most + 1) (take (most + 1) bytes) all, cut, long))
      | inr short ↦ (
          let below = ltb-false most (length bytes) short in
          let all : length bytes ≤ most + 1 = omega arith in
          rw (take_all (most + 1) bytes all, short) refl)
    ]

question-take : (bytes : List ℕ) → question_of (take 4194305 bytes) ≡ question_of bytes
question-take bytes =
    by_front 4194304 bytes (λ front. fault_at (length (lines_of front)) TooMuch)
    (λ all. and_then (question_from nothing_said (items_from 1 (lines_of all)))
    (with_objects (length (lines_of all))))

abbrev is_ok : {A F : Type 0} → Result A F → Bool
is_ok (Ok value) = true
is_ok (Err fault) = false

-- bytes that are too many don't say anything
many_say : {A F : Type 0} (is : Bool) (fault : F) (few : Result A F) (value : A)
    → cond is (Err fault) few ≡ Ok value → is ≡ false
many_say true fault few value says = absurd (false≢true (ap is_ok says))
many_say false fault few value says = refl

-- what says something is its own front
own-front : (bytes : List ℕ) (question : Question)
    → question_of bytes ≡ Ok question → take 4194305 bytes ≡ bytes
own-front bytes question says =
    let short = many_say (nat_lt 4194304 (length bytes)) _ _ question says in
    let below = ltb-false 4194304 (length bytes) short in
    take_all 4194305 bytes (omega arith)

refused : (bytes : List ℕ) (fault : WouldFault) → IsRefused (take 4194305 bytes) fault
    → IsRefused bytes fault
refused bytes fault (Unread first read is) = Unread first (sym (question-take bytes) ∙ read) is
refused bytes fault (Stopped question read stopped) =
    let says = sym (question-take bytes) ∙ read in
    subst (λ all. IsRefused all fault) (own-front bytes question says)
    (Stopped question read stopped)

reply-take : (bytes text : List ℕ) (how : Status) → IsReply (take 4194305 bytes) text how
    → IsReply bytes text how
reply-take bytes text how (inl (ends, (question, read, told))) =
    inl (ends, (question, sym (question-take bytes) ∙ read, told))
reply-take bytes text how (inr (ends, (fault, why, line))) =
    inr (ends, (fault, refused bytes fault why, line))

-- the reply to the front is that to all
reply_to-front : (known : Option (List ℕ)) (front text : List ℕ) (how : Status)
    → IfSome known (λ bytes. front ≡ take 4194305 bytes) → IsReply front text how
    → IsReplyFor known text how
reply_to-front None front text how is reply = (front, tt, reply)
reply_to-front (Some bytes) front text how is reply =
    (bytes, refl, reply-take bytes text how (subst (λ all. IsReply all text how) is reply))

-- the same of what was passed on
pub reply_of : (known : Option (List ℕ)) (front passed text : List ℕ) (how : Status)
    → IfSome known (λ bytes. front ≡ take 4194305 bytes) → passed ≡ front
    → IsReply passed text how → IsReplyFor known text how
reply_of known front passed text how is same reply =
    reply_to-front known front text how is (subst (λ all. IsReply all text how) same reply)

-- the fault of a question that isn't answered
pub refused_for : (bytes : List ℕ) (failure : Failure WouldFault) (fault : WouldFault)
    → failure ≡ Fault fault → IsWould bytes (Err failure) → IsRefused bytes fault
refused_for bytes failure fault is would = subst (λ why. IsWould bytes (Err why)) is would
