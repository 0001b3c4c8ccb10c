-- The objects of a question stand, each behind those before it.
use Rattle.std.proofs.Common.{ℕ, ◌≡◌, ◌+◌, true, List, [], ◌∷◌, ◌++◌, Option, Some}
use Rattle.std.proofs.Common.{None, length, refl, ap, sym, ◌∙◌, inl, inr}
use Rattle.std.proofs.lemmas.Bool.{cases_Bool, and_parts, and_from}
use Rattle.std.proofs.lemmas.List.{append_assoc, append-nil}
use Rattle.std.specs.Prelude.{Result, Ok, Err, is_none, nat_lt}
use Rattle.room_ace.specs.Lists.{lines_of}
use Rattle.room_question.specs.Items.{Item, items_from}
use Rattle.room_question.specs.{Laws.{ObjectsStand, are_standing}, Saying.said_of}
use Rattle.room_question.specs.Reading.{added, may_follow, none, nothing_said, of_objects}
use Rattle.room_question.specs.Reading.{place_fault, question_from, unless, with_objects}
use Rattle.room_question.specs.Reading.{with_said, within}
use Rattle.room_question.specs.Words.{and_then}
use Rattle.room_question.specs.declared.fault.QuestionFault.{QuestionFault}
use Rattle.room_question.specs.declared.fault.QuestionWhy.{QuestionWhy}
use Rattle.room_question.specs.declared.question.Object.{Object}
use Rattle.room_question.specs.declared.question.Question.{Question}
use Rattle.room_question.specs.declared.saying.Said.{Said}
use Rattle.room_question.specs.declared.saying.Said.TheVariants.{Pair, Caller, Stands, Changes}
use Rattle.room_question.specs.declared.saying.Said.TheVariants.{Looks, Lists}

standing-more : (before objects : List Object) (object : Object)
    → are_standing before objects ≡ true → is_none (place_fault (before ++ objects) object) ≡ true
    → are_standing before (objects ++ object ∷ []) ≡ true
standing-more before [] object all free =
    and_from (is_none (place_fault before object)) true
    (ap (λ (os : List Object). is_none (place_fault os object)) (sym (append-nil before)) ∙ free)
    refl
standing-more before (first ∷ objects) object all free =
    let both = and_parts (is_none (place_fault before first))
    (are_standing (before ++ first ∷ []) objects) all in
    and_from (is_none (place_fault before first))
    (are_standing (before ++ first ∷ []) (objects ++ object ∷ [])) both.0
    (standing-more (before ++ first ∷ []) objects object both.1
    (ap (λ (os : List Object). is_none (place_fault os object))
    (append_assoc before (first ∷ []) objects) ∙ free))

-- ---- what was added

no_fault : {A : Type 0} (fault : QuestionFault) (value : A)
    → ◌≡◌ {A = Result A QuestionFault} (Err fault) (Ok value) → ⊥
no_fault fault value e = cc

same_value : {A : Type 0} (one other : A)
    → ◌≡◌ {A = Result A QuestionFault} (Ok one) (Ok other) → one ≡ other
same_value one other e = cc

within-ok : (line most count : ℕ) (more question : Question)
    → within line most count more ≡ Ok question → more ≡ question
within-ok line most count more question e =
    elim (cases_Bool (nat_lt count most)) [
      | inl is ↦ same_value more question (rw is at e)
      | inr isnt ↦ absurd (no_fault _ question (rw isnt at e))
    ]

of_objects-ok : (line : ℕ) (said : Question) (more : Result Question QuestionFault)
    (question : Question) → of_objects line said more ≡ Ok question → more ≡ Ok question
of_objects-ok line said more question e =
    elim (cases_Bool (none said.objects)) [
      | inl is ↦ absurd (no_fault _ question (rw is at e))
      | inr isnt ↦ rw isnt at e
    ]

unless-ok : (line : ℕ) (why : Option QuestionWhy) (more : Result Question QuestionFault)
    (question : Question) → unless line why more ≡ Ok question
    → (is_none why ≡ true) × (more ≡ Ok question)
unless-ok line None more question e = (refl, e)
unless-ok line (Some why) more question e = absurd (no_fault _ question e)

kept : (said question : Question) (objects : List Object) → said ≡ question
    → said.objects ≡ objects → are_standing [] objects ≡ true
    → are_standing [] question.objects ≡ true
kept said question objects same are all =
    ap (λ (q : Question). are_standing [] q.objects) (sym same)
    ∙ ap (are_standing []) are ∙ all

added-stands : (line : ℕ) (said : Question) (more : Said) (question : Question)
    → are_standing [] said.objects ≡ true → added line said more ≡ Ok question
    → are_standing [] question.objects ≡ true
added-stands line said (Pair group user) question all e =
    kept _ question said.objects (within-ok _ _ _ _ question e) refl all
added-stands line said (Caller supposed) question all e =
    kept _ question said.objects (within-ok _ _ _ _ question e) refl all
added-stands line said (Stands object) question all e =
    let free = unless-ok line (place_fault said.objects object) _ question e in
    kept _ question (said.objects ++ object ∷ []) (within-ok _ _ _ _ question free.1) refl
    (standing-more [] said.objects object all free.0)
added-stands line said (Changes change) question all e =
    kept _ question said.objects
    (within-ok _ _ _ _ question (of_objects-ok line said _ question e)) refl all
added-stands line said (Looks look) question all e =
    kept _ question said.objects
    (within-ok _ _ _ _ question (of_objects-ok line said _ question e)) refl all
added-stands line said Lists question all e =
    kept _ question said.objects
    (same_value _ question (of_objects-ok line said _ question e)) refl all

with_said-stands : (line : ℕ) (said : Question) (more : Said) (question : Question)
    → are_standing [] said.objects ≡ true → with_said line said more ≡ Ok question
    → are_standing [] question.objects ≡ true
with_said-stands line said more question all e =
    elim (cases_Bool (may_follow said more)) [
      | inl is ↦ added-stands line said more question all (rw is at e)
      | inr isnt ↦ absurd (no_fault _ question (rw isnt at e))
    ]

-- ---- all lines

-- where the whole is good, the first part is, and what follows it
both_good : {A B : Type 0} (read : Result A QuestionFault) (rest : A → Result B QuestionFault)
    (value : B) → and_then read rest ≡ Ok value
    → (first : A) × ((read ≡ Ok first) × (rest first ≡ Ok value))
both_good (Ok first) rest value e = (first, (refl, e))
both_good (Err fault) rest value e = absurd (no_fault fault value e)

from-stands : (said : Question) (items : List Item) (question : Question)
    → are_standing [] said.objects ≡ true → question_from said items ≡ Ok question
    → are_standing [] question.objects ≡ true
from-stands said [] question all e =
    kept said question said.objects (same_value said question e) refl all
from-stands said (item ∷ items) question all e =
    let line = both_good (said_of item.number item.line item.below)
    (λ more. and_then (with_said item.number said more) (λ all. question_from all items))
    question e in
    let step = both_good (with_said item.number said line.0) (λ all. question_from all items)
    question line.1.1 in
    from-stands step.0 items question
    (with_said-stands item.number said line.0 step.0 all step.1.0) step.1.1

pub objects_stand_is : ObjectsStand
objects_stand_is bytes question e =
    elim (cases_Bool (nat_lt 4194304 (length bytes))) [
      | inl is ↦ absurd (no_fault _ question (rw is at e))
      | inr isnt ↦
          (let whole = both_good (question_from nothing_said (items_from 1 (lines_of bytes)))
          (with_objects (length (lines_of bytes))) question (rw isnt at e) in
          let same = same_value whole.0 question
          (of_objects-ok (length (lines_of bytes) + 1) whole.0 (Ok whole.0) question whole.1.1) in
          kept whole.0 question whole.0.objects same refl
          (from-stands nothing_said (items_from 1 (lines_of bytes)) whole.0 refl whole.1.0))
    ]
