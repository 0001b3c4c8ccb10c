-- Items that are judged as they come, one after the other.
use Rattle.std.proofs.Common.{◌≡◌, ℕ, ℤ, Bool, true, false, cond, List, [], ◌∷◌, ◌++◌}
use Rattle.std.proofs.Common.{Option, Some, None, refl, sym, ap, subst, ◌∙◌, append_assoc, arith}
use Rattle.std.{proofs.lemmas.{List.append-nil, Bool.Decides.nat_tests}, specs.Prelude.is_none}
use Rattle.room_entry.specs.declared.parties.Caller.{Caller}
use Rattle.room_rows.specs.{declared.node.AuditRow.AuditRow, Keep.{IsUnreadable, with_content}}
use Rattle.room_rows.specs.Rows.{Rows}
use Rattle.room_judge.specs.{declared.asker.Asker.Asker, Judged.{IsJudged, with_notes}}
use Rattle.room_machine.specs.declared.reply.{Reply.{Reply, TheVariants.Refused}, Reason.Reason}
use Rattle.room_machine.specs.{Plan.{Item, Refusal}, Judge.{passes, or_else, first_failure}}
use Rattle.room_machine.specs.Judge.{records_of_checks, checks_of, records_of_plan}

-- ---- records after records

abbrev with_audits : Rows → List AuditRow → Rows
with_audits old audits = with_content old (record old.read { audits = audits })

-- rows with no records added are as they were
pub noted_none : (old : Rows) → with_notes old [] ≡ old
noted_none old = ap (with_audits old) (append-nil old.read.audits)

-- records added after others are added as one list, the earlier ones first
pub noted_more : (old : Rows) (first second : List AuditRow)
    → with_notes (with_notes old first) second ≡ with_notes old (first ++ second)
noted_more old first second = ap (with_audits old) (append_assoc old.read.audits first second)

-- ---- lists of items in parts

or_else_group : (a b c : Option Reply) → or_else a (or_else b c) ≡ or_else (or_else a b) c
or_else_group None b c = refl
or_else_group (Some reply) b c = refl

module _ (caller : Caller) (moment : ℤ) where
  -- the first failure of two lists in a row is that of the first, or else that of the second
  pub failure_of_parts : (items others : List Item)
      → first_failure caller (items ++ others)
      ≡ or_else (first_failure caller items) (first_failure caller others)
  failure_of_parts [] others = refl
  failure_of_parts (item ∷ items) others = search (or_else_group, failure_of_parts items others)

  -- the records of a second part are added where the first passes
  pub records_of_parts : (items others : List Item)
      → records_of_plan caller moment (items ++ others) ≡ records_of_plan caller moment items
      ++ cond (is_none (first_failure caller items)) (records_of_plan caller moment others) []
  records_of_parts [] others = refl
  records_of_parts (item ∷ items) others = search (here, on, records_of_parts items others)
    where
      here : List AuditRow
      here = records_of_checks caller moment (passes caller item) (checks_of caller item)

      on : (o : Option Reply) (first : List AuditRow)
          → first ++ cond (is_none o) (records_of_plan caller moment items
          ++ cond (is_none (first_failure caller items)) (records_of_plan caller moment others) [])
          []
          ≡ (first ++ cond (is_none o) (records_of_plan caller moment items) [])
          ++ cond (is_none (or_else o (first_failure caller items)))
          (records_of_plan caller moment others) []
      on None first = sym (append_assoc first (records_of_plan caller moment items) _)
      on (Some reply) first = sym (append-nil (first ++ []))

-- ---- judging in parts

module _ (asker : Asker) where
  -- where there is nothing to judge, nothing is refused, and no records are added
  pub judged_none : (old new : Rows) → new ≡ old → IsJudged asker [] old None new
  judged_none old new same = record { answers = refl; notes = same ∙ sym (noted_none old) }

  -- what can't be read afterwards couldn't be read before
  pub blames_first : (items : List Item) (answer : Option Reply) (old new : Rows) (row : ℕ)
      → IsJudged asker items old answer new → IsUnreadable new row → IsUnreadable old row
  blames_first items answer old new row judged h = grind (arith, nat_tests)

  -- a refusal that comes first
  pub refuses : (path : List (List ℕ)) (why : Reason) (holds : Bool) (items : List Item)
      (old new : Rows) (reply : Reply) → reply ≡ Refused path why → holds ≡ true → new ≡ old
      → IsJudged asker (Refusal path why holds ∷ items) old (Some reply) new
  refuses path why holds items old new reply replies is same = grind (arith, nat_tests, noted_none)

  -- a refusal that does not hold leaves the answer and the records of the items after it
  pub passes_on : (path : List (List ℕ)) (why : Reason) (holds : Bool) (items : List Item)
      (old new : Rows) (answer : Option Reply) → holds ≡ false → IsJudged asker items old answer new
      → IsJudged asker (Refusal path why holds ∷ items) old answer new
  passes_on path why holds items old new answer isnt judged = grind (arith, nat_tests)

  -- what fails in a first part is the answer
  pub fails_first : (items others : List Item) (old new : Rows) (reply : Reply)
      → IsJudged asker items old (Some reply) new
      → IsJudged asker (items ++ others) old (Some reply) new
  fails_first items others old new reply judged = record {
    answers = cc (judged.answers, failure_of_parts asker.caller asker.moment items others);
    notes = grind (arith, nat_tests, append-nil, records_of_parts);
  }

  -- where a first part passes, the second, judged from the rows it left, gives the answer to both
  pub passes_first : (items others : List Item) (old mid new : Rows) (answer : Option Reply)
      → IsJudged asker items old None mid → IsJudged asker others mid answer new
      → IsJudged asker (items ++ others) old answer new
  passes_first items others old mid new answer first second = record {
    answers =
        second.answers ∙ sym (
        cc (failure_of_parts asker.caller asker.moment items others, first.answers));
    notes = grind (arith, nat_tests, noted_more, records_of_parts);
  }

-- ---- a part of a list is judged, and passes

-- These items are left of all.
pub record SoFar (asker : Asker) (all rest : List Item) (old mid : Rows) : Type 0 where
  pub front : List Item
  pub parts : all ≡ front ++ rest
  pub judged : IsJudged asker front old None mid

module _ (asker : Asker) where
  -- at the beginning all items are left
  pub so_far_none : (all : List Item) (old new : Rows) → new ≡ old → SoFar asker all all old new
  so_far_none all old new same =
      record { front = []; parts = refl; judged = judged_none asker old new same }

  -- the items that are left may be written as another list that is equal
  pub so_far_as : (all rest others : List Item) (old mid : Rows) → rest ≡ others
      → SoFar asker all rest old mid → SoFar asker all others old mid
  so_far_as all rest others old mid same sofar = grind (arith, nat_tests)

  -- where the next of the items that are left pass, only those after them are left
  pub so_far_on : (all items rest : List Item) (old mid new : Rows)
      → SoFar asker all (items ++ rest) old mid → IsJudged asker items mid None new
      → SoFar asker all rest old new
  so_far_on all items rest old mid new sofar judged = record {
    front = sofar.front ++ items;
    parts = sofar.parts ∙ sym (append_assoc sofar.front items rest);
    judged = passes_first asker sofar.front items old mid new None sofar.judged judged;
  }

  -- where one of the next items fails, its reply is the answer to the whole list
  pub so_far_fails : (all items rest : List Item) (old mid new : Rows) (reply : Reply)
      → SoFar asker all (items ++ rest) old mid → IsJudged asker items mid (Some reply) new
      → IsJudged asker all old (Some reply) new
  so_far_fails all items rest old mid new reply sofar judged =
      subst (λ list. IsJudged asker list old (Some reply) new) (sym sofar.parts)
      (passes_first asker sofar.front (items ++ rest) old mid new (Some reply) sofar.judged
      (fails_first asker items rest mid new reply judged))
