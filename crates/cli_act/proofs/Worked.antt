-- Worked examples of what tasks promise of their output, and of the tables beside it.
use Rattle.std.proofs.Common.{◌≡◌, ℕ, List, Ok, Option, OnOk, ap, subst, ◌∙◌}
use Rattle.std.specs.{Global.Global, Prelude.{String, Vec, string_bytes}}
use Rattle.sqlite.specs.{Held.Held, State.State}
use Rattle.room_ace.specs.Sent.{Sent}
use Rattle.room_dump.specs.declared.fetching.Fetched.{Fetched}
use Rattle.room_entry.specs.declared.{object.Which.Which, parties.Owners.Owners}
use Rattle.room_import.specs.Exports.{groups_text, records_text}
use Rattle.room_machine.specs.declared.reply.Reply.{TheVariants.Done}
use Rattle.room_review.specs.declared.question.{Reviewed.Reviewed, Scope.Scope}
use Rattle.room_rows.specs.declared.node.AuditRow.{AuditRow}
use Rattle.room_store.specs.Premise.{StorePremise}
use Rattle.store_admin.specs.Operating.{ChangesPairsAlone}
use Rattle.store_transaction.specs.declared.fault.StoreFault.{StoreFault}
use Rattle.cli_outcome.specs.Written.{PrintsText}
use Rattle.cli_outcome.specs.declared.status.Status.TheVariants as status
use Rattle.cli_answer.specs.{After.{after_create, after_fetch, after_migrate, after_review}}
use Rattle.cli_answer.specs.Outcome.{answer_line}
use Rattle.cli_answer.specs.Telling.{PrintsOutcome}
use Rattle.cli_answer.specs.declared.outcome.Outcome.{Outcome, TheVariants.{Answer, Bytes}}
use Rattle.cli_answer.specs.declared.outcome.TaskAnswer.TheVariants as answer
use Rattle.cli_words.specs.declared.judging.Task.{Task}
use Rattle.cli_act.specs.{Acting.Acts, Doing.{GivesDocument, GivesDump, GivesMembers, GivesRecords}}
use Rattle.cli_act.specs.Doing.{GivesReview, IsText, IsTextOf, MakesRoom, MigratesRoom, PutsMembers}
use Rattle.cli_act.specs.Doing.{SetsList, after_dump, after_fetching, after_reset, after_reviewing}

-- the outcome is what is printed
what_is_done_is_told : {S : Type 0} (shown : Held S → State) (work : Task) (old new : Held S)
    (out out' err err' : Option (List ℕ)) (code : ℕ)
    (acts : Acts shown work old new out out' err err' code) → acts.outcome ≡ Answer answer.Made
    → PrintsText (answer_line answer.Made) status.Done out out' err err' code
what_is_done_is_told shown work old new out out' err err' code acts is =
    subst (λ (outcome : Outcome). PrintsOutcome outcome out out' err err' code) is acts.tells

module _ (old new : State) (outcome : Outcome) where
  a_new_room_is_ready : (owners : Owners) (makes : MakesRoom owners old outcome new)
      → makes.result ≡ Ok tt → outcome ≡ Answer answer.Made
  a_new_room_is_ready owners makes is = makes.told ∙ ap after_create is

  an_upgrade_is_told : (migrates : MigratesRoom old outcome new) → migrates.result ≡ Ok tt
      → outcome ≡ Answer answer.Migrated
  an_upgrade_is_told migrates is = migrates.told ∙ ap after_migrate is

  pairs_alone_change : (pairs : List (List ℕ × List ℕ))
      (puts : PutsMembers pairs old outcome new) → puts.result ≡ Ok tt → StorePremise old new
      → ChangesPairsAlone old.now new.now
  pairs_alone_change pairs puts is premise =
      subst (λ r. OnOk r (ChangesPairsAlone old.now new.now)) is (puts.alone premise)

  pairs_are_printed : (gives : GivesMembers old outcome new)
      (pairs : Vec (List ℕ × List ℕ) Global) → gives.result ≡ Ok pairs
      → IsText (groups_text pairs.items) outcome
  pairs_are_printed gives pairs is =
      subst (λ r. IsTextOf (λ (rows : Vec (List ℕ × List ℕ) Global). groups_text rows.items) r
      outcome) is gives.told

  records_are_printed : (gives : GivesRecords old outcome new) (records : Vec AuditRow Global)
      → gives.result ≡ Ok records → IsText (records_text records.items) outcome
  records_are_printed gives records is =
      subst (λ r. IsTextOf (λ (rows : Vec AuditRow Global). records_text rows.items) r outcome) is
      gives.told

  a_dump_is_printed : (gives : GivesDump old outcome new) (text : String Global)
      → gives.result ≡ Ok text → outcome ≡ Bytes (string_bytes text)
  a_dump_is_printed gives text is = gives.told ∙ ap after_dump is

  a_document_is_printed : (path : List (List ℕ)) (gives : GivesDocument path old outcome new)
      (fetched : Fetched) → gives.result ≡ Ok fetched → outcome ≡ after_fetch fetched
  a_document_is_printed path gives fetched is = gives.told ∙ ap after_fetching is

  a_review_is_printed : (question : Scope) (gives : GivesReview question old outcome new)
      (reviewed : Reviewed) → gives.result ≡ Ok reviewed → outcome ≡ after_review reviewed
  a_review_is_printed question gives reviewed is = gives.told ∙ ap after_reviewing is

  a_list_that_is_set_is_told : (path : List (List ℕ)) (which : Which) (sent : Sent)
      (sets : SetsList path which sent old outcome new) → sets.result ≡ Ok Done
      → outcome ≡ Answer answer.ListSet
  a_list_that_is_set_is_told path which sent sets is = sets.told ∙ ap after_reset is
