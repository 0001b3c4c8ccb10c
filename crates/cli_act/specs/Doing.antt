-- What a task does to a database, and what comes of it.
use Rattle.std.specs.Prelude.{◌≡◌, ◌⊎◌, ℕ, Bool, List, [], Option, String, length, string_bytes}
use Rattle.std.specs.Prelude.{Result, Ok, Err, OnOk}
use Rattle.std.specs.Global.{Global}
use Rattle.std.specs.Prelude.{Vec}
use Rattle.sqlite.specs.Held.{Held}
use Rattle.sqlite.specs.State.{State}
use Rattle.room_ace.specs.Sent.{Sent}
use Rattle.room_entry.specs.declared.object.Which.{Which}
use Rattle.room_entry.specs.declared.parties.Owners.{Owners}
use Rattle.room_import.specs.Exports.{groups_text, records_text}
use Rattle.room_dump.specs.Fetching.{IsFetched}
use Rattle.room_dump.specs.declared.fetching.Fetched.{Fetched}
use Rattle.room_judge.specs.Judged.{Resets}
use Rattle.room_machine.specs.Run.{Replaced, WasReset, event_of}
use Rattle.room_machine.specs.declared.reply.Reply.{Reply}
use Rattle.room_review.specs.declared.question.Scope.{Scope}
use Rattle.room_review.specs.declared.question.Reviewed.{Reviewed}
use Rattle.store_tables.specs.Carries.{HasDamagedRow, NoTables}
use Rattle.store_admin.specs.Changing.{ChangesMembers, changed}
use Rattle.store_admin.specs.declared.changing.Changed.{Changed}
use Rattle.store_admin.specs.Dump.{IsDump}
use Rattle.store_admin.specs.Operating.{AreMembers, AreRecords, ChangesPairsAlone}
use Rattle.store_admin.specs.Operating.{HasUnreadRecord, ReplacesMembers}
use Rattle.room_rows.specs.declared.node.AuditRow.{AuditRow}
use Rattle.store_schema.specs.Migrating.{Migrates}
use Rattle.store_schema.specs.declared.fault.CreateFault.{CreateFault}
use Rattle.store_schema.specs.declared.fault.MigrateFault.{MigrateFault}
use Rattle.store_schema.specs.declared.fault.OpenFault.{OpenFault}
use Rattle.room_store.specs.Failing.{FailsByDb}
use Rattle.room_store.specs.Leads.{Leads}
use Rattle.room_store.specs.Opens.{Creates, Opens}
use Rattle.room_store.specs.Premise.{StorePremise}
use Rattle.room_store.specs.Ran.{Looked, Ran}
use Rattle.room_store.specs.Reviews.{IsReviewOf}
use Rattle.room_store.specs.Tests.{IsTested}
use Rattle.room_store.specs.declared.verifying.Tested.{Tested}
use Rattle.store_request.specs.Inside.{HasDamage}
use Rattle.store_transaction.specs.declared.fault.StoreFault.{StoreFault}
use Rattle.store_transaction.specs.declared.fault.StoreFault.TheVariants as store
use Rattle.store_tables.specs.Meaning.{rows_of}
use Rattle.cli_answer.specs.Outcome.{not_opened}
use Rattle.cli_answer.specs.After.{after_create, after_fetch, after_migrate, after_reply}
use Rattle.cli_answer.specs.After.{after_report, after_review}
use Rattle.cli_outcome.specs.declared.fault.Fault.{Fault}
use Rattle.cli_outcome.specs.declared.fault.Fault.TheVariants.{Database, Memory}
use Rattle.cli_answer.specs.declared.outcome.TaskAnswer.TheVariants as answer
use Rattle.cli_answer.specs.declared.outcome.Outcome.{Outcome}
use Rattle.cli_answer.specs.declared.outcome.Outcome.TheVariants.{Answer, Bytes, Failed}
use Rattle.cli_words.specs.declared.judging.Task.{Task}
use Rattle.cli_words.specs.declared.judging.Task.TheVariants as task
use Rattle.cli_words.specs.declared.judging.RoomTask.{RoomTask}
use Rattle.cli_words.specs.declared.judging.RoomTask.TheVariants as room
use Rattle.cli_answer.specs.Counting.{distinct_groups}

-- ---- what comes of an answer

abbrev pub fault_of : StoreFault → Fault
fault_of store.Memory = Memory
fault_of store.Db = Database
fault_of store.Damaged = Database

abbrev pub after_fault : StoreFault → Outcome
after_fault fault = Failed (fault_of fault)

-- the outcome, or that of the fault
abbrev pub or_failed : Result Outcome Fault → Outcome
or_failed (Ok outcome) = outcome
or_failed (Err fault) = Failed fault

abbrev pub after_replacing : List (List ℕ × List ℕ) → Result (Unit {0}) StoreFault → Outcome
after_replacing pairs (Ok done) =
    Answer (answer.Replaced (length (distinct_groups pairs)) (length pairs))
after_replacing pairs (Err fault) = after_fault fault

abbrev pub after_changing : Result Changed StoreFault → Outcome
after_changing (Ok done) =
    Answer (answer.Changed done.joined done.left (length done.pairs.items))
after_changing (Err fault) = after_fault fault

abbrev pub after_dump : Result (String Global) StoreFault → Outcome
after_dump (Ok text) = Bytes (string_bytes text)
after_dump (Err fault) = after_fault fault

abbrev pub after_fetching : Result Fetched StoreFault → Outcome
after_fetching (Ok fetched) = after_fetch fetched
after_fetching (Err fault) = after_fault fault

abbrev pub after_reviewing : Result Reviewed StoreFault → Outcome
after_reviewing (Ok reviewed) = after_review reviewed
after_reviewing (Err fault) = after_fault fault

abbrev pub after_reset : Result Reply StoreFault → Outcome
after_reset (Ok reply) = after_reply reply
after_reset (Err fault) = after_fault fault

abbrev pub after_test : Tested → Outcome
after_test tested = after_report tested.report tested.has_numbers

abbrev pub after_verify : Result Tested StoreFault → Outcome
after_verify (Ok tested) = after_test tested
after_verify (Err fault) = after_fault fault

-- the text, or out of memory
abbrev pub IsText : List ℕ → Outcome → Type 0
IsText text outcome = (outcome ≡ Bytes text) ⊎ (outcome ≡ Failed Memory)

abbrev pub IsTextOf : {X : Type 0} → (X → List ℕ) → Result X StoreFault → Outcome → Type 0
IsTextOf text (Ok answer) outcome = IsText (text answer) outcome
IsTextOf text (Err fault) outcome = outcome ≡ after_fault fault

-- ---- each by one call of the store

pub record MakesRoom (owners : Owners) (old : State) (outcome : Outcome) (new : State)
    : Type 0 where
  pub result : Result (Unit {0}) CreateFault
  pub creates : Creates owners old new result
  pub told : outcome ≡ after_create result

pub record MigratesRoom (old : State) (outcome : Outcome) (new : State) : Type 0 where
  pub result : Result (Unit {0}) MigrateFault
  pub migrates : Migrates old new result
  pub told : outcome ≡ after_migrate result

pub record PutsMembers (pairs : List (List ℕ × List ℕ)) (old : State) (outcome : Outcome)
    (new : State) : Type 0 where
  pub result : Result (Unit {0}) StoreFault
  pub ran : Ran old new result (λ _. ⊥) (ReplacesMembers pairs)
  pub alone : StorePremise old new → OnOk result (ChangesPairsAlone old.now new.now)
  pub leads : Leads old (event_of result (λ _. Replaced pairs)) new
  pub told : outcome ≡ after_replacing pairs result

pub record ChangesPairs (joins leaves : List (List ℕ × List ℕ)) (old : State) (outcome : Outcome)
    (new : State) : Type 0 where
  pub result : Result Changed StoreFault
  pub ran : Ran old new result (λ _. ⊥) (ChangesMembers joins leaves)
  pub alone : StorePremise old new → OnOk result (ChangesPairsAlone old.now new.now)
  pub leads : Leads old
      (event_of result (λ _. Replaced (changed joins leaves (rows_of old.now).read.members))) new
  pub told : outcome ≡ after_changing result

pub record GivesMembers (old : State) (outcome : Outcome) (new : State) : Type 0 where
  pub result : Result (Vec (List ℕ × List ℕ) Global) StoreFault
  pub looked : Looked old new result NoTables (λ db pairs. AreMembers db pairs.items)
  pub fails : FailsByDb old new result
  pub leads : Leads old [] new
  pub told : IsTextOf (λ pairs. groups_text pairs.items) result outcome

pub record GivesRecords (old : State) (outcome : Outcome) (new : State) : Type 0 where
  pub result : Result (Vec AuditRow Global) StoreFault
  pub looked : Looked old new result HasUnreadRecord (λ db records. AreRecords db records.items)
  pub fails : FailsByDb old new result
  pub leads : Leads old [] new
  pub told : IsTextOf (λ records. records_text records.items) result outcome

pub record GivesDump (old : State) (outcome : Outcome) (new : State) : Type 0 where
  pub result : Result (String Global) StoreFault
  pub looked : Looked old new result HasDamagedRow IsDump
  pub leads : Leads old [] new
  pub told : outcome ≡ after_dump result

pub record GivesDocument (path : List (List ℕ)) (old : State) (outcome : Outcome) (new : State)
    : Type 0 where
  pub result : Result Fetched StoreFault
  pub looked : Looked old new result HasDamagedRow
      (λ db fetched. IsFetched path (rows_of db) fetched)
  pub leads : Leads old [] new
  pub told : outcome ≡ after_fetching result

pub record GivesReview (question : Scope) (old : State) (outcome : Outcome) (new : State)
    : Type 0 where
  pub result : Result Reviewed StoreFault
  pub looked : Looked old new result HasDamagedRow (IsReviewOf question)
  pub leads : Leads old [] new
  pub told : outcome ≡ after_reviewing result

pub record SetsList (path : List (List ℕ)) (which : Which) (sent : Sent) (old : State)
    (outcome : Outcome) (new : State) : Type 0 where
  pub result : Result Reply StoreFault
  pub ran : Ran old new result HasDamage (Resets path which sent)
  pub leads : Leads old (event_of result (WasReset path which sent)) new
  pub told : outcome ≡ after_reset result

pub record TestsRows (old : State) (outcome : Outcome) (new : State) : Type 0 where
  pub result : Result Tested StoreFault
  pub looked : Looked old new result NoTables IsTested
  pub leads : Leads old [] new
  pub told : outcome ≡ after_verify result

-- ---- a task

-- what a store is asked for a review
abbrev pub question_of : List (List ℕ) → Option (List ℕ) → Bool → Scope
question_of path user all = record { path = path; user = user; all = all }

-- What a task does to a room that is open.
abbrev pub Works : RoomTask → State → Outcome → State → Type 0
Works (room.Groups pairs) old outcome new = PutsMembers pairs old outcome new
Works (room.Change joins leaves) old outcome new = ChangesPairs joins leaves old outcome new
Works room.GroupsOut old outcome new = GivesMembers old outcome new
Works room.Audit old outcome new = GivesRecords old outcome new
Works room.Dump old outcome new = GivesDump old outcome new
Works (room.Get path) old outcome new = GivesDocument path old outcome new
Works (room.Review path user all) old outcome new =
    GivesReview (question_of path user all) old outcome new
Works (room.Reset path which sent) old outcome new = SetsList path which sent old outcome new
Works room.Verify old outcome new = TestsRows old outcome new

module _ {S : Type 0} (shown : Held S → State) where
  -- The database is opened as a room, and the task then works on it.
  pub record OpensAndWorks (work : RoomTask) (old : Held S) (outcome : Outcome) (new : Held S)
      : Type 0 where
    pub mid : Held S
    pub opens : Opens (shown old) (shown mid) (Ok tt)
    pub works : Works work (shown mid) outcome (shown new)

  -- The database isn't opened as a room.
  pub record OpensNot (old : Held S) (outcome : Outcome) (new : Held S) : Type 0 where
    pub fault : OpenFault
    pub opens : Opens (shown old) (shown new) (Err fault)
    pub told : outcome ≡ not_opened fault

  abbrev pub WorksOnRoom : RoomTask → Held S → Outcome → Held S → Type 0
  WorksOnRoom work old outcome new =
      OpensAndWorks work old outcome new ⊎ OpensNot old outcome new

  -- What a task does to a database.
  abbrev pub DoesTask : Task → Held S → Outcome → Held S → Type 0
  DoesTask (task.Init owners) old outcome new = MakesRoom owners (shown old) outcome (shown new)
  DoesTask task.Migrate old outcome new = MigratesRoom (shown old) outcome (shown new)
  DoesTask (task.OnRoom work) old outcome new = WorksOnRoom work old outcome new
