-- The outcome of what a task was answered.
use Rattle.std.specs.Prelude.{ℕ, Bool, true, false, List, Result, Ok, Err}
use Rattle.room_dump.specs.declared.fetching.Fetched.{Fetched}
use Rattle.room_dump.specs.declared.fetching.Fetched.TheVariants as fetched
use Rattle.room_rows.specs.declared.report.Report.{Report}
use Rattle.room_rows.specs.declared.report.Report.TheVariants as report
use Rattle.room_machine.specs.declared.reply.Reason.{Reason}
use Rattle.room_machine.specs.declared.reply.Reason.TheVariants as reason
use Rattle.room_machine.specs.declared.reply.Reply.{Reply}
use Rattle.room_machine.specs.declared.reply.Reply.TheVariants as reply
use Rattle.room_review.specs.declared.question.Reviewed.{Reviewed}
use Rattle.room_review.specs.declared.question.Reviewed.TheVariants as reviewed
use Rattle.store_schema.specs.declared.fault.CreateFault.{CreateFault}
use Rattle.store_schema.specs.declared.fault.CreateFault.TheVariants as creating
use Rattle.store_schema.specs.declared.fault.MigrateFault.{MigrateFault}
use Rattle.store_schema.specs.declared.fault.MigrateFault.TheVariants as migrating
use Rattle.cli_outcome.specs.declared.fault.Fault.TheVariants.{Database, Memory}
use Rattle.cli_answer.specs.Outcome.{not_opened}
use Rattle.cli_answer.specs.declared.outcome.TaskAnswer.TheVariants as answer
use Rattle.cli_answer.specs.declared.outcome.Outcome.{Outcome}
use Rattle.cli_answer.specs.declared.outcome.Outcome.TheVariants.{Answer, Bytes, Failed}

abbrev pub after_create : Result (Unit {0}) CreateFault → Outcome
after_create (Ok done) = Answer answer.Made
after_create (Err creating.Memory) = Failed Memory
after_create (Err creating.Db) = Failed Database

abbrev pub after_migrate : Result (Unit {0}) MigrateFault → Outcome
after_migrate (Ok done) = Answer answer.Migrated
after_migrate (Err (migrating.Opening fault)) = not_opened fault
after_migrate (Err (migrating.Unsound path why)) = Answer (answer.Unsound path why)

abbrev pub refused : List (List ℕ) → Reason → Outcome
refused path why = Answer (answer.Refused path why)

-- a document is printed, and anything else refused
abbrev pub after_fetch : Fetched → Outcome
after_fetch (fetched.Bytes bytes) = Bytes bytes
after_fetch (fetched.NoSuch path) = refused path reason.NoSuch
after_fetch (fetched.NotFolder path) = refused path reason.NotFolder
after_fetch (fetched.WrongKind path) = refused path reason.WrongKind

abbrev pub after_review : Reviewed → Outcome
after_review (reviewed.Table text) = Bytes text
after_review (reviewed.Refused path why) = Answer (answer.Refused path why)

-- A reset is done or refused. It has no other reply.
abbrev pub after_reply : Reply → Outcome
after_reply reply.Done = Answer answer.ListSet
after_reply (reply.Refused path why) = Answer (answer.Refused path why)
after_reply other = Failed Database

-- The first fault of the rows is told; and where there is none, that no record or no object can get
-- a number.
abbrev pub after_report : Report → Bool → Outcome
after_report (report.Fault path why) has_numbers = Answer (answer.Unsound path why)
after_report report.Sound true = Answer answer.Sound
after_report report.Sound false = Answer answer.NoNumbers
