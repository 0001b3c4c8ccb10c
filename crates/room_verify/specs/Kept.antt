-- Rows that are to hold the kept entries alone.
use Rattle.std.specs.Prelude.{◌≡◌, ◌&&◌, Bool, List, None}
use Rattle.room_entry.specs.declared.object.Which.TheVariants.{Dacl, Sacl}
use Rattle.room_rows.specs.Content.{Content, keeps_none_linked}
use Rattle.room_rows.specs.Rows.{Rows}
use Rattle.room_rows.specs.declared.node.Node.{Node}
use Rattle.room_rows.specs.Sound.{fault_of, first_bad_list, first_failing, first_fault}
use Rattle.room_rows.specs.Sound.{keeps_law, or_else, or_sound, true_path}
use Rattle.room_rows.specs.declared.report.Report.{Report}
use Rattle.room_rows.specs.declared.report.Unsound.TheVariants.{BrokenLaw}
use Rattle.room_verify.specs.declared.verifying.Holding.{Holding}
use Rattle.room_verify.specs.declared.verifying.Holding.TheVariants.{Finished, Kept}

-- no entries are stored where they come from the parent
abbrev pub stores_kept_alone : Content → Node → Bool
stores_kept_alone rows node = keeps_none_linked rows Dacl node && keeps_none_linked rows Sacl node

-- The report on such rows: the first six tests, and then an object with a linked list that stores
-- inherited entries.
abbrev pub kept_report_of : Rows → Report
kept_report_of rows = or_sound (or_else (first_fault rows) (fault_of (true_path rows.read) BrokenLaw
    (first_failing (stores_kept_alone rows.read) rows.read)))

abbrev pub IsKeptReport : Rows → Report → Type 0
IsKeptReport rows report = report ≡ kept_report_of rows

-- what the last test asks of an object, by what the rows are to hold
abbrev pub is_lawful : Holding → Content → Node → Bool
is_lawful Finished = keeps_law
is_lawful Kept = stores_kept_alone

-- the report on the rows, by what they are to hold
abbrev pub report_by : Holding → Rows → Report
report_by holding rows = or_sound (or_else (first_fault rows) (fault_of (true_path rows.read)
    BrokenLaw (first_failing (is_lawful holding rows.read) rows.read)))

abbrev pub IsReportBy : Holding → Rows → Report → Type 0
IsReportBy holding rows report = report ≡ report_by holding rows

-- the same report, where these are the objects of the rows and no list is bad
abbrev pub IsReportOf : Holding → List Node → Rows → Report → Type 0
IsReportOf holding nodes rows report =
    nodes ≡ rows.read.nodes → first_bad_list rows ≡ None → report ≡ report_by holding rows
