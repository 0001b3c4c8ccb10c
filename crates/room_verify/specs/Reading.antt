-- What is read of all rows.
use Rattle.std.specs.Prelude.{◌≡◌, ◌⊎◌, ℕ, true, false, List, Option, Some, None, not, Result, IfOk}
use Rattle.std.specs.Prelude.{IfErr}
use Rattle.std.specs.Borrow.{Bor}
use Rattle.std.specs.List.{find}
use Rattle.std.specs.Option.{option_copied}
use Rattle.room_rows.specs.declared.keep.Keep.{Ghosts}
use Rattle.room_rows.specs.declared.keep.KeepFault.{KeepFault}
use Rattle.room_rows.specs.declared.node.Node.{Node}
use Rattle.room_rows.specs.Content.{node_at}
use Rattle.room_rows.specs.Keep.{HasCause, IfSeen}
use Rattle.room_rows.specs.Rows.{Rows, is_unreadable}
use Rattle.room_rows.specs.declared.report.Report.{Report}
use Rattle.room_rows.specs.declared.report.Report.TheVariants.{Sound}
use Rattle.room_rows.specs.Sound.{first_bad_list, has_bad_list, has_sound_body, report_of}

-- the number isn't in use
abbrev pub IsUnused : ℕ → Rows → ℕ → Type 0
IsUnused id rows row = (node_at rows.read id ≡ None) × (is_unreadable rows id ≡ false)

-- the row of the number can't be read, its lists aren't sound, or the number isn't in use
abbrev pub IsBadAt : ℕ → Rows → ℕ → Type 0
IsBadAt id rows row = (row ≡ id) × ((has_bad_list rows id ≡ true) ⊎ IsUnused id rows id)

-- the object of the number, whose lists are sound
abbrev pub IsSoundAt : ℕ → Rows → Node → Type 0
IsSoundAt id rows node = (node_at rows.read id ≡ Some node) × (has_bad_list rows id ≡ false)

-- the first number whose row can't be read or whose lists aren't sound
abbrev pub IsFirstBad : Rows → ℕ → Type 0
IsFirstBad rows row = first_bad_list rows ≡ Some row

-- all objects, where each row can be read and its lists are sound
abbrev pub AreAll : Rows → List Node → Type 0
AreAll rows nodes = (first_bad_list rows ≡ None) × (nodes ≡ rows.read.nodes)

-- the first of these objects whose bytes aren't as its kind asks
abbrev pub IsBadBody : List Node → Rows → Option (Bor Node) → Type 0
IsBadBody nodes rows found =
    option_copied found ≡ find (λ node. not (has_sound_body rows.read node)) nodes

-- the report on the rows
abbrev pub IsReport : Rows → Report → Type 0
IsReport rows report = report ≡ report_of rows

-- All rows are tested. A row that can't be read is reported, and is no error. Where the answer is
-- that the rows are sound, no failure was counted.
pub record Looks {S : Type 0} (k : Ghosts S) (old new : S) (result : Result Report KeepFault)
    (Answers : Rows → Report → Type 0) : Type 0 where
  pub follows : k.Follows old new
  pub unwritten : k.writes new ≡ k.writes old
  pub same : k.IsTrusted old new → IfSeen result (k.rows new ≡ k.rows old)
  pub answers : k.IsTrusted old new → IfOk result (Answers (k.rows old))
  pub unfailed : IfOk result (λ report. report ≡ Sound → k.failures new ≡ k.failures old)
  pub fault : IfErr result (HasCause (k.failures old) (k.failures new)
      (λ row. k.IsTrusted old new → ⊥))
