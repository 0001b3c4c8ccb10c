-- The law of what is found in rows that hold the kept entries alone.
use Rattle.std.specs.Prelude.{◌≡◌, ◌↔◌}
use Rattle.room_rows.specs.Rows.{Rows}
use Rattle.room_rows.specs.Sound.{AreSoundKept}
use Rattle.room_rows.specs.declared.report.Report.TheVariants.{Sound}
use Rattle.room_verify.specs.Kept.{kept_report_of}

-- Rows that hold the kept entries alone are sound exactly if nothing is found in them.
abbrev pub KeptIsNoFault : Type 0
KeptIsNoFault = (rows : Rows) → (kept_report_of rows ≡ Sound) ↔ AreSoundKept rows
