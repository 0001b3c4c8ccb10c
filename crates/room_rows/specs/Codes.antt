-- The codes of what is wrong with rows (own).
use Rattle.std.specs.Prelude.{ℕ, List, codes}
use Rattle.room_rows.specs.declared.report.Unsound.{Unsound}
use Rattle.room_rows.specs.declared.report.Unsound.TheVariants.{Loop, BadList, BrokenLaw}
use Rattle.room_rows.specs.declared.report.Unsound.TheVariants.{BadRoot, BadParent, BadName}
use Rattle.room_rows.specs.declared.report.Unsound.TheVariants.{BadBody}

abbrev pub unsound_text : Unsound → List ℕ
unsound_text Loop = codes "V1 loop"
unsound_text BadList = codes "V2 bad-list"
unsound_text BrokenLaw = codes "V3 broken-law"
unsound_text BadRoot = codes "V4 bad-root"
unsound_text BadParent = codes "V5 bad-parent"
unsound_text BadName = codes "V6 bad-name"
unsound_text BadBody = codes "V7 bad-body"
