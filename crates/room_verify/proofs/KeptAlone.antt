-- Rows that hold the kept entries alone.
use Rattle.std.proofs.{Common.arith, lemmas.Bool.Decides.nat_tests}
use Rattle.room_inherit.proofs.NoFault.{all_pass, last_passes, nothing_found, sound, unfaulted}
use Rattle.room_verify.specs.Laws.{KeptIsNoFault}

-- of rows with the kept entries alone, the report is `Sound` exactly if no test finds a fault
pub kept_is_no_fault : KeptIsNoFault
kept_is_no_fault rows =
    grind (arith, nat_tests, all_pass, last_passes, nothing_found, sound, unfaulted)
