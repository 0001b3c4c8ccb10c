-- In sound rows a table says what the lists grant that are computed from the root.
use Rattle.std.proofs.{Common.arith, lemmas.Bool.Decides.nat_tests}
use Rattle.room_entry.proofs.Facts.Members.{each_weaker}
use Rattle.room_sound.proofs.SoundParts.{sound_parts}
use Rattle.room_review.{specs.Laws.TableSaysRights, proofs.Computed.stored_grants}
use Rattle.room_review.proofs.{Named.all_named, Visited.{each_stands, ends_along}}

pub table_says_rights : TableSaysRights
table_says_rights rows are sound user path target found =
    grind (
      arith,
      nat_tests,
      all_named,
      each_stands,
      each_weaker,
      ends_along,
      sound_parts,
      stored_grants,
    )
