use Rattle.std.proofs.Common.{rules}
use Rattle.store_schema.proofs.laws.spread_is_migrated.Goals as goal

pub returns : goal.returns
returns c = λ old new are sound spread.
    let kept = (c.kept_is_no_fault.ensures old).0 sound in
    search (rules, kept, c.migrated_is_sound.ensures, kept.0, c.migrated_means_the_same.ensures)
