use Rattle.cli_check.proofs.Pieces.{owners-three}
use Rattle.cli_check.proofs.headers.owners_in.Goals as goal
use Rattle.std.proofs.Common.{arith}

pub returns-in-Some-cut : goal.returns-in-Some-cut
returns-in-Some-cut c =
    grind (arith, owners-three, c.in-Some.ensures.0, c.in-Some-cut.ensures.0)
