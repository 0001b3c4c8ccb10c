use Rattle.store_admin.proofs.Dumped.{told_objects}
use Rattle.store_admin.proofs.telling.objects_by.Goals as goal
use Rattle.std.proofs.Common.{rules}

pub returns-clause-carries : goal.returns-clause-carries
returns-clause-carries g c =
    search (rules, told_objects, c.dump.ensures.read)
