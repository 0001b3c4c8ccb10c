use Rattle.std.proofs.Common.{refl, ap, ◌∙◌, not}
use Rattle.store_transaction.proofs.transaction.begin.Goals as goal

pub returns-clause-begun : goal.returns-clause-begun
returns-clause-begun g c = rw (c.transaction.ensures.begun, c.set_step_limit.ensures) (record {
  now = refl;
  committed = refl;
  same_open = refl;
  same_clean = refl;
  mode = refl;
  settled =
      c.is_autocommit-settled.ensures.settled
      (c.is_autocommit-settled.ensures.value ∙ ap not c.requires);
  sound = λ open'. (c.schema-schema.ensures.live open').0;
  crash = λ db left. left;
})

pub returns-clause-faults : goal.returns-clause-faults
returns-clause-faults g c = rw (c.transaction.ensures.begun, c.set_step_limit.ensures)

pub returns-clause-limit : goal.returns-clause-limit
returns-clause-limit g c = rw (c.transaction.ensures.begun, c.set_step_limit.ensures)
