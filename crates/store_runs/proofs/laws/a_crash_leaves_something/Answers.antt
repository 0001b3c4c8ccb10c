use Rattle.store_runs.proofs.laws.a_crash_leaves_something.Goals as goal

pub returns : goal.returns
returns g c =
    λ held clean. g.met.S.Store.survives held.store clean
