use Rattle.sqlite.specs.Held.{state}
use Rattle.store_runs.proofs.Alike.{answer_alike}
use Rattle.store_runs.proofs.laws.unseen_in_stores.Goals as goal

pub returns : goal.returns
returns g c =
    λ front first second turns lives.
    answer_alike (state g.S.Store) (state g.T.Store) c.content_is_tidy.ensures
    c.sound_is_content.ensures c.unseen.ensures front first second turns lives
