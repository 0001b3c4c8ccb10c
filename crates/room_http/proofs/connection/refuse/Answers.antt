use Rattle.std.proofs.Common.{[], refl, ◌∙◌}
use Rattle.room_http.{specs.Text.refusal_reply, proofs.Telling.within-write}
use Rattle.room_entry.proofs.Facts.KnownBytes.{Appends-none}
use Rattle.room_http.proofs.connection.refuse.Goals as goal

pub returns-in_default-clause-err : goal.returns-in_default-clause-err
returns-in_default-clause-err g c =
    (refl, (([], refusal_reply c.args.refusal, refl, Appends-none _), refl))

pub returns-clause-err : goal.returns-clause-err
returns-clause-err g c = (
  refl,
  within-write _ _ _ _ _ (c.as_slice.ensures.value ∙ c.in-Ok.ensures)
      c.in-Err.ensures.cause c.in-Err.ensures.err,
)
