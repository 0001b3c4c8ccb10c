use Rattle.std.proofs.Common.{rules}
use Rattle.room_http.proofs.KnownBytes.{err-anyway, first-part, second-part}
use Rattle.room_http.proofs.write.write_reply.Goals as goal

pub returns-clause-err : goal.returns-clause-err
returns-clause-err g c =
    second-part c.write_text-2.result _ _ _ _ _ _ c.parts.ensures c.in_ok-write_text.ensures.ok
    c.write_text-2.ensures.err

pub returns-in_err-write_text-clause-err : goal.returns-in_err-write_text-clause-err
returns-in_err-write_text-clause-err g c =
    search (rules, err-anyway, first-part, c.parts.ensures, c.in_err-write_text.ensures.err)
