-- What is written of the line that answers an input.
use Rattle.std.proofs.Common.{ℕ, ◌≡◌, List, [], Option, Some, None, Result, Ok, Err, refl, arith}
use Rattle.std.specs.{Io.KnownBytes.Appends, Prelude.{IfOk, OnErr, OnOk}}
use Rattle.cli_outcome.{proofs.KnownBytes.writes_none, specs.{Reading.IsInput, Written.WritesSome}}
use Rattle.cli_outcome.specs.declared.status.Status.{Status}
use Rattle.cli_check.specs.{Answering.{Answers, reply_line}, Check.judged, Reply.reply_status}

-- nothing
pub untold : {E : Type 0} (known old : Option (List ℕ)) (error : E)
    → Answers {E = E} known old old (Err error)
untold None old error = ([], tt, writes_none old _)
untold (Some bytes) old error = (bytes, refl, writes_none old _)

-- all of it, or a beginning
pub told : {E : Type 0} (known old new : Option (List ℕ)) (line : List ℕ) (status : Status)
    (sent : Result Status E)
    → (input : List ℕ) × IsInput known input × (line ≡ reply_line input)
    × (status ≡ reply_status (judged input))
    → OnOk sent (Appends old new line) → IfOk sent (λ how. how ≡ status)
    → OnErr sent (WritesSome old new line)
    → Answers known old new sent
told known old new line status (Ok how) of ok ends err =
    grind (arith, ok, ends)
told known old new line status (Err error) of ok ends err =
    grind (arith, err)
