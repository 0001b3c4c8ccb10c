-- Known bytes that are written one text after another.
use Rattle.std.proofs.Common.{ℕ, List, [], take, drop, Option, Result, Ok, Err, refl, sym}
use Rattle.std.proofs.lemmas.List.{append-nil, take-append-drop}
use Rattle.std.specs.{Io.KnownBytes.{Appends, Keeps}, Prelude.{OnErr, OnOk}}
use Rattle.cli_outcome.specs.{Written.WritesSome, declared.fault.Fault.Fault}
use Rattle.room_entry.proofs.Facts.KnownBytes.{Appends-kept, Appends-none}

-- a front was written, and nothing more
pub WritesSome-at : (u v w : Option (List ℕ)) (text : List ℕ) (n : ℕ)
    → Appends u v (take n text) → Keeps v w → WritesSome u w text
WritesSome-at u v w text n x y =
    (take n text, drop n text, sym (take-append-drop n text), Appends-kept u v w (take n text) x y)

-- nothing of it was written
pub writes_none : (u : Option (List ℕ)) (text : List ℕ) → WritesSome u u text
writes_none u text = ([], text, refl, Appends-none u)

-- a text was sent, or a front of it
pub sent_some : (u v : Option (List ℕ)) (text : List ℕ) (sent : Result (Unit {0}) Fault)
    → OnOk sent (Appends u v text) → OnErr sent (WritesSome u v text) → WritesSome u v text
sent_some u v text (Ok done) ok err = (text, [], sym (append-nil text), ok)
sent_some u v text (Err why) ok err = err
