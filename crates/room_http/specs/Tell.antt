-- What is written of one response.
use Rattle.std.specs.Prelude.{◌≡◌, Bool, false, true, List, ℕ, Option, Result, Ok, Err}
use Rattle.std.specs.Io.KnownBytes.{Appends}
use Rattle.room_http.specs.declared.ended.Cause.{Cause}
use Rattle.room_http.specs.declared.connection.ExchangeFault.{ExchangeFault}
use Rattle.room_http.specs.declared.connection.Wrote.{Wrote}
use Rattle.room_http.specs.declared.response.Lost.{Lost}
use Rattle.room_http.specs.declared.response.Response.{Response}
use Rattle.room_http.specs.Text.{store_text}
use Rattle.room_http.specs.Serve.{BlamesText}
use Rattle.room_http.specs.Exchange.{WritesPart, WritesSome}

-- the text was written, which tells this; or the writer failed within it
abbrev pub TellsText : List ℕ → Wrote → Bool → Option (List ℕ) → Option (List ℕ)
    → Result Wrote ExchangeFault → Type 0
TellsText text told acted old new (Ok found) = (found ≡ told) × Appends old new text
TellsText text told acted old new (Err halt) =
    WritesPart old new text × (halt.cause ≡ Cause.Write) × (halt.acted ≡ acted)

-- what was written of a response
abbrev pub Tells : Result Response Lost → Option (List ℕ) → Option (List ℕ)
    → Result Wrote ExchangeFault → Type 0
Tells (Ok (Response.Refused text)) old new result =
    TellsText text.items Wrote.Answered false old new result
Tells (Ok (Response.Replied text)) old new result =
    TellsText text Wrote.Answered true old new result
Tells (Ok Response.Fault) old new result = TellsText store_text Wrote.Failed false old new result
Tells (Err lost) old new (Ok told) = ⊥
Tells (Err lost) old new (Err halt) =
    (new ≡ old) × (halt.cause ≡ Cause.Memory) × (halt.acted ≡ lost.acted)

-- a front of the text was written, and this failed
abbrev pub StopsWithin : Option (List ℕ) → Option (List ℕ) → List ℕ → Cause → Type 0
StopsWithin old new text cause =
    (wrote : WritesSome old new text) × BlamesText cause wrote.0 wrote.1
