-- The bytes of a reader, where they are known.
use Rattle.std.specs.Io.KnownBytes.{Consumes}
use Rattle.std.specs.Prelude.{◌≡◌, ◌≤◌, ◌++◌, List, ℕ, Option, Some, None, length}

-- The reader has this input. Where the bytes of a reader aren't known, it may be any input.
abbrev pub IsInput : Option (List ℕ) → List ℕ → Type 0
IsInput None input = Unit {0}
IsInput (Some bytes) input = input ≡ bytes

-- At most this many bytes came from the reader.
abbrev pub TakesAtMost : ℕ → Option (List ℕ) → Option (List ℕ) → Type 0
TakesAtMost most old new = (read : List ℕ) × Consumes old new read × (length read ≤ most)

-- They stand behind those that were there.
abbrev pub Brings : ℕ → Option (List ℕ) → Option (List ℕ) → List ℕ → List ℕ → Type 0
Brings most old new before after =
    (read : List ℕ) × Consumes old new read × (length read ≤ most) × (after ≡ before ++ read)
