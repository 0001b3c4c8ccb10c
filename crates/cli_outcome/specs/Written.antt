-- What is written to the two writers, where their contents are known.
use Rattle.std.specs.Prelude.{◌≡◌, ◌⊎◌, ℕ, List, [], ◌++◌, Option}
use Rattle.std.specs.Io.KnownBytes.{Appends}
use Rattle.cli_outcome.specs.Ending.{IsOfStream, fault_line, status_code}
use Rattle.cli_outcome.specs.declared.fault.Fault.{Fault}
use Rattle.cli_outcome.specs.declared.status.Status.{Status}

-- a front of the text was written
abbrev pub WritesSome : Option (List ℕ) → Option (List ℕ) → List ℕ → Type 0
WritesSome old new text =
    (front : List ℕ) × (back : List ℕ) × (text ≡ front ++ back) × Appends old new front

-- All of a text was written to standard output, and to standard error this line or a front of it.
pub record IsPrinted (text due : List ℕ) (code : ℕ) (out out' err err' : Option (List ℕ))
    (status : ℕ) : Type 0 where
  pub said : Appends out out' text
  pub told : WritesSome err err' due
  pub ends : status ≡ code

-- A text was due on standard output, and writing it failed. That is printed on standard error, in
-- full or in part.
pub record IsCut (text : List ℕ) (out out' err err' : Option (List ℕ))
    (status : ℕ) : Type 0 where
  pub said : WritesSome out out' text
  pub why : Fault
  pub is : IsOfStream why
  pub told : WritesSome err err' (fault_line why)
  pub ends : status ≡ 3

-- The text was written to standard output, and the exit status is that of this ending, or standard
-- output failed.
abbrev pub PrintsText : List ℕ → Status → Option (List ℕ) → Option (List ℕ) → Option (List ℕ)
    → Option (List ℕ) → ℕ → Type 0
PrintsText text how out out' err err' status =
    IsPrinted text [] (status_code how) out out' err err' status
    ⊎ IsCut text out out' err err' status

-- Nothing was written to standard output, and this fault to standard error, in full or in part.
abbrev pub PrintsFault : Fault → Option (List ℕ) → Option (List ℕ) → Option (List ℕ)
    → Option (List ℕ) → ℕ → Type 0
PrintsFault why = IsPrinted [] (fault_line why) 3
