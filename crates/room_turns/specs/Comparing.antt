-- What a call promises that reads two keepers.
use Rattle.std.specs.Prelude.{◌≡◌, ◌⊎◌, Result, IfErr, IfOk}
use Rattle.room_rows.specs.declared.keep.Keep.{Ghosts}
use Rattle.room_rows.specs.declared.keep.KeepFault.{KeepFault}
use Rattle.room_rows.specs.Keep.{HasCause, HasNoRoot}
use Rattle.room_rows.specs.Rows.{Rows}

module _ {S : Type 0} (k : Ghosts S) where
  -- a keeper after calls that read
  pub record IsUnwritten (old new : S) : Type 0 where
    pub follows : k.Follows old new
    pub unwritten : k.writes new ≡ k.writes old

  -- a fault of calls that read
  abbrev pub BlamesOne : S → S → KeepFault → Type 0
  BlamesOne old new fault =
      HasCause (k.failures old) (k.failures new)
      (λ row. k.IsTrusted old new → HasNoRoot (k.rows old) row) fault

  -- The call reads both, and its answer is what the rows of both say. A fault is one's.
  pub record ReadsBoth {X : Type 0} (old new old' new' : S) (result : Result X KeepFault)
      (Answers : Rows → Rows → X → Type 0) : Type 0 where
    pub first : IsUnwritten old new
    pub second : IsUnwritten old' new'
    pub same_first : k.IsTrusted old new → IfOk result (λ x. k.rows new ≡ k.rows old)
    pub same_second : k.IsTrusted old' new' → IfOk result (λ x. k.rows new' ≡ k.rows old')
    pub answers : k.IsTrusted old new → k.IsTrusted old' new'
        → IfOk result (Answers (k.rows old) (k.rows old'))
    pub unfailed : IfOk result (λ x. (k.failures new ≡ k.failures old)
        × (k.failures new' ≡ k.failures old'))
    pub fault : IfErr result (λ fault. BlamesOne old new fault ⊎ BlamesOne old' new' fault)
