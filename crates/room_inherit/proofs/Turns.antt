-- Turns of carrying lists down, as calls of a keeper.
use Rattle.std.proofs.Common.{◌≡◌, ℕ, ◌+◌, ◌<◌, ◌≤◌, ◌^◌, List, [], ◌∷◌, ◌++◌, length, Result, Ok}
use Rattle.std.proofs.{Common.{Err, subst, arith}, lemmas.Bool.Decides.nat_tests}
use Rattle.room_rows.specs.{declared.{keep.Keep.Ghosts, node.Node.Node}, Keep.IsUnreadable}
use Rattle.room_rows.specs.{Keep.{capped, KeepLaws}, Rows.{Rows, AreRows, numbers_of}}
use Rattle.room_rows.proofs.Steps.{later_cause}
use Rattle.room_inherit.specs.{Spread.{CarriesIf, HasSpreadCause}, Turn.{IsVisit, MeetsAgain}}
use Rattle.room_inherit.specs.{Turn.Visits, declared.descent.Descent.Descent}
use Rattle.room_inherit.specs.declared.outcome.{Spread.Spread, SpreadFault.SpreadFault}
use Rattle.room_inherit.specs.declared.outcome.SpreadFault.TheVariants.{Keeper, Loop}
use Rattle.room_inherit.proofs.Calls.{capped_add}

-- What is known of the rows after n turns, where these objects wait and this many lists are
-- changed, and what follows from it.
pub record Progress (d : Descent) (start : Node) : Type 1 where
  pub Given : Rows → Type 0
  pub Loops : Rows → Type 0
  pub Done : Rows → Rows → ℕ → Type 0
  pub After : ℕ → List Node → ℕ → Rows → Rows → Type 0
  pub first : (old : Rows) → AreRows old → Given old → After 0 (start ∷ []) 0 old old
  pub on : (turns : ℕ) (rest : List Node) (w : Node) (changed number : ℕ) (next : List Node)
      (old now new : Rows) → AreRows old → After turns (rest ++ w ∷ []) changed old now
      → IsVisit d w rest next now number new → After (turns + 1) next (changed + number) old new
  pub few : (turns : ℕ) (waiting : List Node) (changed : ℕ) (old now : Rows)
      → After turns waiting changed old now → changed ≤ length (numbers_of old)
  pub ends : (turns : ℕ) (waiting : List Node) (changed : ℕ) (old now : Rows)
      → length (numbers_of old) ≤ turns → After turns waiting changed old now → length waiting ≡ 0
  pub numbers : (turns : ℕ) (waiting : List Node) (changed : ℕ) (old now : Rows)
      → After turns waiting changed old now → numbers_of now ≡ numbers_of old
  pub unreadable : (turns : ℕ) (waiting : List Node) (changed row : ℕ) (old now : Rows)
      → After turns waiting changed old now → IsUnreadable now row → IsUnreadable old row
  pub loops : (turns : ℕ) (rest : List Node) (w : Node) (changed : ℕ) (old now : Rows) → AreRows old
      → After turns (rest ++ w ∷ []) changed old now → MeetsAgain d.which d.start w now → Loops old
  pub done : (turns changed : ℕ) (old now : Rows) → AreRows old → changed < 2 ^ 63
      → After turns [] changed old now → Done old now changed

module _ {S : Type 0} (k : Ghosts S)
    (laws : KeepLaws k.rows k.failures k.writes k.Follows k.IsTrusted) (d : Descent) (start : Node)
    (progress : Progress d start) where
  abbrev pub Carried : S → S → Result Spread SpreadFault → Type 0
  Carried a b result =
      CarriesIf k a b progress.Given (λ (spread : Spread). spread.changed) result progress.Loops
      (λ first spread last. progress.Done first last spread.changed)

  -- n turns are done
  pub record Turned (turns : ℕ) (waiting : List Node) (changed : ℕ) (a b : S) : Type 0 where
    pub follows : k.Follows a b
    pub written : k.writes b ≡ capped (k.writes a + changed)
    pub along : k.IsTrusted a b → progress.Given (k.rows a)
        → progress.After turns waiting changed (k.rows a) (k.rows b)

  begins : (a : S) → Turned 0 (start ∷ []) 0 a a
  begins a = grind (arith, nat_tests)

  pub turned_on : (turns : ℕ) (rest : List Node) (w : Node) (changed number : ℕ) (next : List Node)
      (a b c : S) → Turned turns (rest ++ w ∷ []) changed a b
      → Visits k b c d w rest next (Ok number) → Turned (turns + 1) next (changed + number) a c
  turned_on turns rest w changed number next a b c sofar visit =
      grind (arith, nat_tests, capped_add)

  pub first_turn : (number : ℕ) (before next : List Node) (a b : S) → before ≡ []
      → Visits k a b d start before next (Ok number) → Turned 1 next number a b
  first_turn number before next a b none visit =
      subst (λ (n : ℕ). Turned 1 next n a b) (omega arith)
      (turned_on 0 [] start 0 number next a a b (begins a)
      (subst (λ (l : List Node). Visits k a b d start l next (Ok number)) none visit))

  pub turn_fails : (turns : ℕ) (rest : List Node) (w : Node) (changed : ℕ) (next : List Node)
      (e : SpreadFault) (a b c : S) → Turned turns (rest ++ w ∷ []) changed a b
      → Visits k b c d w rest next (Err e) → Carried a c (Err e)
  turn_fails turns rest w changed next e a b c sofar visit = record {
    follows = laws.on a b c sofar.follows visit.follows;
    written = tt;
    becomes = λ t. tt;
    fault = cause e visit.fault;
  }
    where
      cause : (e : SpreadFault)
          → HasSpreadCause (k.failures b) (k.failures c)
          (λ at. k.IsTrusted b c → IsUnreadable (k.rows b) at)
          (k.IsTrusted b c → MeetsAgain d.which d.start w (k.rows b)) e
          → HasSpreadCause (k.failures a) (k.failures c)
          (λ at. k.IsTrusted a c × progress.Given (k.rows a) → IsUnreadable (k.rows a) at)
          (k.IsTrusted a c × progress.Given (k.rows a) → progress.Loops (k.rows a)) e
      cause (Keeper f) h =
          later_cause (k.failures a) (k.failures b) (k.failures c) f
          (λ at. k.IsTrusted b c → IsUnreadable (k.rows b) at)
          (λ at. k.IsTrusted a c × progress.Given (k.rows a) → IsUnreadable (k.rows a) at)
          (laws.rise a b sofar.follows) (laws.rise b c visit.follows)
          (λ at damaged t.
          progress.unreadable turns (rest ++ w ∷ []) changed at (k.rows a) (k.rows b)
          (sofar.along (laws.first a b c sofar.follows visit.follows t.0) t.1)
          (damaged (laws.last a b c sofar.follows visit.follows t.0)))
          h
      cause Loop h = grind (arith, nat_tests)

  pub first_turn_fails : (before next : List Node) (e : SpreadFault) (a b : S) → before ≡ []
      → Visits k a b d start before next (Err e) → Carried a b (Err e)
  first_turn_fails before next e a b none visit =
      turn_fails 0 [] start 0 next e a a b (begins a)
      (subst (λ (l : List Node). Visits k a b d start l next (Err e)) none visit)
