-- Lines about connections, one after another.
use Rattle.std.proofs.Common.{◌≡◌, ℕ, ◌+◌, ◌≤◌, Bool, List, [], ◌∷◌, Option, ◌++◌, length, Result}
use Rattle.std.proofs.Common.{Ok, Err, IsTrue, OnOk, sym, ap, ◌∙◌, ◌⊎◌, subst, arith, false}
use Rattle.std.proofs.lemmas.{Fmt.contents_after_writes, List.{append-nil, Folds.list_any-append}}
use Rattle.std.specs.{Fmt.WritesInCalls, Io.KnownBytes.Appends, List.list_any, Option.is_some}
use Rattle.cli_outcome.specs.Written.{WritesSome}
use Rattle.room_http.specs.declared.ended.Cause.{Cause}
use Rattle.cli_listen.specs.{Lines.{TellsEach, TellsOf, Writing, had_fault}, Staying.PassesEach}
use Rattle.cli_listen.specs.Visits.{ReceivesAll, Sources, Visit}
use Rattle.room_machine.specs.declared.desk.Desk.{Ghosts}

-- a text was written piece by piece at the end of another
pub appended : {W E : Type 0} (r : Result (Unit {0}) E) (w v : W) (bs line : List ℕ)
    (contents : W → List ℕ)
    → OnOk r (WritesInCalls (λ (a : W) (b : List ℕ) (c : W). contents c ≡ contents a ++ b) w bs v)
    → bs ≡ line → OnOk r (contents v ≡ contents w ++ line)
appended (Ok done) w v bs line contents wrote is =
    contents_after_writes _ contents (λ a b c e. e) w bs v wrote ∙ ap (λ l. contents w ++ l) is
appended (Err e) w v bs line contents wrote is = tt

-- the line of one connection
told_one : (Tells : Writing) (before number : ℕ) (visit : Visit) (fault : Option Cause)
    (old mid new : Option (List ℕ)) → mid ≡ old → visit.fault ≡ fault → number ≡ before
    → TellsOf Tells (number + 1) fault mid new → TellsEach Tells before (visit ∷ []) old new
told_one Tells before number visit fault old mid new same ended at told =
    grind (arith, same, told, ended, visit.fault)

-- one connection more
pub told_next : (Tells : Writing) (before number : ℕ) (visits next : List Visit) (visit : Visit)
    (fault : Option Cause) (old mid new : Option (List ℕ)) → TellsEach Tells before visits old mid
    → next ≡ visit ∷ [] → visit.fault ≡ fault → number ≡ before + length visits
    → TellsOf Tells (number + 1) fault mid new → TellsEach Tells before (visits ++ next) old new
told_next Tells before number [] next visit fault old mid new told only ended at now =
    grind (arith, only, told_one, visit, told, ended, now)
told_next Tells before number (v ∷ vs) next visit fault old mid new told only ended at now = (
  told.0,
  told.1,
  told_next Tells (before + 1) number vs next visit fault told.0 mid new told.2 only ended
      (omega (arith, at)) now,
)

-- no connection more
pub told_no_more : (Tells : Writing) (visits next : List Visit) (old new : Option (List ℕ))
    → length next ≤ 0 → TellsEach Tells 0 visits old new
    → TellsEach Tells 0 (visits ++ next) old new
told_no_more Tells visits [] old new few told =
    subst (λ (vs : List Visit). TellsEach Tells 0 vs old new) (sym (append-nil visits)) told
told_no_more Tells visits (v ∷ vs) old new few told = absurd (omega (arith, few))

-- a fault among those before, or of the one more
pub fault_among : (visits next : List Visit) (visit : Visit) (fault : Option Cause)
    → next ≡ visit ∷ [] → visit.fault ≡ fault
    → IsTrue (list_any had_fault visits) ⊎ IsTrue (is_some fault)
    → IsTrue (list_any had_fault (visits ++ next))
fault_among visits next visit fault only ended some =
    grind (arith, only, ended, some, list_any-append had_fault visits next)

-- What holds once some connections came: what the desk did, that none left it shut, and what was
-- written of them, in whole where that is known. Where it isn't, one of them had a fault.
pub record IsServing {D : Type 0} (d : Ghosts D) (number : ℕ) (from to : Sources)
    (desk desk' : D) (all_printed : Bool) (err err' : Option (List ℕ)) : Type 0 where
  pub received : ReceivesAll d number from to desk desk'
  pub stays : PassesEach d number desk desk'
  pub whole : IsTrue all_printed → TellsEach Appends 0 received.0.visits err err'
  pub some : TellsEach WritesSome 0 received.0.visits err err'
  pub due : all_printed ≡ false → IsTrue (list_any had_fault received.0.visits)
