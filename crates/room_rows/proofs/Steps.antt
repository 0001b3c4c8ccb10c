-- Calls of a keeper one after the other.
use Rattle.std.proofs.Common.{◌≡◌, ℕ, ◌≤◌, Result, Ok, Err, Some, IfErr, ap, subst, arith}
use Rattle.std.{proofs.lemmas.Bool.Decides.nat_tests, specs.Result.IsErrAnd}
use Rattle.room_rows.specs.declared.keep.KeepFault.{KeepFault, TheVariants.{Memory, Store, NoRoot}}
use Rattle.room_rows.specs.{declared.keep.KeepFault.TheVariants.Damaged, Rows.Rows, Keep.HasCause}
use Rattle.room_rows.specs.Keep.{IfSeen, IsRead, KeepLaws, blamed_by}

-- an error that `?` hands on
pub handed_on : {X E : Type 0} (r : Result X E) (e : E)
    → IsErrAnd r (λ x. x ≡ e) → r ≡ Err e
handed_on (Ok x) e h = absurd h
handed_on (Err x) e h = ap Err h

-- a cause of a later call is one of all calls since an earlier state
pub later_cause : (first mid last : ℕ) (e : KeepFault) (D E : ℕ → Type 0) → first ≤ mid → mid ≤ last
    → ((id : ℕ) → D id → E id) → HasCause mid last D e → HasCause first last E e
later_cause first mid last e D E up up' damaged h = grind (arith, nat_tests)

same_some : {a b : ℕ} → Some a ≡ Some b → a ≡ b
same_some e = cc

-- what a fault blames is what its cause allows
pub blames_caused : {X : Type 0} (r : Result X KeepFault) (before after id : ℕ) (D : ℕ → Type 0)
    → IfErr r (HasCause before after D) → IsErrAnd r (λ why. blamed_by why ≡ Some id) → D id
blames_caused (Ok x) before after id D cause is = absurd is
blames_caused (Err Memory) before after id D cause is = absurd (cc)
blames_caused (Err Store) before after id D cause is = absurd (cc)
blames_caused (Err NoRoot) before after id D cause is = subst D (same_some is) cause
blames_caused (Err (Damaged row)) before after id D cause is = subst D (same_some is) cause

module _ {S : Type 0} (rows : S → Rows) (failures writes : S → ℕ)
    (Follows IsTrusted : S → S → Type 0) where
  -- calls that read, each of which answered
  pub record HasRead (a b : S) : Type 0 where
    pub follows : Follows a b
    pub unwritten : writes b ≡ writes a
    pub unfailed : failures b ≡ failures a
    pub same : IsTrusted a b → rows b ≡ rows a

  -- before the first read nothing was written, nothing failed, and the rows are the same
  pub none_yet : KeepLaws rows failures writes Follows IsTrusted → (a : S) → HasRead a a
  none_yet laws a = grind (arith, nat_tests)

  -- a read that answered is by itself a run of reads, each of which answered
  pub seen : {X : Type 0} (a b : S) (x : X) {Blames : Rows → ℕ → Type 0}
      {Answers : Rows → X → Type 0}
      → IsRead rows failures writes Follows IsTrusted a b (Ok x) Blames Answers → HasRead a b
  seen a b x read = grind (arith, nat_tests)

  seen_on : {X : Type 0} (r : Result X KeepFault) (old mid new : Rows) → mid ≡ old
      → IfSeen r (new ≡ mid) → IfSeen r (new ≡ old)
  seen_on r old mid new e h = grind (arith, nat_tests)

  -- a read after others
  pub read_on : KeepLaws rows failures writes Follows IsTrusted
      → {X : Type 0} (a b c : S) (r : Result X KeepFault) {Blames : Rows → ℕ → Type 0}
      {Answers : Rows → X → Type 0}
      → HasRead a b → IsRead rows failures writes Follows IsTrusted b c r Blames Answers
      → IsRead rows failures writes Follows IsTrusted a c r Blames Answers
  read_on laws {X = X} a b c r {Blames} {Answers} sofar read =
      grind (arith, nat_tests, later_cause, seen_on)

  -- where all reads answered, the call that made them answers
  pub answered : {Y : Type 0} (a c : S) (y : Y) {Blames : Rows → ℕ → Type 0}
      {Answers : Rows → Y → Type 0} → HasRead a c → (IsTrusted a c → Answers (rows a) y)
      → IsRead rows failures writes Follows IsTrusted a c (Ok y) Blames Answers
  answered a c y sofar answers = grind (arith, nat_tests)

  -- a fault of a read is the fault of the call that made it
  pub gives_up : {X Y : Type 0} (a c : S) (e : KeepFault) {Blames Blames' : Rows → ℕ → Type 0}
      {Answers : Rows → X → Type 0} {Answers' : Rows → Y → Type 0}
      → ((w : Rows) (row : ℕ) → Blames w row → Blames' w row)
      → IsRead rows failures writes Follows IsTrusted {X = X} a c (Err e) Blames Answers
      → IsRead rows failures writes Follows IsTrusted {X = Y} a c (Err e) Blames' Answers'
  gives_up {X = X} {Y = Y} a c e {Blames} {Blames'} weaker read = grind (arith, nat_tests)

  -- after reads that answered, the call that made them may run out of memory, whatever the rows
  pub no_memory : {Y : Type 0} (a c : S) {Blames : Rows → ℕ → Type 0} {Answers : Rows → Y → Type 0}
      → HasRead a c → IsRead rows failures writes Follows IsTrusted {X = Y} a c
      (Err Memory) Blames Answers
  no_memory a c sofar = grind (arith, nat_tests)
