-- Calls of a keeper that read, one after the other.
use Rattle.std.proofs.Common.{arith, rules, ◌≡◌, ℕ, Result, Ok, Err, refl, sym, ap, subst, ◌∙◌}
use Rattle.std.specs.Result.{IsErrAnd}
use Rattle.room_rows.specs.declared.keep.{Keep.Ghosts, KeepFault.{KeepFault, TheVariants.Memory}}
use Rattle.room_rows.specs.declared.keep.KeepFault.TheVariants.{Store, NoRoot, Damaged}
use Rattle.room_rows.specs.{Calls.Reads, Keep.{HasCause, IfSeen, KeepLaws}, Rows.{AreRows, Rows}}

-- an error that `?` hands on
handed_on : {X : Type 0} (r : Result X KeepFault) (e : KeepFault) → IsErrAnd r (λ x. x ≡ e)
    → r ≡ Err e
handed_on (Ok x) e h = absurd h
handed_on (Err x) e h = ap Err h

module _ {S : Type 0} (k : Ghosts S)
    (laws : KeepLaws k.rows k.failures k.writes k.Follows k.IsTrusted) where
  -- what calls that read, each of which answered, tell of the rows
  pub record Knows (a b : S) (P : Rows → Type 0) : Type 0 where
    pub follows : k.Follows a b
    pub unwritten : k.writes b ≡ k.writes a
    pub unfailed : k.failures b ≡ k.failures a
    pub same : k.IsTrusted a b → k.rows b ≡ k.rows a
    pub known : k.IsTrusted a b → P (k.rows a)

  -- no call
  pub knows : (a : S) {P : Rows → Type 0} → ((rows : Rows) → AreRows rows → P rows) → Knows a a P
  knows a known = record {
    follows = laws.itself a;
    unwritten = refl;
    unfailed = refl;
    same = λ t. refl;
    known = λ t. known (k.rows a) (laws.are a a t);
  }

  -- a read after others
  pub learns : {X : Type 0} (a b c : S) (x : X) {Blames : Rows → ℕ → Type 0}
      {Answers : Rows → X → Type 0} {P Q : Rows → Type 0} → Knows a b P
      → Reads k b c (Ok x) Blames Answers
      → ((rows : Rows) → AreRows rows → P rows → Answers rows x → Q rows) → Knows a c Q
  learns a b c x {Answers = Answers} sofar read adds =
      let first = laws.first a b c sofar.follows read.follows in
      let last = laws.last a b c sofar.follows read.follows in
      record {
        follows = laws.on a b c sofar.follows read.follows;
        unwritten = read.unwritten ∙ sofar.unwritten;
        unfailed = read.unfailed ∙ sofar.unfailed;
        same = λ t. read.same (last t) ∙ sofar.same (first t);
        known = grind (arith, adds, a, c, sofar.known, x, sofar.same, read.answers, last);
      }

  -- the calls that answered are all
  pub answered : {Y : Type 0} (a c : S) (x : Y) {Blames : Rows → ℕ → Type 0}
      {Answers : Rows → Y → Type 0} → Knows a c (λ rows. Answers rows x)
      → Reads k {X = Y} a c (Ok x) Blames Answers
  answered a c x sofar =
      record {
        follows = sofar.follows;
        unwritten = sofar.unwritten;
        same = sofar.same;
        answers = sofar.known;
        unfailed = sofar.unfailed;
        fault = tt;
      }

  -- the rows themselves are at fault
  pub damaged : {Y : Type 0} (a c : S) (id : ℕ) {Blames : Rows → ℕ → Type 0}
      {Answers : Rows → Y → Type 0} → Knows a c (λ rows. Blames rows id)
      → Reads k {X = Y} a c (Err (Damaged id)) Blames Answers
  damaged a c id sofar =
      record {
        follows = sofar.follows;
        unwritten = sofar.unwritten;
        same = sofar.same;
        answers = λ t. tt;
        unfailed = tt;
        fault = sofar.known;
      }

  -- they show that there is no root
  pub rootless : {Y : Type 0} (a c : S) {Blames : Rows → ℕ → Type 0}
      {Answers : Rows → Y → Type 0} → Knows a c (λ rows. Blames rows 0)
      → Reads k {X = Y} a c (Err NoRoot) Blames Answers
  rootless a c sofar =
      record {
        follows = sofar.follows;
        unwritten = sofar.unwritten;
        same = sofar.same;
        answers = λ t. tt;
        unfailed = tt;
        fault = sofar.known;
      }

  -- memory runs out after them
  pub out_of_memory : {Y : Type 0} (a c : S) (r : Result Y KeepFault) {Blames : Rows → ℕ → Type 0}
      {Answers : Rows → Y → Type 0} {P : Rows → Type 0} → Knows a c P → IsErrAnd r (λ x. x ≡ Memory)
      → Reads k a c r Blames Answers
  out_of_memory {Y = Y} a c r {Blames} {Answers} sofar is =
      subst (λ (result : Result Y KeepFault). Reads k a c result Blames Answers)
      (sym (handed_on r Memory is)) (record {
        follows = sofar.follows;
        unwritten = sofar.unwritten;
        same = λ t. tt;
        answers = λ t. tt;
        unfailed = tt;
        fault = tt;
      })

  -- a read after others fails, and so does the call that made it
  pub fails : {X Y : Type 0} (a b c : S) (e : KeepFault) (r : Result Y KeepFault)
      {Blames Blames' : Rows → ℕ → Type 0} {Answers : Rows → X → Type 0}
      {Answers' : Rows → Y → Type 0} {P : Rows → Type 0}
      → ((rows : Rows) → AreRows rows → P rows → (row : ℕ) → Blames rows row → Blames' rows row)
      → Knows a b P → Reads k {X = X} b c (Err e) Blames Answers → IsErrAnd r (λ x. x ≡ e)
      → Reads k a c r Blames' Answers'
  fails {X = X} {Y = Y} a b c e r {Blames} {Blames'} {Answers} {Answers'} blames sofar read is =
      subst (λ (result : Result Y KeepFault). Reads k a c result Blames' Answers')
      (sym (handed_on r e is)) (record {
        follows = laws.on a b c sofar.follows read.follows;
        unwritten = read.unwritten ∙ sofar.unwritten;
        same = λ t. same e (sofar.same (before t)) (read.same (now t));
        answers = λ t. tt;
        unfailed = tt;
        fault = cause e read.fault;
      })
    where
      before : k.IsTrusted a c → k.IsTrusted a b
      before t = laws.first a b c sofar.follows read.follows t

      now : k.IsTrusted a c → k.IsTrusted b c
      now t = laws.last a b c sofar.follows read.follows t

      same : (e : KeepFault) → k.rows b ≡ k.rows a → IfSeen {X = X} (Err e) (k.rows c ≡ k.rows b)
          → IfSeen {X = Y} (Err e) (k.rows c ≡ k.rows a)
      same Memory first h = tt
      same Store first h = tt
      same NoRoot first h = h ∙ first
      same (Damaged id) first h = h ∙ first

      blamed : (id : ℕ) → (k.IsTrusted b c → Blames (k.rows b) id)
          → k.IsTrusted a c → Blames' (k.rows a) id
      blamed id h t =
          blames (k.rows a) (laws.are a c t) (sofar.known (before t)) id
          (subst (λ (w : Rows). Blames w id) (sofar.same (before t)) (h (now t)))

      cause : (e : KeepFault)
          → HasCause (k.failures b) (k.failures c)
          (λ row. k.IsTrusted b c → Blames (k.rows b) row) e
          → HasCause (k.failures a) (k.failures c)
          (λ row. k.IsTrusted a c → Blames' (k.rows a) row) e
      cause Memory h = tt
      cause Store h =
          subst (λ (n : ℕ). HasCause n (k.failures c)
          (λ row. k.IsTrusted a c → Blames' (k.rows a) row) Store) sofar.unfailed h
      cause NoRoot h = blamed 0 h
      cause (Damaged id) h = blamed id h

  -- a last read, whose answer is that of the call that made it
  pub tail : {X : Type 0} (a b c : S) (r : Result X KeepFault) {Blames Blames' : Rows → ℕ → Type 0}
      {Answers Answers' : Rows → X → Type 0} {P : Rows → Type 0} → Knows a b P
      → ((rows : Rows) → AreRows rows → P rows → (row : ℕ) → Blames rows row → Blames' rows row)
      → ((rows : Rows) → AreRows rows → P rows → (x : X) → Answers rows x → Answers' rows x)
      → Reads k b c r Blames Answers → Reads k a c r Blames' Answers'
  tail a b c (Ok x) sofar blames answers read =
      search (rules, answered, learns, sofar, read, answers)
  tail a b c (Err e) sofar blames answers read = fails a b c e (Err e) blames sofar read refl
