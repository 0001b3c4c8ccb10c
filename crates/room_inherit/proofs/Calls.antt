-- Calls of a keeper that write lists, one after the other.
use Rattle.std.proofs.Common.{◌≡◌, ℕ, ◌+◌, ◌^◌, ◌-◌, false, List, [], ◌∷◌, length, get_or, Result}
use Rattle.std.proofs.Common.{Ok, Err, IfOk, sym, ap, subst, ◌∙◌, arith, ◌<◌, rules}
use Rattle.std.{proofs.lemmas.Bool.Decides.nat_tests, specs.Prelude.IsTrue}
use Rattle.room_entry.specs.{Ace.Ace, declared.object.ObjKind.{ObjKind, TheVariants.Document}}
use Rattle.room_entry.specs.declared.object.{ObjKind.TheVariants.Folder, Which.Which}
use Rattle.room_entry.proofs.Facts.Members.{no_length}
use Rattle.room_rows.specs.declared.{keep.{Keep.Ghosts, KeepFault.KeepFault}, node.Node.Node}
use Rattle.room_rows.specs.{Calls.{Writes, WritesOf}, Content.children_of, Held.held_of}
use Rattle.room_rows.specs.Keep.{Changes, ChangesAll, IsUnreadable, IsRead, AreChildrenOf, Leaves}
use Rattle.room_rows.specs.{Keep.{are_there, capped, with_content, with_inh, KeepLaws}, Rows.Rows}
use Rattle.room_rows.proofs.{Frames.Rises, InPlace.place-with_inh, Steps.later_cause}
use Rattle.room_rows.proofs.Many.{one_changed}
use Rattle.room_inherit.specs.declared.{by_kind.ByKind.ByKind, descent.Descent.Descent}
use Rattle.room_inherit.specs.declared.outcome.SpreadFault.{SpreadFault, TheVariants.Keeper}
use Rattle.room_inherit.specs.{declared.passed.Passed.Passed, Turn.{Gathers, IsPassed, RenewsAll}}
use Rattle.room_inherit.specs.Turn.{Visits, WritesAll, count_of, meets_again, of_kind, outdated_of}
use Rattle.room_inherit.{specs.Turn.{to_kind, with_passed}, proofs.Renewing.changes_none}
use Rattle.room_inherit.proofs.Renewing.{count_gathered, gathered_there, still_there, turn_becomes}

-- ---- counts with an end

-- a capped count that isn't at its end is the count
pub uncapped : (told n : ℕ) → told ≡ capped n → told < 2 ^ 64 - 1 → told ≡ n
uncapped told n is below = grind (arith, nat_tests)

pub capped_add : (m n : ℕ) → capped (capped m + n) ≡ capped (m + n)
capped_add m n = grind (arith, nat_tests)

-- an error that `?` hands on
pub handed_on : {X : Type 0} (r : Result X SpreadFault) (e : SpreadFault)
    → Rattle.std.specs.Result.IsErrAnd r (λ x. x ≡ e) → r ≡ Err e
handed_on r e h = grind (arith, nat_tests)

-- ---- lists that are written

pub only_one : (ids : List ℕ) (d : ℕ) → length ids ≡ 1 → ids ≡ get_or ids 0 d ∷ []
only_one [] d one = absurd (let wrong : ⊥ = omega (arith, one) in wrong)
only_one (id ∷ ids) d one =
    ap (λ (l : List ℕ). id ∷ l) (no_length ids (let e = one in omega (arith, e)))

module _ {S : Type 0} (k : Ghosts S)
    (laws : KeepLaws k.rows k.failures k.writes k.Follows k.IsTrusted) where
  -- a call that writes into these objects
  abbrev pub WritesInto : S → S → Result (Unit {0}) KeepFault → Which → List Ace → List ℕ → Type 0
  WritesInto a b result which entries ids =
      WritesOf k a b result (length ids) IsUnreadable
      (Leaves (ChangesAll ids (with_inh which entries)))

  -- what was written is named in another way
  pub wrote : (a b : S) (result : Result (Unit {0}) KeepFault) (which : Which)
      (entries entries' : List Ace) (ids ids' : List ℕ) → entries' ≡ entries → ids' ≡ ids
      → WritesInto a b result which entries' ids' → WritesInto a b result which entries ids
  wrote a b result which entries entries' ids ids' same same' write = grind (arith, nat_tests)

  -- into none of them
  pub none_written : (a : S) (which : Which) (entries : List Ace) (ids : List ℕ) → ids ≡ []
      → WritesInto a a (Ok tt) which entries ids
  none_written a which entries ids is = grind (arith, nat_tests, changes_none, place-with_inh)

  -- into one
  pub one_written : (a b : S) (result : Result (Unit {0}) KeepFault) (which : Which)
      (entries : List Ace) (ids : List ℕ) (id : ℕ) → ids ≡ id ∷ []
      → Writes k a b result IsUnreadable (Leaves (Changes id (with_inh which entries)))
      → WritesInto a b result which entries ids
  one_written a b result which entries ids id is write = grind (arith, nat_tests, becomes)
    where
      becomes : (r : Result (Unit {0}) KeepFault) → k.IsTrusted a b
          → IfOk r (λ _. Changes id (with_inh which entries) (k.rows a) (k.rows b))
          → IfOk r (λ _. ChangesAll (id ∷ []) (with_inh which entries) (k.rows a) (k.rows b))
      becomes (Ok x) t changes =
          one_changed (with_inh which entries) (place-with_inh which entries) id (k.rows a)
          (k.rows b) (laws.are a b t) changes
      becomes (Err e) t changes = tt

  module _ (which : Which) (passed : Passed) (numbers : ByKind) where
    -- into those of one kind
    abbrev WritesKind : ObjKind → S → S → Result (Unit {0}) KeepFault → Type 0
    WritesKind kind a b result =
        WritesInto a b result which (to_kind passed kind) (of_kind numbers kind)

    module _ (a b c : S) (first : WritesKind Document a b (Ok tt)) where
      pub folders_fail : (e : KeepFault) → WritesKind Folder b c (Err e)
          → WritesAll k a c which passed numbers (Err (Keeper e))
      folders_fail e write = record {
        follows = laws.on a b c first.follows write.follows;
        written = tt;
        becomes = λ t. tt;
        fault =
            later_cause (k.failures a) (k.failures b) (k.failures c) e
            (λ at. k.IsTrusted b c → IsUnreadable (k.rows b) at)
            (λ at. k.IsTrusted a c
            × ((kind : ObjKind) → IsTrue (are_there (of_kind numbers kind) (k.rows a).read))
            → IsUnreadable (k.rows a) at)
            (laws.rise a b first.follows) (laws.rise b c write.follows)
            (λ at damaged t.
            cc (
              first.becomes (laws.first a b c first.follows write.follows t.0) (t.1 Document),
              damaged (laws.last a b c first.follows write.follows t.0),
            )) write.fault;
      }

      pub both_written : WritesKind Folder b c (Ok tt)
          → WritesAll k a c which passed numbers (Ok tt)
      both_written write = record {
        follows = laws.on a b c first.follows write.follows;
        written = grind (arith, nat_tests, capped_add);
        becomes = λ t.
            let one = first.becomes (laws.first a b c first.follows write.follows t.0)
            (t.1 Document) in
            write.becomes (laws.last a b c first.follows write.follows t.0)
            (subst (λ (w : Rows). IsTrue (are_there (of_kind numbers Folder) w.read)) (sym one)
            (search (rules, still_there, place-with_inh, t.1)))
            ∙ ap (λ (w : Rows). with_content w
            (with_passed which passed numbers Folder w.read)) one;
        fault = tt;
      }

-- ---- one turn

module _ {S : Type 0} (k : Ghosts S)
    (laws : KeepLaws k.rows k.failures k.writes k.Follows k.IsTrusted) (d : Descent) (above : Node)
    (all before after : List Node) where
  abbrev AreGiven : S → Type 0
  AreGiven a = AreChildrenOf above.id (k.rows a) all
      × (meets_again d.which d.start above all ≡ false)

  module _ (none numbers : ByKind) (begins : (kind : ObjKind) → of_kind none kind ≡ [])
      (passed : Passed) (is : IsPassed (held_of d.which above) passed) (a b c : S)
      (read : Gathers k a b d above all before after none numbers (Ok tt)) where
    abbrev AllThere : S → Type 0
    AllThere s = (kind : ObjKind) → IsTrue (are_there (of_kind numbers kind) (k.rows s).read)

    module _ (writes_on : k.Follows b c) where
      first : k.IsTrusted a c → k.IsTrusted a b
      first t = laws.first a b c read.follows writes_on t

      -- the numbers are those of the outdated children
      numbers_are : k.IsTrusted a c × AreGiven a → (kind : ObjKind)
          → of_kind numbers kind
          ≡ outdated_of d.which above kind (children_of (k.rows a).read above.id)
      numbers_are t kind = grind (arith, nat_tests, first)

      rises : k.IsTrusted a c → Rises (k.rows a).read
      rises t = (laws.are a b (first t)).numbers

      trusted : k.IsTrusted a c × AreGiven a → k.IsTrusted b c × AllThere b
      trusted t = (
        laws.last a b c read.follows writes_on t.0,
        λ kind.
            subst (λ (w : Rows). IsTrue (are_there (of_kind numbers kind) w.read))
            (sym (read.same (first t.0)))
            (gathered_there d.which above (k.rows a).read (rises t.0) numbers (numbers_are t)
            kind),
      )

    pub gathered_written : (number : ℕ) → number ≡ count_of numbers
        → WritesAll k b c d.which passed numbers (Ok tt)
        → RenewsAll k a c d above all before after (Ok number)
    gathered_written number counted write =
        grind (arith, nat_tests, count_gathered, first, numbers_are, rises, trusted, turn_becomes)

    pub writing_fails : (e : SpreadFault) → WritesAll k b c d.which passed numbers (Err e)
        → RenewsAll k a c d above all before after (Err e)
    writing_fails e write = grind (arith, nat_tests, first, later_cause, trusted)

  pub visited : (r : Result ℕ SpreadFault) (a b c : S)
      → IsRead k.rows k.failures k.writes k.Follows k.IsTrusted a b (Ok all) IsUnreadable
      (AreChildrenOf above.id) → meets_again d.which d.start above all ≡ false
      → RenewsAll k b c d above all before after r → Visits k a c d above before after r
  visited r a b c read apart renewed = grind (arith, nat_tests, first, later_cause, trusted)
