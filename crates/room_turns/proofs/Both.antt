-- Calls of two keepers that read, one after the other.
use Rattle.std.proofs.Common.{◌≡◌, Result, Ok, Err, refl, sym, subst, inl, inr}
use Rattle.std.specs.Result.{IsErrAnd}
use Rattle.room_rows.specs.declared.keep.{Keep.Ghosts, KeepFault.{KeepFault, TheVariants.Memory}}
use Rattle.room_rows.specs.{Calls.Reads, Keep.{HasNoRoot, KeepLaws}, Rows.Rows}
use Rattle.room_rows.proofs.Steps.{handed_on}
use Rattle.room_turns.specs.Comparing.{ReadsBoth}

module _ {S : Type 0} (k : Ghosts S)
    (laws : KeepLaws k.rows k.failures k.writes k.Follows k.IsTrusted) where
  -- the first fails, and the second isn't called
  pub first_fails : {X Y : Type 0} (a b c : S) (e : KeepFault) (r : Result Y KeepFault)
      {Answers : Rows → X → Type 0} {Both : Rows → Rows → Y → Type 0}
      → Reads k {X = X} a b (Err e) HasNoRoot Answers → IsErrAnd r (λ x. x ≡ e)
      → ReadsBoth k a b c c r Both
  first_fails {X} {Y} a b c e r {Answers} {Both} read is =
      subst (λ (result : Result Y KeepFault). ReadsBoth k a b c c result Both)
      (sym (handed_on r e is)) (record {
        first = record { follows = read.follows; unwritten = read.unwritten };
        second = record { follows = laws.itself c; unwritten = refl };
        same_first = λ t. tt;
        same_second = λ t. tt;
        answers = λ t t'. tt;
        unfailed = tt;
        fault = inl read.fault;
      })

  -- memory runs out between them
  pub then_no_memory : {X Y : Type 0} (a b c : S) (x : X) (r : Result Y KeepFault)
      {Answers : Rows → X → Type 0} {Both : Rows → Rows → Y → Type 0}
      → Reads k a b (Ok x) HasNoRoot Answers → IsErrAnd r (λ e. e ≡ Memory)
      → ReadsBoth k a b c c r Both
  then_no_memory {X} {Y} a b c x r {Answers} {Both} read is =
      subst (λ (result : Result Y KeepFault). ReadsBoth k a b c c result Both)
      (sym (handed_on r Memory is)) (record {
        first = record { follows = read.follows; unwritten = read.unwritten };
        second = record { follows = laws.itself c; unwritten = refl };
        same_first = λ t. tt;
        same_second = λ t. tt;
        answers = λ t t'. tt;
        unfailed = tt;
        fault = inl tt;
      })

  -- the second answers or fails
  pub then_second : {X Y : Type 0} (a b c d : S) (x : X) (r : Result Y KeepFault)
      {First : Rows → X → Type 0} {Second : Rows → Y → Type 0} {Both : Rows → Rows → Y → Type 0}
      → Reads k a b (Ok x) HasNoRoot First → Reads k c d r HasNoRoot Second
      → ((rows after : Rows) → First rows x → (y : Y) → Second after y → Both rows after y)
      → ReadsBoth k a b c d r Both
  then_second a b c d x (Ok y) one two both = record {
    first = record { follows = one.follows; unwritten = one.unwritten };
    second = record { follows = two.follows; unwritten = two.unwritten };
    same_first = one.same;
    same_second = two.same;
    answers = λ t t'. both (k.rows a) (k.rows c) (one.answers t) y (two.answers t');
    unfailed = (one.unfailed, two.unfailed);
    fault = tt;
  }
  then_second a b c d x (Err e) one two both = record {
    first = record { follows = one.follows; unwritten = one.unwritten };
    second = record { follows = two.follows; unwritten = two.unwritten };
    same_first = λ t. tt;
    same_second = λ t. tt;
    answers = λ t t'. tt;
    unfailed = tt;
    fault = inr two.fault;
  }
