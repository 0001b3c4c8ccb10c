-- Parts of a call that write, one after the other.
use Rattle.std.proofs.Common.{rules, ◌≡◌, ◌++◌, ◌+◌, ℕ, suc, zero, List, [], ◌∷◌, Result, Ok, Err}
use Rattle.std.proofs.{Common.{◌∙◌, arith}, lemmas.Bool.Decides.nat_tests}
use Rattle.std.specs.List.{range_with_len, Sorted.IsPermutation}
use Rattle.sqlite.specs.State.{State}
use Rattle.room_rows.specs.declared.{keep.KeepFault.KeepFault, node.Node.Node}
use Rattle.room_rows.proofs.Many.{IsOnce, in_any_order, none_changed, one_changed, then_changed}
use Rattle.room_rows.proofs.SamePlace.{IsSamePlace}
use Rattle.store_tables.specs.{Meaning.rows_of, RoomRows.room_rows, Trust.{Alters, AltersAll, Puts}}
use Rattle.store_tables.specs.Trust.{stays_on, trusted_first, trusted_last}
use Rattle.store_tables.proofs.{Changing.cause_later, Tests.if_ok}

-- objects that are changed
abbrev pub PutsAll : State → State → ℕ → ℕ → Result (Unit {0}) KeepFault → List ℕ → (Node → Node)
    → Type 0
PutsAll old new before after r ids change =
    Puts old new before after r (λ _. AltersAll ids change)

-- none so far
pub puts_none : (now : State) (failures : ℕ) (change : Node → Node)
    → PutsAll now now failures failures (Ok tt) [] change
puts_none now failures change = search (rules, none_changed)

-- some more after those so far
pub puts_more : (change : Node → Node) → ((n : Node) → IsSamePlace (change n) n) → IsOnce change
    → (old mid new : State) (before between after : ℕ) (ids more : List ℕ)
    (r : Result (Unit {0}) KeepFault) → PutsAll old mid before between (Ok tt) ids change
    → PutsAll mid new between after r more change
    → PutsAll old new before after r (ids ++ more) change
puts_more change stays once old mid new before between after ids more r first second =
    record {
      stays = stays_on old mid new first.stays second.stays;
      no_less = omega (arith, first.no_less, second.no_less);
      unfailed = if_ok r _ _ (λ x same. same ∙ first.unfailed) second.unfailed;
      fault = grind (arith, nat_tests, cause_later);
      becomes =
          λ trust. if_ok r _ _
          (λ x then. then_changed change stays once ids more (rows_of old.now) (rows_of mid.now)
          (rows_of new.now)
          (first.becomes (trusted_first old mid new first.stays second.stays trust)) then)
          (second.becomes (trusted_last old mid new first.stays second.stays trust));
    }

-- one object
pub puts_one : (change : Node → Node) → ((n : Node) → IsSamePlace (change n) n) → (id : ℕ)
    → (old new : State) (before after : ℕ) (r : Result (Unit {0}) KeepFault)
    → Puts old new before after r (λ _. Alters id change)
    → PutsAll old new before after r (id ∷ []) change
puts_one change stays id old new before after r put =
    record {
      stays = put.stays;
      no_less = put.no_less;
      unfailed = put.unfailed;
      fault = put.fault;
      becomes =
          λ trust. if_ok r _ _
          (λ x alters. one_changed change stays id (rows_of old.now) (rows_of new.now)
          (room_rows old.now trust.now) alters) (put.becomes trust);
    }

-- the same objects in another order
pub puts_any_order : (change : Node → Node) (ids others : List ℕ) (old new : State)
    (before after : ℕ) (r : Result (Unit {0}) KeepFault) → IsPermutation ids others
    → PutsAll old new before after r others change → PutsAll old new before after r ids change
puts_any_order change ids others old new before after r same put =
    record {
      stays = put.stays;
      no_less = put.no_less;
      unfailed = put.unfailed;
      fault = put.fault;
      becomes =
          λ trust. if_ok r _ _ (search (rules, in_any_order, same)) (put.becomes trust);
    }

-- after a fault nothing is said of the objects
pub puts_failed : (change : Node → Node) (ids others : List ℕ) (old new : State)
    (before after : ℕ) (r : Result (Unit {0}) KeepFault) (e : KeepFault) → r ≡ Err e
    → PutsAll old new before after (Err e) others change → PutsAll old new before after r ids change
puts_failed change ids others old new before after r e is put = grind (arith, nat_tests)

-- the next number after those that follow one another
pub run_grows : (first count : ℕ)
    → range_with_len first count ++ (first + count) ∷ [] ≡ range_with_len first (count + 1)
run_grows first zero = grind (arith, nat_tests)
run_grows first (suc more) = grind (arith, nat_tests, run_grows (first + 1) more)
