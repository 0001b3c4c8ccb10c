-- The calls that set a list.
use Rattle.std.proofs.Common.{rules, ◌≡◌, ℕ, Bool, true, false, List, Option, ◌+◌, ◌≤◌, sym, ap}
use Rattle.std.proofs.{Common.{subst, ◌∙◌, arith}, lemmas.Bool.Decides.nat_tests}
use Rattle.room_entry.specs.{Ace.Ace, declared.{flags.ListFlags.ListFlags, object.Which.Which}}
use Rattle.room_ace.specs.Sent.{Sent}
use Rattle.room_rows.specs.{HeldList.Held, declared.node.Node.Node, Held.with_held, Keep.Changes}
use Rattle.room_rows.specs.{Keep.IsUnreadable, Rows.{Rows, AreRows}}
use Rattle.room_rows.proofs.{InPlace.place-with_held, Lookups.find-put_same}
use Rattle.room_inherit.specs.Spread.{Holds}
use Rattle.room_desk.specs.Carrying.{HasLoop, HasLoopFrom, IsCarriedDown, IsCarriedFrom, IsRooted}
use Rattle.room_desk.specs.{Carrying.{IsUnreadableIfHeld, StandsRooted}, Setting.Beneath}
use Rattle.room_desk.specs.Setting.{IsNewInh, IsSet, IsWrittenDown, Stores, list_of, entries_marked}
use Rattle.room_desk.specs.{Setting.held_with, Counted.{EachList, OneAndEach, OneWrite, Provided}}
use Rattle.room_desk.{specs.Counted.changed_lists, proofs.Writes.ChangedLists.fewer}
use Rattle.room_desk.proofs.{Writes.Sufficing.rooted_recorded, Sound.Anchored.changed_unread}
use Rattle.room_desk.proofs.Lists.SetWell.{well_stored}
use Rattle.room_machine.specs.Changed.{passing_parent, stored_inh}
use Rattle.room_judge.{specs.Extent.unrecorded, proofs.UpTo.Share}

-- a row that can't be read, before anything is written
pub unread_before : (node : Node) (old mid : Rows) (row : ℕ) → mid ≡ old → IsUnreadable mid row
    → IsUnreadableIfHeld node old row
unread_before node old mid row same unread there rooted = grind (arith, nat_tests)

pub fails_before : (node : Node) (old mid : Rows) (row : ℕ) → mid ≡ old
    → IsUnreadableIfHeld node mid row → IsUnreadableIfHeld node old row
fails_before node old mid row same fails = grind (arith, nat_tests)

-- ---- the list is written, and carried down from there

module _ (which : Which) (node : Node) (held : Held) (old mid : Rows)
    (changes : Changes node.id (with_held which held) old mid) where
  number : (with_held which held node).id ≡ node.id
  number = (place-with_held which held node).number

  holds_now : Holds node old → Holds (with_held which held node) mid
  holds_now there =
      cc (changes node there, find-put_same (with_held which held node) old.read.nodes)

  pub carried_fails : (row : ℕ) → HasLoopFrom (with_held which held node) mid row
      → IsUnreadableIfHeld node old row
  carried_fails row loop there rooted =
      changed_unread node.id old mid row (with_held which held)
      (λ n. (place-with_held which held n).number)
      (λ n. (place-with_held which held n).parent) changes
      (subst (λ (i : ℕ). HasLoop i mid row) number (loop (holds_now there))) rooted

  pub written_down : (auto : Bool) (new : Rows) → auto ≡ true → held.flags.auto ≡ auto
      → IsCarriedFrom which (with_held which held node) mid tt new
      → IsWrittenDown which node held old tt new
  written_down auto new is same down = record {
    mid = mid;
    writes = changes;
    goes = grind (arith, nat_tests, holds_now, number);
  }

  -- what suffices for it
  pub set_shares : (new : Rows) (more : ℕ)
      → IsCarriedFrom which (with_held which held node) mid tt new
      → Provided (StandsRooted node) (OneAndEach which) (unrecorded old) (unrecorded new) more
      → Share (Provided (Holds node) OneWrite)
      (Provided (Holds (with_held which held node)) (EachList which)) old mid new more
  set_shares new more down enough = grind (arith, nat_tests, fits, holds_now)
    where
      rooted : IsRooted node.id old
      rooted = rooted_recorded node.id old enough.0.1

      fits : 1 + changed_lists which mid new ≤ more
      fits =
          let below = fewer which node.id (with_held which held)
          (λ n. (place-with_held which held n).number)
          (λ n. (place-with_held which held n).parent) old mid new changes rooted
          (subst (λ (i : ℕ). IsCarriedDown which i mid tt new) number (down (holds_now enough.0.0)))
          in search (rules, new, enough.1)

  pub written_still : (auto : Bool) → auto ≡ false → held.flags.auto ≡ auto
      → IsWrittenDown which node held old tt mid
  written_still auto isnt same =
      record {
        mid = mid;
        writes = changes;
        goes = grind (arith, nat_tests);
      }

-- the same from an equal object
pub loop_as : (start node : Node) (old mid : Rows) (row : ℕ) → start ≡ node → mid ≡ old
    → HasLoopFrom start mid row → HasLoopFrom node old row
loop_as start node old mid row same unread loop = grind (arith, nat_tests)

pub carried_as : (which : Which) (start node : Node) (old mid new : Rows) → start ≡ node → mid ≡ old
    → IsCarriedFrom which start mid tt new → IsCarriedFrom which node old tt new
carried_as which start node old mid new same unread down = grind (arith, nat_tests)

-- the list of the parts that are sent
pub list_sent : (sent : Sent) (flags : ListFlags) (own inh : List Ace) → flags ≡ sent.flags
    → own ≡ entries_marked false sent.entries → list_of flags own inh ≡ held_with sent inh
list_sent sent flags own inh flags_are own_are = cc (flags_are, own_are)

pub written_as : (which : Which) (node : Node) (held other : Held) (old mid new : Rows)
    → held ≡ other → mid ≡ old → IsWrittenDown which node held mid tt new
    → IsWrittenDown which node other old tt new
written_as which node held other old mid new same unread written = grind (arith, nat_tests)

pub set_from : (which : Which) (sent : Sent) (node : Node) (above : Option Node) (inh : List Ace)
    (old mid new : Rows) → AreRows old → IsNewInh which sent node above inh → mid ≡ old
    → Stores which node (held_with sent inh) mid tt new
    → Beneath {X = Unit {0}} above node (λ o x n. IsSet which sent node o n) old tt new
set_from which sent node above inh old mid new are is same stores up =
    well_stored which sent node inh old new are
    (is ∙ ap (λ p. stored_inh which sent node.kind (passing_parent which sent.flags p)) (sym up))
    (subst (λ (r : Rows). Stores which node (held_with sent inh) r tt new) same stores)
