-- What carrying down answers, as a call of a request.
use Rattle.std.proofs.Common.{rules, ◌≡◌, ℕ, ◌+◌, ◌≤◌, Ok, Err, length, arith}
use Rattle.std.proofs.lemmas.Bool.Decides.{nat_tests}
use Rattle.room_entry.specs.declared.object.Which.{Which}
use Rattle.room_rows.specs.{declared.{keep.KeepFault.KeepFault, node.Node.Node}, Keep.KeepLaws}
use Rattle.room_rows.specs.{Keep.capped, Rows.{AreRows, Rows}}
use Rattle.room_inherit.specs.Spread.{Holds, IsCarried, IsOwnAncestor, IsSpread}
use Rattle.room_inherit.specs.declared.outcome.{Spread.Spread, SpreadFault.SpreadFault}
use Rattle.room_inherit.specs.declared.outcome.SpreadFault.TheVariants.{Keeper, Loop}
use Rattle.room_desk.specs.Carrying.{HasLoop, HasLoopFrom, IsCarriedDown, IsCarriedFrom}
use Rattle.room_desk.specs.{Carrying.keeper_fault, Counted.{EachList, Provided, changed_lists}}
use Rattle.room_judge.specs.{Extent.UpTo, Judged.IsDone}
use Rattle.room_judge.proofs.{Calls.as_well, Within.written_up_to}
use Rattle.room_desk.proofs.Writes.ChangedLists.{spread_changes}

-- as many writes as lists are other now
carried_writes : (which : Which) (id changed before after more : ℕ) (old new : Rows) → AreRows old
    → IsSpread which id old new changed → after ≡ capped (before + changed)
    → changed_lists which old new ≤ more
    → after + length old.read.audits ≤ before + length new.read.audits + more
carried_writes which id changed before after more old new are spread written enough =
    let counted = spread_changes which id changed old new spread are.numbers in
    search (rules, written_up_to, old.read.audits, new.read.audits, written)

module _ {S : Type 0} {rows : S → Rows} {failures writes : S → ℕ}
    {Follows IsTrusted : S → S → Type 0}
    (laws : KeepLaws rows failures writes Follows IsTrusted) {a b : S} (which : Which)
    (id : ℕ) where
  pub carried_ok : (spread : Spread)
      → IsCarried rows failures writes Follows IsTrusted {X = Spread} (λ spread. spread.changed) a b
      (Ok spread) (λ r. IsOwnAncestor r.read id)
      (λ old spread new. IsSpread which id old new spread.changed)
      → IsDone rows failures writes Follows IsTrusted {X = Unit {0}}
      (λ _. UpTo (EachList which)) a b
      (Ok tt) (HasLoop id)
      (IsCarriedDown which id)
  carried_ok spread carried = grind (arith, nat_tests, carried_writes)

  pub carried_err : (fault : SpreadFault) (e : KeepFault) → e ≡ keeper_fault id fault
      → IsCarried rows failures writes Follows IsTrusted {X = Spread} (λ spread. spread.changed) a b
      (Err fault) (λ r. IsOwnAncestor r.read id)
      (λ old spread new. IsSpread which id old new spread.changed)
      → IsDone rows failures writes Follows IsTrusted {X = Unit {0}}
      (λ _. UpTo (EachList which)) a b
      (Err e) (HasLoop id)
      (IsCarriedDown which id)
  carried_err (Keeper f) e is carried = grind (arith, nat_tests, as_well)
  carried_err Loop e is carried = grind (arith, nat_tests)

-- the same from an object, where it stands so in the rows
module _ {S : Type 0} {rows : S → Rows} {failures writes : S → ℕ}
    {Follows IsTrusted : S → S → Type 0}
    (laws : KeepLaws rows failures writes Follows IsTrusted) {a b : S} (which : Which)
    (start : Node) where
  pub given_ok : (spread : Spread)
      → IsCarried rows failures writes Follows
      (λ first last. IsTrusted first last × Holds start (rows first)) {X = Spread}
      (λ spread. spread.changed) a b (Ok spread) (λ r. IsOwnAncestor r.read start.id)
      (λ old spread new. IsSpread which start.id old new spread.changed)
      → IsDone rows failures writes Follows IsTrusted {X = Unit {0}}
      (λ _. UpTo (Provided (Holds start) (EachList which))) a b (Ok tt) (HasLoopFrom start)
      (IsCarriedFrom which start)
  given_ok spread carried = grind (arith, nat_tests, carried_writes)

  pub given_err : (fault : SpreadFault) (e : KeepFault) → e ≡ keeper_fault start.id fault
      → IsCarried rows failures writes Follows
      (λ first last. IsTrusted first last × Holds start (rows first)) {X = Spread}
      (λ spread. spread.changed) a b (Err fault) (λ r. IsOwnAncestor r.read start.id)
      (λ old spread new. IsSpread which start.id old new spread.changed)
      → IsDone rows failures writes Follows IsTrusted {X = Unit {0}}
      (λ _. UpTo (Provided (Holds start) (EachList which))) a b (Err e) (HasLoopFrom start)
      (IsCarriedFrom which start)
  given_err fault e is carried = grind (arith, nat_tests)
