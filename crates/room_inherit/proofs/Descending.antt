-- Turns of carrying lists down, whichever children they go on to.
use Rattle.std.proofs.Common.{◌≡◌, Result, Err, refl, sym, subst}
use Rattle.room_rows.specs.{declared.{keep.Keep.Ghosts, node.Node.Node}, Keep.KeepLaws}
use Rattle.room_inherit.specs.{Turns.Descends, declared.descent.{Descent.Descent, Reach.Reach}}
use Rattle.room_inherit.specs.declared.descent.Reach.TheVariants.{Renewed, All}
use Rattle.room_inherit.specs.declared.outcome.{Spread.Spread, SpreadFault.SpreadFault}
use Rattle.room_inherit.proofs.{Calls.handed_on, Turns.{Progress, Carried}, Carrying.carrying}
use Rattle.room_inherit.proofs.SweepCalls.{sweeping}

module _ {S : Type 0} (k : Ghosts S)
    (laws : KeepLaws k.rows k.failures k.writes k.Follows k.IsTrusted) (d : Descent) (start : Node)
    (same : start.id ≡ d.start) (a b : S) where
  -- what is known after each turn depends on the reach alone
  pub descends : (result : Result Spread SpreadFault)
      → ((p : Progress d start) → Carried k laws d start p a b result)
      → Descends k a b d.reach start d.which result
  descends result carried = on d.reach refl
    where
      on : (reach : Reach) → d.reach ≡ reach → Descends k a b reach start d.which result
      on Renewed is = carried (carrying d start same is)
      on All is = carried (sweeping d start same is)

  -- a fault that is handed on
  pub descends_not : (result : Result Spread SpreadFault) (fault : SpreadFault)
      → Rattle.std.specs.Result.IsErrAnd result (λ e. e ≡ fault)
      → ((p : Progress d start) → Carried k laws d start p a b (Err fault))
      → Descends k a b d.reach start d.which result
  descends_not result fault is carried =
      subst (λ (r : Result Spread SpreadFault). Descends k a b d.reach start d.which r)
      (sym (handed_on result fault is)) (descends (Err fault) carried)
