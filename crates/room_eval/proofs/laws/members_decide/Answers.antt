use Rattle.std.proofs.Common.{arith, ℕ, ◌≡◌, ◌+◌, ◌&&◌, Bool, false, List, [], ◌∷◌, refl, ap}
use Rattle.std.{proofs.Common.{is_some, is_none}, specs.Option.option_map_or}
use Rattle.room_entry.specs.{Ace.Ace, Matching.{is_named, is_in_force}, Pieces.same_text}
use Rattle.room_entry.specs.declared.entry.Who.{Who, TheVariants.{Owner, Group, Everyone}}
use Rattle.room_entry.specs.declared.entry.Who.TheVariants.{Anonymous, Authenticated, User, Members}
use Rattle.room_entry.specs.declared.parties.{Caller.Caller, Owners.Owners}
use Rattle.room_eval.specs.{Events.events_from, Laws.AreAlike, Verdict.{counts, ruling_from}}
use Rattle.room_eval.proofs.laws.members_decide.Goals as goal

module _ (a b : Caller) (owners : Owners) (alike : AreAlike a b) where
  named : (who : Who) → is_named who a owners ≡ is_named who b owners
  named Owner = ap (λ u. option_map_or (λ user. same_text user owners.owner) u false) alike.0
  named Group = alike.1 owners.group
  named Everyone = refl
  named Anonymous = ap is_none alike.0
  named Authenticated = ap is_some alike.0
  named (User name) = ap (λ u. option_map_or (λ user. same_text user name) u false) alike.0
  named (Members group) = alike.1 group

  counted : (entry : Ace) → counts entry a owners ≡ counts entry b owners
  counted entry = λ i. is_in_force entry && named entry.who i

  rulings : (place : ℕ) (entries : List Ace) (bit : ℕ)
      → ruling_from place entries a owners bit ≡ ruling_from place entries b owners bit
  rulings place [] bit = refl
  rulings place (entry ∷ entries) bit =
      let rest = rulings (place + 1) entries bit in grind (arith, counted, rest)

  events : (place : ℕ) (entries : List Ace) (asked : List ℕ) (granted : Bool)
      → events_from place entries a owners asked granted
      ≡ events_from place entries b owners asked granted
  events place [] asked granted = refl
  events place (entry ∷ entries) asked granted =
      let rest = events (place + 1) entries asked granted in grind (arith, counted, rest)

pub returns : goal.returns
returns c = grind (arith, rulings, events)
