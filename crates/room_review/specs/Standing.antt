-- What a review keeps of an object for each caller: what the row says, and what has to be known of
-- the object to judge what stands below it (own).
use Rattle.std.specs.Prelude.{ℕ, ◌-◌, ◌&&◌, Bool, true, false, not, List, [], ◌∷◌, ◌++◌, length}
use Rattle.std.specs.Prelude.{map}
use Rattle.std.specs.Prelude.{Option, take}
use Rattle.std.specs.Option.{option_map, option_map_or}
use Rattle.room_entry.specs.Pieces.{same_text}
use Rattle.room_entry.specs.Rights.{delete_child}
use Rattle.room_entry.specs.declared.object.Which.TheVariants.{Dacl}
use Rattle.room_entry.specs.declared.parties.Caller.{Caller}
use Rattle.room_eval.specs.declared.outcome.Ruling.{Ruling}
use Rattle.room_eval.specs.declared.outcome.Ruling.TheVariants.{Denied}
use Rattle.room_eval.specs.Verdict.{ruling_of}
use Rattle.room_machine.specs.Site.{Site, full_at}
use Rattle.room_review.specs.declared.parties.Party.{Party}
use Rattle.room_review.specs.declared.standing.Standing.{Standing}
use Rattle.room_machine.specs.Rights.{last_of, may_remove, reaches, rights}

-- the objects on a way but for the last
abbrev pub before_last : List Site → List Site
before_last above = take (length above - 1) above

-- what a row says of a caller: the rights, and whether the object may be removed
abbrev pub granted : Caller → List Site → Site → List ℕ × Bool
granted caller above target = (rights caller above target, may_remove caller above target)

abbrev pub same_answer : Bool → Bool → Bool
same_answer true other = other
same_answer false other = not other

abbrev pub same_grant : List ℕ × Bool → List ℕ × Bool → Bool
same_grant a b = same_text a.0 b.0 && same_answer a.1 b.1

-- the row says the same as that of the caller at the folder above
abbrev pub repeats : Caller → List Site → Site → Bool
repeats caller above target =
    option_map_or
    (λ folder. same_grant (granted caller above target) (granted caller (before_last above) folder))
    (last_of above) false

abbrev pub is_denied : Ruling → Bool
is_denied (Denied place) = true
is_denied _ = false

-- the object's list denies DELETE_CHILD
abbrev pub keeps_children : Caller → Site → Bool
keeps_children caller site =
    is_denied (ruling_of (full_at Dacl site) caller site.node.owners delete_child)

-- the caller at an object behind these
abbrev pub standing : Caller → List Site → Site → Standing
standing caller above target = record {
  rights = rights caller above target;
  remove = may_remove caller above target;
  opens = reaches caller (above ++ target ∷ []);
  keeps = reaches caller above && keeps_children caller target;
  repeats = repeats caller above target;
}

-- all callers, in their order
abbrev pub standings : List Party → List Site → Site → List Standing
standings parties above target = map (λ party. standing party.caller above target) parties

-- all callers at the last of these, the folder that an object behind them stands in; the root
-- stands in none
abbrev pub folder_standings : List Party → List Site → Option (List Standing)
folder_standings parties above =
    option_map (standings parties (before_last above)) (last_of above)
