-- Runs and lists in two parts.
use Rattle.std.{proofs.Common.{List, [], ◌∷◌, ◌++◌, refl, sym, subst}, specs.List.AllByRecursion}
use Rattle.room_rows.specs.Content.{Content}
use Rattle.room_machine.specs.Run.{Event, Run}
use Rattle.room_laws.specs.Tidy.{IsNumbered, IsTidy, StaysTidy}

-- what holds of each of some, and of each of others
pub all_both : {X : Type 0} (P : X → Type 0) (xs ys : List X) → AllByRecursion P xs
    → AllByRecursion P ys → AllByRecursion P (xs ++ ys)
all_both P [] ys one two = two
all_both P (x ∷ xs) ys one two = (one.0, all_both P xs ys one.1 two)

pub all_before : {X : Type 0} (P : X → Type 0) (xs ys : List X) → AllByRecursion P (xs ++ ys)
    → AllByRecursion P xs
all_before P [] ys all = tt
all_before P (x ∷ xs) ys all = (all.0, all_before P xs ys all.1)

-- a run over the events of two lists begins with one over those of the first
pub first_run : (events later : List Event) (room next : Content)
    → Run room (events ++ later) next → (mid : Content) × Run room events mid
first_run [] later room next run = (room, refl)
first_run (event ∷ events) later room next (mid, happens, run) =
    let it = first_run events later mid next run in (it.0, (mid, happens, it.1))

pub tidy_then : StaysTidy → (events : List Event) (room next : Content) → IsNumbered room
    → IsTidy room → Run room events next → IsNumbered next × IsTidy next
tidy_then stays [] room next numbers tree is =
    (subst IsNumbered (sym is) numbers, subst IsTidy (sym is) tree)
tidy_then stays (event ∷ events) room next numbers tree (mid, happens, run) =
    let then = stays room event mid numbers tree happens in
    tidy_then stays events mid next then.0 then.1 run
