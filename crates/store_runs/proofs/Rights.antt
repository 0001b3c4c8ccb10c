-- Who may do what in a store's room, over lists of calls.
use Rattle.std.proofs.Common.{◌≡◌, ℕ, List, [], ◌∷◌, ◌++◌, Option, Some, IfSome, inl, inr, refl}
use Rattle.std.{proofs.Common.{sym, subst}, specs.List.AllByRecursion}
use Rattle.sqlite_rules.specs.Lists.{Has}
use Rattle.sqlite.specs.State.{State}
use Rattle.room_rows.specs.Content.{Content}
use Rattle.room_inherit.specs.Laws.{SoundIsContent}
use Rattle.room_machine.specs.Run.{Asking, Event, Run, RunsMeet}
use Rattle.room_laws.specs.{Tidy.ContentIsTidy, WhoChanged.{IsHarmless, IsThere, NothingGained}}
use Rattle.room_laws.specs.WhoChanged.{RightsChangedInRun, SameRights}
use Rattle.room_store.specs.{Crash.{HoldsRoom, HoldsRoomAfter, IsRoomOf, LeavesWhole}, Leads.Leads}
use Rattle.store_runs.specs.Rights.{CrashGainsNothing, GainsNothing, GrantsChanges}
use Rattle.store_runs.{specs.Rights.IsHarmlessAsking, proofs.Rooms.{keeps, numbered, sound, tidy}}

and_one : (P : Event → Type 0) (events : List Event) (event : Event) → AllByRecursion P events
    → P event → AllByRecursion P (events ++ event ∷ [])
and_one P [] event all one = (one, tt)
and_one P (x ∷ events) event all one = (all.0, and_one P events event all.1 one)

pub of_all : (P : Asking → Type 0) (asked : List Asking) (asking : Asking) → AllByRecursion P asked
    → Has asked asking → P asking
of_all P [] asking all has = absurd has
of_all P (x ∷ asked) asking all (inl is) = subst P (sym is) all.0
of_all P (x ∷ asked) asking all (inr has) = of_all P asked asking all.1 has

module _ (tidies : ContentIsTidy) (contents : SoundIsContent) (path : List (List ℕ))
    (old new : State) where
  pub grants_changes : RightsChangedInRun → (events : List Event) → Leads old events new
      → GrantsChanges path old events new
  grants_changes changes events leads now room is =
      let it = leads.run now (sound room old is) room (keeps room old is) in (
        it.0,
        it.1,
        it.2,
        changes path room events it.0 (numbered room old.now is)
            (tidy tidies contents room old.now is) it.1,
      )

  module _ (gained : NothingGained) where
    pub gains_nothing : (events : List Event) → Leads old events new
        → GainsNothing path old events new
    gains_nothing events leads now room is there harmless =
        let it = leads.run now (sound room old is) room (keeps room old is) in
        let same = gained path room events it.0 (numbered room old.now is)
        (tidy tidies contents room old.now is) there it.1 harmless in
        (it.0, it.1, it.2, same.0, same.1)

    -- the rights in a room that a run has led to
    same_after : (room : Content) → IsRoomOf room old.now → IsThere room path
        → (events : List Event) → AllByRecursion (IsHarmless path room) events
        → (next : Content) → Run room events next → SameRights path room next
    same_after room is there events harmless next run =
        (gained path room events next (numbered room old.now is)
        (tidy tidies contents room old.now is) there run harmless).1

    pub crash_gains_nothing : RunsMeet → (asked : List Asking) (events : List Event)
        → LeavesWhole old asked events new → CrashGainsNothing path old asked events new
    crash_gains_nothing meet asked events whole now is_open lasts room is there harmless askings db
        left =
        let it = whole now (sound room old is) is_open lasts room (keeps room old is) in
        elim (it.2.2 db left) [
          | inl holds ↦ (it.0, holds, same_after room is there events harmless it.0 it.1)
          | inr more ↦ one_more it.0 it.1 it.2.0 it.2.1 more.1 more.2 more.3
        ]
      where
        one_more : (next : Content) → Run room events next → (more : Option Asking)
            → IfSome more (Has asked) → (asking : Asking) → more ≡ Some asking
            → HoldsRoomAfter next db asking
            → (left : Content) × HoldsRoom left db × SameRights path room left
        one_more next run more has asking is_more (reply, after, happens, holds) =
            let harmful = of_all (IsHarmlessAsking path room) asked asking askings
            (subst (λ (m : Option Asking). IfSome m (Has asked)) is_more has) in (
              after,
              holds,
              same_after room is there (events ++ asking reply ∷ [])
                  (and_one (IsHarmless path room) events (asking reply) harmless (harmful reply))
                  after
                  (meet room next after events (asking reply ∷ []) run (after, happens, refl)),
            )
