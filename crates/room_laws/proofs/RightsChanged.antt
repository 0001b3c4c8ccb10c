-- What changes rights, at any path.
use Rattle.std.proofs.Common.{ℕ, ℤ, ◌≡◌, ◌⊎◌, inl, inr, Bool, true, false, List, [], ◌∷◌, ◌++◌}
use Rattle.std.proofs.Common.{Option, Some, None, refl, sym, ap, ◌∙◌, arith}
use Rattle.std.{proofs.lemmas.Bool.{false≢true, Decides.nat_tests}, specs.Prelude.is_some}
use Rattle.room_rows.specs.Content.{Content}
use Rattle.room_machine.specs.{Run.{Event, Asked, WasReset, Replaced, Happens, Run}, Site.Site}
use Rattle.room_machine.specs.{Site.{site_at, sites_along}, declared.reply.Reply.Reply}
use Rattle.room_machine.specs.declared.request.Request.{Request}
use Rattle.room_laws.specs.{Outside.found, Tidy.{IsNumbered, IsTidy}, WhoChanged.{Changes, Makes}}
use Rattle.room_laws.specs.WhoChanged.{SameRights, SameBasis, RightsChangedBy, RightsChangedInRun}
use Rattle.room_laws.specs.WhoChanged.{FirstChange, FirstGranted, IsThere, RightsStay, is_quiet}
use Rattle.room_laws.proofs.{Behind.{target_found, numbers_stay}, Passing.none_at}
use Rattle.room_laws.proofs.{TidySteps.tidy_stays, Makes.{step_makes, reset_none}}
use Rattle.room_laws.proofs.{RightsFollow.rights_follow, WhoChanged.{changed_by, changed_in_run}}

none_there : (a : Content) (q : List (List ℕ)) → found a q ≡ None
    → site_at (sites_along a q) q ≡ None
none_there a q none = grind (arith, nat_tests, target_found)

-- nobody may do anything where nothing is
no_rights : (q : List (List ℕ)) (a b : Content) → site_at (sites_along a q) q ≡ None
    → site_at (sites_along b q) q ≡ None → SameRights q a b
no_rights q a b one two = grind (arith, nat_tests)

where_none : (q : List (List ℕ)) (a : Content) (event : Event) (after : Content) → IsNumbered a
    → IsTidy a → site_at (sites_along a q) q ≡ None → Happens a event after
    → SameRights q a after ⊎ (Changes q a event ⊎ Makes q a event)
where_none q a (Asked user moment request reply) after numbered tidy none s =
    grind (arith, nat_tests, no_rights, none_at, none_there, step_makes)
where_none q a (WasReset path which sent reply) after numbered tidy none s =
    inl (no_rights q a after none (none_there after q
    (reset_none q a numbered (none_at a q none) path which sent reply after s)))
where_none q a (Replaced pairs) after numbered tidy none s = inr (inl tt)

pub rights_changed_by : RightsChangedBy
rights_changed_by q a event after numbered tidy happens =
    on (site_at (sites_along a q) q) refl
  where
    by : SameBasis q a after ⊎ Changes q a event
        → SameRights q a after ⊎ (Changes q a event ⊎ Makes q a event)
    by (inl same) = inl (rights_follow q a after same)
    by (inr changes) = inr (inl changes)

    on : (o : Option Site) → site_at (sites_along a q) q ≡ o
        → SameRights q a after ⊎ (Changes q a event ⊎ Makes q a event)
    on None none = where_none q a event after numbered tidy none happens
    on (Some s) some = grind (arith, nat_tests, by, changed_by)

-- ---- requests that change nothing

quiet_same : (q : List (List ℕ)) (a after : Content) (user : Option (List ℕ)) (moment : ℤ)
    (request : Request) (reply : Reply) → is_quiet request ≡ true
    → SameRights q a after ⊎ (Changes q a (Asked user moment request reply)
    ⊎ Makes q a (Asked user moment request reply)) → SameRights q a after
quiet_same q a after user moment request reply quiet given = grind (arith, nat_tests)

pub rights_stay : RightsStay
rights_stay q a user moment request reply after numbered tidy quiet s =
    quiet_same q a after user moment request reply quiet
    (rights_changed_by q a (Asked user moment request reply) after numbered tidy s)

-- ---- runs

same_rights_itself : (q : List (List ℕ)) (a : Content) → SameRights q a a
same_rights_itself q a = record { rights = λ user. refl; removal = λ user. refl }

same_rights_on : (q : List (List ℕ)) (a b c : Content) → SameRights q a b → SameRights q b c
    → SameRights q a c
same_rights_on q a b c one two = grind (arith, nat_tests)

-- one of these events changed rights at the path, or put something there
abbrev IsGranted : List (List ℕ) → Content → List Event → Type 0
IsGranted q a events = (earlier later : List Event) × (event : Event) × (mid : Content)
    × (events ≡ earlier ++ event ∷ later) × Run a earlier mid × SameRights q a mid
    × (Changes q mid event ⊎ Makes q mid event)

first_or_later : (q : List (List ℕ)) (a mid after : Content) (event : Event) (events : List Event)
    → Happens a event mid → SameRights q a mid ⊎ (Changes q a event ⊎ Makes q a event)
    → (SameRights q mid after ⊎ IsGranted q mid events)
    → SameRights q a after ⊎ IsGranted q a (event ∷ events)
first_or_later q a mid after event events happens (inr changes) rest =
    inr ([], events, event, a, refl, refl, same_rights_itself q a, changes)
first_or_later q a mid after event events happens (inl same) (inl more) =
    inl (same_rights_on q a mid after same more)
first_or_later q a mid after event events happens (inl same)
    (inr (earlier, later, next, at, is, to, stood, changes)) =
    inr (
      event ∷ earlier,
      later,
      next,
      at,
      ap (λ (l : List Event). event ∷ l) is,
      (mid, happens, to),
      same_rights_on q a mid at same stood,
      changes,
    )

granted_in_run : (q : List (List ℕ)) (a : Content) (events : List Event) (after : Content)
    → IsNumbered a → IsTidy a → Run a events after → SameRights q a after ⊎ IsGranted q a events
granted_in_run q a [] after numbered tidy is = grind (arith, nat_tests, same_rights_itself)
granted_in_run q a (event ∷ events) after numbered tidy (mid, happens, run) =
    first_or_later q a mid after event events happens
    (rights_changed_by q a event mid numbered tidy happens)
    (granted_in_run q mid events after (numbers_stay a event mid numbered happens)
    (tidy_stays a event mid numbered tidy happens) run)

-- where something is at the path, and where nothing is
where_there : (q : List (List ℕ)) (a after : Content) (events : List Event)
    → SameBasis q a after ⊎ FirstChange q a events
    → SameRights q a after ⊎ FirstGranted q a events
where_there q a after events (inl same) = inl (rights_follow q a after same)
where_there q a after events (inr (earlier, later, event, mid, is, to, stood, changes)) =
    inr (earlier, later, event, mid, is, to, rights_follow q a mid stood, inl changes)

nothing_there : (q : List (List ℕ)) (a after : Content) (events : List Event)
    → (IsThere a q → ⊥) → SameRights q a after ⊎ IsGranted q a events
    → SameRights q a after ⊎ FirstGranted q a events
nothing_there q a after events none (inl same) = inl same
nothing_there q a after events none
    (inr (earlier, later, event, mid, is, to, stood, inl changes)) =
    inr (earlier, later, event, mid, is, to, stood, inl changes)
nothing_there q a after events none
    (inr (earlier, later, event, mid, is, to, stood, inr makes)) =
    inr (earlier, later, event, mid, is, to, stood, inr (none, makes))

pub rights_changed_in_run : RightsChangedInRun
rights_changed_in_run q a events after numbered tidy run =
    on (is_some (site_at (sites_along a q) q)) refl
  where
    on : (there : Bool) → is_some (site_at (sites_along a q) q) ≡ there
        → SameRights q a after ⊎ FirstGranted q a events
    on true there =
        where_there q a after events (changed_in_run q a events after numbered tidy there run)
    on false none =
        nothing_there q a after events (λ there. false≢true (sym none ∙ there))
        (granted_in_run q a events after numbered tidy run)
