-- Worked examples that use the laws over lists of calls: two stores with the rooms of `room_laws`,
-- in which alice works behind the folder meanwhile. Eve gets the same replies, and bob keeps his
-- rights.
use Rattle.std.proofs.Common.{◌≡◌, ◌⊎◌, ℕ, ℤ, List, [], ◌∷◌, Some, IsTrue, inl, inr, refl, sym}
use Rattle.std.proofs.Common.{subst, ◌∙◌, codes}
use Rattle.sqlite.specs.{Held.Held, State.{State, HasCleanDisk}, Tree.Trees}
use Rattle.room_rows.specs.Content.{Content}
use Rattle.room_machine.specs.{Run.{Event, Asked}, declared.reply.Reply.Reply}
use Rattle.room_machine.specs.declared.request.Request.{Request, TheVariants.{Read, Put}}
use Rattle.room_machine.proofs.Worked.Worlds.{alice}
use Rattle.room_laws.specs.{Outside.{SameOutside}, Twins.{InBoth, InFirst, IsAlike, Turn}}
use Rattle.room_laws.{specs.WhoChanged.{FirstGranted, SameRights}, proofs.Worked.{draft, eve}}
use Rattle.room_laws.proofs.Worked.{eve_is_harmless, memo, no_upload_alters, offer, one}
use Rattle.room_laws.proofs.Worked.{one_numbered, other, plans, same_outside, still_barred}
use Rattle.room_laws.proofs.{Worked.{unless_listed, front_stays, is_behind}, Quiet.stays_behind}
use Rattle.room_store.specs.{Crash.{HoldsRoom, IsRoomOf, Lasts}, Kept.Keeps, Leads.Leads}
use Rattle.store_runs.specs.Alike.{AnswerAlike, Beside, LiveAlike, turns_of}
use Rattle.store_runs.specs.Rights.{CrashGainsNothing, GainsNothing, GrantsChanges}
use Rattle.store_runs.proofs.Rooms.{keeps, sound}

-- a store to which no call is made
no_call : (s : State) → Leads s [] s
no_call s =
    record {
      trusted = λ now. now;
      sound = λ now good. good;
      run = λ now good room kept. (room, refl, kept);
    }

-- ---- alice changes the offer in the first store, and eve asks for it in both

module _ {S T : Type 0} (shown : Held S → State) (seen : Held T → State) (a0 a1 a2 : Held S)
    (b0 b1 : Held T) (t u v : ℤ) (s x y : Reply) where
  abbrev changes : Event
  changes = Asked (Some alice) t (Put offer (codes "changed")) s

  abbrev asks : Turn
  asks = InBoth (Some eve) u v (Read offer) x y

  abbrev calls : List (Beside S T)
  calls = (InFirst changes, a1, b0) ∷ (asks, a2, b1) ∷ []

  -- eve is barred in whatever room the first store keeps when she asks
  barred_then : Leads (shown a0) (changes ∷ []) (shown a1) → HasCleanDisk (shown a1)
      → IsTrue (shown a1).is_open → IsRoomOf one (shown a0).now → (room : Content)
      → Keeps (shown a1) room → IsAlike plans room asks
  barred_then leads clean is_open is room kept =
      let it = leads.run clean (sound one (shown a0) is) one (keeps one (shown a0) is) in
      let after = it.1 in
      let same = (stays_behind plans one changes after.0 one_numbered
      (inl (is_behind, is_behind)) after.1).0 in
      let is_room = sym after.2 ∙ sym (it.2 is_open) ∙ kept is_open in (
        (λ no. absurd (let wrong : ⊥ = cc in wrong)),
        (λ reaches. still_barred room (subst (SameOutside plans one) is_room same)),
      )

  they_live_alike : Leads (shown a0) (changes ∷ []) (shown a1)
      → Leads (shown a1) (Asked (Some eve) u (Read offer) x ∷ []) (shown a2)
      → Leads (seen b0) (Asked (Some eve) v (Read offer) y ∷ []) (seen b1)
      → HasCleanDisk (shown a1) → IsTrue (shown a1).is_open → IsRoomOf one (shown a0).now
      → LiveAlike shown seen plans a0 b0 calls
  they_live_alike leads more others clean is_open is = (
    leads,
    no_call (seen b0),
    (λ room kept. inl (is_behind, is_behind)),
    (more, others, barred_then leads clean is_open is, tt),
  )

  module _ (answer : AnswerAlike plans (turns_of calls) (shown a0) (seen b0) (shown a2) (seen b1))
      (clean : HasCleanDisk (shown a2)) (clear : HasCleanDisk (seen b1))
      (first : IsRoomOf one (shown a0).now) (second : IsRoomOf other (seen b0).now) where
    eve_gets_the_same : x ≡ y
    eve_gets_the_same =
        unless_listed plans (Read offer) x y (λ is. let wrong : ⊥ = cc in wrong)
        (answer clean clear one other first second same_outside).0.0

    the_rooms_stay_alike : (c d : Content) × Keeps (shown a2) c × Keeps (seen b1) d
        × SameOutside plans c d
    the_rooms_stay_alike =
        let it = (answer clean clear one other first second same_outside).1 in (
          it.0,
          it.1,
          it.4,
          it.5,
          subst (λ (f : List (List ℕ)). SameOutside f it.0 it.1)
              (front_stays plans (Read offer) x refl) it.6,
        )

-- ---- whose rights stay

module _ (old new : State) (clean : HasCleanDisk new) (is : IsRoomOf one old.now) (moment : ℤ)
    (reply : Reply) where
  abbrev KeepsRights : Type 0
  KeepsRights = (next : Content) × Keeps new next × SameRights memo one next

  -- though alice, who may do all, puts a document behind the folder
  bob_keeps_his_rights : (bytes : List ℕ)
      → GrantsChanges memo old (Asked (Some alice) moment (Put draft bytes) reply ∷ []) new
      → KeepsRights
  bob_keeps_his_rights bytes grants =
      let it = grants clean one is in
      (it.0, it.2, on it.0 it.3)
    where
      events : List Event
      events = Asked (Some alice) moment (Put draft bytes) reply ∷ []

      on : (next : Content) → SameRights memo one next ⊎ FirstGranted memo one events
          → SameRights memo one next
      on next (inl same) = same
      on next (inr first) = absurd (no_upload_alters moment bytes reply first)

  -- whatever eve asks for
  eve_gains_nothing : (request : Request)
      → GainsNothing memo old (Asked (Some eve) moment request reply ∷ []) new → KeepsRights
  eve_gains_nothing request gains =
      let it = gains clean one is refl (eve_is_harmless moment request reply, tt) in
      (it.0, it.2, it.4)

  nor_by_a_crash : (request : Request) → IsTrue old.is_open → Lasts old
      → CrashGainsNothing memo old (Asked (Some eve) moment request ∷ []) [] new
      → (db : Trees) → new.may_leave db
      → (left : Content) × HoldsRoom left db × SameRights memo one left
  nor_by_a_crash request is_open lasts gains db left =
      gains clean is_open lasts one is refl tt ((λ r. eve_is_harmless moment request r), tt) db left
