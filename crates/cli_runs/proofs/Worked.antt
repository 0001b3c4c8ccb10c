-- Worked examples that use the laws of serving: two servers on the rooms of `room_laws`, in which
-- alice works behind the folder meanwhile. Eve gets the same bytes, and bob keeps his rights.
use Rattle.std.proofs.Common.{◌≡◌, ◌⊎◌, ℕ, ℤ, List, [], ◌∷◌, ◌++◌, Option, Some, None, Ok, Err, IsTrue}
use Rattle.std.proofs.Common.{IsSome, inl, inr, refl, sym, ap, subst, ◌∙◌, codes}
use Rattle.sqlite_rules.specs.Lists.{Has}
use Rattle.sqlite.specs.{State.{State, HasCleanDisk}, Tree.Trees}
use Rattle.room_rows.specs.Content.{Content}
use Rattle.room_machine.specs.Run.{Asked, Event, Happens, Run}
use Rattle.room_machine.specs.declared.{reply.Reply.Reply, request.Request.Request}
use Rattle.room_machine.specs.declared.request.Request.TheVariants.{Read, Put, List as ListFolder}
use Rattle.room_machine.proofs.Worked.Worlds.{alice}
use Rattle.room_laws.specs.{Outside.{Barred, SameOutside}, Twins.{InBoth, Turn, front_at_end}}
use Rattle.room_laws.specs.WhoChanged.{Changes, IsFrom, IsHarmless, IsThere, Makes, SameRights}
use Rattle.room_laws.proofs.Worked.{alike, draft, eve, eve_is_harmless, front_at_the_end, is_behind}
use Rattle.room_laws.proofs.Worked.{memo, offer, one, other, plans, same_outside, turns}
use Rattle.room_laws.proofs.Worked.{unless_listed}
use Rattle.http_message.specs.declared.fault.HttpFault.{HttpFault}
use Rattle.room_http.specs.{Message.{Message, Parsed, asked}, Stream.Exchange}
use Rattle.room_store.specs.{Crash.{HoldsRoom, IsRoomOf}, Kept.Keeps}
use Rattle.cli_listen.specs.{Peers.Wire, Visits.{EndsTalk, Meeting, Visit, requests_of, unanswered_of}}
use Rattle.cli_runs.specs.Alike.{AreUnseen, Arrival, AskAlike, AtBoth, AtFirst, AtSecond, IsSameReply}
use Rattle.cli_runs.specs.Alike.{AreSame, Both, ServersAnswerAlike, ServersAnswerTheSame, front_then}
use Rattle.cli_runs.specs.{Alike.turns_of, Gains.ServingChangesByRight}
use Rattle.cli_runs.specs.Gains.{EachByRight, IsByRight, IsCarriedOut}
use Rattle.cli_runs.specs.Sent.{ExchangesAreBytes, IsNoRefusal}

abbrev pub told : Message → Reply → Exchange
told m reply = record { message = m; reply = Some reply }

-- a connection with these messages, each of which was answered
abbrev pub visit : ℤ → Meeting → List Exchange → Visit
visit moment meeting exchanges =
    record {
      moment = moment;
      meeting = meeting;
      fault = None;
      exchanges = exchanges;
      failed = None;
    }

-- ---- what is asked alike, of a folder in whatever folders

-- somebody who is barred asks to read something
a_barred_caller_asks_alike : (front : List (List ℕ)) (room : Content) (user : Option (List ℕ))
    (moment later : ℤ) (path : List (List ℕ)) (first second : Reply) → Barred room user front
    → AskAlike front room (InBoth user moment later (Read path) first second ∷ [])
a_barred_caller_asks_alike front room user moment later path first second barred next
    (mid, happens, is) = (
      ((λ no. absurd (let wrong : ⊥ = cc in wrong)), (λ reaches. barred)),
      tt,
    )

-- ---- alice works behind the folder, and eve asks the same of both servers

module _ (m0 m1 m2 m3 m4 m5 : Message) (t u v w y z : ℤ) (r s l a b p q : Reply)
    (refusal : HttpFault) (x0 y0 : Option Reply) (is0 : asked m0 ≡ Err refusal)
    (is1 : asked m1 ≡ Ok (Some eve, Read offer)) (is2 : asked m2 ≡ Ok (Some alice, Read offer))
    (is3 : asked m3 ≡ Ok (Some alice, Put offer (codes "changed")))
    (is4 : asked m4 ≡ Ok (Some alice, ListFolder plans))
    (is5 : asked m5 ≡ Ok (Some eve, Put draft (codes "mine"))) where
  abbrev visits : Meeting → Meeting → Meeting → List Exchange → List Visit
  visits hers between last more =
      visit u hers (record { message = m0; reply = x0 } ∷ told m1 a ∷ [])
      ∷ visit t between (told m2 r ∷ told m3 s ∷ [])
      ∷ record (visit w last (told m5 p ∷ more)) { failed = Some m3 } ∷ []

  abbrev others : Meeting → Meeting → Meeting → List Visit
  others hers between last =
      visit v hers (record { message = m0; reply = y0 } ∷ told m1 b ∷ [])
      ∷ visit y between (told m4 l ∷ [])
      ∷ visit z last (told m5 q ∷ []) ∷ []

  abbrev arrivals : List Arrival
  arrivals =
      AtBoth u v m0 x0 y0 ∷ AtBoth u v m1 (Some a) (Some b) ∷ AtFirst (t, told m2 r) ∷ AtFirst (t, told m3 s)
      ∷ AtSecond (y, told m4 l) ∷ AtBoth w z m5 (Some p) (Some q) ∷ []

  turns_are : turns_of arrivals ≡ turns t u v w y z r s l a b p q
  turns_are = rw (is0, is1, is2, is3, is4, is5) refl

  they_ask_alike : AskAlike plans one (turns_of arrivals)
  they_ask_alike =
      subst (λ (ts : List Turn). AskAlike plans one ts) (sym turns_are)
      (alike t u v w y z r s l a b p q)

  same_reply : (front : List (List ℕ)) (m : Parsed) (user : Option (List ℕ)) (request : Request)
      (x x' : Reply) → m ≡ Ok (user, request) → (request ≡ ListFolder front → ⊥)
      → IsSameReply front m (Some x) (Some x') → x ≡ x'
  same_reply front m user request x x' is isnt same =
      unless_listed front request x x' isnt
      (subst (λ (n : Parsed). IsSameReply front n (Some x) (Some x')) is same)

  the_front_stays : front_at_end plans (turns_of arrivals) ≡ plans
  the_front_stays =
      ap (front_at_end plans) turns_are ∙ front_at_the_end t u v w y z r s l a b p q

  module _ (before new before' new' : State) (k k' k'' n n' n'' : Meeting)
      (clean : HasCleanDisk new) (clear : HasCleanDisk new') (first : IsRoomOf one before.now)
      (second : IsRoomOf other before'.now) where
    abbrev AnswerAlike : List Exchange → Type 0
    AnswerAlike more =
        ServersAnswerAlike plans before (visits k k' k'' more) new before' (others n n' n'') new'

    -- whatever anybody asks of the first server afterwards
    eve_gets_the_same : (whatever : Exchange) → AnswerAlike (whatever ∷ [])
        → (x0 ≡ y0) × (a ≡ b) × (p ≡ q)
    eve_gets_the_same whatever answers =
        let replies = (answers clean clear one other first second same_outside arrivals
        (AtFirst (w, whatever) ∷ []) (record { first = refl; second = refl }) they_ask_alike).0 in (
          subst (λ (m : Parsed). IsSameReply plans m x0 y0) is0 replies.0,
          same_reply (front_then plans (asked m0) x0) (asked m1) (Some eve) (Read offer) a b is1
              (λ is. let wrong : ⊥ = cc in wrong) replies.1.0,
          same_reply _ (asked m5) (Some eve) (Put draft (codes "mine")) p q is5
              (λ is. let wrong : ⊥ = cc in wrong) replies.1.1.0,
        )

    the_rooms_stay_alike : AnswerAlike []
        → (c d : Content) × Keeps new c × Keeps new' d × SameOutside plans c d
    the_rooms_stay_alike answers =
        let it = ((answers clean clear one other first second same_outside arrivals []
        (record { first = refl; second = refl }) they_ask_alike).1 refl).0 in (
          it.0,
          it.1,
          it.4,
          it.5,
          subst (λ (f : List (List ℕ)). SameOutside f it.0 it.1) the_front_stays it.6,
        )

    -- alice's last message got no answer, and may have been carried out
    unanswered_are : unanswered_of (visits k k' k'' [])
        ≡ Asked (Some alice) w (Put offer (codes "changed")) ∷ []
    unanswered_are = rw (is3) refl

    and_so_after_a_crash : AnswerAlike [] → IsTrue before.is_open → IsTrue before'.is_open
        → (db db' : Trees) → new.may_leave db → new'.may_leave db'
        → (c d : Content) × HoldsRoom c db × HoldsRoom d db' × SameOutside plans c d
    and_so_after_a_crash answers is_open open_too db db' may may' =
        let asked_behind = subst (AreUnseen plans) (sym unanswered_are)
        ((λ reply. inl (is_behind, is_behind)), tt) in
        let it = ((answers clean clear one other first second same_outside arrivals []
        (record { first = refl; second = refl }) they_ask_alike).1 refl).1 is_open open_too
        (subst (λ (f : List (List ℕ)). AreUnseen f (unanswered_of (visits k k' k'' [])))
        (sym the_front_stays) asked_behind) tt db db' may may' in (
          it.0,
          it.1,
          it.2,
          it.3,
          subst (λ (f : List (List ℕ)). SameOutside f it.0 it.1) the_front_stays it.4,
        )

-- the same reply to a message that is alone on its connection is the same bytes
the_same_bytes : (m : Message) (a b : Reply) → a ≡ b → ExchangesAreBytes
    → (had has had' has' : Wire) (first : EndsTalk had has (told m a ∷ []) None)
    (second : EndsTalk had' has' (told m b ∷ []) None) → IsNoRefusal first.last
    → IsNoRefusal second.last → IsSome had.sent → had.sent ≡ had'.sent → has.sent ≡ has'.sent
the_same_bytes m a b same bytes had has had' has' first =
    subst (λ (x : Reply). (second : EndsTalk had' has' (told m x ∷ []) None)
    → IsNoRefusal first.last → IsNoRefusal second.last → IsSome had.sent
    → had.sent ≡ had'.sent → has.sent ≡ has'.sent) same
    (λ second calm still known before.
    bytes had has had' has' (told m a ∷ []) first second calm still known before)

-- ---- a server that is ended

-- Both servers answered a message of whatever, and the second was ended then.
module _ (m : Message) (t w : ℤ) (x y : Option Reply) (k k' : Meeting)
    (old new before after : State) (clean : HasCleanDisk new) (clear : HasCleanDisk after)
    (room : Content) (is : IsRoomOf room old.now) (is' : IsRoomOf room before.now) where
  abbrev begins : List Exchange → List Visit
  begins more = visit t k (record { message = m; reply = x } ∷ more) ∷ []

  abbrev ends : List Visit
  ends = visit w k' (record { message = m; reply = y } ∷ []) ∷ []

  abbrev answered : List Both
  answered =
      record {
        moment = t;
        later = w;
        message = m;
        first = x;
        second = y;
      } ∷ []

  -- whatever the first answered later, the second keeps the room that the first one had
  the_ended_one_did_the_same : (whatever : Exchange)
      → ServersAnswerTheSame old (begins (whatever ∷ [])) new before ends after
      → (x ≡ y) × ((mid end : Content) × AreSame mid end × Keeps after end)
  the_ended_one_did_the_same whatever answers =
      let it = answers clean clear room is is' answered ((t, whatever) ∷ []) [] refl refl in
      (it.0.0, (it.1.0, it.1.1, it.1.4, it.1.6 refl))

  if_both_are_ended_they_keep_the_same : ServersAnswerTheSame old (begins []) new before ends after
      → (mid end : Content) × AreSame mid end × Keeps new mid × Keeps after end
  if_both_are_ended_they_keep_the_same answers =
      let it = answers clean clear room is is' answered [] [] refl refl in
      (it.1.0, it.1.1, it.1.4, it.1.5 refl, it.1.6 refl)

-- ---- whose rights stay

-- what alice puts behind the folder changes nobody's rights at the memo or above it
pub uploads_alter_nothing : (room next : Content) (moment : ℤ) (bytes : List ℕ) (reply : Reply)
    (at : List (List ℕ)) → IsFrom at memo
    → IsByRight at room (Asked (Some alice) moment (Put draft bytes) reply) next
    → SameRights at room next
uploads_alter_nothing room next moment bytes reply at (rest, is_from) by_right =
    on by_right.entitled
  where
    on : SameRights at room next
        ⊎ (Changes at room (Asked (Some alice) moment (Put draft bytes) reply)
        ⊎ Makes at room (Asked (Some alice) moment (Put draft bytes) reply))
        → SameRights at room next
    on (inl same) = same
    on (inr (inl changes)) = absurd changes
    on (inr (inr makes)) =
        let is : memo ≡ draft ++ rest =
        is_from ∙ ap (λ (path : List (List ℕ)). path ++ rest) makes.0 in
        absurd (let wrong : ⊥ = cc in wrong)

pub both_the_same : (a b c : Content) → SameRights memo a b → SameRights memo b c → SameRights memo a c
both_the_same a b c one two =
    record {
      rights = λ user. one.rights user ∙ two.rights user;
      removal = λ user. one.removal user ∙ two.removal user;
    }

-- Alice, who may do all, puts a draft behind the folder, and then eve asks for whatever. At another
-- draft of alice's the desk failed.
module _ (moment : ℤ) (m1 m2 failed : Message) (bytes more : List ℕ) (request : Request)
    (r s : Reply) (puts : asked m1 ≡ Ok (Some alice, Put draft bytes))
    (asks : asked m2 ≡ Ok (Some eve, request))
    (puts_too : asked failed ≡ Ok (Some alice, Put draft more)) where
  abbrev served : Meeting → Visit
  served meeting =
      record (visit moment meeting (told m1 r ∷ told m2 s ∷ [])) { failed = Some failed }

  abbrev upload : Event
  upload = Asked (Some alice) moment (Put draft bytes) r

  abbrev whatever : Event
  whatever = Asked (Some eve) moment request s

  requests_are : (meeting : Meeting)
      → requests_of (served meeting ∷ []) ≡ upload ∷ whatever ∷ []
  requests_are meeting = rw (puts, asks) refl

  module _ (mid : Content) (by_right : (path : List (List ℕ)) → IsByRight path one upload mid)
    where
      it_stays : IsThere mid memo
      it_stays = on ((by_right memo).stays refl)
        where
          on : IsThere mid memo ⊎ Changes memo one upload → IsThere mid memo
          on (inl there) = there
          on (inr changes) = absurd changes

      -- eve may still change nothing there
      still_harmless : IsHarmless memo mid whatever
      still_harmless at from =
          let may_not = eve_is_harmless moment request s at from in
          let same = uploads_alter_nothing one mid moment bytes r at from (by_right at) in (
            (λ it. may_not.0 (cc (same.rights (Some eve), it))),
            (λ it. may_not.1 (cc (same.rights (Some eve), it))),
            (λ it. may_not.2 (same.removal (Some eve) ∙ it)),
          )

  rights_are_kept : (next : Content) (run : Run one (upload ∷ whatever ∷ []) next)
      → EachByRight (upload ∷ whatever ∷ []) one next run → SameRights memo one next
  rights_are_kept next (mid, happens, (then, happens_then, is)) (alices, (eves, none)) =
      subst (λ (c : Content). SameRights memo one c) (sym is)
      (both_the_same one mid then
      (uploads_alter_nothing one mid moment bytes r memo ([], refl) (alices memo))
      ((eves memo).harmless (it_stays mid alices) (still_harmless mid alices)))

  -- the message that got no answer, if it was carried out
  abbrev IsOneMore : Content → Content → Type 0
  IsOneMore room left = (reply : Reply)
      × Happens room (Asked (Some alice) moment (Put draft more) reply) left
      × SameRights memo room left

  one_more : (meeting : Meeting) (room left : Content)
      → IsCarriedOut (served meeting ∷ []) room left → IsOneMore room left
  one_more meeting room left one = on one.is_visit
    where
      on : Has (served meeting ∷ []) one.visit → IsOneMore room left
      on (inl same) =
          let it : Some failed ≡ Some one.message =
          ap (λ (v : Visit). v.failed) (sym same) ∙ one.failed in
          let message : failed ≡ one.message = cc in
          let at : one.visit.moment ≡ moment = ap (λ (v : Visit). v.moment) same in
          let asks_it : asked failed ≡ Ok (one.user, one.request) = ap asked message ∙ one.asks in
          let calls : (Some alice, Put draft more) ≡ (one.user, one.request) = cc in
          let happened = subst (λ (t : ℤ). Happens room
          (Asked one.user t one.request one.reply) left) at one.happens in
          let entitled = subst (λ (t : ℤ). IsByRight memo room
          (Asked one.user t one.request one.reply) left) at (one.by_right memo) in (
            one.reply,
            subst (λ (call : Option (List ℕ) × Request). Happens room
                (Asked call.0 moment call.1 one.reply) left) (sym calls) happened,
            uploads_alter_nothing room left moment more one.reply memo ([], refl)
                (subst (λ (call : Option (List ℕ) × Request). IsByRight memo room
                (Asked call.0 moment call.1 one.reply) left) (sym calls) entitled),
          )
      on (inr none) = absurd none

  module _ (meeting : Meeting) (old new : State) (clean : HasCleanDisk new)
      (is : IsRoomOf one old.now) (changes : ServingChangesByRight old (served meeting ∷ []) new)
    where
      bob_keeps_his_rights : (next : Content) × Keeps new next × SameRights memo one next
      bob_keeps_his_rights =
          let it = (changes clean one is).0 in
          let run = subst (λ (es : List Event). (run : Run one es it.0) × EachByRight es one it.0 run)
          (requests_are meeting) (it.1, it.3) in
          (it.0, it.2, rights_are_kept it.0 run.0 run.1)

      and_so_after_a_power_cut : IsTrue old.is_open → (db : Trees) → new.may_leave db
          → (left : Content) × HoldsRoom left db × SameRights memo one left
      and_so_after_a_power_cut is_open db may =
          let it = (changes clean one is).1 is_open in
          let run = subst (λ (es : List Event). (run : Run one es it.0) × EachByRight es one it.0 run)
          (requests_are meeting) (it.1, it.2) in
          let kept = rights_are_kept it.0 run.0 run.1 in
          let left = it.3 db may in (left.0, left.1, on it.0 left.0 kept left.2)
        where
          on : (next left : Content) → SameRights memo one next
              → (left ≡ next) ⊎ IsCarriedOut (served meeting ∷ []) next left
              → SameRights memo one left
          on next left kept (inl same) = subst (λ (c : Content). SameRights memo one c) (sym same) kept
          on next left kept (inr carried) =
              both_the_same one next left kept (one_more meeting next left carried).2
