-- Connections one after another, as what a desk did.
use Rattle.std.proofs.Common.{rules}
use Rattle.std.proofs.Common.{◌≡◌, ℕ, ℤ, ◌+◌, ◌≤◌, List, [], ◌∷◌, ◌++◌, length, map, Option, Some}
use Rattle.std.proofs.Common.{None, Result, Ok, Err, subst, sym, ap, refl, ◌∙◌, arith, append_assoc}
use Rattle.std.proofs.lemmas.{Grind.flat_map-append, List.{append-nil, length-append, map-append}}
use Rattle.std.proofs.lemmas.List.Elements.{All-append, All-nil, All-from_recursion}
use Rattle.room_machine.specs.{declared.desk.Desk.Ghosts, Desk.DeskLaws, Run.{Asking, Event}}
use Rattle.room_http.specs.declared.ended.{Cause.Cause, Ended.Ended, ServeFault.ServeFault}
use Rattle.room_http.specs.Serve.{Next, Serves, Stops, next_asking, next_exchange, seen}
use Rattle.room_http.specs.Stream.{DeskRuns, Last, last_asking, last_exchange}
use Rattle.cli_listen.specs.{Peers.{Act, Adds, Wire, met_by, wire}, Visits.{Attends, IsServedVisit}}
use Rattle.cli_listen.specs.Visits.{Meeting, Receives, ReceivesAll, ReceivesOne, Sources, Visit}
use Rattle.cli_listen.specs.Visits.{acts_at, acts_of, asking_by, end_acts, failed_last, failed_next}
use Rattle.cli_listen.specs.Visits.{moment_of, requests_of, unanswered_of, until, visit_acts}
use Rattle.cli_listen.specs.Visits.{visit_events, visit_unanswered}
use Rattle.cli_listen.specs.declared.fault.ServingFault.{ServingFault}
use Rattle.room_http.proofs.{Runs.{done-then, nothing-done}, Telling.at-value}

-- what got no answer
last_unanswered : (moment : ℤ) (last : Last)
    → last_asking moment last ≡ asking_by moment (failed_last last)
last_unanswered moment Last.Clean = refl
last_unanswered moment Last.Cut = refl
last_unanswered moment (Last.Refused refusal) = refl
last_unanswered moment (Last.Closing x) = refl
last_unanswered moment (Last.Failed m) = refl

next_unanswered : (moment : ℤ) (next : Next)
    → next_asking moment next ≡ asking_by moment (failed_next next)
next_unanswered moment Next.Unknown = refl
next_unanswered moment (Next.Exchanging x close) = refl
next_unanswered moment (Next.Refusing refusal) = refl
next_unanswered moment (Next.Failing m) = refl

-- nothing more is told
pub no_more : {X : Type 0} (told : List X → Type 0) (before : List X) → told before
    → told (before ++ [])
no_more told before is = subst told (sym (append-nil before)) is

-- some is told, and then more
pub told_on : {X : Type 0} (told told' told'' : List X → Type 0) (one two both : List X)
    → both ≡ one ++ two → ((before : List X) → told before → told' (before ++ one))
    → ((before : List X) → told' before → told'' (before ++ two))
    → (before : List X) → told before → told'' (before ++ both)
told_on told told' told'' one two both whole first then before is =
    grind (arith, append_assoc, one, whole, then, is)

-- what an accept did, by what it answered
module _ {P E : Type 0} (result : Result (Option P) E) (did did' : List Act → Type 0)
    (bytes : P → Wire) where
  pub met_peer : (found : Option P) (peer : P) → result ≡ Ok found → found ≡ Some peer
      → Adds did did' (met_by result bytes) → Adds did did' (Act.Came (bytes peer) ∷ [])
  met_peer found peer is some met = grind (arith, at-value, peer, is, some, met)

  pub met_lost : (found : Option P) → result ≡ Ok found → found ≡ None
      → Adds did did' (met_by result bytes) → Adds did did' (Act.Lost ∷ [])
  met_lost found is none met = grind (arith, at-value, is, none, met)

  pub met_fault : (fault : E) → result ≡ Err fault → Adds did did' (met_by result bytes)
      → Adds did (λ acts. did' (acts ++ Act.Failed ∷ [])) []
  met_fault fault is met = search (rules, is, met, no_more)

module _ {D : Type 0} (d : Ghosts D) (laws : DeskLaws d.Outlasts) where
  -- the same requests, however they are listed
  pub alike : (old new : D) (asked asked' : List Asking) (events events' : List Event)
      → asked ≡ asked' → events ≡ events' → DeskRuns d old asked events new
      → DeskRuns d old asked' events' new
  alike old new asked asked' events events' a e did = grind (arith, old, new, e, a, did)

  -- no connection came
  unfoldable pub nobody : (count : ℕ) (from to : Sources) (desk : D)
      → ((before : List ℤ) → from.told before → to.told (before ++ [])) → Adds from.did to.did []
      → Receives d count from to desk desk
  nobody count from to desk moments acts = record {
    visits = [];
    few = omega arith;
    each = All-nil IsServedVisit;
    moments = moments;
    acts = acts;
    did = nothing-done d laws desk;
  }

  -- more connections might have come
  unfoldable pub fewer : (less count : ℕ) (from to : Sources) (old new : D) → less ≤ count
      → Receives d less from to old new → Receives d count from to old new
  fewer less count from to old new h given = record {
    visits = given.visits;
    few = let few = given.few in omega arith;
    each = given.each;
    moments = given.moments;
    acts = given.acts;
    did = given.did;
  }

  -- and the listener did nothing at the end
  unfoldable pub at_end : (count : ℕ) (from to : Sources) (old new : D)
      (end : Result (Unit {0}) ServingFault) → end_acts end ≡ []
      → Receives d count from to old new → Receives d count from (until end to) old new
  at_end count from to old new end none given = record {
    visits = given.visits;
    few = given.few;
    each = given.each;
    moments = given.moments;
    acts = λ before is.
        let all = before ++ acts_of given.visits in
        subst (λ (last : List Act). to.did (all ++ last)) (sym none)
        (no_more to.did all (given.acts before is));
    did = given.did;
  }

  -- some connections came, and then others
  unfoldable pub others : (some more : ℕ) (from via to : Sources) (old mid new : D)
      → Receives d some from via old mid → Receives d more via to mid new
      → Receives d (some + more) from to old new
  others some more from via to old mid new first then = record {
    visits = first.visits ++ then.visits;
    few = let a = first.few in let b = then.few in
        omega (arith, length-append first.visits then.visits);
    each = All-append IsServedVisit first.visits then.visits first.each then.each;
    moments =
        told_on from.told via.told to.told (map moment_of first.visits)
        (map moment_of then.visits) _ (map-append moment_of first.visits then.visits)
        first.moments then.moments;
    acts =
        told_on from.did via.did to.did (acts_of first.visits) (acts_of then.visits) _
        (flat_map-append visit_acts first.visits then.visits) first.acts then.acts;
    did =
        alike old new _ _ _ _ (sym (flat_map-append visit_unanswered first.visits then.visits))
        (sym (flat_map-append visit_events first.visits then.visits))
        (done-then d laws old mid new (unanswered_of first.visits) (unanswered_of then.visits)
        (requests_of first.visits) (requests_of then.visits) first.did then.did);
  }

  -- none of them is missing
  unfoldable pub none : (from : Sources) (desk : D) → ReceivesAll d 0 from from desk desk
  unfolding nobody
  none from desk = (nobody 0 from from desk (no_more from.told) (no_more from.did), refl)

  unfoldable pub one_more : (some : ℕ) (from via to : Sources) (old mid new : D)
      (fault : Option Cause)
      → ReceivesAll d some from via old mid → ReceivesOne d fault via to mid new
      → ReceivesAll d (some + 1) from to old new
  unfolding others
  one_more some from via to old mid new fault first then = (
    others some 1 from via to old mid new first.0 then.receives,
    let one = ap length then.only in
        omega (arith, length-append first.0.visits then.receives.visits, first.1, one),
  )

  -- one connection was served
  pub ended : {z : ℤ} {left sent left' sent' : Option (List ℕ)} (moment : ℤ) (old new : D)
      (how : Ended) → z ≡ moment
      → Serves d z (seen left sent old) (seen left' sent' new) how
      → Attends d moment (Meeting.Met (wire left sent) (wire left' sent')) None old new
  ended {z} {left} {sent} {left'} {sent'} moment old new how same s =
      let visit : Visit = record {
        moment = z;
        meeting = Meeting.Met (wire left sent) (wire left' sent');
        fault = None;
        exchanges = s.exchanges ++ last_exchange s.last;
        failed = failed_last s.last;
      } in
      record {
        visit = visit;
        same_moment = same;
        met = refl;
        ended = refl;
        is = search (rules, s.talks);
        did = alike old new _ _ _ _ (last_unanswered z s.last) refl s.did;
      }

  -- up to a fault
  pub stopped : {z : ℤ} {left sent left' sent' : Option (List ℕ)} (moment : ℤ) (old new : D)
      (fault : ServeFault) → z ≡ moment
      → Stops d z (seen left sent old) (seen left' sent' new) fault
      → Attends d moment (Meeting.Met (wire left sent) (wire left' sent')) (Some fault.cause)
      old new
  stopped {z} {left} {sent} {left'} {sent'} moment old new fault same s =
      let connects = s.connects in
      let visit : Visit = record {
        moment = z;
        meeting = Meeting.Met (wire left sent) (wire left' sent');
        fault = Some fault.cause;
        exchanges = connects.exchanges ++ next_exchange connects.next;
        failed = failed_next connects.next;
      } in
      record {
        visit = visit;
        same_moment = same;
        met = refl;
        ended = refl;
        is = record {
          before = connects.exchanges;
          next = connects.next;
          talks = connects.talks;
          cause_is = s.cause;
          whole = refl;
          failed_is = refl;
        };
        did = alike old new _ _ _ _ (next_unanswered z connects.next) refl connects.did;
      }

  -- a connection was lost, and the desk wasn't asked
  pub lost : (moment : ℤ) (desk : D) → Attends d moment Meeting.Lost (Some Cause.Read) desk desk
  lost moment desk = record {
    visit = record {
      moment = moment;
      meeting = Meeting.Lost;
      fault = Some Cause.Read;
      exchanges = [];
      failed = None;
    };
    same_moment = refl;
    met = refl;
    ended = refl;
    is = (refl, refl, refl);
    did = nothing-done d laws desk;
  }

  -- and its moment was told, and the listener did this at it
  pub one : (moment : ℤ) (meeting : Meeting) (fault : Option Cause) (from to : Sources)
      (old new : D) → ((before : List ℤ) → from.told before → to.told (before ++ moment ∷ []))
      → Adds from.did to.did (acts_at meeting) → Attends d moment meeting fault old new
      → ReceivesOne d fault from to old new
  one moment meeting fault from to old new tells acts a =
      let here : acts_at meeting ≡ acts_of (a.visit ∷ []) =
      ap acts_at (sym a.met) ∙ sym (append-nil (visit_acts a.visit)) in
      record {
        receives = record {
          visits = a.visit ∷ [];
          few = omega arith;
          each = All-from_recursion IsServedVisit (a.visit ∷ []) (a.is, tt);
          moments = search (rules, a.same_moment, tells);
          acts = subst (λ (done : List Act). Adds from.did to.did done) here acts;
          did = search (rules, alike, append-nil, a.did);
        };
        visit = a.visit;
        only = refl;
        ended = a.ended;
      }

  -- and then the desk was asked whether it is shut
  pub rested : (fault : Option Cause) (from to : Sources) (old mid new : D)
      → ReceivesOne d fault from to old mid → DeskRuns d mid [] [] new
      → ReceivesOne d fault from to old new
  rested fault from to old mid new first rests =
      let r = first.receives in
      record {
        receives = record {
          visits = r.visits;
          few = r.few;
          each = r.each;
          moments = r.moments;
          acts = r.acts;
          did = grind (arith, alike, old, new, append-nil, r.visits, done-then, mid, r.did, rests);
        };
        visit = first.visit;
        only = first.only;
        ended = first.ended;
      }
