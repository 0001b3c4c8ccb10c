-- Calls of a store one after another, and what outlasts them: lemmas, which stand here because the
-- laws of the store as a desk are proved by them.
use Rattle.std.proofs.Common.{List, [], ◌∷◌, ◌++◌, Option, None, Some, IfSome, inl, inr}
use Rattle.std.proofs.Common.{refl, sym, subst, ◌∙◌, true≢false}
use Rattle.std.proofs.lemmas.Bool.{cases_Bool}
use Rattle.sqlite_rules.specs.Lists.{Has}
use Rattle.sqlite.specs.State.{State}
use Rattle.room_machine.specs.Run.{Asking, Event, RunsMeet}
use Rattle.room_store.specs.Crash.{IsOneMore, Outlasts}
use Rattle.room_store.specs.Leads.{Leads}
use Rattle.room_store.specs.Retained.{StillHolds}

pub itself : (s : State) → Leads s [] s
itself s =
    record { trusted = λ h. h; sound = λ _ h. h; run = λ _ _ room keeps. (room, refl, keeps) }

pub on : RunsMeet → (old mid new : State) (events others : List Event) → Leads old events mid
    → Leads mid others new → Leads old (events ++ others) new
on meet old mid new events others p q = record {
  trusted = λ now. p.trusted (q.trusted now);
  sound = λ now sound. q.sound now (p.sound (q.trusted now) sound);
  run = λ now sound room keeps.
      let one = p.run (q.trusted now) sound room keeps in
      let two = q.run now (p.sound (q.trusted now) sound) one.0 one.2 in
      (two.0, meet room one.0 two.0 events others one.1 two.1, two.2);
}

-- ---- the one thing more that may be there

has_front : {X : Type 0} (xs ys : List X) (x : X) → Has xs x → Has (xs ++ ys) x
has_front [] ys x has = absurd has
has_front (y ∷ xs) ys x (inl is) = inl is
has_front (y ∷ xs) ys x (inr has) = inr (has_front xs ys x has)

has_back : {X : Type 0} (xs ys : List X) (x : X) → Has ys x → Has (xs ++ ys) x
has_back [] ys x has = has
has_back (y ∷ xs) ys x has = inr (has_back xs ys x has)

one_in_front : (asked later : List Asking) (more : Option Asking) → IfSome more (Has asked)
    → IfSome more (Has (asked ++ later))
one_in_front asked later None has = tt
one_in_front asked later (Some happens) has = has_front asked later happens has

one_in_back : (asked later : List Asking) (more : Option Asking) → IfSome more (Has later)
    → IfSome more (Has (asked ++ later))
one_in_back asked later None has = tt
one_in_back asked later (Some happens) has = has_back asked later happens has

more_on : (old mid new : State) (asked later : List Asking) (before between after : Option Asking)
    → IsOneMore old asked mid before between → IsOneMore mid later new between after
    → IsOneMore old (asked ++ later) new before after
more_on old mid new asked later before between after p q = record {
  same = λ shut.
      let first = p.same shut in
      let last = q.same first.0 in
      (last.0, last.1 ∙ first.1);
  one = λ is_open shut.
      elim (cases_Bool mid.is_open) [
        | inl is ↦ one_in_back asked later after (q.one is shut)
        | inr is ↦
            subst (λ (more : Option Asking). IfSome more (Has (asked ++ later)))
            (sym (q.same is).1)
            (one_in_front asked later between (p.one is_open is))
      ];
}

-- ---- calls

pub together : RunsMeet → (old mid new : State) (asked asked' : List Asking)
    (events events' : List Event) → Outlasts old asked events mid → Outlasts mid asked' events' new
    → Outlasts old (asked ++ asked') (events ++ events') new
together meet old mid new asked asked' events events' p q = record {
  leads = on meet old mid new events events' p.leads q.leads;
  leaves = λ now sound room keeps before leaves.
      let now' = q.leads.trusted now in
      let one = p.leaves now' sound room keeps before leaves in
      let two = q.leaves now (p.leads.sound now' sound) one.0 one.2 one.3 one.5 in (
        two.0,
        meet room one.0 two.0 events events' one.1 two.1,
        two.2,
        two.3,
        more_on old mid new asked asked' before one.3 two.3 one.4 two.4,
        two.5,
      );
}

pub nothing_tried : (s : State) → Outlasts s [] [] s
nothing_tried s = record {
  leads = itself s;
  leaves = λ _ _ room keeps before leaves. (
    room,
    refl,
    keeps,
    before,
    record {
      same = λ shut. (shut, refl);
      one = λ is_open shut. absurd (true≢false (sym is_open ∙ shut));
    },
    leaves,
  );
}

-- ---- what is retained

pub still_itself : (s : State) → StillHolds s s
still_itself s now = (now, λ before holds. holds)

pub still_on : (old mid new : State) → StillHolds old mid → StillHolds mid new
    → StillHolds old new
still_on old mid new p q now =
    let then = q now in
    let first = p then.0 in
    (first.0, λ before holds. then.1 before (first.1 before holds))
