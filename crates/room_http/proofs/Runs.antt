-- What a desk did from one state to another, in one part after the other.
use Rattle.std.proofs.{Common.{ℤ, List, [], ◌++◌, subst, sym, arith}, lemmas.Grind.flat_map-append}
use Rattle.std.proofs.lemmas.Bool.Decides.{nat_tests}
use Rattle.room_rows.specs.Content.{Content}
use Rattle.room_machine.specs.{declared.desk.Desk.Ghosts, Desk.DeskLaws, Run.{Asking, Event}}
use Rattle.room_http.specs.Stream.{DeskRuns, Exchange, event_at, events_by, Runs}
use Rattle.room_machine.proofs.Meeting.{closed_meet, closed_still, meet}

Runs-then : (old mid new : Content → Type 0) (events others : List Event)
    → Runs old events mid → Runs mid others new → Runs old (events ++ others) new
Runs-then old mid new events others first then room is = grind (arith, nat_tests, meet)

module _ {D : Type 0} (d : Ghosts D) (laws : DeskLaws d.Outlasts) where
  pub nothing-done : (desk : D) → DeskRuns d desk [] [] desk
  nothing-done desk = grind (arith, nat_tests, closed_still)

  module _ (old mid new : D) where
    pub done-then : (asked later : List Asking) (events others : List Event)
        → DeskRuns d old asked events mid → DeskRuns d mid later others new
        → DeskRuns d old (asked ++ later) (events ++ others) new
    done-then asked later events others first then = record {
      trusted = λ t. first.trusted (then.trusted t);
      sound = λ t s. then.sound t (first.sound (then.trusted t) s);
      run = λ t s.
          Runs-then (d.content old) (d.content mid) (d.content new) events others
          (first.run (then.trusted t) s) (then.run t (first.sound (then.trusted t) s));
      closed = λ t.
          closed_meet (d.stored old) (d.stored mid) (d.stored new) events others
          (first.closed (then.trusted t)) (then.closed t);
      outlasts = laws.on old mid new asked later events others first.outlasts then.outlasts;
    }

    -- of two parts of a connection, of which only the second may have a request without an answer
    pub exchanged-then : (moment : ℤ) (xs ys : List Exchange) (asked : List Asking)
        → DeskRuns d old [] (events_by moment xs) mid
        → DeskRuns d mid asked (events_by moment ys) new
        → DeskRuns d old asked (events_by moment (xs ++ ys)) new
    exchanged-then moment xs ys asked first then =
        subst (λ (events : List Event). DeskRuns d old asked events new)
        (sym (flat_map-append (event_at moment) xs ys))
        (done-then [] asked (events_by moment xs) (events_by moment ys) first then)
