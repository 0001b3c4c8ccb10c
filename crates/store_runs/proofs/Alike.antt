-- Two stores in which the same is asked have runs that are alike.
use Rattle.std.proofs.Common.{ℕ, List, [], ◌∷◌, refl, subst}
use Rattle.sqlite.specs.{Held.Held, State.{State, HasCleanDisk}}
use Rattle.room_rows.specs.Content.{Content}
use Rattle.room_inherit.specs.Laws.{SoundIsContent}
use Rattle.room_machine.specs.Run.{Asked, Replaced, Run, WasReset}
use Rattle.room_laws.specs.{Laws.front_after, Tidy.ContentIsTidy, Twins.{AreAlike, InBoth}}
use Rattle.room_laws.specs.Twins.{InBothReplaced, InBothReset, InFirst, InSecond, Turn, Unseen}
use Rattle.room_laws.specs.Twins.{first_events, front_by, second_events}
use Rattle.room_store.{specs.{Kept.{IsSound, Keeps}, Leads.Leads}, proofs.Leading.one_step}
use Rattle.store_runs.specs.Alike.{AnswerAlike, Beside, LiveAlike, first_at_end, second_at_end}
use Rattle.store_runs.{specs.Alike.turns_of, proofs.Rooms.{keeps, numbered, sound, tidy}}

-- calls by which nothing happened
no_step : (old new : State) → Leads old [] new → HasCleanDisk new → IsSound old → (room : Content)
    → Keeps old room → Keeps new room
no_step old new leads now good room kept =
    let it = leads.run now good room kept in
    subst (Keeps new) it.1 it.2

-- both runs, and what they lead to
abbrev BothRun : List (List ℕ) → List Turn → Content → Content → State → State → Type 0
BothRun front turns a b new later = (c d : Content) × (run : Run a (first_events turns) c)
    × Run b (second_events turns) d × AreAlike front turns a c run × Keeps new c × Keeps later d

module _ {S T : Type 0} (shown : Held S → State) (seen : Held T → State) where
  clean_first : (front : List (List ℕ)) (first : Held S) (second : Held T)
      (turns : List (Beside S T)) → LiveAlike shown seen front first second turns
      → HasCleanDisk (shown (first_at_end first turns)) → HasCleanDisk (shown first)
  clean_first front first second [] lives now = now
  clean_first front first second (turn ∷ turns) lives now =
      lives.0.trusted
      (clean_first (front_by front turn.0) turn.1 turn.2 turns lives.3 now)

  clean_second : (front : List (List ℕ)) (first : Held S) (second : Held T)
      (turns : List (Beside S T)) → LiveAlike shown seen front first second turns
      → HasCleanDisk (seen (second_at_end second turns)) → HasCleanDisk (seen second)
  clean_second front first second [] lives now = now
  clean_second front first second (turn ∷ turns) lives now =
      lives.1.trusted
      (clean_second (front_by front turn.0) turn.1 turn.2 turns lives.3 now)

  both_run : (front : List (List ℕ)) (first : Held S) (second : Held T)
      (turns : List (Beside S T)) → LiveAlike shown seen front first second turns
      → HasCleanDisk (shown (first_at_end first turns))
      → HasCleanDisk (seen (second_at_end second turns))
      → IsSound (shown first) → IsSound (seen second)
      → (a b : Content) → Keeps (shown first) a → Keeps (seen second) b
      → BothRun front (turns_of turns) a b (shown (first_at_end first turns))
      (seen (second_at_end second turns))
  both_run front first second [] lives now later good fine a b one two =
      (a, b, refl, refl, tt, one, two)
  both_run front first second ((InBoth user moment time request reply other, next, after) ∷ turns)
      lives now later good fine a b one two =
      let to = front_after front request reply in
      let clean = clean_first to next after turns lives.3 now in
      let clear = clean_second to next after turns lives.3 later in
      let s = one_step (shown first) (shown next) (Asked user moment request reply) lives.0 clean
      good a one in
      let t = one_step (seen second) (seen after) (Asked user time request other) lives.1 clear fine
      b two in
      let on = both_run to next after turns lives.3 now later (lives.0.sound clean good)
      (lives.1.sound clear fine) s.0 t.0 s.2 t.2 in (
        on.0,
        on.1,
        (s.0, s.1, on.2),
        (t.0, t.1, on.3),
        (lives.2 a one, on.4),
        on.5,
        on.6,
      )
  both_run front first second ((InBothReset path which sent reply other, next, after) ∷ turns)
      lives now later good fine a b one two =
      let clean = clean_first front next after turns lives.3 now in
      let clear = clean_second front next after turns lives.3 later in
      let s = one_step (shown first) (shown next) (WasReset path which sent reply) lives.0 clean
      good a one in
      let t = one_step (seen second) (seen after) (WasReset path which sent other) lives.1 clear
      fine b two in
      let on = both_run front next after turns lives.3 now later (lives.0.sound clean good)
      (lives.1.sound clear fine) s.0 t.0 s.2 t.2 in (
        on.0,
        on.1,
        (s.0, s.1, on.2),
        (t.0, t.1, on.3),
        (lives.2 a one, on.4),
        on.5,
        on.6,
      )
  both_run front first second ((InBothReplaced pairs, next, after) ∷ turns) lives now later good
      fine a b one two =
      let clean = clean_first front next after turns lives.3 now in
      let clear = clean_second front next after turns lives.3 later in
      let s = one_step (shown first) (shown next) (Replaced pairs) lives.0 clean good a one in
      let t = one_step (seen second) (seen after) (Replaced pairs) lives.1 clear fine b two in
      let on = both_run front next after turns lives.3 now later (lives.0.sound clean good)
      (lives.1.sound clear fine) s.0 t.0 s.2 t.2 in
      (on.0, on.1, (s.0, s.1, on.2), (t.0, t.1, on.3), on.4, on.5, on.6)
  both_run front first second ((InFirst event, next, after) ∷ turns) lives now later good fine a b
      one two =
      let clean = clean_first front next after turns lives.3 now in
      let clear = clean_second front next after turns lives.3 later in
      let s = one_step (shown first) (shown next) event lives.0 clean good a one in
      let on = both_run front next after turns lives.3 now later (lives.0.sound clean good)
      (lives.1.sound clear fine) s.0 b s.2
      (no_step (seen second) (seen after) lives.1 clear fine b two) in
      (on.0, on.1, (s.0, s.1, on.2), on.3, (lives.2 a one, on.4), on.5, on.6)
  both_run front first second ((InSecond event, next, after) ∷ turns) lives now later good fine a b
      one two =
      let clean = clean_first front next after turns lives.3 now in
      let clear = clean_second front next after turns lives.3 later in
      let t = one_step (seen second) (seen after) event lives.1 clear fine b two in
      let on = both_run front next after turns lives.3 now later (lives.0.sound clean good)
      (lives.1.sound clear fine) a t.0
      (no_step (shown first) (shown next) lives.0 clean good a one) t.2 in
      (on.0, on.1, on.2, (t.0, t.1, on.3), (lives.2 a one, on.4), on.5, on.6)

  pub answer_alike : ContentIsTidy → SoundIsContent → Unseen → (front : List (List ℕ))
      (first : Held S) (second : Held T) (turns : List (Beside S T))
      → LiveAlike shown seen front first second turns
      → AnswerAlike front (turns_of turns) (shown first) (seen second)
      (shown (first_at_end first turns)) (seen (second_at_end second turns))
  answer_alike tidies contents unseen front first second turns lives now later a b one two same =
      let old = shown first in
      let other = seen second in
      let it = both_run front first second turns lives now later (sound a old one)
      (sound b other two) a b (keeps a old one) (keeps b other two) in
      let answers = unseen front (turns_of turns) a b it.0 it.1 same
      (tidy tidies contents a old.now one) (tidy tidies contents b other.now two)
      (numbered a old.now one) (numbered b other.now two) it.2 it.3 it.4 in
      (answers.0, (it.0, it.1, it.2, it.3, it.5, it.6, answers.1))
