-- The law over runs: two rooms that live alike, but for what happens behind a folder.
use Rattle.std.specs.Prelude.{◌⊎◌, ◌≡◌, ℕ, ℤ, List, [], ◌∷◌, Option}
use Rattle.room_entry.specs.declared.object.Which.{Which}
use Rattle.room_ace.specs.Sent.{Sent}
use Rattle.room_rows.specs.Content.{Content}
use Rattle.room_machine.specs.Run.{Event, Asked, WasReset, Replaced, Run}
use Rattle.room_machine.specs.declared.reply.Reply.{Reply}
use Rattle.room_machine.specs.declared.request.Request.{Request}
use Rattle.room_machine.specs.declared.request.Request.TheVariants.{Remove}
use Rattle.room_laws.specs.Laws.{HappensUnseen, TellsNames, front_after}
use Rattle.room_laws.specs.Outside.{Barred, IsBehind, Reaches, SameOutside}
use Rattle.room_laws.specs.Tidy.{IsNumbered, IsTidy}

-- A request of one caller in both rooms, at a moment and with a reply in each, or a step of the
-- operator in both; or what happens in one of them alone.
pub data Turn : Type 0 where
  InBoth : Option (List ℕ) → ℤ → ℤ → Request → Reply → Reply → Turn
  InBothReset : List (List ℕ) → Which → Sent → Reply → Reply → Turn
  InBothReplaced : List (List ℕ × List ℕ) → Turn
  InFirst : Event → Turn
  InSecond : Event → Turn

-- What is asked of a turn, in the first room as it begins. What happens in one room alone is behind
-- the front. Of a request in both, the caller is barred if it reaches behind; and if it removes the
-- front, it does so in both or in neither.
abbrev pub IsAlike : List (List ℕ) → Content → Turn → Type 0
IsAlike front room (InBoth user moment later request first second) =
    (request ≡ Remove front → first ≡ second) × (Reaches front request → Barred room user front)
IsAlike front room (InBothReset path which sent first second) = IsBehind front path → ⊥
IsAlike front room (InBothReplaced pairs) = Unit {0}
IsAlike front room (InFirst event) = HappensUnseen front event
IsAlike front room (InSecond event) = HappensUnseen front event

-- where the front is after a turn: if a request moves it, the same is said of the new place
abbrev pub front_by : List (List ℕ) → Turn → List (List ℕ)
front_by front (InBoth user moment later request first second) = front_after front request first
front_by front turn = front

-- where the front is after these turns
abbrev pub front_at_end : List (List ℕ) → List Turn → List (List ℕ)
front_at_end front [] = front
front_at_end front (turn ∷ turns) = front_at_end (front_by front turn) turns

-- the same reply in both, but for the names in the front
abbrev pub AnswersAlike : List (List ℕ) → List Turn → Type 0
AnswersAlike front [] = Unit {0}
AnswersAlike front (InBoth user moment later request first second ∷ turns) =
    ((first ≡ second) ⊎ TellsNames front request first second)
    × AnswersAlike (front_after front request first) turns
AnswersAlike front (InBothReset path which sent first second ∷ turns) =
    (first ≡ second) × AnswersAlike front turns
AnswersAlike front (turn ∷ turns) = AnswersAlike front turns

-- what happened in the first room, and what in the second
abbrev pub first_events : List Turn → List Event
first_events [] = []
first_events (InBoth user moment later request first second ∷ turns) =
    Asked user moment request first ∷ first_events turns
first_events (InBothReset path which sent first second ∷ turns) =
    WasReset path which sent first ∷ first_events turns
first_events (InBothReplaced pairs ∷ turns) = Replaced pairs ∷ first_events turns
first_events (InFirst event ∷ turns) = event ∷ first_events turns
first_events (InSecond event ∷ turns) = first_events turns

abbrev pub second_events : List Turn → List Event
second_events [] = []
second_events (InBoth user moment later request first second ∷ turns) =
    Asked user later request second ∷ second_events turns
second_events (InBothReset path which sent first second ∷ turns) =
    WasReset path which sent second ∷ second_events turns
second_events (InBothReplaced pairs ∷ turns) = Replaced pairs ∷ second_events turns
second_events (InFirst event ∷ turns) = second_events turns
second_events (InSecond event ∷ turns) = event ∷ second_events turns

-- In this run of the first room each turn is so, of the room in which it begins.
abbrev pub AreAlike : (front : List (List ℕ)) (turns : List Turn) (a c : Content)
    → Run a (first_events turns) c → Type 0
AreAlike front [] a c run = Unit {0}
AreAlike front (InBoth user moment later request first second ∷ turns) a c (mid, happens, run) =
    IsAlike front a (InBoth user moment later request first second)
    × AreAlike (front_after front request first) turns mid c run
AreAlike front (InBothReset path which sent first second ∷ turns) a c (mid, happens, run) =
    IsAlike front a (InBothReset path which sent first second)
    × AreAlike front turns mid c run
AreAlike front (InBothReplaced pairs ∷ turns) a c (mid, happens, run) =
    AreAlike front turns mid c run
AreAlike front (InFirst event ∷ turns) a c (mid, happens, run) =
    IsAlike front a (InFirst event) × AreAlike front turns mid c run
AreAlike front (InSecond event ∷ turns) a c run =
    IsAlike front a (InSecond event) × AreAlike front turns a c run

-- Over runs: of two rooms that are the same outside, two runs are given, each as it happened. What
-- happened in them differs in nothing but what was behind the front, and in moments, numbers and
-- replies. Then the replies are the same, and the rooms are the same outside at the end.
abbrev pub Unseen : Type 0
Unseen =
    (front : List (List ℕ)) (turns : List Turn) (a b c d : Content) →
    SameOutside front a b → IsTidy a → IsTidy b → IsNumbered a → IsNumbered b →
    (run : Run a (first_events turns) c) → Run b (second_events turns) d →
    AreAlike front turns a c run →
    AnswersAlike front turns × SameOutside (front_at_end front turns) c d
