-- Two stores beside each other, in which the same is asked, but for what happens behind a folder.
use Rattle.std.specs.Prelude.{ℕ, List, [], ◌∷◌}
use Rattle.sqlite.specs.Held.{Held}
use Rattle.sqlite.specs.State.{State, HasCleanDisk}
use Rattle.room_rows.specs.Content.{Content}
use Rattle.room_machine.specs.Run.{Run}
use Rattle.room_laws.specs.Outside.{SameOutside}
use Rattle.room_laws.specs.Twins.{AnswersAlike, IsAlike, Turn, first_events, front_at_end}
use Rattle.room_laws.specs.Twins.{front_by, second_events}
use Rattle.room_store.specs.Crash.{IsRoomOf}
use Rattle.room_store.specs.Kept.{Keeps}
use Rattle.room_store.specs.Leads.{Leads}

-- a turn, and then the connections of both stores
abbrev pub Beside : Type 0 → Type 0 → Type 0
Beside S T = Turn × Held S × Held T

module _ {S T : Type 0} (shown : Held S → State) (seen : Held T → State) where
  -- One turn after another, the first on these connections. The calls of each store led to what the
  -- turn says of it, and the turn is so of the room that the first store kept before.
  abbrev pub LiveAlike : List (List ℕ) → Held S → Held T → List (Beside S T) → Type 0
  LiveAlike front first second [] = Unit {0}
  LiveAlike front first second (turn ∷ turns) =
      Leads (shown first) (first_events (turn.0 ∷ [])) (shown turn.1)
      × Leads (seen second) (second_events (turn.0 ∷ [])) (seen turn.2)
      × ((room : Content) → Keeps (shown first) room → IsAlike front room turn.0)
      × LiveAlike (front_by front turn.0) turn.1 turn.2 turns

abbrev pub turns_of : {S T : Type 0} → List (Beside S T) → List Turn
turns_of [] = []
turns_of (turn ∷ turns) = turn.0 ∷ turns_of turns

-- the connections at the end
abbrev pub first_at_end : {S T : Type 0} → Held S → List (Beside S T) → Held S
first_at_end first [] = first
first_at_end first (turn ∷ turns) = first_at_end turn.1 turns

abbrev pub second_at_end : {S T : Type 0} → Held T → List (Beside S T) → Held T
second_at_end second [] = second
second_at_end second (turn ∷ turns) = second_at_end turn.2 turns

-- From the first two states to the last two these turns happened. If the tables were those of two
-- sound rooms that were the same outside, the replies are the same, and the rooms that are kept then
-- are the same outside too.
abbrev pub AnswerAlike : List (List ℕ) → List Turn → State → State → State → State → Type 0
AnswerAlike front turns old other new later = HasCleanDisk new → HasCleanDisk later
    → (a b : Content) → IsRoomOf a old.now → IsRoomOf b other.now → SameOutside front a b
    → AnswersAlike front turns
    × ((c d : Content) × Run a (first_events turns) c × Run b (second_events turns) d
    × Keeps new c × Keeps later d × SameOutside (front_at_end front turns) c d)
