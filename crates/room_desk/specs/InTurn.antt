-- Runs over lists of requests.
use Rattle.std.specs.Prelude.{◌≡◌, List, [], ◌∷◌, length, take, ℕ, ◌+◌, ◌<◌, Bool}
use Rattle.std.specs.List.{list_any}
use Rattle.room_rows.specs.declared.keep.Keep.{Ghosts}
use Rattle.room_rows.specs.Keep.{IsDamaged}
use Rattle.room_rows.specs.Meaning.{meaning}
use Rattle.room_rows.specs.Rows.{Rows}
use Rattle.room_rows.specs.Sound.{AreSound}
use Rattle.room_judge.specs.Closed.{Performs}
use Rattle.room_judge.specs.Extent.{WritesUpTo}
use Rattle.room_desk.specs.Called.{calls_for, hands_down}
use Rattle.room_desk.specs.Counted.{most_writes}
use Rattle.room_desk.specs.declared.running.Asked.{Asked}
use Rattle.room_machine.specs.declared.reply.Reply.{Reply}
use Rattle.room_machine.specs.Run.{Event, Run, Asked as HasAsked}

-- what happens where the requests have these replies, in turn
abbrev pub asked_events : List Asked → List Reply → List Event
asked_events [] replies = []
asked_events (asked ∷ others) [] = []
asked_events (asked ∷ others) (reply ∷ replies) =
    HasAsked asked.user asked.moment asked.request reply ∷ asked_events others replies

-- Each request has a reply, and from sound rows a run of the machine leads from what they mean to
-- what the new ones mean, and these are sound.
pub record IsRunOfRows (asked : List Asked) (old : Rows) (replies : List Reply)
    (new : Rows) : Type 0 where
  pub each : length replies ≡ length asked
  pub run : Run (meaning old.read) (asked_events asked replies) (meaning new.read)
  pub sound : AreSound new

-- From sound rows, what `perform_all` answers is such a run.
abbrev pub RunsAll : List Asked → Rows → List Reply → Rows → Type 0
RunsAll asked old replies new = AreSound old → IsRunOfRows asked old replies new

-- ---- on any rows

-- Each request is carried out on the rows that those before it left, sound or not, and has its
-- reply; and so many writes beside records suffice for all.
abbrev pub GoInTurn : List Asked → List Reply → Rows → Rows → ℕ → Type 0
GoInTurn [] [] old new most = (new ≡ old) × (most ≡ 0)
GoInTurn [] (reply ∷ replies) old new most = ⊥
GoInTurn (one ∷ others) [] old new most = ⊥
GoInTurn (one ∷ others) (reply ∷ replies) old new most = (mid : Rows) × (rest : ℕ)
    × Performs one.user one.moment one.request old reply mid
    × GoInTurn others replies mid new rest × (most ≡ most_writes one.request reply old mid + rest)

-- A row is damaged in the rows that the first requests leave, and another request follows.
pub record IsDamagedAfter (asked : List Asked) (old : Rows) (row : ℕ) : Type 0 where
  pub count : ℕ
  pub below : count < length asked
  pub replies : List Reply
  pub rows : Rows
  pub most : ℕ
  pub first : GoInTurn (take count asked) replies old rows most
  pub damaged : IsDamaged rows row

-- ---- how much is written and read

-- how many calls read at most: for each request one for the caller's groups, and its own
abbrev pub calls_for_all : List Asked → ℕ
calls_for_all [] = 0
calls_for_all (one ∷ others) = calls_for one.request + 1 + calls_for_all others

-- some request hands a list down
abbrev pub some_hands_down : List Asked → Bool
some_hands_down asked = list_any (λ one. hands_down one.request) asked

module _ {S : Type 0} (k : Ghosts S) where
  -- As long as the keeper answers by its rows, the requests go in turn from the rows before to
  -- those after, and no more is written than their records and what suffices for them.
  abbrev pub WritesInTurn : List Asked → List Reply → S → S → Type 0
  WritesInTurn asked replies old new = k.IsTrusted old new
      → (most : ℕ) × GoInTurn asked replies (k.rows old) (k.rows new) most
      × WritesUpTo k.rows k.writes most old new
