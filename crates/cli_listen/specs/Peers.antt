-- What a listener does: it accepts peers, and parts from them (own).
use Rattle.std.specs.Prelude.{ℕ, List, [], ◌∷◌, ◌++◌, Option, Some, None}
use Rattle.std.specs.Prelude.{Result, Ok, Err}

-- the bytes that a peer has still to send, and those that it got, where they are known
pub record Wire : Type 0 where
  pub left : Option (List ℕ)
  pub sent : Option (List ℕ)

abbrev pub wire : Option (List ℕ) → Option (List ℕ) → Wire
wire left sent = record { left = left; sent = sent }

-- A connection was lost before it could be accepted, or none could be accepted any more; or a peer
-- was accepted, or parted from, with these bytes.
pub data Act : Type 0 where
  Lost Failed : Act
  Came Parted : Wire → Act

-- what an accept did
abbrev pub met_by : {P E : Type 0} → Result (Option P) E → (P → Wire) → List Act
met_by (Ok (Some peer)) bytes = Act.Came (bytes peer) ∷ []
met_by (Ok None) bytes = Act.Lost ∷ []
met_by (Err fault) bytes = Act.Failed ∷ []

-- these were done after those before
abbrev pub Adds : {X : Type 0} → (List X → Type 0) → (List X → Type 0) → List X → Type 0
Adds {X} did did' acts = (before : List X) → did before → did' (before ++ acts)
