-- Steps of a piece one after the other (own).
use Rattle.std.specs.Prelude.{◌≡◌, List, [], ◌∷◌, ◌++◌}
use Rattle.room_piece.specs.declared.piece.Piece.{Piece}
use Rattle.room_piece.specs.declared.refusal.Refusal.{Refusal}

module _ {X : Type 0} (Step : X → Piece → Piece → Type 0) where
  -- a step for each, in this order
  abbrev pub InTurn : List X → Piece → Piece → Type 0
  InTurn [] old new = new ≡ old
  InTurn (x ∷ xs) old new = (mid : Piece) × Step x old mid × InTurn xs mid new

  -- a step for each of the first ones, and then one that can't be done, which is refused
  pub record StopsInTurn (Cannot : X → Piece → Refusal → Type 0) (xs : List X) (old : Piece)
      (refusal : Refusal) : Type 0 where
    pub before : List X
    pub one : X
    pub behind : List X
    pub all : xs ≡ before ++ one ∷ behind
    pub mid : Piece
    pub done : InTurn before old mid
    pub cannot : Cannot one mid refusal
