-- What is cut off a text (own).
use Rattle.std.specs.Prelude.{◌≡◌, ℕ, ◌+◌, ◌≤◌, List, ◌++◌, length}
use Rattle.room_ace.specs.Lists.{lines_of}
use Rattle.room_question.specs.Items.{cut_items, items_from}

-- The front of the bytes has this many lines, which belong to one above them, and what follows it
-- begins an item, or is nothing.
pub record IsCut (bytes : List ℕ) (count : ℕ) (front : List ℕ) : Type 0 where
  pub behind : List ℕ
  pub whole : bytes ≡ front ++ behind
  pub items : (number : ℕ) → cut_items number (lines_of bytes)
      ≡ (lines_of front, items_from (number + count) (lines_of behind))
  pub few : count ≤ length front
