-- The callers of an answer (own).
use Rattle.std.specs.Prelude.{◌≡◌, ℕ, List, ◌++◌, map, Some, unwrap_or}
use Rattle.room_rows.specs.Rows.{Rows}
use Rattle.room_question.specs.declared.question.Question.{Question}
use Rattle.room_question.specs.declared.question.Supposed.{Supposed}
use Rattle.room_review.specs.declared.parties.Party.{Party}
use Rattle.room_review.specs.Table.{everybody}
use Rattle.room_review.specs.Users.{AreUsers}
use Rattle.room_would.specs.Names.{users_named}

-- a caller who may be, under its label; without a name it has the stranger's
abbrev pub supposed_party : List ℕ → Supposed → Party
supposed_party stranger supposed = record {
  label = supposed.label;
  caller = record {
    user = Some (unwrap_or supposed.user stranger);
    groups = supposed.groups;
  };
}

-- Whom the question names as users, in order, each once; then `*` for the stranger, and a caller
-- without a name; then those who may be, in the order of their lines.
pub record AreParties (question : Question) (stranger : List ℕ) (rows : Rows)
    (parties : List Party) : Type 0 where
  pub users : List (List ℕ)
  pub are : AreUsers (users_named question) users
  pub parties_are : parties ≡ everybody rows.read users stranger
      ++ map (supposed_party stranger) question.supposed
