-- What the review of a room is, by its tables.
use Rattle.sqlite.specs.Effect.{Database}
use Rattle.room_review.specs.declared.question.Scope.{Scope}
use Rattle.room_review.specs.declared.question.Reviewed.{Reviewed}
use Rattle.store_tables.specs.Meaning.{rows_of}
use Rattle.store_transaction.specs.Reviews.{IsReviewBy}

-- The review of the room that the tables hold, with its own pairs.
abbrev pub IsReviewOf : Scope → Database → Reviewed → Type 0
IsReviewOf question db reviewed =
    IsReviewBy (rows_of db).read.members question db reviewed
