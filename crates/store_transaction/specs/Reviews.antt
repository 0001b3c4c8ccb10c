-- What a review that is given pairs is, by the tables.
use Rattle.std.specs.Prelude.{ℕ, List}
use Rattle.sqlite.specs.Effect.{Database}
use Rattle.room_review.specs.Table.{IsReview}
use Rattle.room_review.specs.declared.question.Scope.{Scope}
use Rattle.room_review.specs.declared.question.Reviewed.{Reviewed}
use Rattle.store_tables.specs.Meaning.{rows_of}

-- a review that is given these pairs
abbrev pub IsReviewBy : List (List ℕ × List ℕ) → Scope → Database → Reviewed → Type 0
IsReviewBy pairs question db reviewed = IsReview pairs question (rows_of db) reviewed
