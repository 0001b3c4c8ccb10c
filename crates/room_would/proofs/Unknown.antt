-- Whom an answer doesn't ask for is known nowhere in its room.
use Rattle.std.proofs.Common.{◌≡◌, ℕ, ◌||◌, Bool, true, false, cond, not, List, [], ◌∷◌, ◌++◌, map}
use Rattle.std.proofs.{Common.{refl, sym, ap, ◌∙◌}, lemmas.Bool.or_parts}
use Rattle.std.{proofs.lemmas.List.Folds.list_any-append, specs.List.{flat_map, list_any}}
use Rattle.room_entry.{specs.Pieces.same_text, proofs.Facts.Members.any_map}
use Rattle.room_rows.specs.{Content.{Content, is_pair_before, put_pair, set_of}, Meaning.meaning}
use Rattle.room_memory.specs.Memory.{rows_in}
use Rattle.room_question.specs.declared.question.Question.{Question}
use Rattle.room_piece.specs.{Building.IsPiece, Changing.IsDone, InTurn.InTurn}
use Rattle.room_piece.specs.declared.piece.Piece.{Piece}
use Rattle.room_review.specs.{Laws.{IsUnknownIn, is_paired}, Users.is_listed}
use Rattle.room_review.proofs.Others.{new_each}
use Rattle.room_would.specs.{Laws.NobodyIsMissed, Names.{users_named, users_of_change}}
use Rattle.room_would.{specs.Names.users_of_object, proofs.Missed.{AllNew, all_free, all_mean}}
use Rattle.room_would.proofs.{Missed.before_new, Stayed.all_stay}

module _ (name : List ℕ) where
  abbrev Pair : Type 0
  Pair = List ℕ × List ℕ

  abbrev has : Pair → Bool
  has pair = same_text pair.1 name

  -- ---- pairs in order, each once

  put_none : (pair : Pair) (pairs : List Pair) → has pair ≡ false → list_any has pairs ≡ false
      → list_any has (put_pair pair pairs) ≡ false
  put_none pair [] here none = λ i. here i || false
  put_none pair (other ∷ others) here none =
      let parts = or_parts (has other) (list_any has others) none in
      on (is_pair_before other pair) (is_pair_before pair other) parts.0
      (put_none pair others here parts.1)
    where
      on : (t u : Bool) → has other ≡ false → list_any has (put_pair pair others) ≡ false
          → list_any has (cond t (other ∷ put_pair pair others)
          (cond u (pair ∷ other ∷ others) (other ∷ others))) ≡ false
      on true u one rest = λ i. one i || rest i
      on false true one rest = λ i. here i || none i
      on false false one rest = none

  set_none : (pairs : List Pair) → list_any has pairs ≡ false → list_any has (set_of pairs) ≡ false
  set_none [] none = refl
  set_none (pair ∷ pairs) none =
      let parts = or_parts (has pair) (list_any has pairs) none in
      put_none pair (set_of pairs) parts.0 (set_none pairs parts.1)

  -- ---- before the changes and after them

  module _ (unread : List ℕ) (not_unread : same_text unread name ≡ false) (question : Question)
      (none : is_listed name (users_named question) ≡ false) where
    abbrev of_pairs : List (List ℕ)
    of_pairs = map (λ (pair : Pair). pair.1) question.members

    abbrev of_objects : List (List ℕ)
    of_objects = flat_map users_of_object question.objects

    abbrev of_changes : List (List ℕ)
    of_changes = flat_map users_of_change question.changes

    parts : (is_listed name of_pairs ≡ false) × (is_listed name (of_objects ++ of_changes) ≡ false)
    parts =
        or_parts (is_listed name of_pairs) (is_listed name (of_objects ++ of_changes))
        (sym (list_any-append (λ other. same_text other name) of_pairs (of_objects ++ of_changes))
        ∙ none)

    later : (is_listed name of_objects ≡ false) × (is_listed name of_changes ≡ false)
    later =
        or_parts (is_listed name of_objects) (is_listed name of_changes)
        (sym (list_any-append (λ other. same_text other name) of_objects of_changes) ∙ parts.1)

    unpaired : list_any has question.members ≡ false
    unpaired =
        sym (any_map (λ other. same_text other name) (λ (pair : Pair). pair.1) question.members)
        ∙ parts.0

    unknown_in : (content : Content) → AllNew name content → is_paired content name ≡ false
        → IsUnknownIn content name
    unknown_in content each alone = (ap not alone, all_free name content.nodes each)

    module _ (before after : Piece) (is : IsPiece unread question before)
        (turns : InTurn (IsDone unread) question.changes before after) where
      each_before : AllNew name (meaning (rows_in before.keep).read)
      each_before =
          all_mean name (rows_in before.keep).read
          (before_new name unread not_unread question before is
          (new_each name users_of_object question.objects later.0))

      alone_before : is_paired (meaning (rows_in before.keep).read) name ≡ false
      alone_before = ap (list_any has) is.members ∙ set_none question.members unpaired

      pub both_unknown : IsUnknownIn (meaning (rows_in before.keep).read) name
          × IsUnknownIn (meaning (rows_in after.keep).read) name
      both_unknown =
          let stays = all_stay name unread not_unread question.changes before after is.well turns
          (new_each name users_of_change question.changes later.1) each_before in (
            unknown_in (meaning (rows_in before.keep).read) each_before alone_before,
            unknown_in (meaning (rows_in after.keep).read) stays.nodes
                (ap (list_any has) stays.members ∙ alone_before),
          )

pub nobody_is_missed : NobodyIsMissed
nobody_is_missed bytes text answer =
    let told = answer.2 in
    let parties = told.told.says.says.is_asked.parties in (
      parties.users,
      parties.are,
      (told.stranger, parties.parties_are),
      λ name none not_unread.
          both_unknown name told.unread not_unread answer.0 (sym (parties.are.same name) ∙ none)
          told.before told.told.after told.built told.told.done,
    )
