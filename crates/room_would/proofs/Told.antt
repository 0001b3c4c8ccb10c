-- What is told, in terms of calls.
use Rattle.std.proofs.Common.{◌≡◌, ℕ, ◌<◌, ◌≤◌, Bool, true, false, List, length, Result, Ok, Err}
use Rattle.std.proofs.Common.{IfErr, IfOk, refl, sym, ap, subst, ◌∙◌, arith}
use Rattle.std.{proofs.lemmas.Bool.Decides.nat_tests, specs.Prelude.{nat_lt, ◌*◌}}
use Rattle.room_ace.specs.Lists.{lines_of}
use Rattle.room_entry.specs.declared.failure.Failure.{Failure, TheVariants.{Fault, OutOfMemory}}
use Rattle.room_entry.specs.Gives.{Gives}
use Rattle.room_rows.specs.Rows.{AreRows, Rows, numbers_of}
use Rattle.room_memory.specs.Memory.{rows_in}
use Rattle.room_question.specs.declared.{fault.QuestionFault.QuestionFault, question.Change.Change}
use Rattle.room_question.specs.{declared.question.Question.Question, Reading.question_of}
use Rattle.room_piece.specs.{Building.IsPiece, Changing.{CannotDo, IsDone}, Holding.IsWell}
use Rattle.room_piece.specs.{InTurn.{InTurn, StopsInTurn}, Refusing.Blames as BlamesPiece}
use Rattle.room_piece.specs.declared.{piece.Piece.Piece, refusal.Refusal.Refusal}
use Rattle.room_piece.proofs.{Done.done_well, Turns.well_then}
use Rattle.room_turns.specs.declared.asked.Asked.{Asked}
use Rattle.room_would.specs.{Asking.{IsAsked, State, state_of, turns}, Faults.{Blames, becomes}}
use Rattle.room_would.specs.{Faults.{unbuilt, unread}, Would.{CannotSay, IsStopped, IsTold}}
use Rattle.room_would.specs.Would.{IsWould, Says, SaysAll, SaysFound, Stopped, StopsFrom, TellsFrom}
use Rattle.room_would.specs.{Would.{Undone, Unread, Unsaid}, declared.fault.WouldFault.WouldFault}
use Rattle.room_would.{specs.declared.limits.TheConstants.MOST_TURNS, proofs.Blamed.blames_all}
use Rattle.room_would.proofs.Blamed.{blames_unbuilt}

-- ---- how much it is

few_of : (most n : ℕ) → nat_lt most n ≡ false → n ≤ most
few_of most n is = grind (arith, nat_tests)

many_of : (most n : ℕ) → nat_lt most n ≡ true → most < n
many_of most n is = grind (arith, nat_tests)

module _ (asked : Asked) (rows : Rows) (callers objects : ℕ)
    (callers_are : callers ≡ length asked.parties.items)
    (objects_are : objects ≡ length (numbers_of rows)) (is : Bool)
    (tests : is ≡ nat_lt MOST_TURNS (callers * objects)) where
  tested : nat_lt MOST_TURNS (turns asked rows) ≡ is
  tested =
      ap (λ n. nat_lt MOST_TURNS (n * length (numbers_of rows))) (sym callers_are)
      ∙ ap (λ n. nat_lt MOST_TURNS (callers * n)) (sym objects_are) ∙ sym tests

  pub few_turns : is ≡ false → turns asked rows ≤ MOST_TURNS
  few_turns isnt = few_of MOST_TURNS (turns asked rows) (tested ∙ isnt)

  pub many_turns : is ≡ true → MOST_TURNS < turns asked rows
  many_turns it_is = many_of MOST_TURNS (turns asked rows) (tested ∙ it_is)

-- ---- two states

abbrev with_rows : State → Rows → State
with_rows state rows = record state { rows = rows }

pub says_so : (question : Question) (stranger : List ℕ) (before mid after : State) (rows : Rows)
    (asked : Asked) (text : List ℕ) → mid ≡ before → rows ≡ after.rows
    → IsAsked question stranger before after asked → turns asked after.rows ≤ MOST_TURNS
    → (AreRows mid.rows → AreRows rows
    → SaysAll question asked mid (with_rows after rows) text)
    → AreRows before.rows → AreRows after.rows → Says question stranger before after text
says_so question stranger before mid after rows asked text same still is_asked few says are are' =
    record {
      asked = asked;
      is_asked = is_asked;
      few = few;
      all =
          subst (λ (s : State). SaysAll question asked s after text) same
          (subst (λ (r : Rows). SaysAll question asked mid (with_rows after r) text) still
          (says (subst (λ (s : State). AreRows s.rows) (sym same) are)
          (subst AreRows (sym still) are')));
    }

-- ---- from a piece on

module _ (absent stranger : List ℕ) (question : Question) (before copy : Piece)
    (changes : List Change) (same : copy ≡ before) (all : changes ≡ question.changes) where
  well : IsPiece absent question before → IsWell copy.keep
  well piece = subst (λ (p : Piece). IsWell p.keep) (sym same) piece.well

  pub undone : (lines : ℕ) (failure : Failure Refusal) (out : Failure WouldFault)
      → BlamesPiece (λ refusal. IsWell copy.keep
      → StopsInTurn (IsDone absent) CannotDo changes copy refusal) failure
      → out ≡ becomes unbuilt failure
      → Blames (λ fault. IsPiece absent question before
      → StopsFrom lines absent stranger question before fault) out
  undone lines failure out said is =
      blames_unbuilt (λ refusal. IsWell copy.keep
      → StopsInTurn (IsDone absent) CannotDo changes copy refusal)
      (λ fault. IsPiece absent question before
      → StopsFrom lines absent stranger question before fault) failure out said is
      (λ refusal stops piece.
      Undone refusal
      (subst (λ (l : List Change). StopsInTurn (IsDone absent) CannotDo l before refusal) all
      (subst (λ (p : Piece). StopsInTurn (IsDone absent) CannotDo changes p refusal) same
      (stops (well piece)))) refl)

  module _ (after : Piece) (done : IsWell copy.keep → InTurn (IsDone absent) changes copy after)
    where
      turned : IsPiece absent question before
          → InTurn (IsDone absent) question.changes before after
      turned piece =
          subst (λ (l : List Change). InTurn (IsDone absent) l before after) all
          (subst (λ (p : Piece). InTurn (IsDone absent) changes p after) same (done (well piece)))

      well_after : IsPiece absent question before → IsWell after.keep
      well_after piece =
          well_then (IsDone absent) (done_well absent) question.changes before after piece.well
          (turned piece)

      pub tells : (r : Result (List ℕ) (Failure WouldFault))
          → IfOk r (λ text. AreRows (rows_in before.keep) → AreRows (rows_in after.keep)
          → SaysFound question stranger (state_of before) (state_of after) text)
          → IfOk r (λ text. IsPiece absent question before
          → TellsFrom absent stranger question before text)
      tells (Ok text) says = λ piece. record {
        after = after;
        done = turned piece;
        says = says piece.well.rows (well_after piece).rows;
      }
      tells (Err failure) says = tt

      pub fails : (lines : ℕ) (r : Result (List ℕ) (Failure WouldFault))
          → IfErr r (Blames (λ fault. AreRows (rows_in before.keep) → AreRows (rows_in after.keep)
          → CannotSay lines question stranger (state_of before) (state_of after) fault))
          → IfErr r (Blames (λ fault. IsPiece absent question before
          → StopsFrom lines absent stranger question before fault))
      fails lines r said =
          blames_all (λ fault. AreRows (rows_in before.keep) → AreRows (rows_in after.keep)
          → CannotSay lines question stranger (state_of before) (state_of after) fault)
          (λ fault. IsPiece absent question before
          → StopsFrom lines absent stranger question before fault)
          (λ fault cannot piece.
          Unsaid after (turned piece) (cannot piece.well.rows (well_after piece).rows)) r said

-- ---- of a text

pub answered : (bytes : List ℕ) (question : Question) (lines : ℕ)
    (r : Result (List ℕ) (Failure WouldFault)) → question_of bytes ≡ Ok question
    → lines ≡ length (lines_of bytes) → IfOk r (IsTold question)
    → IfErr r (Blames (IsStopped lines question)) → IsWould bytes r
answered bytes question lines (Ok text) read count told stopped = (question, read, told)
answered bytes question lines (Err OutOfMemory) read count told stopped = tt
answered bytes question lines (Err (Fault fault)) read count told stopped =
    Stopped question read (subst (λ n. IsStopped n question fault) count stopped)

pub refused : (bytes : List ℕ) (failure : Failure QuestionFault) (out : Failure WouldFault)
    → Gives {A = Question} (Err failure) (question_of bytes) → out ≡ becomes unread failure
    → IsWould bytes (Err out)
refused bytes OutOfMemory out given is =
    subst (λ (f : Failure WouldFault). IsWould bytes (Err f)) (sym is) tt
refused bytes (Fault fault) out given is =
    subst (λ (f : Failure WouldFault). IsWould bytes (Err f)) (sym is) (Unread fault given refl)
