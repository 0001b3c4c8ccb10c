-- A reply that doesn't refuse says that the change was made.
use Rattle.std.proofs.Common.{◌≡◌, ℕ, true, false, List, [], ◌∷◌, filter, Option, Some, None}
use Rattle.std.proofs.Common.{Result, Bool, cond, Ok, Err, refl, sym, ap, subst, ◌∙◌}
use Rattle.std.{proofs.lemmas.Option.none-some, specs.Prelude.OnOk}
use Rattle.room_entry.specs.declared.{failure.Failure.Failure, object.Which.TheVariants.Dacl}
use Rattle.room_ace.specs.Sent.{Sent}
use Rattle.room_rows.specs.{Content.Content, Meaning.meaning, Rows.{AreRows, Rows}, Sound.AreSound}
use Rattle.room_memory.specs.{Memory.rows_in, declared.memory.MemKeep.MemKeep}
use Rattle.room_machine.specs.declared.reply.Reply.{Reply, TheVariants.Refused}
use Rattle.room_machine.specs.{declared.request.Request.TheVariants.{Move, SetList}, Effect.effect}
use Rattle.room_machine.specs.{Judge.first_failure, Step.{failure_or, is_refusal}, Plan.Check}
use Rattle.room_machine.specs.Plan.{Deletion, Item, Refusal, plan_of}
use Rattle.room_judge.specs.Judged.{IsResetOfRows}
use Rattle.room_desk.{specs.Relocating.{IsRelocated, relocate}, proofs.Lists.SetReset.operator}
use Rattle.room_change.specs.Changes.{Moves, Sets, changed}
use Rattle.room_question.specs.declared.question.{Moving.Moving, Setting.Setting}
use Rattle.room_question.specs.declared.question.Change.{Change as Asks}
use Rattle.room_question.specs.declared.question.Change.TheVariants.{Sets as SetsOne}
use Rattle.room_question.specs.declared.question.Change.TheVariants.{Moves as MovesOne}
use Rattle.room_question.specs.declared.question.Change.TheVariants.{Comes as ComesOne}
use Rattle.room_piece.specs.{Changing.{CanMove, CanSet, IsDone, IsMoved, IsSet}, Holding.IsWell}
use Rattle.room_piece.specs.Marking.{IsMovedFrom, IsSetAt, once_set, stays, with_children}
use Rattle.room_piece.specs.{Walking.{Finds, IsWay}, declared.{piece.Piece.Piece, walking.Way.Way}}
use Rattle.room_piece.specs.{declared.refusal.Refusal.Refusal as Refuses, Refusing.why_of}

-- what is refused tells why
refuses : (items : List Item) (reply : Reply)
    → first_failure operator (filter is_refusal items) ≡ Some reply → why_of reply ≡ None → ⊥
refuses [] reply is none = none-some reply is
refuses (Check site bits ∷ items) reply is none = refuses items reply is none
refuses (Deletion target parent ∷ items) reply is none = refuses items reply is none
refuses (Refusal path why true ∷ items) reply is none =
    let same : Refused path why ≡ reply = cc in
    none-some _ (sym none ∙ ap why_of (sym same))
refuses (Refusal path why false ∷ items) reply is none = refuses items reply is none

-- and what isn't refused has no refusal
pub unbarred : (items : List Item) (room : Content) (done : Reply × Content)
    → why_of (failure_or (first_failure operator (filter is_refusal items)) room done).0 ≡ None
    → first_failure operator (filter is_refusal items) ≡ None
unbarred items room done none = on (first_failure operator (filter is_refusal items)) refl none
  where
    on : (o : Option Reply) → first_failure operator (filter is_refusal items) ≡ o
        → why_of (failure_or o room done).0 ≡ None → o ≡ None
    on None found none = refl
    on (Some reply) found none = absurd (refuses items reply found none)

module _ (items : List Item) (room : Content) (done : Reply × Content) (reply : Reply)
    (after : Content) where
  by_answer : (o : Option Reply) → first_failure operator (filter is_refusal items) ≡ o
      → failure_or o room done ≡ (reply, after) → why_of reply ≡ None → after ≡ done.1
  by_answer None found is none = sym (ap (λ (p : Reply × Content). p.1) is)
  by_answer (Some refusal) found is none =
      let same : refusal ≡ reply = ap (λ (p : Reply × Content). p.0) is in
      absurd (refuses items reply (found ∙ ap (λ (r : Reply). Some r) same) none)

  pub unrefused : failure_or (first_failure operator (filter is_refusal items)) room done
      ≡ (reply, after) → why_of reply ≡ None → after ≡ done.1
  unrefused is none =
      by_answer (first_failure operator (filter is_refusal items)) refl is none

pub set_so : (path : List (List ℕ)) (sent : Sent) (old new : Rows) (reply : Reply)
    → IsResetOfRows path Dacl sent old reply new → why_of reply ≡ None
    → meaning new.read ≡ changed (meaning old.read) (Sets path sent)
set_so path sent old new reply is none =
    unrefused (plan_of (meaning old.read) (SetList path Dacl sent)) (meaning old.read)
    (effect (meaning old.read) operator 0 (SetList path Dacl sent)) reply (meaning new.read)
    is.reset none

pub moved_so : (path to : List (List ℕ)) (old new : Rows) (reply : Reply)
    → IsRelocated path to old reply new → why_of reply ≡ None
    → meaning new.read ≡ changed (meaning old.read) (Moves path to)
moved_so path to old new reply is none =
    unrefused (plan_of (meaning old.read) (Move path to)) (meaning old.read)
    (effect (meaning old.read) operator 0 (Move path to)) reply (meaning new.read) is.step none

-- ---- in terms of calls

module _ (r : Result (Unit {0}) (Failure Refuses)) (Given : Type 0) (old new : Rows) (reply : Reply)
  where
    pub set_ok : (path : List (List ℕ)) (sent : Sent)
        → (Given → IsResetOfRows path Dacl sent old reply new) → OnOk r (why_of reply ≡ None)
        → OnOk r (Given → meaning new.read ≡ changed (meaning old.read) (Sets path sent))
    set_ok path sent step said = on r said
      where
        on : (o : Result (Unit {0}) (Failure Refuses)) → OnOk o (why_of reply ≡ None)
            → OnOk o (Given → meaning new.read ≡ changed (meaning old.read) (Sets path sent))
        on (Ok u) none = λ given. set_so path sent old new reply (step given) none
        on (Err fault) none = tt

    pub moved_ok : (path to : List (List ℕ)) → (Given → IsRelocated path to old reply new)
        → OnOk r (why_of reply ≡ None)
        → OnOk r (Given → meaning new.read ≡ changed (meaning old.read) (Moves path to))
    moved_ok path to step said = on r said
      where
        on : (o : Result (Unit {0}) (Failure Refuses)) → OnOk o (why_of reply ≡ None)
            → OnOk o (Given → meaning new.read ≡ changed (meaning old.read) (Moves path to))
        on (Ok u) none = λ given. moved_so path to old new reply (step given) none
        on (Err fault) none = tt

-- what isn't refused wouldn't be
pub unrefused_ok : (r : Result (Unit {0}) (Failure Refuses)) (Given : Type 0) (reply would : Reply)
    → (Given → would ≡ reply) → OnOk r (why_of reply ≡ None)
    → OnOk r (Given → why_of would ≡ None)
unrefused_ok (Ok u) Given reply would same none = λ given. ap why_of (same given) ∙ none
unrefused_ok (Err fault) Given reply would same none = tt

-- ---- what is known then

pub as_before : (rows : Content) (way : Way) (unknown : List ℕ) → stays unknown way ≡ true
    → unknown ≡ once_set rows way unknown
as_before rows way unknown is =
    sym (ap (λ (b : Bool). cond b unknown (with_children rows way.last.id unknown)) is)

pub children_then : (r : Result (Unit {0}) (Failure Refuses)) (path : List (List ℕ)) (way : Way)
    (old mid new : Rows) (unknown then : List ℕ)
    → (AreRows old → Finds (IsWay path way) old mid) → stays unknown way ≡ false
    → OnOk r (AreRows mid → (new ≡ mid)
    × (then ≡ with_children mid.read way.last.id unknown))
    → OnOk r (AreRows old → (new ≡ old) × IsSetAt path old unknown then)
children_then (Err fault) path way old mid new unknown then found isnt said = tt
children_then (Ok u) path way old mid new unknown then found isnt said = λ are.
    let at = found are in
    let here = said (subst (λ (r : Rows). AreRows r) (sym at.1) are) in (
      here.0 ∙ at.1,
      record {
        way = way;
        goes = at.0;
        becomes =
            here.1
            ∙ ap (λ (r : Rows). with_children r.read way.last.id unknown) at.1
            ∙ sym (ap (λ (b : Bool). cond b unknown
            (with_children old.read way.last.id unknown)) isnt);
      },
    )

-- ---- a piece that is changed

well_so : (old new : MemKeep) → rows_in new ≡ rows_in old → IsWell old → IsWell new
well_so old new same well = record {
  rows = subst (λ (r : Rows). AreRows r) (sym same) well.rows;
  sound = subst (λ (r : Rows). AreSound r) (sym same) well.sound;
}

module _ (r : Result (Unit {0}) (Failure Refuses)) (old new : Piece) (mid : MemKeep) where
  pub set_done : (setting : Setting) → (IsWell old.keep → CanSet setting old.keep)
      → (IsWell old.keep → meaning (rows_in mid).read
      ≡ changed (meaning (rows_in old.keep).read) (Sets setting.path setting.list))
      → (IsWell old.keep → IsWell mid) → new.each ≡ old.each
      → OnOk r (AreRows (rows_in mid) → (rows_in new.keep ≡ rows_in mid)
      × IsSetAt setting.path (rows_in mid) old.unknown new.unknown)
      → OnOk r (IsWell old.keep → IsSet setting old new)
  set_done setting can means stays each marks = on r marks
    where
      on : (o : Result (Unit {0}) (Failure Refuses))
          → OnOk o (AreRows (rows_in mid) → (rows_in new.keep ≡ rows_in mid)
          × IsSetAt setting.path (rows_in mid) old.unknown new.unknown)
          → OnOk o (IsWell old.keep → IsSet setting old new)
      on (Err fault) said = tt
      on (Ok u) said = λ well.
          let then = stays well in
          let same = said then.rows in
          record {
            can = can well;
            means = ap (λ (rows : Rows). meaning rows.read) same.0 ∙ means well;
            well = well_so mid new.keep same.0 then;
            each = each;
            unknown = subst (λ (rows : Rows). IsSetAt setting.path rows old.unknown new.unknown)
                (sym same.0) same.1;
          }

  pub move_done : (moving : Moving)
      → (AreRows (rows_in old.keep) → (rows_in mid ≡ rows_in old.keep)
      × IsMovedFrom moving.path (rows_in old.keep) old.unknown new.unknown) → new.each ≡ old.each
      → OnOk r (IsWell mid → CanMove moving mid)
      → OnOk r (IsWell mid → meaning (rows_in new.keep).read
      ≡ changed (meaning (rows_in mid).read) (Moves moving.path moving.to))
      → OnOk r (IsWell mid → IsWell new.keep) → OnOk r (IsWell old.keep → IsMoved moving old new)
  move_done moving marks each can means stays = on r can means stays
    where
      on : (o : Result (Unit {0}) (Failure Refuses))
          → OnOk o (IsWell mid → CanMove moving mid)
          → OnOk o (IsWell mid → meaning (rows_in new.keep).read
          ≡ changed (meaning (rows_in mid).read) (Moves moving.path moving.to))
          → OnOk o (IsWell mid → IsWell new.keep)
          → OnOk o (IsWell old.keep → IsMoved moving old new)
      on (Err fault) able said kept = tt
      on (Ok u) able said kept = λ well.
          let same = marks well.rows in
          let then = well_so old.keep mid same.0 well in
          record {
            can = subst (λ (rows : Rows).
                why_of (relocate (meaning rows.read) moving.path moving.to).0 ≡ None) same.0
                (able then);
            means = said then
                ∙ ap (λ (rows : Rows). changed (meaning rows.read) (Moves moving.path moving.to))
                same.0;
            well = kept then;
            each = each;
            unknown = same.1;
          }

pub done_well : (unread : List ℕ) (change : Asks) (old new : Piece) → IsDone unread change old new
    → IsWell new.keep
done_well unread (SetsOne setting) old new done = done.well
done_well unread (MovesOne moving) old new done = done.well
done_well unread (ComesOne object) old new done = done.well
