-- An object that comes, in terms of calls.
use Rattle.std.proofs.Common.{◌≡◌, ℕ, true, List, [], Some, None, Result, Ok, Err, IfErr, refl, sym}
use Rattle.std.{proofs.Common.{ap, subst, ◌∙◌, inl}, specs.Prelude.OnOk}
use Rattle.room_entry.specs.declared.failure.Failure.{Failure, TheVariants.{Fault, OutOfMemory}}
use Rattle.room_rows.specs.{declared.node.Node.Node, Rows.{AreRows, Rows}, Sound.AreSound}
use Rattle.room_rows.specs.{Keep.{Adds, CanAdd, with_bytes, with_content}, Paths.is_object_name}
use Rattle.room_memory.specs.Memory.{rows_in}
use Rattle.room_machine.specs.{Site.last_name, declared.reply.Reply.TheVariants.Refused}
use Rattle.room_machine.specs.declared.reply.Reason.TheVariants.{Exists}
use Rattle.room_question.specs.declared.question.Object.{Object}
use Rattle.room_piece.specs.Coming.{CannotCome, ComesInto, HasCome, IsBarred, IsMarked, IsPlaceFor}
use Rattle.room_piece.specs.{Coming.{next_number, object_in}, Holding.IsWell, Refusing.Blames}
use Rattle.room_piece.specs.{Storing.{IsWithin, misfit}, Walking.Finds, declared.piece.Piece.Piece}
use Rattle.room_piece.specs.declared.refusal.{Refusal.Refusal, RefusalWhy.TheVariants.Room}
use Rattle.room_piece.proofs.Standing.{after_is, after_means, after_sound, there}

-- what a failure says, said of it otherwise
pub blames_turn : (Says Then : Refusal → Type 0) (failure : Failure Refusal) → Blames Says failure
    → ((refusal : Refusal) → Says refusal → Then refusal) → Blames Then failure
blames_turn Says Then OutOfMemory said turn = tt
blames_turn Says Then (Fault refusal) said turn = turn refusal said

pub blames_all : {X : Type 0} (Says Then : Refusal → Type 0) (r : Result X (Failure Refusal))
    → IfErr r (Blames Says) → ((refusal : Refusal) → Says refusal → Then refusal)
    → IfErr r (Blames Then)
blames_all Says Then (Ok x) said turn = tt
blames_all Says Then (Err failure) said turn = blames_turn Says Then failure said turn

module _ (unread : List ℕ) (object : Object) (old new : Piece) (folder : Node)
    (well : IsWell old.keep) (place : IsPlaceFor object.path folder (rows_in old.keep))
    (named : is_object_name (last_name object.path) ≡ true) where
  abbrev rows : Rows
  rows = rows_in old.keep

  has_come : misfit object folder.dacl ≡ None → IsWithin object.list
      → (AreRows rows → AreRows (rows_in new.keep))
      → (AreRows rows
      → Adds (with_bytes (object_in unread object (last_name object.path) folder) []) rows
      (next_number rows) (rows_in new.keep))
      → IsMarked object (next_number rows) old new → HasCome unread object old new
  has_come fits within stays adds marked =
      let found = there unread object rows well.rows well.sound folder place named in
      let can : CanAdd (with_bytes (object_in unread object (last_name object.path) folder) []) rows
      = record {
        parent = folder.id;
        parent_is = refl;
        folder = (folder, found, place.way.folds);
        name_is_free = place.free;
      } in
      let added = adds well.rows can in
      record {
        folder = folder;
        place = place;
        named = named;
        fits = fits;
        becomes = added.becomes;
        means =
            ap (λ (r : Rows). Rattle.room_rows.specs.Meaning.meaning r.read)
            (added.becomes ∙ ap (λ content. with_content rows content)
            (after_is unread object rows well.rows well.sound folder place named))
            ∙ after_means unread object rows well.rows well.sound folder place named;
        well = record {
          rows = stays well.rows;
          sound = subst AreSound
              (sym (added.becomes ∙ ap (λ content. with_content rows content)
              (after_is unread object rows well.rows well.sound folder place named)))
              (after_sound unread object rows well.rows well.sound folder place named fits within);
        };
        marked = marked;
      }

module _ (unread : List ℕ) (object : Object) (old mid new : Piece) (folder : Node)
    (name : List ℕ) (is_last : name ≡ last_name object.path) (named : is_object_name name ≡ true)
    (found : AreRows (rows_in old.keep)
    → Finds (IsPlaceFor object.path folder) (rows_in old.keep) (rows_in mid.keep))
    (each : mid.each ≡ old.each) (unknown : mid.unknown ≡ old.unknown) where
  abbrev Then : Rows → List ℕ → Type 0
  Then rows text = (AreRows rows → AreRows (rows_in new.keep)) × (AreRows rows
      → Adds (with_bytes (object_in unread object text folder) []) rows (next_number rows)
      (rows_in new.keep)) × IsMarked object (next_number rows) old new

  come_so : ComesInto unread object name folder mid new → IsWell old.keep
      → HasCome unread object old new
  come_so comes well =
      let at = found well.rows in
      let then : Then (rows_in mid.keep) name = (
        comes.added.rows,
        comes.added.adds,
        record {
          each = comes.marked.each ∙ ap (λ numbers. Rattle.room_piece.specs.Marking.with_mark
              (Rattle.room_piece.specs.Owning.is_each object.owner)
              (next_number (rows_in mid.keep)) numbers) each;
          unknown = comes.marked.unknown
              ∙ ap (λ numbers. Rattle.room_piece.specs.Marking.with_mark
              (Rattle.room_piece.specs.Marking.is_unread object.list)
              (next_number (rows_in mid.keep)) numbers) unknown;
        },
      ) in
      let here : Then (rows_in old.keep) (last_name object.path) =
      subst (λ (text : List ℕ). Then (rows_in old.keep) text) is_last
      (subst (λ (rows : Rows). Then rows name) at.1 then) in
      has_come unread object old new folder well at.0 (ap is_object_name (sym is_last) ∙ named)
      comes.fits comes.within here.0 here.1 here.2

  pub come_ok : (r : Result (Unit {0}) (Failure Refusal))
      → OnOk r (ComesInto unread object name folder mid new)
      → OnOk r (IsWell old.keep → HasCome unread object old new)
  come_ok (Ok u) comes = come_so comes
  come_ok (Err failure) comes = tt

-- the root stands already
pub root_barred : (object : Object) (old : Piece) (refusal : Refusal) → object.path ≡ []
    → refusal.line ≡ object.line → refusal.why ≡ Room Exists → CannotCome object old refusal
root_barred object old refusal is line why = record {
  line = line;
  why = λ well. inl (
      subst (λ (p : List (List ℕ)). IsBarred p (rows_in old.keep) refusal.why) (sym is)
      (record { reply = Refused [] Exists; first = refl; told = ap (λ w. Some w) (sym why) })
      );
}
