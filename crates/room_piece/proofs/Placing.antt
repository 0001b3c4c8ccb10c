-- Where an object comes to, or why nothing can come there.
use Rattle.std.proofs.Common.{◌≡◌, ℕ, zero, suc, ◌<◌, Bool, true, cond, not, List, [], ◌∷◌, ◌++◌}
use Rattle.std.proofs.Common.{filter, length, Option, Some, None, Result, Ok, Err, IfOk, IfErr}
use Rattle.std.proofs.Common.{refl, sym, ap, subst, nat_lt, ◌∙◌, inl, inr, arith}
use Rattle.std.{proofs.lemmas.{Bool.Decides.nat_tests, Option.none-some}, specs.Prelude.is_some}
use Rattle.room_entry.specs.{Valid.is_document, declared.object.ObjKind.ObjKind}
use Rattle.room_entry.specs.declared.object.ObjKind.TheVariants.{Document, Folder}
use Rattle.room_entry.specs.declared.failure.Failure.{Failure, TheVariants.{Fault, OutOfMemory}}
use Rattle.room_rows.specs.{declared.node.{Node.Node, Walk.Walk}, Content.{child_of, is_folder}}
use Rattle.room_rows.specs.{Rows.{AreRows, Rows}, Sound.AreSound}
use Rattle.room_machine.specs.declared.reply.Reply.{Reply, TheVariants.Refused}
use Rattle.room_machine.specs.declared.reply.Reason.TheVariants.{Exists, NoSuch, NotFolder}
use Rattle.room_machine.specs.{Judge.first_failure, Plan.{Item, Refusal}, Site.{front, last_name}}
use Rattle.room_machine.specs.{Step.is_refusal, Stored.to_stored}
use Rattle.room_judge.specs.Judged.{ended_at}
use Rattle.room_desk.{specs.Relocating.EndsAt, proofs.Lists.ResetClosed.ends_along}
use Rattle.room_desk.proofs.Lists.SetReset.{CameTo, came_to, operator}
use Rattle.room_piece.specs.Coming.{IsAt, IsBarred, IsFolderFor, items_for, plan_for, way_fault}
use Rattle.room_piece.specs.{Refusing.{Blames, why_of}, Walking.{Finds, IsWay}}
use Rattle.room_piece.specs.declared.refusal.{Refusal.Refusal as Refuses, RefusalWhy.RefusalWhy}
use Rattle.room_piece.specs.declared.{refusal.RefusalWhy.TheVariants.Room, walking.Way.Way}

abbrev walk_with : List Node → ℕ → Walk
walk_with chain rest = record { chain = chain; rest = rest }

-- a walk with no name left over comes to the object at the path
pub stands_at : (path : List (List ℕ)) (last : Node) (rows : Rows) → EndsAt path last 0 rows
    → IsAt path last rows
stands_at path last rows ends =
    elim (ends_along rows.read path (walk_with (ends.0 ++ last ∷ []) 0) ends.0 last (sym ends.1)
    refl) [
      | inl here ↦ here.1
      | inr over ↦
          let some : 0 ≡ suc over.0 = over.1 in
          absurd (let wrong : ⊥ = omega (arith, some) in wrong)
    ]

pub folder_found : (path : List (List ℕ)) (way : Way) (folder : Node) (old new : Rows)
    → 0 < length path → Finds (IsWay (front path) way) old new → folder ≡ way.last
    → way.rest ≡ 0 → is_folder folder ≡ true → Finds (IsFolderFor path folder) old new
folder_found path way folder old new some found is whole folds = (
  record {
    some = some;
    ends = (
      way.above.items,
      found.0 ∙ ap (λ (n : ℕ). walk_with (way.above.items ++ way.last ∷ []) n) whole
          ∙ ap (λ (n : Node). walk_with (way.above.items ++ n ∷ []) 0) (sym is),
    );
    folds = folds;
  },
  found.1,
)

-- ---- why it can't

module _ (path : List (List ℕ)) (some : 0 < length path) (old : Rows) (are : AreRows old)
    (sound : AreSound old) where
  plan_is : (p : List (List ℕ)) → 0 < length p
      → plan_for old.read p ≡ to_stored old.read (front p) (items_for old.read p)
  plan_is [] none = absurd (let wrong : ⊥ = omega arith in wrong)
  plan_is (name ∷ names) more = refl

  abbrev first_of : List Item → Option Reply
  first_of items = first_failure operator (filter is_refusal items)

  barred : (reply : Reply) (why : RefusalWhy)
      → first_of (to_stored old.read (front path) (items_for old.read path)) ≡ Some reply
      → why_of reply ≡ Some why → IsBarred path old why
  barred reply why first told = record {
    reply = reply;
    first = ap first_of (plan_is path some) ∙ first;
    told = told;
  }

  abbrev items : Bool → Bool → List Item
  items folds taken = Refusal (front path) NotFolder (not folds) ∷ Refusal path Exists taken ∷ []

  abbrev has_it : Node → Bool
  has_it folder = is_some (child_of old.read folder.id (last_name path))

  -- the folder is there, and is one, but has something of the name
  pub taken : (folder : Node) → EndsAt (front path) folder 0 old → is_folder folder ≡ true
      → has_it folder ≡ true → IsBarred path old (Room Exists)
  taken folder ends folds is =
      let came : CameTo old are sound (front path) (items_for old.read path) folder 0 =
      came_to old are sound (front path) (items_for old.read path)
      (walk_with (ends.0 ++ folder ∷ []) 0) ends.0 folder (sym ends.1) refl in
      barred (Refused path Exists) (Room Exists)
      (came.comes.1 ∙ ap (λ (b : Bool). first_of (items b (has_it folder))) folds
      ∙ ap (λ (b : Bool). first_of (items true b)) is) refl

  module _ (way : Way) (goes : IsWay (front path) way old) where
    abbrev last : Node
    last = way.last

    came : CameTo old are sound (front path) (items_for old.read path) last way.rest
    came = came_to old are sound (front path) (items_for old.read path)
        (walk_with (way.above.items ++ last ∷ []) way.rest) way.above.items last (sym goes) refl

    -- the way ends at a document, or a name is left over
    abbrev fault_by : ObjKind → ℕ → Option RefusalWhy
    fault_by kind rest = cond (is_document kind) (Some (Room NotFolder))
        (cond (nat_lt 0 rest) (Some (Room NoSuch)) None)

    some_left : (rest : ℕ) → nat_lt 0 (suc rest) ≡ true
    some_left rest = grind (arith, nat_tests)

    by_kind : (rest : ℕ) → CameTo old are sound (front path) (items_for old.read path) last rest
        → (kind : ObjKind) → last.kind ≡ kind → (why : RefusalWhy)
        → fault_by kind rest ≡ Some why → IsBarred path old why
    by_kind zero at Document is why fault =
        barred (Refused (front path) NotFolder) why
        (at.comes.1
        ∙ ap (λ (k : ObjKind). first_of (items (not (is_document k)) (has_it last))) is) fault
    by_kind zero at Folder is why fault = absurd (none-some why fault)
    by_kind (suc rest) at Document is why fault =
        barred (ended_at (front path) last.kind (suc rest)) why at.comes
        (ap (λ (k : ObjKind). why_of (ended_at (front path) k (suc rest))) is ∙ fault)
    by_kind (suc rest) at Folder is why fault =
        barred (ended_at (front path) last.kind (suc rest)) why at.comes
        (ap (λ (k : ObjKind). why_of (ended_at (front path) k (suc rest))) is
        ∙ ap (λ (b : Bool). cond b (Some (Room NoSuch)) None) (sym (some_left rest)) ∙ fault)

    pub barred_way : (why : RefusalWhy) → way_fault way ≡ Some why → IsBarred path old why
    barred_way why fault = by_kind way.rest came last.kind refl why fault

-- ---- in terms of calls

module _ (path above : List (List ℕ)) (way : Way) (old new : Rows) (some : 0 < length path)
    (is : above ≡ front path) (Given : Type 0) where
  pub folder_ok : (r : Result Node (Failure Refuses)) → (Given → Finds (IsWay above way) old new)
      → IfOk r (λ folder. (folder ≡ way.last) × (way.rest ≡ 0) × (is_folder folder ≡ true))
      → IfOk r (λ folder. Given → Finds (IsFolderFor path folder) old new)
  folder_ok (Ok folder) found said = λ given.
      folder_found path way folder old new some
      (subst (λ (p : List (List ℕ)). Finds (IsWay p way) old new) is (found given))
      said.0 said.1 said.2
  folder_ok (Err fault) found said = tt

-- another fault of the same line
pub blames_so : {X : Type 0} (Says Then : RefusalWhy → Type 0) (line : ℕ)
    (r : Result X (Failure Refuses))
    → IfErr r (Blames (λ refusal. (refusal.line ≡ line) × Says refusal.why))
    → ((why : RefusalWhy) → Says why → Then why)
    → IfErr r (Blames (λ refusal. (refusal.line ≡ line) × Then refusal.why))
blames_so Says Then line (Ok x) said turn = tt
blames_so Says Then line (Err OutOfMemory) said turn = tt
blames_so Says Then line (Err (Fault refusal)) said turn = (said.0, turn refusal.why said.1)
