-- Worked listings: what may be shown of a folder with a row that can't be read.
use Rattle.std.proofs.Common.{◌≡◌, ℕ, zero, suc, List, [], ◌∷◌, Some, refl, sym, ap, inl}
use Rattle.std.proofs.{Common.{inr, codes, arith}, lemmas.{Bool.false≢true, Option.same_Some}}
use Rattle.std.specs.List.{Contains}
use Rattle.room_entry.specs.{Valid.is_document, declared.object.ObjKind.ObjKind}
use Rattle.room_entry.specs.declared.object.ObjKind.TheVariants.{Document, Folder}
use Rattle.room_entry.specs.declared.parties.Caller.{Caller}
use Rattle.room_rows.specs.{declared.node.Node.Node, Keep.AreNamedUnder, Rows.{Rows, Unread}}
use Rattle.room_machine.specs.declared.reply.Reply.TheVariants.{Names}
use Rattle.room_machine.specs.declared.request.Request.TheVariants.{List as ListFolder}
use Rattle.room_machine.specs.{Closed.IsShown, Site.Site, Stored.stored_site}
use Rattle.room_machine.proofs.Worked.Worlds.{object, plain, world}

abbrev f : List ℕ × ObjKind
f = (codes "f", Document)

abbrev g : List ℕ × ObjKind
g = (codes "g", Document)

abbrev q : List ℕ × ObjKind
q = (codes "q", Folder)

abbrev folder : Node
folder = object 2 1 q.0 Folder plain

-- it has a document `f`, and a row of the name `g` that can't be read
abbrev lost : Unread
lost = record { id = 4; parent = Some 2; named = Some g; values = [] }

abbrev rows : Rows
rows =
    record {
      read = world (folder ∷ object 3 2 f.0 Document plain ∷ []) [];
      unreadable = lost ∷ [];
    }

abbrev there : Site
there = stored_site (q.0 ∷ []) folder

abbrev IsShownIn : Caller → List (List ℕ × ObjKind) → Type 0
IsShownIn caller names = IsShown rows caller (ListFolder (q.0 ∷ [])) (Names names)

q_isnt_f : q ≡ f → ⊥
q_isnt_f same = false≢true (ap (λ (named : List ℕ × ObjKind). is_document named.1) same)

q_isnt_lost : Contains (g ∷ []) q → ⊥
q_isnt_lost (zero, below, same) =
    false≢true (ap (λ (named : List ℕ × ObjKind). is_document named.1) (sym same))
q_isnt_lost (suc k, below, same) = let wrong : ⊥ = omega (arith, below) in wrong

module _ (caller : Caller) where
  a_lost_row_may_be_left_out : IsShownIn caller (f ∷ [])
  a_lost_row_may_be_left_out = (there, refl, (f ∷ [], refl, inl (refl, refl)))

  a_lost_row_may_be_named : IsShownIn caller (f ∷ g ∷ [])
  a_lost_row_may_be_named =
      (there, refl, (f ∷ g ∷ [], refl, inl (refl, ((0, omega arith, refl), refl))))

  -- what is shown is told of this folder
  told_here : (names : List (List ℕ × ObjKind)) → IsShownIn caller names
      → AreNamedUnder 2 rows names
  told_here names (target, found, (told, same, named)) =
      grind (arith, target, same_Some, found, names, told, target.node.id, named)

  a_child_is_never_left_out : IsShownIn caller [] → ⊥
  a_child_is_never_left_out shown =
      let named = told_here [] shown in let wrong : ⊥ = cc in wrong

  another_folder_is_never_shown : IsShownIn caller (q ∷ f ∷ []) → ⊥
  another_folder_is_never_shown shown = on (told_here (q ∷ f ∷ []) shown)
    where
      on : AreNamedUnder 2 rows (q ∷ f ∷ []) → ⊥
      on (inl (same, rest)) = q_isnt_f same
      on (inr (stands, rest)) = q_isnt_lost stands
