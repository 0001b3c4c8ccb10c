-- Where no object is without a parent, nothing but the root's place is answered.
use Rattle.std.proofs.Common.{ℕ, ◌≡◌, ◌⊎◌, inl, inr, false, List, [], ◌∷◌, ◌++◌, Some, None, refl}
use Rattle.std.proofs.{Common.{ap, arith}, lemmas.Bool.Decides.nat_tests}
use Rattle.std.specs.Option.{option_map_or}
use Rattle.room_entry.specs.declared.parties.Caller.{Caller}
use Rattle.room_rows.specs.{Content.root_of, Rows.Rows}
use Rattle.room_machine.specs.declared.request.Request.{Request, TheVariants.Read}
use Rattle.room_machine.specs.declared.request.Request.TheVariants.{List as ListFolder, Put, Append}
use Rattle.room_machine.specs.declared.request.Request.TheVariants.{MakeFolder, Remove, Move}
use Rattle.room_machine.specs.declared.request.Request.TheVariants.{ReadList, SetList, ReadAttr}
use Rattle.room_machine.specs.declared.request.Request.TheVariants.{SetOwners, Can}
use Rattle.room_machine.specs.declared.reply.Reply.{Reply, TheVariants.{Bytes, Names, Lists, Attr}}
use Rattle.room_machine.specs.declared.reply.Reply.TheVariants.{Rulings, Made, Done, Denied}
use Rattle.room_machine.specs.declared.reply.{Reply.TheVariants.Refused, Reason.TheVariants.Exists}
use Rattle.room_machine.specs.{Site.{Site, parent_at, site_at}, Plan.{Item, target_by, way}}
use Rattle.room_machine.specs.{Plan.where_found, Stored.{AtFree, AtStored, stored_along}}
use Rattle.room_machine.specs.{Stored.{stored_from, stored_plan}, Closed.{IsShown, TellsFailure}}
use Rattle.room_machine.specs.{Closed.failure_told, Judge.first_failure, Laws.AnswersNeedRoot}

some_none : (X : Type 0) (x : X) → None ≡ Some x → ⊥
some_none X x is = cc

no_parent : (path : List (List ℕ)) → parent_at [] path ≡ None
no_parent [] = refl
no_parent (name ∷ names) = refl

-- a reply that tells this refusal is it
told_refusal : (reply : Reply) → Some (Refused [] Exists) ≡ failure_told reply
    → reply ≡ Refused [] Exists
told_refusal (Bytes bytes) told = absurd (let wrong : ⊥ = cc in wrong)
told_refusal (Names names) told = absurd (let wrong : ⊥ = cc in wrong)
told_refusal (Lists flags entries) told = absurd (let wrong : ⊥ = cc in wrong)
told_refusal (Attr kind owners) told = absurd (let wrong : ⊥ = cc in wrong)
told_refusal (Rulings rulings) told = absurd (let wrong : ⊥ = cc in wrong)
told_refusal Made told = absurd (let wrong : ⊥ = cc in wrong)
told_refusal Done told = absurd (let wrong : ⊥ = cc in wrong)
told_refusal (Denied path bits place entry) told = absurd (let wrong : ⊥ = cc in wrong)
told_refusal (Refused path why) told = cc

module _ (rows : Rows) (none : root_of rows.read ≡ None) where
  no_sites : (path : List (List ℕ)) → stored_along rows.read path ≡ []
  no_sites path = ap (λ o. option_map_or (λ root. stored_from rows.read [] root path) o []) none

  not_at : (path : List (List ℕ)) (P : Site → Type 0) → AtStored rows.read path P → ⊥
  not_at path P at = grind (arith, nat_tests, no_sites, some_none)

  not_free : (path : List (List ℕ)) (P : Site → Type 0) → AtFree rows.read path P → ⊥
  not_free path P at = grind (arith, nat_tests, no_parent, no_sites, some_none)

  not_shown : (caller : Caller) (request : Request) (reply : Reply)
      → IsShown rows caller request reply → ⊥
  not_shown caller (Read path) reply shown = not_at path _ shown
  not_shown caller (ListFolder path) reply shown = not_at path _ shown
  not_shown caller (ReadList path which) reply shown = not_at path _ shown
  not_shown caller (ReadAttr path) reply shown = not_at path _ shown
  not_shown caller (Can path mask) reply shown = not_at path _ shown
  not_shown caller (Put path bytes) reply (inl shown) = not_at path _ shown
  not_shown caller (Put path bytes) reply (inr shown) = not_free path _ shown
  not_shown caller (Append path bytes) reply shown = not_at path _ shown
  not_shown caller (MakeFolder path) reply shown = not_free path _ shown
  not_shown caller (Remove path) reply shown = not_at path _ shown
  not_shown caller (Move path to) reply shown = not_at path _ shown
  not_shown caller (SetList path which sent) reply shown = not_at path _ shown
  not_shown caller (SetOwners path owners) reply shown = not_at path _ shown

  no_target : (path : List (List ℕ)) (items : Site → List Item)
      → target_by (stored_along rows.read) path items ≡ []
  no_target path items =
      ap (λ sites. way false sites path ++ where_found (site_at sites path) items) (no_sites path)

  -- nothing is planned
  planless : (request : Request) → (stored_plan rows.read request ≡ [])
      ⊎ (request ≡ MakeFolder [])
  planless (Read path) = inl (no_target path _)
  planless (ListFolder path) = inl (no_target path _)
  planless (ReadList path which) = inl (no_target path _)
  planless (ReadAttr path) = inl (no_target path _)
  planless (Can path mask) = inl (no_target path _)
  planless (Put path bytes) = grind (arith, nat_tests, no_parent, no_sites)
  planless (Append path bytes) = inl (no_target path _)
  planless (MakeFolder []) = inr refl
  planless (MakeFolder (name ∷ names)) = grind (arith, nat_tests, no_sites)
  planless (Remove path) = inl (no_target path _)
  planless (Move path to) = inl (no_target path _)
  planless (SetList path which sent) = inl (no_target path _)
  planless (SetOwners path owners) = inl (no_target path _)

  -- what is told is the refusal of the root's place
  told : (caller : Caller) (request : Request) (reply failed : Reply)
      → TellsFailure rows request reply (first_failure caller (stored_plan rows.read request))
      → failure_told reply ≡ Some failed
      → (request ≡ MakeFolder []) × (reply ≡ Refused [] Exists)
  told caller request reply failed (inr more) is = absurd (not_at more.path _ more.refused)
  told caller request reply failed (inl same) is =
      grind (arith, nat_tests, planless, some_none, told_refusal)

pub answers_need_a_root : AnswersNeedRoot
answers_need_a_root rows user moment request reply after none closed =
    grind (arith, nat_tests, not_shown, told)
