-- A request that is done has the effect of the change that it asks for.
use Rattle.std.proofs.Common.{◌≡◌, ℕ, ℤ, Bool, true, false, ◌&&◌, List, [], ◌∷◌, length, Option}
use Rattle.std.proofs.{Common.{Some, None, refl, sym, ap, subst, ◌∙◌}, lemmas.Bool.true≢false}
use Rattle.std.{proofs.lemmas.Option.none-some, specs.{Option.option_map_or, List.find}}
use Rattle.std.specs.Prelude.{is_none}
use Rattle.room_entry.specs.{Pieces.same_text, declared.object.ObjKind.ObjKind}
use Rattle.room_entry.specs.declared.object.ObjKind.TheVariants.{Document, Folder}
use Rattle.room_entry.specs.declared.{object.Which.TheVariants.{Dacl, Sacl}, parties.Caller.Caller}
use Rattle.room_eval.specs.{Deletion.deletion, Verdict.verdict}
use Rattle.room_eval.specs.declared.deletion.DeleteVerdict.{DeleteVerdict, TheVariants.AtParent}
use Rattle.room_eval.specs.declared.deletion.DeleteVerdict.TheVariants.{AtTarget}
use Rattle.room_eval.specs.declared.deletion.DeleteVerdict.TheVariants.{Granted as MayDelete}
use Rattle.room_eval.specs.declared.outcome.Verdict.{Verdict, TheVariants.Denied as DeniedWith}
use Rattle.room_eval.specs.declared.outcome.Verdict.TheVariants.{Granted}
use Rattle.room_rows.specs.declared.node.{AuditRow.AuditRow, Node.Node, Walk.Walk}
use Rattle.room_rows.specs.Content.{Content, child_of, root_of, with_records, has_parent, with_body}
use Rattle.room_rows.specs.{Content.with_node, Walk.{behind, walk_from, walk_of}}
use Rattle.room_machine.specs.declared.reply.Reply.{Reply, TheVariants.{Done, Made}}
use Rattle.room_machine.specs.declared.request.Request.{Request, TheVariants.{Append, Can}}
use Rattle.room_machine.specs.declared.request.Request.TheVariants.{List as ListFolder, MakeFolder}
use Rattle.room_machine.specs.declared.request.Request.TheVariants.{Move, Put, Read, ReadAttr}
use Rattle.room_machine.specs.declared.request.Request.TheVariants.{ReadList, Remove, SetList}
use Rattle.room_machine.specs.{declared.request.Request.TheVariants.SetOwners, Effect.effect}
use Rattle.room_machine.specs.{Effect.{new_node, put_bytes}, Judge.{failure, first_failure}}
use Rattle.room_machine.specs.Judge.{of_deletion, of_verdict, or_else, records_of_plan}
use Rattle.room_machine.specs.{Plan.{Check, Deletion, Item, Refusal, plan_of}, Site.{Site, full_at}}
use Rattle.room_machine.specs.Site.{sites_of, last_name, parent_at, site_at, sites_along}
use Rattle.room_machine.specs.Step.{Step, caller_in, IsFree, done_with_records, failure_or}
use Rattle.room_change.specs.Changes.{Change, Comes, change_of, changed, grant_along, grant_at}
use Rattle.room_change.specs.Laws.{AfterTheMaking, AfterTheRequest, made_by}

-- ---- objects alone grant

module _ (one other : Content) (same : other.nodes ≡ one.nodes) where
  child_same : (id : ℕ) (name : List ℕ) → child_of other id name ≡ child_of one id name
  child_same id name =
      ap (find (λ (node : Node). has_parent id node && same_text node.name name)) same

  walk_same : (names : List (List ℕ)) (node : Node)
      → walk_from other node names ≡ walk_from one node names
  walk_same [] node = refl
  walk_same (name ∷ names) node =
      ap (λ o. option_map_or (λ child. behind node (walk_from other child names)) o
      (record { chain = node ∷ []; rest = length (name ∷ names) })) (child_same node.id name)
      ∙ on (child_of one node.id name) (λ child. walk_same names child)
    where
      on : (o : Option Node)
          → ((child : Node) → walk_from other child names ≡ walk_from one child names)
          → option_map_or (λ child. behind node (walk_from other child names)) o
          (record { chain = node ∷ []; rest = length (name ∷ names) })
          ≡ option_map_or (λ child. behind node (walk_from one child names)) o
          (record { chain = node ∷ []; rest = length (name ∷ names) })
      on None next = refl
      on (Some child) next = ap (λ (w : Walk). behind node w) (next child)

  walks_same : (path : List (List ℕ)) → walk_of other path ≡ walk_of one path
  walks_same path =
      ap walk_on (ap (find (λ (node : Node). is_none node.parent)) same) ∙ on (root_of one)
    where
      walk_on : Option Node → Walk
      walk_on o =
          option_map_or (λ root. walk_from other root path) o
          (record { chain = []; rest = length path })

      on : (o : Option Node)
          → walk_on o ≡ option_map_or (λ root. walk_from one root path) o
          (record { chain = []; rest = length path })
      on None = refl
      on (Some root) = walk_same path root

  -- where the objects are the same, each caller may do the same
  pub grant_same : (caller : Caller) (path : List (List ℕ))
      → grant_at other caller path ≡ grant_at one caller path
  grant_same caller path =
      ap (λ (w : Walk). grant_along caller (sites_of w.chain) path) (walks_same path)

-- ---- a failure carries nothing out

abbrev is_carried : Reply → Bool
is_carried Done = true
is_carried Made = true
is_carried _ = false

abbrev carried : Option Reply → Bool
carried o = option_map_or is_carried o false

of_check : (site : Site) (v : Verdict) → carried (of_verdict site v) ≡ false
of_check site Granted = refl
of_check site (DeniedWith bits place) = refl

of_removal : (target parent : Site) (v : DeleteVerdict)
    → carried (of_deletion target parent v) ≡ false
of_removal target parent (MayDelete by_add) = refl
of_removal target parent (AtTarget place) = refl
of_removal target parent (AtParent bits place) = refl

module _ (caller : Caller) where
  of_item : (item : Item) → carried (failure caller item) ≡ false
  of_item (Check site bits) =
      of_check site (verdict (full_at Dacl site) caller site.node.owners bits)
  of_item (Deletion target parent) =
      of_removal target parent
      (deletion (full_at Dacl target) target.node.owners (full_at Dacl parent) parent.node.owners
      caller)
  of_item (Refusal path why true) = refl
  of_item (Refusal path why false) = refl

  none_carried : (items : List Item) → carried (first_failure caller items) ≡ false
  none_carried [] = refl
  none_carried (item ∷ items) = on (failure caller item) (of_item item) (none_carried items)
    where
      on : (o : Option Reply) → carried o ≡ false → carried (first_failure caller items) ≡ false
          → carried (or_else o (first_failure caller items)) ≡ false
      on None one others = others
      on (Some reply) one others = one

-- ---- so it has its effect

module _ (room : Content) (caller : Caller) (items : List Item) (records : List AuditRow)
    (done : Reply × Content) (reply : Reply) (after : Content) (is_one : is_carried reply ≡ true)
  where
    effect_of : (o : Option Reply) → first_failure caller items ≡ o
        → done_with_records (failure_or o room done) records ≡ (reply, after)
        → (done.0 ≡ reply) × (with_records done.1 records ≡ after)
    effect_of None found is =
        (ap (λ (p : Reply × Content). p.0) is, ap (λ (p : Reply × Content). p.1) is)
    effect_of (Some refusal) found is =
        absurd (true≢false (sym is_one ∙ ap is_carried (sym (ap (λ (p : Reply × Content). p.0) is))
        ∙ ap carried (sym found) ∙ none_carried caller items))

    carried_out : done_with_records (failure_or (first_failure caller items) room done) records
        ≡ (reply, after) → (done.0 ≡ reply) × ((other : Caller) (path : List (List ℕ))
        → grant_at after other path ≡ grant_at done.1 other path)
    carried_out is =
        let both = effect_of (first_failure caller items) refl is in (
          both.0,
          λ other path.
              ap (λ (c : Content). grant_at c other path) (sym both.1)
              ∙ grant_same done.1 (with_records done.1 records) refl other path,
        )

module _ (room : Content) (user : Option (List ℕ)) (moment : ℤ) (after : Content) where
  abbrev by : ℕ → Request → Reply × Content
  by id request = effect room (caller_in room user) id request

  has_effect : (request : Request) (reply : Reply) → is_carried reply ≡ true
      → (step : Step room user moment request reply after) → ((by step.0 request).0 ≡ reply)
      × ((other : Caller) (path : List (List ℕ))
      → grant_at after other path ≡ grant_at (by step.0 request).1 other path)
  has_effect request reply is step =
      carried_out room (caller_in room user) (plan_of room request)
      (records_of_plan (caller_in room user) moment (plan_of room request))
      (by step.0 request) reply after is step.2

  asked : (request : Request) → Step room user moment request Done after → (other : Caller)
      (path : List (List ℕ)) → (id : ℕ)
      × (grant_at after other path ≡ grant_at (by id request).1 other path)
  asked request step other path = (step.0, (has_effect request Done refl step).1 other path)

  wrong_change : (change : Change) → None ≡ Some change → ⊥
  wrong_change change is = cc

  by_request : (request : Request) (change : Change) → change_of request ≡ Some change
      → Step room user moment request Done after → (other : Caller) (path : List (List ℕ))
      → grant_at after other path ≡ grant_at (changed room change) other path
  by_request (SetList at Dacl sent) change is step other path =
      let found = asked (SetList at Dacl sent) step other path in
      found.1 ∙ ap (λ (o : Option Change). option_map_or
      (λ c. grant_at (changed room c) other path) o ([], false)) is
  by_request (Move at to) change is step other path =
      let found = asked (Move at to) step other path in
      found.1 ∙ ap (λ (o : Option Change). option_map_or
      (λ c. grant_at (changed room c) other path) o ([], false)) is
  by_request (SetList at Sacl sent) change is step other path = absurd (wrong_change change is)
  by_request (Read at) change is step other path = absurd (wrong_change change is)
  by_request (ListFolder at) change is step other path = absurd (wrong_change change is)
  by_request (Put at bytes) change is step other path = absurd (wrong_change change is)
  by_request (Append at bytes) change is step other path = absurd (wrong_change change is)
  by_request (MakeFolder at) change is step other path = absurd (wrong_change change is)
  by_request (Remove at) change is step other path = absurd (wrong_change change is)
  by_request (ReadList at which) change is step other path = absurd (wrong_change change is)
  by_request (ReadAttr at) change is step other path = absurd (wrong_change change is)
  by_request (SetOwners at owners) change is step other path = absurd (wrong_change change is)
  by_request (Can at mask) change is step other path = absurd (wrong_change change is)

pub after_the_request : AfterTheRequest
after_the_request room user moment request change after is step caller path =
    by_request room user moment after request change is step caller path

-- ---- an object that is made

module _ (room : Content) (user : Option (List ℕ)) (moment : ℤ) (after : Content) where
  abbrev maker : Caller
  maker = caller_in room user

  not_done : (Done ≡ Made) → ⊥
  not_done is = let wrong : ⊥ = cc in wrong

  -- it came to its folder
  abbrev CameInto : List (List ℕ) → ObjKind → Type 0
  CameInto path kind =
      (folder : Site) × (parent_at (sites_along room path) path ≡ Some folder)
      × ((id : ℕ) × IsFree room id × ((caller : Caller) (at : List (List ℕ))
      → grant_at after caller at
      ≡ grant_at (changed room (Comes path
      (new_node id maker kind folder (last_name path)))) caller at))

  abbrev Came : Option (List (List ℕ) × ObjKind) → Type 0
  Came None = Unit {0}
  Came (Some it) = CameInto it.0 it.1

  came_with : (path : List (List ℕ)) (kind : ObjKind) (id : ℕ) → IsFree room id
      → (becomes : Site → Content)
      → ((folder : Site) → (becomes folder).nodes
      ≡ (with_node room (new_node id maker kind folder (last_name path))).nodes)
      → (o : Option Site) → parent_at (sites_along room path) path ≡ o
      → (option_map_or {U = Reply × Content} (λ folder. (Made, becomes folder)) o (Done, room)).0
      ≡ Made
      → ((caller : Caller) (at : List (List ℕ)) → grant_at after caller at
      ≡ grant_at (option_map_or {U = Reply × Content} (λ folder. (Made, becomes folder)) o
      (Done, room)).1 caller at) → CameInto path kind
  came_with path kind id free becomes same None at is grants = absurd (not_done is)
  came_with path kind id free becomes same (Some folder) at is grants = (
    folder,
    at,
    (
      id,
      free,
      λ caller to.
          grants caller to
          ∙ grant_same (with_node room (new_node id maker kind folder (last_name path)))
          (becomes folder) (same folder) caller to,
    ),
  )

  made_so : (request : Request) (path : List (List ℕ)) (kind : ObjKind)
      → made_by request ≡ Some (path, kind) → Step room user moment request Made after
      → CameInto path kind
  made_so (Put to bytes) path kind is step =
      let both = has_effect room user moment after (Put to bytes) Made refl step in
      subst Came is
      (on (site_at (sites_along room to) to) both.0 both.1)
    where
      put : Option Site → Reply × Content
      put o = put_bytes room maker step.0 to bytes o (parent_at (sites_along room to) to)

      on : (o : Option Site) → (put o).0 ≡ Made
          → ((caller : Caller) (at : List (List ℕ))
          → grant_at after caller at ≡ grant_at (put o).1 caller at) → CameInto to Document
      on (Some target) made grants = absurd (not_done made)
      on None made grants =
          came_with to Document step.0 step.1
          (λ folder. with_body (with_node room
          (new_node step.0 maker Document folder (last_name to))) step.0 bytes) (λ folder. refl)
          (parent_at (sites_along room to) to) refl made grants
  made_so (MakeFolder to) path kind is step =
      let both = has_effect room user moment after (MakeFolder to) Made refl step in
      subst Came is
      (came_with to Folder step.0 step.1
      (λ folder. with_node room (new_node step.0 maker Folder folder (last_name to)))
      (λ folder. refl) (parent_at (sites_along room to) to) refl both.0 both.1)
  made_so (Read to) path kind is step = absurd (none-some _ is)
  made_so (ListFolder to) path kind is step = absurd (none-some _ is)
  made_so (Append to bytes) path kind is step = absurd (none-some _ is)
  made_so (Remove to) path kind is step = absurd (none-some _ is)
  made_so (Move at to) path kind is step = absurd (none-some _ is)
  made_so (ReadList to which) path kind is step = absurd (none-some _ is)
  made_so (SetList to which sent) path kind is step = absurd (none-some _ is)
  made_so (ReadAttr to) path kind is step = absurd (none-some _ is)
  made_so (SetOwners to owners) path kind is step = absurd (none-some _ is)
  made_so (Can to mask) path kind is step = absurd (none-some _ is)

pub after_the_making : AfterTheMaking
after_the_making room user moment request path kind after is step =
    made_so room user moment after request path kind is step
