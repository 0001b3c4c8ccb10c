-- Ways that a caller comes along, and what the replies at their ends say.
use Rattle.std.proofs.Common.{rules, ℕ, ◌≡◌, ◌&&◌, Bool, true, false, cond, not, List, [], ◌∷◌}
use Rattle.std.proofs.Common.{◌++◌, map, filter, length, take, Option, Some, None, refl, sym, ap}
use Rattle.std.proofs.{Common.{subst, ◌∙◌, arith}, lemmas.Bool.{false≢true, true≢false, and_parts}}
use Rattle.std.proofs.lemmas.Bool.Decides.{nat_tests}
use Rattle.std.specs.{Prelude.{is_none, IsTrue}, List.list_all, Option.option_map_or}
use Rattle.room_entry.specs.{Bits.all_bits, Rights.execute, declared.object.Which.TheVariants.Dacl}
use Rattle.room_entry.specs.declared.parties.Caller.{Caller}
use Rattle.room_eval.specs.declared.outcome.{Ruling.Ruling, Verdict.TheVariants.Granted}
use Rattle.room_eval.specs.declared.deletion.DeleteVerdict.{DeleteVerdict}
use Rattle.room_eval.specs.declared.deletion.DeleteVerdict.TheVariants.{Granted as MayDelete}
use Rattle.room_eval.specs.declared.deletion.DeleteVerdict.TheVariants.{AtTarget, AtParent}
use Rattle.room_eval.specs.Verdict.{denial, least_denied, ruling_of}
use Rattle.room_rows.specs.Content.{Content, children_of, is_empty, is_folder, without_node}
use Rattle.room_machine.specs.declared.reply.Reply.{Reply, TheVariants.{Done, Refused, Rulings}}
use Rattle.room_machine.specs.declared.reply.Reason.TheVariants.{NotFolder, NoSuch, NotEmpty, Root}
use Rattle.room_machine.specs.{declared.request.Request.TheVariants.{Can, Remove}, Site.Site}
use Rattle.room_machine.specs.Site.{front, full_at, parent_at, site_at, sites_along}
use Rattle.room_machine.specs.Plan.{Deletion, Item, Refusal, plan_of, way, where_found}
use Rattle.room_machine.specs.Judge.{first_failure, of_deletion, of_verdict, or_else}
use Rattle.room_machine.specs.{Effect.{effect, rulings}, Step.caller_in, Rights.{grants, last_of}}
use Rattle.room_machine.specs.Rights.{lets_through, may_remove, may_remove_at, reaches, rights}
use Rattle.room_machine.specs.Rights.{rights_at, sites_above}
use Rattle.room_machine.proofs.{Rights.folder_is_last, Replies.{or_reply, reply_of}}
use Rattle.room_review.specs.Laws.{SaysCan, SaysRemove, allowed_in, is_denial, is_rulings}
use Rattle.room_review.specs.Laws.{passed_rights}

-- ---- a way

abbrev is_passable : Site → Bool
is_passable site = is_folder site.node

some_left : (sites : List Site) (names : List (List ℕ)) (target : Site)
    → site_at sites names ≡ Some target → is_empty sites ≡ false
some_left [] names target found = absurd (let wrong : ⊥ = cc in wrong)
some_left (site ∷ sites) names target found = refl

-- what a way that is closed has for its first failure
record Stop (failed : Option Reply) (folders : Bool) : Type 0 where
  pub reply : Reply
  pub is : failed ≡ Some reply
  pub no_rulings : is_rulings reply ≡ false
  pub not_passed : passed_rights reply ≡ false
  pub nothing : allowed_in reply ≡ []
  pub denied : folders ≡ true → is_denial reply ≡ true

module _ (caller : Caller) where
  abbrev says : Site → ℕ → Ruling
  says site right = ruling_of (full_at Dacl site) caller site.node.owners right

  -- the reply to the check of EXECUTE, where the right is granted or isn't
  abbrev checked : Site → Bool → Option Reply
  checked site granted =
      of_verdict site (cond (granted && true) Granted (denial (says site) (execute ∷ [])
      (least_denied (map (says site) (execute ∷ [])))))

  denied_stop : (site : Site) (rest : Option Reply) (folders : Bool) (o : Option ℕ)
      → Stop (or_else (of_verdict site (denial (says site) (execute ∷ []) o)) rest) folders
  denied_stop site rest folders None = grind (arith, nat_tests)
  denied_stop site rest folders (Some place) = grind (arith, nat_tests)

  -- a way that is open leaves the reply to what comes after it
  passes_way : (sites : List Site) (names : List (List ℕ)) (target : Site) (rest : List Item)
      → site_at sites names ≡ Some target → reaches caller (take (length names) sites) ≡ true
      → first_failure caller (way false sites names ++ rest) ≡ first_failure caller rest
  passes_way [] names target rest found free = absurd (let wrong : ⊥ = cc in wrong)
  passes_way (site ∷ sites) [] target rest found free = refl
  passes_way (site ∷ sites) (name ∷ names) target rest found free =
      let parts = and_parts (lets_through caller site) (reaches caller (take (length names) sites))
      free in
      let lets = and_parts (is_folder site.node) (grants caller execute site) parts.0 in
      let left = some_left sites names target found in (search (rules, lets.0, lets.1, left))
      ∙ passes_way sites names target rest found parts.1

  -- the first failure of a way and what comes after it, from what is known of its first object
  abbrev whole : Site → List Site → List ℕ → List (List ℕ) → List Item → Bool → Bool → Bool
      → Option Reply
  whole site sites name names rest folder granted empty =
      or_else (cond (not folder) (Some (Refused site.path NotFolder)) None)
      (or_else (checked site granted)
      (or_else (cond (empty && true) (Some (Refused (site.path ++ name ∷ []) NoSuch)) None)
      (first_failure caller (way false sites names ++ rest))))

  -- a way that is closed is denied, or stops at what is no folder
  stops : (sites : List Site) (names : List (List ℕ)) (target : Site) (rest : List Item)
      → site_at sites names ≡ Some target → reaches caller (take (length names) sites) ≡ false
      → Stop (first_failure caller (way false sites names ++ rest))
      (list_all is_passable (take (length names) sites))
  stops [] names target rest found closed = absurd (let wrong : ⊥ = cc in wrong)
  stops (site ∷ sites) [] target rest found closed = absurd (true≢false closed)
  stops (site ∷ sites) (name ∷ names) target rest found closed =
      on (is_folder site.node) (grants caller execute site) refl refl
      (stops sites names target rest found)
    where
      on : (f g : Bool) → is_folder site.node ≡ f → grants caller execute site ≡ g
          → (reaches caller (take (length names) sites) ≡ false
          → Stop (first_failure caller (way false sites names ++ rest))
          (list_all is_passable (take (length names) sites)))
          → Stop (whole site sites name names rest (is_folder site.node)
          (grants caller execute site) (is_empty sites))
          (is_folder site.node && list_all is_passable (take (length names) sites))
      on false g folder granted later =
          subst (λ (t : Bool). Stop (whole site sites name names rest t
          (grants caller execute site) (is_empty sites))
          (t && list_all is_passable (take (length names) sites))) (sym folder)
          (record {
            reply = Refused site.path NotFolder;
            is = refl;
            no_rulings = refl;
            not_passed = refl;
            nothing = refl;
            denied = λ h. absurd (false≢true h);
          })
      on true false folder granted later =
          subst (λ (t : Bool). Stop (whole site sites name names rest t
          (grants caller execute site) (is_empty sites))
          (t && list_all is_passable (take (length names) sites))) (sym folder)
          (search (rules, denied_stop))
      on true true folder granted later = search (rules, closed, some_left, target, found)

  -- the bits that rulings allow are the rights that are granted
  allowed_rulings : (target : Site) (mask : List ℕ)
      → filter (λ right. grants caller right target) mask
      ≡ allowed_in (Rulings (rulings caller mask target))
  allowed_rulings target [] = refl
  allowed_rulings target (bit ∷ bits) = grind (arith, nat_tests, allowed_rulings target bits)

-- ---- the reply to `Can`

module _ (content : Content) (user : Option (List ℕ)) (path : List (List ℕ)) (target : Site)
    (found : site_at (sites_along content path) path ≡ Some target) where
  abbrev asker : Caller
  asker = caller_in content user

  abbrev above : List Site
  above = sites_above content path

  -- the row of the object that was found
  rights_found : rights_at content user path ≡ rights asker above target
  rights_found = ap (λ o. option_map_or (rights asker above) o []) found

  remove_found : may_remove_at content user path ≡ may_remove asker above target
  remove_found = ap (λ o. option_map_or (may_remove asker above) o false) found

  abbrev can_failed : Option Reply
  can_failed = first_failure asker (plan_of content (Can path all_bits))

  abbrev can_done : Reply
  can_done = (effect content asker 0 (Can path all_bits)).0

  can_answers : can_done ≡ Rulings (rulings asker all_bits target)
  can_answers = grind (arith, nat_tests)

  abbrev CanSays : Reply → Type 0
  CanSays reply =
      (rights_at content user path ≡ allowed_in reply)
      × (reaches asker above ≡ is_rulings reply)
      × (IsTrue (list_all (λ site. is_folder site.node) above)
      → not (reaches asker above) ≡ is_denial reply)

  can_says : (reply : Reply) → reply ≡ or_reply can_failed can_done → CanSays reply
  can_says reply is = on (reaches asker above) refl
    where
      empty_after : (t : Bool) (xs : List ℕ) → t ≡ false → cond t xs [] ≡ []
      empty_after t xs e = ap (λ s. cond s xs []) e

      on : (t : Bool) → reaches asker above ≡ t → CanSays reply
      on true free =
          let none : can_failed ≡ None =
          passes_way asker (sites_along content path) path target
          (where_found (site_at (sites_along content path) path) (λ _. [])) found free
          ∙ ap (λ o. first_failure asker (where_found o (λ _. []))) found in
          let same : reply ≡ Rulings (rulings asker all_bits target) =
          is ∙ ap (λ o. or_reply o can_done) none ∙ can_answers in (
            search (rules, rights_found, allowed_rulings, same),
            free ∙ ap is_rulings (sym same),
            λ folders. ap not free ∙ ap is_denial (sym same),
          )
      on false closed =
          let stop = stops asker (sites_along content path) path target
          (where_found (site_at (sites_along content path) path) (λ _. [])) found closed in
          let same : reply ≡ stop.reply = is ∙ ap (λ o. or_reply o can_done) stop.is in (
            search (rules, rights_found, stop.nothing, same),
            closed ∙ sym stop.no_rulings ∙ ap is_rulings (sym same),
            λ folders. ap not closed ∙ sym (stop.denied folders) ∙ ap is_denial (sym same),
          )

pub says_can : SaysCan
says_can content user moment path target reply after found s =
    can_says content user path target found reply
    (reply_of content user moment (Can path all_bits) reply after s)

-- ---- the reply to `Remove`

-- there is a last one
has_last : (sites : List Site) (name : List ℕ) (names : List (List ℕ)) (target : Site)
    → site_at sites (name ∷ names) ≡ Some target
    → last_of (take (length (name ∷ names)) sites) ≡ None → ⊥
has_last [] name names target found none = let wrong : ⊥ = cc in wrong
has_last (site ∷ sites) name [] target found none = let wrong : ⊥ = cc in wrong
has_last (site ∷ []) name (next ∷ names) target found none = let wrong : ⊥ = cc in wrong
has_last (site ∷ other ∷ sites) name (next ∷ names) target found none =
    has_last (other ∷ sites) next names target found none

-- what the reply says where the way is open
abbrev after_deletion : List (List ℕ) → Bool → Option Reply → Reply
after_deletion path children failed =
    or_reply (or_else failed (or_else (cond children (Some (Refused path NotEmpty)) None) None))
    Done

by_verdict : (path : List (List ℕ)) (children : Bool) (target folder : Site) (v : DeleteVerdict)
    → is_none (of_deletion target folder v)
    ≡ passed_rights (after_deletion path children (of_deletion target folder v))
by_verdict path true target folder (MayDelete by_add) = refl
by_verdict path false target folder (MayDelete by_add) = refl
by_verdict path children target folder (AtTarget place) = refl
by_verdict path children target folder (AtParent bits place) = refl

removes : (content : Content) (o : Option Site) → (option_map_or {U = Reply × Content}
    (λ (site : Site). (Done, without_node content site.node.id)) o (Done, content)).0 ≡ Done
removes content None = refl
removes content (Some site) = refl

module _ (content : Content) (user : Option (List ℕ)) where
  abbrev remover : Caller
  remover = caller_in content user

  abbrev has_children : Site → Bool
  has_children target = not (is_empty (children_of content target.node.id))

  abbrev behind_root : List (List ℕ) → Site → Site → List Item
  behind_root path target folder =
      Deletion target folder ∷ Refusal path NotEmpty (has_children target) ∷ []

  abbrev at_target : List (List ℕ) → Site → List Item
  at_target path target =
      Refusal path Root (is_empty path)
      ∷ where_found (parent_at (sites_along content path) path) (behind_root path target)

  abbrev says_with : List (List ℕ) → Site → Option Site → Reply
  says_with path target o =
      or_reply (first_failure remover (where_found o (behind_root path target))) Done

  -- the items behind a way that is open
  open_says : (path : List (List ℕ)) (target : Site)
      → site_at (sites_along content path) path ≡ Some target
      → reaches remover (sites_above content path) ≡ true
      → may_remove remover (sites_above content path) target
      ≡ passed_rights (or_reply (first_failure remover (at_target path target)) Done)
  open_says [] target found free = refl
  open_says (name ∷ names) target found free =
      on (last_of (sites_above content (name ∷ names))) refl
    where
      on : (o : Option Site) → last_of (sites_above content (name ∷ names)) ≡ o
          → may_remove remover (sites_above content (name ∷ names)) target
          ≡ passed_rights (says_with (name ∷ names) target
          (site_at (sites_along content (name ∷ names)) (front (name ∷ names))))
      on None none =
          absurd (has_last (sites_along content (name ∷ names)) name names target found none)
      on (Some folder) last =
          let same : site_at (sites_along content (name ∷ names)) (front (name ∷ names))
          ≡ Some folder =
          sym (folder_is_last (sites_along content (name ∷ names)) name names target found) ∙ last
          in search (rules, free, target, by_verdict, target.node.owners, same)

  remove_says : (path : List (List ℕ)) (target : Site) (reply : Reply) (id : ℕ)
      → site_at (sites_along content path) path ≡ Some target
      → reply ≡ or_reply (first_failure remover (plan_of content (Remove path)))
      (effect content remover id (Remove path)).0
      → may_remove_at content user path ≡ passed_rights reply
  remove_says path target reply id found is =
      remove_found content user path target found
      ∙ on (reaches remover (sites_above content path)) refl
    where
      is_done : (effect content remover id (Remove path)).0 ≡ Done
      is_done = removes content (site_at (sites_along content path) path)

      on : (t : Bool) → reaches remover (sites_above content path) ≡ t
          → may_remove remover (sites_above content path) target ≡ passed_rights reply
      on true free =
          open_says path target found free
          ∙ ap (λ failed. passed_rights (or_reply failed Done))
          (sym (passes_way remover (sites_along content path) path target
          (where_found (site_at (sites_along content path) path) (at_target path)) found free
          ∙ ap (λ o. first_failure remover (where_found o (at_target path))) found))
          ∙ ap (λ r. passed_rights
          (or_reply (first_failure remover (plan_of content (Remove path))) r)) (sym is_done)
          ∙ ap passed_rights (sym is)
      on false closed =
          let stop = stops remover (sites_along content path) path target
          (where_found (site_at (sites_along content path) path) (at_target path)) found closed in
          search (rules, target, stop.not_passed, is, or_reply, stop.is)

pub says_remove : SaysRemove
says_remove content user moment path target reply after found s =
    search (rules, remove_says, content, target, s.0, found, reply_of, after)
