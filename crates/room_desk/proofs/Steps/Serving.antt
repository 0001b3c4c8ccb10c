-- The replies of requests that change nothing but records.
use Rattle.std.proofs.Common.{rules, ◌≡◌, ℕ, true, List, [], ◌∷◌, ◌++◌, map, Option, Some, None}
use Rattle.std.proofs.Common.{refl, sym, ap, ◌∙◌, inl, inr, Result, Ok, Err, arith}
use Rattle.std.{proofs.lemmas.Bool.Decides.nat_tests, specs.Prelude.unwrap_or}
use Rattle.room_entry.specs.{Rights.{read_data, read_acl, read_attributes}, Valid.is_document}
use Rattle.room_entry.specs.declared.object.ObjKind.{ObjKind, TheVariants.{Document, Folder}}
use Rattle.room_entry.specs.declared.object.Which.{Which, TheVariants.Dacl}
use Rattle.room_eval.specs.Verdict.{ruling_of}
use Rattle.room_rows.specs.{declared.node.Node.Node, Held.{held_of, full_of}, Content.Content}
use Rattle.room_rows.specs.Content.{node_at, root_of, child_of, body_of, children_of}
use Rattle.room_rows.specs.{Meaning.{meaning, kept_node}, Rows.{Rows, AreRows}, Sound.AreSound}
use Rattle.room_rows.{specs.Keep.{AreNamedUnder, IsDamaged, IsUnreadable}, proofs.Frames.Rises}
use Rattle.room_rows.proofs.{Frames.{root_of-is_there, child_of-is_there}, InPlace.keeps_places}
use Rattle.room_rows.proofs.{InPlace.children_of-with_each, Mixed.named_alone}
use Rattle.room_judge.specs.{declared.asker.Asker.Asker, Closed.IsServed, Judged.IsJudged}
use Rattle.room_judge.{specs.Judged.{IsReached, of_kind}, proofs.Closing.closed_asked}
use Rattle.room_judge.proofs.{Closing.closed_failed, Judging.failure_of_parts}
use Rattle.room_machine.specs.declared.reply.Reply.{Reply, TheVariants.{Bytes, Names, Lists, Attr}}
use Rattle.room_machine.specs.declared.{reply.Reply.TheVariants.Rulings, request.Request.Request}
use Rattle.room_machine.specs.declared.request.Request.TheVariants.{Read, List as ListFolder}
use Rattle.room_machine.specs.declared.request.Request.TheVariants.{ReadList, ReadAttr, Can}
use Rattle.room_machine.specs.{Site.{Site, full_at, sites_along, site_at}, Plan.{Along, Item}}
use Rattle.room_machine.specs.{Plan.{Check, plan_by, plan_of, target_by, no_folder}, Judge.failure}
use Rattle.room_machine.specs.{Judge.or_else, Effect.{effect, with_site}, Changed.IsChanged}
use Rattle.room_machine.specs.{Closed.{IsShown, failure_told}, Stored.{stored_site, stored_from}}
use Rattle.room_machine.specs.Stored.{stored_along, stored_plan}
use Rattle.room_desk.specs.{Answered.{AreNamesOf, IsBytesOf}, Asked.rulings_at, Written.HasNoBytes}
use Rattle.room_desk.proofs.Steps.Stepping.{refused_step, served_step}
use Rattle.room_sound.proofs.{SoundParts.{none_unreadable, sound_parts}, Sites.fill}
use Rattle.room_sound.proofs.Filled.{fill_item, plan_judged, target_there}

module _ (asker : Asker) (path : List (List ℕ)) (request : Request) (items : Site → List Item)
    (planned : (along : Along) (content : Content)
    → plan_by along content request ≡ target_by along path items)
    (same : (site : Site) → items (fill site) ≡ map fill_item (items site)) where
  plan_is : (old new : Rows) (answer : Option Reply) → AreRows old → AreSound old
      → IsJudged asker (Rattle.room_machine.specs.Stored.to_stored old.read path items) old answer new
      → IsJudged asker (plan_of (meaning old.read) request) old answer new
  plan_is old new answer are sound judged =
      rw (planned (sites_along (meaning old.read)) (meaning old.read))
      (plan_judged asker path items old new answer are (sound_parts old sound) same judged)

  -- the plan by the stored lists is what the walk to the target has judged
  pub stored_is : (old new : Rows) (answer : Option Reply)
      → IsJudged asker (Rattle.room_machine.specs.Stored.to_stored old.read path items) old answer new
      → IsJudged asker (stored_plan old.read request) old answer new
  stored_is old new answer judged = rw (planned (stored_along old.read) old.read) judged

  -- an item fails
  pub not_served : (old new : Rows) (reply : Reply) → AreRows old
      → IsReached asker path items old (Err reply) new → IsServed asker request old reply new
  not_served old new reply are reached = search (closed_failed, plan_is, refused_step, stored_is)

  -- none fails, and the request does this at its target
  pub served : (act : Content → Site → Reply)
      → ((content : Content) (id : ℕ)
      → effect content asker.caller id request
      ≡ with_site content (site_at (sites_along content path) path)
      (λ target. (act content target, content)))
      → (old new : Rows) (node : Node) (reply : Reply) → AreRows old
      → IsReached asker path items old (Ok node) new
      → ((target : Site) → fill target ≡ stored_site path node
      → act (meaning old.read) target ≡ reply) → failure_told reply ≡ None
      → IsShown old asker.caller request reply → IsChanged old asker.caller request old.read
      → IsServed asker request old reply new
  served act acts old new node reply are reached replies none shown still = (
    λ known sound.
        let target = target_there old are (sound_parts old sound) path
        (stored_site path node) reached.found in
        served_step asker request old known sound new reply
        (λ id. rw (acts (meaning old.read) id, target.at, replies target.planned target.filled))
        (plan_is old new None are sound reached.judged),
    search (rules, closed_asked, old, new, stored_is, reached.judged, none, shown, still),
  )

-- ---- what a target with its stored lists says

flags_of : (which : Which) (site : Site)
    → (held_of which (fill site).node).flags ≡ (held_of which site.node).flags
flags_of = grind arith

fulls_of : (which : Which) (site : Site) → full_at which (fill site) ≡ full_at which site
fulls_of = grind arith

stored_full : (which : Which) (path : List (List ℕ)) (node : Node)
    → full_at which (stored_site path node) ≡ full_of (held_of which node)
stored_full = grind arith

-- what is listed of a child
abbrev pub shown : Node → List ℕ × ObjKind
shown node = (node.name, node.kind)

names_kept : (content : Content) (nodes : List Node)
    → map shown (map (kept_node content) nodes) ≡ map shown nodes
names_kept content [] = refl
names_kept content (node ∷ nodes) = rw (names_kept content nodes)

module _ (asker : Asker) (path : List (List ℕ)) where
  pub served_bytes : (old new : Rows) (node : Node) (bytes : List ℕ) → AreRows old
      → IsReached asker path
      (λ target. of_kind Document target ∷ Check target (read_data ∷ []) ∷ []) old (Ok node) new
      → Some bytes ≡ body_of old.read node.id
      → IsServed asker (Read path) old (Bytes bytes) new
  served_bytes old new node bytes are reached body =
      served asker path (Read path) _ (λ along content. refl) (λ site. refl)
      (λ content target. Bytes (unwrap_or (body_of content target.node.id) []))
      (λ content id. refl) old new node (Bytes bytes) are reached
      (λ target filled. grind (arith, filled, body)) refl
      (stored_site path node, reached.found, (bytes, refl, sym body)) refl

  pub served_names : (old new : Rows) (node : Node) (names : List (List ℕ × ObjKind)) → AreRows old
      → IsReached asker path
      (λ target. of_kind Folder target ∷ Check target (read_data ∷ []) ∷ []) old (Ok node) new
      → AreNamedUnder node.id old names → IsServed asker (ListFolder path) old (Names names) new
  served_names old new node names are reached named =
      grind (
        arith,
        nat_tests,
        closed_asked,
        named_alone,
        none_unreadable,
        sound_names,
        sound_parts,
      )
    where
      sound_names : names ≡ map shown (children_of old.read node.id)
          → IsServed asker (ListFolder path) old (Names names) new
      sound_names listed =
          served asker path (ListFolder path) _ (λ along content. refl) (λ site. refl)
          (λ content target. Names (map shown (children_of content target.node.id)))
          (λ content id. refl) old new node (Names names) are reached
          (λ target filled. ap
          (λ (s : Site). Names (map shown (children_of (meaning old.read) s.node.id))) filled
          ∙ rw (
            children_of-with_each old.read (kept_node old.read)
                (search (rules, keeps_places, old.read)) node.id,
            names_kept,
            listed,
          ))
          refl (stored_site path node, reached.found, (names, refl, named)) refl

  pub served_list : (which : Which) (old new : Rows) (node : Node) (reply : Reply) → AreRows old
      → IsReached asker path (λ target. Check target (read_acl ∷ []) ∷ []) old (Ok node) new
      → reply ≡ Lists (held_of which node).flags (full_of (held_of which node))
      → IsServed asker (ReadList path which) old reply new
  served_list which old new node reply are reached replies =
      served asker path (ReadList path which) _ (λ along content. refl) (λ site. refl)
      (λ content target. Lists (held_of which target.node).flags (full_at which target))
      (λ content id. refl) old new node reply are reached
      (search (rules, flags_of, which, fulls_of, stored_full, node, replies))
      (rw replies) (stored_site path node, reached.found, rw (replies, stored_full which path node))
      refl

  pub served_attr : (old new : Rows) (node : Node) (reply : Reply) → AreRows old
      → IsReached asker path (λ target. Check target (read_attributes ∷ []) ∷ []) old (Ok node) new
      → reply ≡ Attr node.kind node.owners → IsServed asker (ReadAttr path) old reply new
  served_attr old new node reply are reached replies =
      served asker path (ReadAttr path) _ (λ along content. refl) (λ site. refl)
      (λ content target. Attr target.node.kind target.node.owners) (λ content id. refl)
      old new node reply are reached (λ target filled. grind (arith, filled, replies)) (rw replies)
      (stored_site path node, reached.found, replies) refl

  pub served_rulings : (mask : List ℕ) (old new : Rows) (node : Node) (reply : Reply) → AreRows old
      → IsReached asker path (λ _. []) old (Ok node) new
      → reply ≡ Rulings (rulings_at asker node mask)
      → IsServed asker (Can path mask) old reply new
  served_rulings mask old new node reply are reached replies =
      served asker path (Can path mask) _ (λ along content. refl) (λ site. refl)
      (λ content target. Rulings
      (map (λ bit. (bit ∷ [], ruling_of (full_at Dacl target) asker.caller target.node.owners bit))
      mask)) (λ content id. refl) old new node reply are reached
      (grind (arith, nat_tests)) (rw replies)
      (stored_site path node, reached.found, replies) refl

-- ---- the same in terms of the calls

abbrev pub DocumentAt : List ℕ → Site → List Item
DocumentAt bits target = of_kind Document target ∷ Check target bits ∷ []

abbrev pub FolderAt : List ℕ → Site → List Item
FolderAt bits target = of_kind Folder target ∷ Check target bits ∷ []

abbrev pub CheckAt : List ℕ → Site → List Item
CheckAt bits target = Check target bits ∷ []

-- the bits, and where the walk comes to
pub reached_as : (asker : Asker) (path : List (List ℕ)) (items : List ℕ → Site → List Item)
    (bits named : List ℕ) (outcome : Result Node Reply) (old new : Rows) → bits ≡ named
    → IsReached asker path (items bits) old outcome new
    → IsReached asker path (items named) old outcome new
reached_as asker path items bits named outcome old new same reached = rw same at reached

-- a row that can't be read afterwards couldn't be read before
pub reached_damaged : (asker : Asker) (path : List (List ℕ)) (items : Site → List Item)
    (outcome : Result Node Reply) (old mid : Rows) (row : ℕ)
    → IsReached asker path items old outcome mid → IsUnreadable mid row → IsDamaged old row
reached_damaged asker path items outcome old mid row reached h = grind (arith, nat_tests)

-- ---- a document has bytes

pub none_both : (a b : Option Reply) → None ≡ or_else a b → (None ≡ a) × (None ≡ b)
none_both = grind arith

site_there : (content : Content) → Rises content
    → (path names : List (List ℕ)) (node : Node) (site : Site) → node_at content node.id ≡ Some node
    → site_at (stored_from content path node names) names ≡ Some site
    → node_at content site.node.id ≡ Some site.node
site_there content rises path [] node site there is = grind arith
site_there content rises path (name ∷ names) node site there is =
    let next = λ (child : Node) (found : child_of content node.id name ≡ Some child).
    site_there content rises (path ++ name ∷ []) names child site
    (child_of-is_there content rises node.id name child found) in grind arith

-- what was reached is there
pub along_there : (content : Content) → Rises content → (path : List (List ℕ)) (site : Site)
    → site_at (stored_along content path) path ≡ Some site
    → node_at content site.node.id ≡ Some site.node
along_there content rises path site is =
    let next = λ (root : Node) (found : root_of content ≡ Some root).
    site_there content rises [] path root site (root_of-is_there content rises root found) in
    grind arith

pub folder_fails : (caller : Rattle.room_entry.specs.declared.parties.Caller.Caller) (site : Site)
    → None ≡ failure caller (no_folder site) → is_document site.node.kind ≡ true
folder_fails caller site passes = grind arith

-- a document that was reached is there, and is one
pub document_there : (asker : Asker) (path : List (List ℕ)) (bits : List ℕ) (old new : Rows)
    (node : Node) → AreRows old → IsReached asker path (DocumentAt bits) old (Ok node) new
    → (node_at old.read node.id ≡ Some node) × (is_document node.kind ≡ true)
document_there asker path bits old new node are reached =
    let site = stored_site path node in
    let parts = none_both _ _ (rw (reached.found, failure_of_parts asker.caller asker.moment)
    at reached.judged.answers) in (
      along_there old.read are.numbers path site reached.found,
      folder_fails asker.caller site (none_both _ _ parts.1).0,
    )

-- a document that lacks bytes, after the records of the way to it
pub no_bytes : (asker : Asker) (path : List (List ℕ)) (bits : List ℕ) (old mid : Rows) (node : Node)
    (row : ℕ) → AreRows old → IsReached asker path (DocumentAt bits) old (Ok node) mid
    → HasNoBytes node.id mid row → IsDamaged old row
no_bytes asker path bits old mid node row are reached (inl unreadable) = grind (arith, nat_tests)
no_bytes asker path bits old mid node row are reached (inr lacks) =
    let document = document_there asker path bits old mid node are reached in
    grind (arith, nat_tests)

-- ---- what is answered after the walk

module _ (asker : Asker) (path : List (List ℕ)) where
  pub bytes_answered : (old mid new : Rows) (node : Node) (reply : Reply) → AreRows old
      → IsReached asker path (DocumentAt (read_data ∷ [])) old (Ok node) mid
      → IsBytesOf node.id mid reply → new ≡ mid → IsServed asker (Read path) old reply new
  bytes_answered old mid new node reply are reached told same =
      rw told.reply_is (served_bytes asker path old new node told.bytes are (rw same reached)
      (sym (rw reached.judged.notes at told.are)))

  pub names_answered : (old mid new : Rows) (node : Node) (reply : Reply) → AreRows old
      → IsReached asker path (FolderAt (read_data ∷ [])) old (Ok node) mid
      → AreNamesOf node.id mid reply → new ≡ mid → IsServed asker (ListFolder path) old reply new
  names_answered old mid new node reply are reached told same =
      rw told.reply_is (served_names asker path old new node told.names are (rw same reached)
      (rw reached.judged.notes at told.are))
