-- The operator's reset of a list is its step.
use Rattle.std.proofs.Common.{rules, ◌≡◌, ℕ, zero, suc, true, false, List, [], ◌∷◌, ◌++◌, filter}
use Rattle.std.proofs.Common.{length, map, Option, Some, None, refl, sym, ap, subst, ◌∙◌, arith}
use Rattle.std.proofs.lemmas.Bool.Decides.{nat_tests}
use Rattle.std.specs.{Prelude.{◌-◌, slice_get}, Option.option_map_or}
use Rattle.room_ace.specs.Sent.{Sent}
use Rattle.room_entry.specs.{Valid.first_bad_entry, declared.fault.EntryFault.EntryFault}
use Rattle.room_entry.specs.declared.{object.Which.Which, parties.Caller.Caller}
use Rattle.room_rows.specs.{declared.node.{Node.Node, Walk.Walk}, Content.{Content, child_of}}
use Rattle.room_rows.specs.Content.{has_folder_above, is_folder, node_at, parent_of}
use Rattle.room_rows.specs.{Keep.IsDamaged, Meaning.meaning, Rows.{Rows, AreRows}, Walk.walk_of}
use Rattle.room_rows.specs.{Walk.walk_from, Sound.AreSound}
use Rattle.room_rows.proofs.Frames.{child_of-is_there, child_of-parent, root_of-is_there}
use Rattle.room_inherit.proofs.NoFault.{no_fault}
use Rattle.room_machine.specs.declared.reply.Reply.{Reply, TheVariants.{Done, Refused}}
use Rattle.room_machine.specs.{declared.request.Request.TheVariants.SetList, Effect.effect}
use Rattle.room_machine.specs.{Judge.first_failure, Plan.{Item, Check, Deletion, Refusal, bad_list}}
use Rattle.room_machine.specs.{Plan.{plan_of, way, where_found}, Site.{Site, site_at, sites_along}}
use Rattle.room_machine.specs.{Step.{failure_or, is_refusal, reset}, Stored.stored_along}
use Rattle.room_machine.specs.Stored.{stored_from, stored_site}
use Rattle.room_judge.specs.Judged.{ResetsSound}
use Rattle.room_desk.specs.{Carrying.{IsRooted, IsUnreadableIfHeld}, Setting.Beneath}
use Rattle.room_desk.specs.Setting.{IsResetAtEnd, IsSetOrRefused, SetUnless, reason_of}
use Rattle.room_sound.proofs.{Blamed.unread_damaged, Filled.{fill_item, target_filled}}
use Rattle.room_sound.proofs.{Ends.same_last, Sites.sites_filled, SoundParts.root_there}
use Rattle.room_sound.proofs.SoundParts.{sound_parts}
use Rattle.room_desk.proofs.Sound.RootedWays.{above_end, rooted_last, stands_last}
use Rattle.room_desk.proofs.Lists.ResetWay.{Comes, comes, end_from, refusals, walk_end}
use Rattle.room_desk.proofs.Lists.{SetEffect.set_effect, SetRequest.{items, items_filled}}
use Rattle.room_desk.proofs.Lists.ValidDown.{all_found}

-- who asks a reset
abbrev pub operator : Caller
operator = record { user = None; groups = [] }

-- refusals don't depend on lists
pub refusals_filled : (list : List Item)
    → first_failure operator (filter is_refusal (map fill_item list))
    ≡ first_failure operator (filter is_refusal list)
refusals_filled [] = refl
refusals_filled (Check site bits ∷ list) = refusals_filled list
refusals_filled (Deletion target parent ∷ list) = refusals_filled list
refusals_filled (Refusal path why holds ∷ list) = cc (refusals_filled list)

-- ---- where the way ends

module _ (old : Rows) (are : AreRows old) (sound : AreSound old) (path : List (List ℕ))
    (judged : Site → List Item) where
  -- what is under an object makes it a folder
  pub folders : (n child : Node) (name : List ℕ) → node_at old.read n.id ≡ Some n
      → child_of old.read n.id name ≡ Some child → is_folder n ≡ true
  folders n child name there found =
      let parent = child_of-parent old.read n.id name child found in
      let above : parent_of old.read child ≡ Some n = cc (parent, there) in
      cc (
        above,
        parent,
        all_found (has_folder_above old.read) old.read child.id child (no_fault old sound).parents
            (child_of-is_there old.read are.numbers n.id name child found),
      )

  -- what is refused at the stored lists, of the way and of the items at its end
  abbrev pub stored_refusal : Option Reply
  stored_refusal =
      first_failure operator
      (refusals old.read are.numbers operator judged folders (stored_along old.read path) path)

  -- the walk comes to this object, with n names left over
  pub record CameTo (last : Node) (rest : ℕ) : Type 0 where
    pub stands : node_at old.read last.id ≡ Some last
    pub comes : Comes old.read are.numbers operator judged folders path
        (stored_along old.read path) path stored_refusal last rest

  pub came_to : (walk : Walk) (front : List Node) (last : Node) → walk ≡ walk_of old.read path
      → walk.chain ≡ front ++ last ∷ [] → CameTo last walk.rest
  came_to walk front last is chain =
      let root = root_there old.read.nodes (no_fault old sound).root in
      let there = root_of-is_there old.read are.numbers root.0 root.1 in
      let end = walk_end old.read are.numbers operator judged folders path root.0 there in
      let from : walk_of old.read path ≡ walk_from old.read root.0 path =
      grind (arith, nat_tests) in
      let along : stored_along old.read path ≡ stored_from old.read [] root.0 path = ap
      (λ o. option_map_or (λ r. stored_from old.read [] r path) o []) root.1 in
      let reached = end_from old.read are.numbers operator judged folders root.0 path in
      let same : last ≡ reached.0 = same_last front end.front last reached.0
      (sym chain ∙ ap (λ (w : Walk). w.chain) (is ∙ from) ∙ end.chain) in
      let rest : walk.rest ≡ reached.1 = ap (λ (w : Walk). w.rest) (is ∙ from) ∙ end.rest in
      let stands : node_at old.read last.id ≡ Some last = cc (same, end.stands, same) in
      let here : Comes old.read are.numbers operator judged folders path
      (stored_from old.read [] root.0 path) path
      (first_failure operator
      (refusals old.read are.numbers operator judged folders
      (stored_from old.read [] root.0 path) path)) reached.0 reached.1 =
      search (rules, comes, root.0, there) in
      grind (arith, nat_tests, comes, folders, judged, refusals)

-- ---- a list that is set

module _ (old : Rows) (are : AreRows old) (sound : AreSound old) (path : List (List ℕ))
    (which : Which) (sent : Sent) where
  abbrev rows : Content
  rows = old.read

  -- what the plan refuses is what is refused at the stored lists
  abbrev answer : Option Reply
  answer = stored_refusal old are sound path (items path which sent)

  plan_refuses : first_failure operator
      (filter is_refusal (plan_of (meaning rows) (SetList path which sent))) ≡ answer
  plan_refuses =
      cc (
        refusals_filled
            (way false (sites_along (meaning rows) path) path ++ where_found
            (site_at (sites_along (meaning rows) path) path) (items path which sent)),
        target_filled path (items path which sent) (items_filled path which sent)
            (sites_along (meaning rows) path),
        sites_filled old are (sound_parts old sound) path,
      )

  -- the reply and the content after, by what is refused
  reset_is : (o : Option Reply) → answer ≡ o
      → reset (meaning rows) path which sent
      ≡ failure_or o (meaning rows) (effect (meaning rows) operator 0 (SetList path which sent))
  reset_is o is = grind (arith, nat_tests, plan_refuses)

  module _ (last : Node) (new : Rows) (reply : Reply) where
    refused_so : answer ≡ Some reply → new ≡ old → ResetsSound path which sent old reply new
    refused_so is same _ = search (rules, reset_is, is, same)

    at_target : (faults : Option EntryFault)
        → first_bad_entry 1 which last.kind sent.entries ≡ faults → node_at rows last.id ≡ Some last
        → site_at (stored_along rows path) path ≡ Some (stored_site path last)
        → answer ≡ first_failure operator (filter is_refusal (bad_list path faults))
        → IsSetOrRefused path which sent last old reply new
        → reply ≡ option_map_or (λ why. Refused path why) (reason_of faults) Done
        → SetUnless (reason_of faults) which sent last old new
        → ResetsSound path which sent old reply new
    at_target None none there found is said replies becomes _ =
        let well = becomes.1 there (ap reason_of none) said.few sound in
        record {
          reset =
              cc (
                reset_is None is,
                set_effect old are (sound_parts old sound) which sent last path found operator 0,
                well.means,
                replies,
              );
          sound = well.sound;
        }
    at_target (Some fault) some there found is said replies becomes known =
        refused_so (is ∙ ap (λ r. Some r) (sym replies)) becomes known

    at_end : (rest : ℕ) → node_at rows last.id ≡ Some last
        → Comes rows are.numbers operator (items path which sent)
        (folders old are sound path (items path which sent)) path
        (stored_along rows path) path answer last rest
        → IsResetAtEnd path which sent last rest old reply new
        → ResetsSound path which sent old reply new
    at_end zero there came said = grind (arith, nat_tests, at_target)
    at_end (suc rest) there came said = refused_so (came ∙ ap (λ r. Some r) (sym said.0)) said.1

-- ---- in terms of the calls

module _ (path : List (List ℕ)) (which : Which) (sent : Sent) (old mid : Rows) (walk : Walk)
    (front : List Node) (last : Node) (is : walk ≡ walk_of old.read path) (same : mid ≡ old)
    (chain : walk.chain ≡ front ++ last ∷ []) where
  pub reset_done : (above : Option Node) → above ≡ slice_get front (length front - 1)
      → (new : Rows) (reply : Reply) → AreRows old
      → Beneath above last (IsResetAtEnd path which sent last walk.rest) mid reply new
      → ResetsSound path which sent old reply new
  reset_done above read new reply are beneath sound =
      let said = beneath (
      cc (same, above_end old are.numbers path walk front last above is chain read)) in
      let came = came_to old are sound path (items path which sent) walk front last is chain in
      at_end old are sound path which sent last new reply walk.rest came.stands came.comes
      (subst (λ (r : Rows). IsResetAtEnd path which sent last walk.rest r reply new) same said)
      sound

  pub reset_blames : (row : ℕ) → AreRows old → IsUnreadableIfHeld last mid row → IsDamaged old row
  reset_blames row are fails =
      unread_damaged old mid row same
      (fails (cc (same, stands_last old are.numbers path walk front last is chain))
      (subst (IsRooted last.id) (sym same)
      (rooted_last old are.numbers path walk front last is chain)))
