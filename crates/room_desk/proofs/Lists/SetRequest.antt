-- A request that sets a list is a step.
use Rattle.std.proofs.Common.{rules, ◌≡◌, ℕ, false, List, [], ◌∷◌, ◌++◌, map, Option, Some, None}
use Rattle.std.proofs.Common.{refl, sym, ap, subst, ◌∙◌, Ok, Err, arith}
use Rattle.std.{proofs.lemmas.Bool.Decides.nat_tests, specs.Option.{option_map, option_map_or}}
use Rattle.room_entry.specs.{Rights.write_acl, Valid.first_bad_entry}
use Rattle.room_entry.specs.declared.{fault.EntryFault.EntryFault, object.Which.Which}
use Rattle.room_ace.specs.Sent.{Sent}
use Rattle.room_rows.specs.{declared.node.{Node.Node, AuditRow.AuditRow}, Content.node_at}
use Rattle.room_rows.specs.{Content.{parent_of, root_of}, Keep.IsDamaged, Meaning.meaning}
use Rattle.room_rows.{specs.{Rows.{Rows, AreRows}, Sound.AreSound}, proofs.Frames.root_of-parent}
use Rattle.room_machine.specs.{Judge.records_of_plan, declared.reply.Reply.Reply}
use Rattle.room_machine.specs.declared.reply.Reply.TheVariants.{Done, Refused}
use Rattle.room_machine.specs.{declared.request.Request.TheVariants.SetList, Effect.set_list}
use Rattle.room_machine.specs.{Plan.{Check, Item, bad_list, plan_of, way, where_found}, Site.Site}
use Rattle.room_machine.specs.{Site.site_at, Stored.{stored_along, stored_plan, to_stored}}
use Rattle.room_judge.specs.{declared.{asker.Asker.Asker, arrival.Found.Found}, Closed.IsServed}
use Rattle.room_judge.specs.{Judged.{CarriesOut, IsJudged, IsReached, with_notes}, Spot.IsPaired}
use Rattle.room_judge.{specs.{Spot.pair_of, Stored.found_site}, proofs.Closing.closed_done}
use Rattle.room_judge.proofs.{Closing.closed_failed, Folders.pair_reached, Ways.not_reached}
use Rattle.room_judge.proofs.{Ways.{reaches_with, unless}, Judging.{fails_first, judged_none}}
use Rattle.room_judge.proofs.Judging.{passes_first, refuses}
use Rattle.room_desk.specs.{Carrying.{IsRooted, IsUnreadableIfHeld}, Setting.Beneath}
use Rattle.room_desk.specs.Setting.{IsFoundUnder, IsSetOnly, IsSetOrRefused, IsSetWell, SetUnless}
use Rattle.room_desk.{specs.Setting.{kept_site, reason_of}, proofs.Moves.MovingPlan.along_noted}
use Rattle.room_desk.proofs.{Sound.RootedWays.rooted_along, Steps.Serving.CheckAt}
use Rattle.room_desk.proofs.{Steps.Stepping.{changed_step, refused_step}, Lists.HandedDown.beside}
use Rattle.room_desk.proofs.Lists.{HandedDown.set_noted, SetEffect.set_effect}
use Rattle.room_desk.proofs.{Made.Uplink.{parent_paired, target_stands}, Bytes.Appending.more_items}
use Rattle.room_sound.proofs.{Blamed.noted_unread, Filled.{fill_item, plan_judged}, Sites.fill}
use Rattle.room_sound.proofs.SoundParts.{sound_noted, sound_parts}

module _ (path : List (List ℕ)) (which : Which) (sent : Sent) where
  -- the refusal of an entry that may not stand there
  abbrev pub listed : Site → List Item
  listed site = bad_list path (first_bad_entry 1 which site.node.kind sent.entries)

  abbrev pub items : Site → List Item
  items site = CheckAt (write_acl ∷ []) site ++ listed site

  pub items_filled : (site : Site) → items (fill site) ≡ map fill_item (items site)
  items_filled site = grind (arith, nat_tests, fill, fill_item)

module _ (asker : Asker) (path : List (List ℕ)) (which : Which) (sent : Sent) where
  abbrev refusing : Site → List Item
  refusing site = listed path which sent site

  planned : (old new : Rows) (answer : Option Reply) → AreRows old → AreSound old
      → IsJudged asker (to_stored old.read path (CheckAt (write_acl ∷ []))
      ++ where_found (site_at (stored_along old.read path) path) refusing) old answer new
      → IsJudged asker (plan_of (meaning old.read) (SetList path which sent)) old answer new
  planned old new answer are sound judged =
      plan_judged asker path (items path which sent) old new answer are (sound_parts old sound)
      (items_filled path which sent)
      (subst (λ list. IsJudged asker list old answer new)
      (sym (more_items (CheckAt (write_acl ∷ [])) refusing
      (way false (stored_along old.read path) path) (site_at (stored_along old.read path) path)))
      judged)

  by_stored : (old new : Rows) (answer : Option Reply)
      → IsJudged asker (to_stored old.read path (CheckAt (write_acl ∷ []))
      ++ where_found (site_at (stored_along old.read path) path) refusing) old answer new
      → IsJudged asker (stored_plan old.read (SetList path which sent)) old answer new
  by_stored old new answer judged =
      subst (λ list. IsJudged asker list old answer new)
      (sym (more_items (CheckAt (write_acl ∷ [])) refusing
      (way false (stored_along old.read path) path) (site_at (stored_along old.read path) path)))
      judged

  pub set_ended : (old new : Rows) (reply : Reply) → AreRows old
      → IsReached asker path (CheckAt (write_acl ∷ [])) old (Err reply) new
      → IsServed asker (SetList path which sent) old reply new
  set_ended old new reply are reached =
      search (by_stored, closed_failed, fails_first, planned, refused_step)

  module _ (old mid : Rows) (node : Node) (are : AreRows old)
      (reached : IsReached asker path (CheckAt (write_acl ∷ [])) old (Ok node) mid) where
    there : node_at old.read node.id ≡ Some node
    there = target_stands old.read are.numbers path path node reached.found

    there_mid : node_at mid.read node.id ≡ Some node
    there_mid = ap (λ (r : Rows). node_at r.read node.id) reached.judged.notes ∙ there

    -- what the items after the check answer
    all_items : (faults : Option EntryFault) (new : Rows) (answer : Option Reply)
        → first_bad_entry 1 which node.kind sent.entries ≡ faults
        → IsJudged asker (bad_list path faults) mid answer new
        → IsJudged asker (to_stored old.read path (CheckAt (write_acl ∷ []))
        ++ where_found (site_at (stored_along old.read path) path) refusing) old answer new
    all_items faults new answer are_faults judged =
        passes_first asker (to_stored old.read path (CheckAt (write_acl ∷ [])))
        (where_found (site_at (stored_along old.read path) path) refusing) old mid new answer
        reached.judged
        (grind (arith, nat_tests))

    behind : (faults : Option EntryFault) (new : Rows) (answer : Option Reply)
        → first_bad_entry 1 which node.kind sent.entries ≡ faults
        → IsJudged asker (bad_list path faults) mid answer new → AreSound old
        → IsJudged asker (plan_of (meaning old.read) (SetList path which sent)) old answer new
    behind faults new answer are_faults judged sound = search (all_items, planned)

    set_well : (new : Rows) → first_bad_entry 1 which node.kind sent.entries ≡ None
        → IsSetWell which sent node mid new
        → CarriesOut asker (SetList path which sent) old Done new
    set_well new none well known sound =
        let judged = behind None mid None none (judged_none asker mid mid refl) sound in
        changed_step asker (SetList path which sent) old known sound mid new Done
        (set_list (meaning old.read) which sent
        (option_map (kept_site old.read) (parent_of old.read node)) (kept_site old.read node))
        judged (search (rules, set_effect, sound_parts, sound))
        (search (rules, well.means, judged.notes))
        well.sound

    on_faults : (faults : Option EntryFault) (new : Rows) (reply : Reply)
        → first_bad_entry 1 which node.kind sent.entries ≡ faults
        → IsSetOrRefused path which sent node mid reply new
        → reply ≡ option_map_or (λ why. Refused path why) (reason_of faults) Done
        → SetUnless (reason_of faults) which sent node mid new
        → IsServed asker (SetList path which sent) old reply new
    on_faults None new reply none said replies becomes =
        let judged = by_stored old mid None
        (all_items None mid None none (judged_none asker mid mid refl)) in
        let set = set_noted which sent node old new _
        (subst (λ (r : Rows). IsSetOnly which sent node r new) judged.notes (becomes.0 there_mid))
        in (
          λ known sound.
              subst (λ (r : Reply). CarriesOut asker (SetList path which sent) old r new) (sym replies)
              (set_well new none (becomes.1 there_mid (ap reason_of none) said.few
              (subst AreSound (sym reached.judged.notes) (sound_noted old _ sound)))) known sound,
          grind (arith, nat_tests, beside, closed_done),
        )
    on_faults (Some fault) new reply some said replies becomes =
        search (all_items, behind, by_stored, closed_failed, refused_step, refuses)

    pub set_done : (new : Rows) (reply : Reply) → IsSetOrRefused path which sent node mid reply new
        → IsServed asker (SetList path which sent) old reply new
    set_done new reply said = search (on_faults)

    pub set_blames : (row : ℕ) → IsUnreadableIfHeld node mid row → IsDamaged old row
    set_blames row fails =
        let rooted : IsRooted node.id (with_notes old records) =
        search (along_noted, records, rooted_along)
        in
        noted_unread old mid records row reached.judged.notes
        (fails there_mid (subst (IsRooted node.id) (sym reached.judged.notes) rooted))
      where
        records : List AuditRow
        records =
            records_of_plan asker.caller asker.moment
            (to_stored old.read path (CheckAt (write_acl ∷ [])))

-- ---- once the way to the target has been walked

module _ (asker : Asker) (path : List (List ℕ)) (which : Which) (sent : Sent) (target : Found)
    (above : Option Node) (old mid : Rows)
    (found : IsFoundUnder asker path target above old mid) where
  checked : (new : Rows) (bits : List ℕ) (refusal : Option Reply) → bits ≡ write_acl ∷ []
      → IsJudged asker (Check (found_site path target) bits ∷ []) mid refusal new
      → IsReached asker path (CheckAt (write_acl ∷ [])) old (unless target.node refusal) new
  checked new bits refusal same judged =
      reaches_with asker path (CheckAt (write_acl ∷ [])) old mid new target.node target refusal
      (ap (λ (d : ℕ). record { node = target.node; depth = d }) found.depth) found.reached
      (search (rules, new, same, judged))

  pub not_allowed : (new : Rows) (bits : List ℕ) (reply : Reply) → bits ≡ write_acl ∷ []
      → IsJudged asker (Check (found_site path target) bits ∷ []) mid (Some reply) new
      → IsServed asker (SetList path which sent) old reply new
  not_allowed new bits reply same judged =
      set_ended asker path which sent old new reply found.are
      (checked new bits (Some reply) same judged)

  module _ (end : Rows) (bits : List ℕ) (same : bits ≡ write_acl ∷ [])
      (judged : IsJudged asker (Check (found_site path target) bits ∷ []) mid None end) where
    pub allowed_done : (new : Rows) (reply : Reply)
        → Beneath above target.node (IsSetOrRefused path which sent target.node) end reply new
        → IsServed asker (SetList path which sent) old reply new
    allowed_done new reply said =
        let reached = checked end bits None same judged in
        search (rules, set_done, reached, new, said, reached.judged.notes)

    pub allowed_blames : (row : ℕ) → IsUnreadableIfHeld target.node end row → IsDamaged old row
    allowed_blames row fails =
        set_blames asker path which sent old end target.node found.are
        (checked end bits None same judged) row fails

-- ---- where the walk comes to

pub set_halted : (asker : Asker) (path : List (List ℕ)) (which : Which) (sent : Sent)
    (old new : Rows) (reply : Reply) → AreRows old → IsPaired asker path old (Err reply) new
    → IsServed asker (SetList path which sent) old reply new
set_halted asker path which sent old new reply are paired =
    search (not_reached, pair_reached, set_ended)

-- an object and its folder
pub found_pair : (asker : Asker) (path : List (List ℕ)) (folder target : Found) (old mid : Rows)
    → AreRows old → IsPaired asker path old (pair_of folder target) mid
    → IsFoundUnder asker path target (Some folder.node) old mid
found_pair asker path folder target old mid are paired = record {
  are = are;
  reached = pair_reached asker path (pair_of folder target) old mid paired;
  depth = paired.depth;
  parent = grind (arith, nat_tests, parent_paired);
}

-- the root, which nothing is above
pub found_root : (asker : Asker) (path : List (List ℕ)) (root : Node) (old mid : Rows) → path ≡ []
    → AreRows old → root_of old.read ≡ Some root → mid ≡ old
    → IsFoundUnder asker path (record { node = root; depth = 0 }) None old mid
found_root asker path root old mid empty are is same =
    search (rules, root, empty, are, is, same, old.read, root_of-parent)
