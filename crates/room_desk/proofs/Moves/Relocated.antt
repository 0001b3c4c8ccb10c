-- The operator's move of an object is its step.
use Rattle.std.proofs.Common.{◌≡◌, ℕ, zero, suc, ◌<◌, Bool, true, false, List, [], ◌∷◌, ◌++◌}
use Rattle.std.proofs.Common.{filter, length, take, Option, Some, None, refl, sym, ap, subst, ◌∙◌}
use Rattle.std.proofs.{Common.{Result, Ok, Err, IfOk, arith, inl, inr}, lemmas.List.append-nil}
use Rattle.std.{proofs.lemmas.Bool.Decides.nat_tests, specs.Prelude.is_some}
use Rattle.room_rows.specs.declared.{node.{Node.Node, Walk.Walk}, keep.KeepFault.KeepFault}
use Rattle.room_rows.specs.{Content.{Content, child_of, is_empty, is_folder}, Meaning.meaning}
use Rattle.room_rows.specs.{Paths.is_object_name, Rows.{Rows, AreRows}, Sound.AreSound}
use Rattle.room_rows.specs.Walk.{walk_of}
use Rattle.room_machine.specs.declared.reply.Reply.{Reply, TheVariants.{Done, Refused}}
use Rattle.room_machine.specs.declared.reply.Reason.TheVariants.{Exists, Loop, NotFolder, Root}
use Rattle.room_machine.specs.{declared.request.Request.TheVariants.Move, Effect.effect}
use Rattle.room_machine.specs.{Effect.moved_node, Judge.first_failure, Plan.plan_of, Site.Site}
use Rattle.room_machine.specs.{Site.{front, last_name, parent_at, site_at}, Step.failure_or}
use Rattle.room_machine.specs.{Step.is_refusal, Stored.{stored_along, stored_site}}
use Rattle.room_judge.specs.{Extent.{Extent, UpTo, Unsaid}, Judged.{IsDone, ended_at, with_notes}}
use Rattle.room_desk.specs.{Moving.{CanGo, CanPlace, IsPlaced, at_place, begins}, Relocating.EndsAt}
use Rattle.room_desk.{specs.Relocating.{IsRelocated, relocate}, proofs.Lists.ResetClosed.ends_along}
use Rattle.room_desk.proofs.Lists.SetReset.{CameTo, came_to, operator, refusals_filled}
use Rattle.room_desk.proofs.{Made.Uplink.target_above, Moves.MovingFacts.{goable, placeable}}
use Rattle.room_desk.proofs.Moves.MovingPlan.{at_found, plan_filled, stored_items, stored_move}
use Rattle.room_desk.proofs.Moves.MovingSteps.{items_there}
use Rattle.room_sound.proofs.{Filled.{IsTarget, target_there}, Sites.fill, SoundParts.sound_parts}

-- ---- where a walk ends

abbrev walk_with : List Node → ℕ → Walk
walk_with chain rest = record { chain = chain; rest = rest }

pub ends_at : (rows : Rows) (path : List (List ℕ)) (walk : Walk) (before : List Node) (last : Node)
    → walk ≡ walk_of rows.read path → walk.chain ≡ before ++ last ∷ []
    → EndsAt path last walk.rest rows
ends_at rows path walk before last is chain =
    (before, sym is ∙ ap (λ (l : List Node). walk_with l walk.rest) chain)

-- a walk that leaves no name over comes to the object at the path
found_so : (old : Rows) (path : List (List ℕ)) (last : Node) → EndsAt path last zero old
    → site_at (stored_along old.read path) path ≡ Some (stored_site path last)
found_so old path last ends =
    elim (ends_along old.read path (walk_of old.read path) ends.0 last refl
    (ap (λ (w : Walk). w.chain) ends.1)) [
      | inl here ↦ here.1
      | inr over ↦
          let none : (walk_of old.read path).rest ≡ zero = ap (λ (w : Walk). w.rest) ends.1 in
          let some : (walk_of old.read path).rest ≡ suc over.0 = over.1 in
          absurd (let wrong : ⊥ = omega (arith, none, some) in wrong)
    ]

-- ---- where the object may go

-- no records are added
unnoted : (old : Rows) (P : Rows → Type 0) → P (with_notes old []) → P old
unnoted old P noted =
    subst P (ap (λ rows. record old { read = record old.read { audits = rows } })
    (append-nil old.read.audits)) noted

none_there : (o : Option Node) → is_some o ≡ false → o ≡ None
none_there None is = refl
none_there (Some node) is = absurd (let wrong : ⊥ = cc in wrong)

module _ (old : Rows) (are : AreRows old) (path to : List (List ℕ)) (target folder : Node)
    (ends : EndsAt path target zero old) (way : EndsAt (front to) folder zero old)
    (folder_is : is_folder folder ≡ true)
    (free : is_some (child_of old.read folder.id (last_name to)) ≡ false)
    (apart : begins path (front to) ≡ false) where
  go_noted : CanGo target folder (last_name to) (with_notes old [])
  go_noted =
      goable old [] path to target folder are (found_so old path target ends)
      (found_so old (front to) folder way)
      (record {
        folder_is = folder_is;
        name_is_free = none_there (child_of old.read folder.id (last_name to)) free;
        none_above = apart;
      })

  pub can_go : CanGo target folder (last_name to) old
  can_go = unnoted old (CanGo target folder (last_name to)) go_noted

-- ---- the step

module _ (old : Rows) (are : AreRows old) (sound : AreSound old) where
  came : (path : List (List ℕ)) (judged : Site → List Rattle.room_machine.specs.Plan.Item)
      (last : Node) (rest : ℕ) → EndsAt path last rest old
      → CameTo old are sound path judged last rest
  came path judged last rest ends =
      subst (λ (n : ℕ). CameTo old are sound path judged last n)
      (ap (λ (w : Walk). w.rest) ends.1)
      (came_to old are sound path judged (walk_of old.read path) ends.0 last refl
      (ap (λ (w : Walk). w.chain) ends.1))

  -- ---- what is refused

  module _ (path to : List (List ℕ)) where
    plan_refuses : first_failure operator
        (filter is_refusal (plan_of (meaning old.read) (Move path to)))
        ≡ first_failure operator (filter is_refusal (stored_move old.read path to))
    plan_refuses =
        sym (refusals_filled (plan_of (meaning old.read) (Move path to)))
        ∙ ap (λ items. first_failure operator (filter is_refusal items))
        (sym (plan_filled old are (sound_parts old sound) path to))

    by_refusal : (answer : Option Reply)
        → first_failure operator (filter is_refusal (stored_move old.read path to)) ≡ answer
        → relocate (meaning old.read) path to
        ≡ failure_or answer (meaning old.read)
        (effect (meaning old.read) operator 0 (Move path to))
    by_refusal answer is =
        ap (λ o. failure_or o (meaning old.read)
        (effect (meaning old.read) operator 0 (Move path to))) (plan_refuses ∙ is)

    refused_so : (reply : Reply) (new : Rows)
        → first_failure operator (filter is_refusal (stored_move old.read path to)) ≡ Some reply
        → new ≡ old → IsRelocated path to old reply new
    refused_so reply new is same = record {
      step = by_refusal (Some reply) is ∙ ap (λ (r : Rows). (reply, meaning r.read)) (sym same);
      sound = subst AreSound (sym same) sound;
    }

    pub ended_from : (last : Node) (rest : ℕ) (reply : Reply) (new : Rows) → 0 < rest
        → EndsAt path last rest old → reply ≡ ended_at path last.kind rest → new ≡ old
        → IsRelocated path to old reply new
    ended_from last zero reply new some ends is same =
        absurd (let wrong : ⊥ = omega arith in wrong)
    ended_from last (suc rest) reply new some ends is same =
        refused_so reply new
        ((came path (at_found old.read path to) last (suc rest) ends).comes
        ∙ ap (λ r. Some r) (sym is))
        same

    -- ---- at the object

    module _ (target : Node) (ends : EndsAt path target zero old) where
      here : CameTo old are sound path (at_found old.read path to) target zero
      here = came path (at_found old.read path to) target zero ends

      found : site_at (stored_along old.read path) path ≡ Some (stored_site path target)
      found = here.comes.0

      answers : first_failure operator (filter is_refusal (stored_move old.read path to))
          ≡ first_failure operator
          (filter is_refusal (at_found old.read path to (stored_site path target)))
      answers = here.comes.1

      at_root : (p : List (List ℕ)) → p ≡ []
          → first_failure operator
          (filter is_refusal (at_found old.read p to (stored_site path target)))
          ≡ Some (Refused p Root)
      at_root [] is = refl
      at_root (name ∷ names) is = absurd (let wrong : ⊥ = cc in wrong)

      pub root_from : (reply : Reply) (new : Rows) → path ≡ [] → reply ≡ Refused (take 0 path) Root
          → new ≡ old → IsRelocated path to old reply new
      root_from reply new none is same =
          refused_so reply new
          (answers ∙ at_root path none
          ∙ ap (λ r. Some r) (ap (λ p. Refused p Root) none ∙ sym is)) same

      -- ---- an object that isn't the root

      module _ (some : 0 < length path) where
        abbrev is_below : Bool
        is_below = begins path (front to)

        above_in : (p : List (List ℕ)) → 0 < length p
            → site_at (stored_along old.read p) p ≡ Some (stored_site path target)
            → (from : Site) × (parent_at (stored_along old.read p) p ≡ Some from)
        above_in [] none is = absurd (let wrong : ⊥ = omega arith in wrong)
        above_in (name ∷ names) more is =
            let up = target_above old.read are.numbers name names path target is in
            (stored_site up.path up.above, up.at)

        above : (from : Site) × (parent_at (stored_along old.read path) path ≡ Some from)
        above = above_in path some found

        not_root : (p : List (List ℕ)) → 0 < length p → is_empty p ≡ false
        not_root [] none = absurd (let wrong : ⊥ = omega arith in wrong)
        not_root (name ∷ names) more = refl

        inside : first_failure operator (filter is_refusal (stored_move old.read path to))
            ≡ first_failure operator (filter is_refusal
            (stored_items old.read to is_below (stored_site path target) above.0))
        inside =
            let root = not_root path some in let from = above.1 in
            answers ∙ grind (arith, nat_tests, root, from)

        to_root : (q : List (List ℕ)) → q ≡ []
            → first_failure operator (filter is_refusal
            (stored_items old.read q is_below (stored_site path target) above.0))
            ≡ Some (Refused [] Exists)
        to_root [] is = refl
        to_root (name ∷ names) is = absurd (let wrong : ⊥ = cc in wrong)

        pub exists_from : (reply : Reply) (new : Rows) → to ≡ []
            → reply ≡ Refused (take 0 to) Exists → new ≡ old → IsRelocated path to old reply new
        exists_from reply new none is same =
            refused_so reply new (inside ∙ to_root to none ∙ ap (λ r. Some r) (sym is)) same

        -- ---- at the new folder

        module _ (there : 0 < length to) where
          abbrev judged : Site → List Rattle.room_machine.specs.Plan.Item
          judged = at_place old.read to is_below (stored_site path target) above.0

          pub ended_into : (folder : Node) (rest : ℕ) (reply : Reply) (new : Rows) → 0 < rest
              → EndsAt (front to) folder rest old → reply ≡ ended_at (front to) folder.kind rest
              → new ≡ old → IsRelocated path to old reply new
          ended_into folder zero reply new more way is same =
              absurd (let wrong : ⊥ = omega arith in wrong)
          ended_into folder (suc rest) reply new more way is same =
              refused_so reply new
              (inside
              ∙ ap (λ items. first_failure operator (filter is_refusal items))
              (items_there old.read to is_below (stored_site path target) above.0 there)
              ∙ (came (front to) judged folder (suc rest) way).comes ∙ ap (λ r. Some r) (sym is))
              same

          module _ (folder : Node) (way : EndsAt (front to) folder zero old) where
            come : CameTo old are sound (front to) judged folder zero
            come = came (front to) judged folder zero way

            abbrev into : Site
            into = stored_site (front to) folder

            refusals_there : first_failure operator
                (filter is_refusal (stored_move old.read path to))
                ≡ first_failure operator (filter is_refusal (judged into))
            refusals_there =
                inside
                ∙ ap (λ items. first_failure operator (filter is_refusal items))
                (items_there old.read to is_below (stored_site path target) above.0 there)
                ∙ come.comes.1

            pub no_folder_into : (reply : Reply) (new : Rows) → is_folder folder ≡ false
                → reply ≡ Refused (front to) NotFolder → new ≡ old
                → IsRelocated path to old reply new
            no_folder_into reply new isnt is same =
                refused_so reply new
                (refusals_there ∙ grind (arith, nat_tests, isnt, is)) same

            module _ (folder_is : is_folder folder ≡ true) where
              pub taken_into : (reply : Reply) (new : Rows)
                  → is_some (child_of old.read folder.id (last_name to)) ≡ true
                  → reply ≡ Refused to Exists → new ≡ old → IsRelocated path to old reply new
              taken_into reply new taken is same =
                  refused_so reply new
                  (refusals_there ∙ grind (arith, nat_tests, folder_is, taken, is)) same

              module _ (free : is_some (child_of old.read folder.id (last_name to)) ≡ false) where
                pub below_into : (reply : Reply) (new : Rows) → is_below ≡ true
                    → reply ≡ Refused to Loop → new ≡ old → IsRelocated path to old reply new
                below_into reply new below is same =
                    refused_so reply new
                    (refusals_there ∙ grind (arith, nat_tests, folder_is, free, below, is)) same

                module _ (apart : is_below ≡ false) where
                  passes : first_failure operator
                      (filter is_refusal (stored_move old.read path to)) ≡ None
                  passes =
                      refusals_there ∙ grind (arith, nat_tests, folder_is, free, apart)

                  pub can_place : is_object_name (last_name to) ≡ true
                      → CanPlace target folder (last_name to) old
                  can_place named =
                      unnoted old (CanPlace target folder (last_name to))
                      (placeable old [] path to above.0 target folder sound some above.1 found
                      named
                      (go_noted old are path to target folder ends way folder_is free apart))

                  pub placed : (new : Rows) → IsPlaced target folder (last_name to) old new
                      → IsRelocated path to old Done new
                  placed new is = record {
                    step =
                        by_refusal None passes ∙ effect_is
                        ∙ ap (λ (c : Content). (Done, c)) (sym is.means ∙ refl);
                    sound = is.sound;
                  }
                    where
                      means : Content
                      means = meaning old.read

                      t : IsTarget old.read path (stored_site path target)
                      t = target_there old are (sound_parts old sound) path
                          (stored_site path target) found

                      f : IsTarget old.read (front to) into
                      f = target_there old are (sound_parts old sound) (front to) into
                          come.comes.0

                      effect_is : effect means operator 0 (Move path to)
                          ≡ (
                            Done,
                            Rattle.room_rows.specs.Content.with_node means
                                (moved_node (stored_site [] target) (stored_site [] folder)
                                (last_name to)),
                          )
                      effect_is = grind (arith, nat_tests, f, fill, means, t)

-- ---- nothing is said of how much is written

module _ {S : Type 0} {rows : S → Rows} {failures writes : S → ℕ}
    {Follows IsTrusted : S → S → Type 0} where
  pub unsaid_call : {X : Type 0} {extent : X → Extent} {a b : S} {r : Result X KeepFault}
      {Blames : Rows → ℕ → Type 0} {Becomes : Rows → X → Rows → Type 0}
      → IsDone rows failures writes Follows IsTrusted extent a b r Blames Becomes
      → IsDone rows failures writes Follows IsTrusted (λ _. UpTo Unsaid) a b r Blames Becomes
  unsaid_call {X = X} {a = a} {b = b} {r = r} call = record {
    follows = call.follows;
    becomes = call.becomes;
    few = λ t. on r;
    fault = call.fault;
  }
    where
      on : (o : Result X KeepFault)
          → IfOk o (λ _. Rattle.room_judge.specs.Extent.StaysWithin rows writes (UpTo Unsaid) a b)
      on (Ok x) = λ more never. absurd never
      on (Err e) = tt
