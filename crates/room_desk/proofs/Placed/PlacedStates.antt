-- The rows while an object gets another place: placed, and then with one attribute after the other
-- handed down.
use Rattle.std.proofs.Common.{rules, ◌≡◌, ℕ, ◌==◌, true, false, List, ◌∷◌, map, Option, Some, None}
use Rattle.std.proofs.{Common.{refl, sym, ap, subst, ◌∙◌, inl, inr, arith}, lemmas.Bool.cases_Bool}
use Rattle.std.{proofs.lemmas.Bool.{and_parts, eq-eqb, Decides.nat_tests}, specs.Option.option_map}
use Rattle.std.specs.{Option.option_map_or, Prelude.IsTrue}
use Rattle.room_entry.specs.{Ace.Ace, declared.object.Which.{Which, TheVariants.{Dacl, Sacl}}}
use Rattle.room_rows.specs.{declared.node.Node.Node, Content.{Content, node_at, parent_of}}
use Rattle.room_rows.specs.{Content.{is_linked_in, is_rising}, Held.held_of, Keep.Places}
use Rattle.room_rows.specs.{Keep.{with_content, with_place}, Rows.Rows, Law.{agrees, agrees_with}}
use Rattle.room_rows.{specs.{Law.AllAgree, Sound.keeps_law}, proofs.InPlace.with_each-with_each}
use Rattle.room_rows.proofs.SamePlace.{put-replaces, replaced, replaced_here, replaced_elsewhere}
use Rattle.room_inherit.{specs.Spread.with_lists, proofs.Children.{each_found, each_there}}
use Rattle.room_inherit.proofs.{Ends.each_all, Renewing.{map_agree, map_map}}
use Rattle.room_desk.specs.Moving.{CanPlace, CanRenew, IsPlaced, HasRenewedLists}
use Rattle.room_desk.proofs.Placed.{Climbing.past_reaches, PlacedLinks.linked_any}
use Rattle.room_desk.proofs.Placed.{PlacedMeaning.means_placed, PlacedParts.apart as all_apart}
use Rattle.room_desk.proofs.Placed.PlacedParts.{base, change_there, lists, placed_held}
use Rattle.room_desk.proofs.Placed.PlacedTree.{above_elsewhere, above_here, change, elsewhere}
use Rattle.room_desk.proofs.Placed.PlacedTree.{faultless, here, is_target, kind, new, number}
use Rattle.room_desk.proofs.Placed.{PlacedTree.{passes_new, passes_old}, SoundPlaced.sound_placed}
use Rattle.room_sound.proofs.SoundParts.{none_unreadable, sound_parts}

module _ (old : Rows) (target folder : Node) (name : List ℕ)
    (can : CanPlace target folder name old) where
  abbrev before : Content
  before = old.read

  -- the rows with the object at its place, and these entries
  abbrev pub state : (Node → List Ace) → (Node → List Ace) → Rows
  state d s = new old target folder name can d s

  abbrev moved : (Node → List Ace) → (Node → List Ace) → Node → Node
  moved d s = change old target folder name can d s

  -- the entries as they were stored
  abbrev pub own_dacl : Node → List Ace
  own_dacl n = n.dacl.inh

  abbrev pub own_sacl : Node → List Ace
  own_sacl n = n.sacl.inh

  -- ---- placed

  placed_alone : (n : Node) → node_at before n.id ≡ Some n
      → replaced (with_place folder.id name target) n ≡ moved own_dacl own_sacl n
  placed_alone n there = grind (arith, nat_tests, is_target, replaced_elsewhere, replaced_here)

  pub first_state : (mid : Rows) → Places target.id folder.id name old mid
      → mid ≡ state own_dacl own_sacl
  first_state mid places =
      places (folder, can.folder_there, can.folder_is) can.is_free target can.target_there
      ∙ ap (λ (nodes : List Node). with_content old (record before { nodes = nodes }))
      (put-replaces 0 before.nodes target.id target
      (with_place folder.id name target) can.are.numbers can.target_there refl
      ∙ map_agree (replaced (with_place folder.id name target))
      (moved own_dacl own_sacl) before.nodes (search (rules, each_there, all_apart, placed_alone)))

  -- ---- an attribute whose entries are as they were can be handed down

  apart : folder.id ≡ target.id → ⊥
  apart same = grind (arith, nat_tests)

  module _ (which : Which) (d s : Node → List Ace)
      (same : (n : Node) → lists target.id folder.id name d s which n ≡ (held_of which n).inh) where
    held_same : (n : Node) → held_of which (moved d s n) ≡ held_of which n
    held_same n = grind (arith, nat_tests, placed_held)

    agrees_same : (n p : Node)
        → agrees_with which (moved d s n) (moved d s p) ≡ agrees_with which n p
    agrees_same n p = grind (arith, nat_tests, held_same, kind)

    agreed : (n : Node) → node_at before n.id ≡ Some n → agrees before which n ≡ true
    agreed n there =
        on which (and_parts (agrees before Dacl n) (agrees before Sacl n)
        (passes_old old target folder name can d s (keeps_law before)
        (faultless old target folder name can d s).law n there))
      where
        on : (w : Which) → (agrees before Dacl n ≡ true) × (agrees before Sacl n ≡ true)
            → agrees before w n ≡ true
        on Dacl both = both.0
        on Sacl both = both.1

    agrees_moved : (n : Node) → node_at before n.id ≡ Some n → (n.id == target.id) ≡ false
        → agrees (state d s).read which (moved d s n) ≡ true
    agrees_moved n there isnt = search (above_elsewhere, agreed, on)
      where
        on : (o : Option Node)
            → option_map_or (agrees_with which (moved d s n)) (option_map (moved d s) o) true
            ≡ option_map_or (agrees_with which n) o true
        on None = refl
        on (Some p) = agrees_same n p

    numbers_same : map (λ (n : Node). n.id) (state d s).read.nodes
        ≡ map (λ (n : Node). n.id) before.nodes
    numbers_same = grind (arith, nat_tests, all_apart, each_there, map_agree, map_map, number)

    pub can_renew : CanRenew which target folder (state d s)
    can_renew = record {
      rises = subst (λ ids. IsTrue (is_rising (0 ∷ ids))) (sym numbers_same) can.are.numbers;
      readable = none_unreadable old (sound_parts old can.sound);
      there = moved d s target;
      there_is =
          cc (
            number old target folder name can d s target,
            change_there before can.are.numbers (moved d s) (number old target folder name can d s)
                target can.target_there,
          );
      there_held = held_same target;
      there_kind = kind old target folder name can d s target;
      there_parent = here old target folder name can d s target (eq-eqb target.id target.id refl);
      above = moved d s folder;
      above_is =
          cc (
            number old target folder name can d s folder,
            change_there before can.are.numbers (moved d s) (number old target folder name can d s)
                folder can.folder_there,
          );
      above_held = held_same folder;
      apart = apart;
      steps = can.steps;
      rooted =
          past_reaches before (moved d s)
          (number old target folder name can d s) target.id folder.id
          (elsewhere old target folder name can d s) (here old target folder name can d s) can.steps
          (Some folder.id) can.past;
      others = λ m found isnt.
          let was = base before can.are.numbers (moved d s)
          (number old target folder name can d s) m.id m found in
          grind (arith, nat_tests, agrees_moved, number);
    }

  -- ---- one attribute after the other

  pub second_dacl : (l : Node → List Ace) (d s : Node → List Ace)
      → with_content (state d s) (with_lists Dacl l (state d s).read)
      ≡ state (λ n. l (moved d s n)) s
  second_dacl l d s = search (with_each-with_each)

  pub second_sacl : (l : Node → List Ace) (d s : Node → List Ace)
      → with_content (state d s) (with_lists Sacl l (state d s).read)
      ≡ state d (λ n. l (moved d s n))
  second_sacl l d s = search (with_each-with_each)

  module _ (mid last : Rows) (first : HasRenewedLists Dacl (state own_dacl own_sacl) mid) where
    abbrev new_dacl : Node → List Ace
    new_dacl n = first.lists (moved own_dacl own_sacl n)

    pub mid_is : mid ≡ state new_dacl own_sacl
    mid_is = first.becomes ∙ second_dacl first.lists own_dacl own_sacl

    pub can_renew_sacl : CanRenew Sacl target folder mid
    can_renew_sacl = search (can_renew, mid_is)

    module _ (second : HasRenewedLists Sacl (state new_dacl own_sacl) last) where
      abbrev new_sacl : Node → List Ace
      new_sacl n = second.lists (moved new_dacl own_sacl n)

      last_is : last ≡ state new_dacl new_sacl
      last_is = second.becomes ∙ second_sacl second.lists new_dacl own_sacl

      there_at : (d s : Node → List Ace) (n : Node) → node_at before n.id ≡ Some n
          → node_at (state d s).read (moved d s n).id ≡ Some (moved d s n)
      there_at d s n there =
          change_there before can.are.numbers (moved d s)
          (number old target folder name can d s) n there

      kept : (which : Which) (n : Node) → node_at before n.id ≡ Some n
          → is_linked_in (state new_dacl new_sacl).read which (moved new_dacl new_sacl n) ≡ false
          → lists target.id folder.id name new_dacl new_sacl which n ≡ (held_of which n).inh
      kept Dacl n there unlinked =
          cc (first.kept (moved own_dacl own_sacl n) (there_at own_dacl own_sacl n there)
          (linked_any old target folder name can own_dacl own_sacl new_dacl new_sacl Dacl n ∙
          unlinked))
      kept Sacl n there unlinked =
          cc (second.kept (moved new_dacl own_sacl n) (there_at new_dacl own_sacl n there)
          (linked_any old target folder name can new_dacl own_sacl new_dacl new_sacl Sacl n ∙
          unlinked))

      -- the other attribute doesn't matter to the law
      agrees_dacl : (n : Node)
          → agrees (state new_dacl own_sacl).read Dacl (moved new_dacl own_sacl n) ≡ true
          → agrees (state new_dacl new_sacl).read Dacl (moved new_dacl new_sacl n) ≡ true
      agrees_dacl n holds = elim (cases_Bool (n.id == target.id)) [
        | inl is ↦
            ap (λ o. option_map_or (agrees_with Dacl (moved new_dacl new_sacl n)) o true)
            (above_here old target folder name can new_dacl new_sacl n is)
            ∙ either n folder
            ∙ sym (ap (λ o. option_map_or (agrees_with Dacl (moved new_dacl own_sacl n)) o true)
            (above_here old target folder name can new_dacl own_sacl n is)) ∙ holds
        | inr isnt ↦
            cc (
              above_elsewhere old target folder name can new_dacl new_sacl n isnt,
              on (parent_of before n),
              above_elsewhere old target folder name can new_dacl own_sacl n isnt,
              holds,
            )
      ]
        where
          either : (n p : Node)
              → agrees_with Dacl (moved new_dacl new_sacl n) (moved new_dacl new_sacl p)
              ≡ agrees_with Dacl (moved new_dacl own_sacl n) (moved new_dacl own_sacl p)
          either n p = search (kind)

          on : (o : Option Node)
              → option_map_or (agrees_with Dacl (moved new_dacl new_sacl n))
              (option_map (moved new_dacl new_sacl) o) true
              ≡ option_map_or (agrees_with Dacl (moved new_dacl own_sacl n))
              (option_map (moved new_dacl own_sacl) o) true
          on None = refl
          on (Some p) = either n p

      law : (which : Which) → AllAgree (state new_dacl new_sacl).read which
      law Dacl = search (agreed_at, agrees_dacl, passes_new)
        where
          agreed_at : (n : Node) → node_at before n.id ≡ Some n
              → agrees (state new_dacl own_sacl).read Dacl (moved new_dacl own_sacl n) ≡ true
          agreed_at n there =
              each_found (λ m. agrees (state new_dacl own_sacl).read Dacl m ≡ true)
              (moved new_dacl own_sacl n).id (state new_dacl own_sacl).read.nodes
              (moved new_dacl own_sacl n)
              (each_all (agrees (state new_dacl own_sacl).read Dacl)
              (state new_dacl own_sacl).read.nodes
              (subst (λ (r : Rows). AllAgree r.read Dacl) mid_is first.law))
              (there_at new_dacl own_sacl n there)
      law Sacl = subst (λ (r : Rows). AllAgree r.read Sacl) last_is second.law

      pub is_placed : IsPlaced target folder name old last
      is_placed = search (kept, last_is, law, means_placed, sound_placed)
