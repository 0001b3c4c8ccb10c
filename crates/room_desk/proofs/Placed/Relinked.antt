-- One attribute of an object at its new place: it takes what the folder passes, and hands it down.
use Rattle.std.proofs.Common.{rules, ◌≡◌, ℕ, zero, suc, ◌==◌, Bool, true, false, cond, List, Some}
use Rattle.std.proofs.{Common.{refl, sym, ap, ◌∙◌, arith}, lemmas.Bool.{false≢true, eqb-false}}
use Rattle.std.{proofs.lemmas.Bool.Decides.nat_tests, specs.Option.option_map}
use Rattle.room_entry.{specs.{Ace.Ace, declared.object.Which.Which}, proofs.Alike.equal_entries}
use Rattle.room_entry.proofs.{Same.entries_equal, Facts.Members.all_each}
use Rattle.room_rows.specs.{declared.node.Node.Node, Content.{Content, node_at, parent_of}}
use Rattle.room_rows.specs.{Content.{has_parent, is_linked_in, with_each}, Held.{held_of, full_of}}
use Rattle.room_rows.specs.{Held.is_linked, Keep.{Changes, with_content, with_inh}, Rows.Rows}
use Rattle.room_rows.{specs.{Law.{agrees, AllAgreeBut}, Pass.pass}, proofs.Frames.node_at-number}
use Rattle.room_rows.proofs.InPlace.{held_of-with_inh, place-with_inh, with_node-replaces}
use Rattle.room_rows.proofs.{InPlace.with_inh-id, SamePlace.{replaced, replaced_here}}
use Rattle.room_rows.proofs.SamePlace.{replaced_elsewhere}
use Rattle.room_inherit.specs.Spread.{IsLinkedBelow, IsSpread, is_changed, is_linked_within}
use Rattle.room_inherit.proofs.{Children.each_there, Ends.{own_lists, with_own_lists}}
use Rattle.room_inherit.proofs.{Kinship.{same_parent, same_kind, with_last}, Renewing.map_agree}
use Rattle.room_inherit.proofs.Renewing.{map_map}
use Rattle.room_desk.{specs.Moving.{CanRenew, HasRenewedLists}, proofs.Placed.PlacedParts.all_after}
use Rattle.room_desk.proofs.Placed.PlacedParts.{apart, change_there, linked_above, linked_flags}
use Rattle.room_desk.proofs.Placed.PlacedParts.{parent_after}

module _ (which : Which) (target folder : Node) (old : Rows)
    (can : CanRenew which target folder old) where
  abbrev content : Content
  content = old.read

  abbrev IsThere : Node → Type 0
  IsThere n = node_at content n.id ≡ Some n

  there_is : IsThere can.there
  there_is = let same = node_at-number content target.id can.there can.there_is in grind arith

  there_id : can.there.id ≡ target.id
  there_id = node_at-number content target.id can.there can.there_is

  is_there : (n : Node) → IsThere n → (n.id == target.id) ≡ true → n ≡ can.there
  is_there n found is = grind (arith, nat_tests, can.there_is)

  other : (n : Node) → (n.id == target.id) ≡ false → n.id ≡ target.id → ⊥
  other n isnt = eqb-false n.id target.id isnt

  above_there : parent_of content can.there ≡ Some can.above
  above_there = rw (can.there_parent, can.above_is)

  -- whether it is linked to the folder
  linked_there : is_linked_in content which can.there
      ≡ is_linked (held_of which target) (Some (held_of which folder))
  linked_there = rw (above_there, can.there_held, can.above_held)

  -- ---- nothing links it

  abbrev agrees_there : Bool
  agrees_there = agrees content which can.there

  -- nothing changes where the object agrees
  stays : agrees_there ≡ true → HasRenewedLists which old old
  stays holds = record {
    lists = own_lists which;
    becomes = ap (with_content old) (sym (with_own_lists which content));
    kept = λ n found unlinked. refl;
    law =
        all_each _ content.nodes
        (each_there _ content.nodes (apart content can.rises)
        (grind (arith, nat_tests, is_there, other)));
  }

  pub not_linked : is_linked (held_of which target) (Some (held_of which folder)) ≡ false
      → HasRenewedLists which old old
  not_linked isnt = stays (rw (above_there, can.there_held, can.above_held, isnt))

  -- it stores already what the folder passes
  pub stored_already : (passed : List Ace)
      → passed ≡ pass target.kind (full_of (held_of which folder))
      → passed ≡ (held_of which target).inh → HasRenewedLists which old old
  stored_already passed is stored = grind (arith, nat_tests, above_there, equal_entries, stays)

  -- ---- it takes what the folder passes

  module _ (entries : List Ace)
      (passed : entries ≡ pass target.kind (full_of (held_of which folder))) where
    -- the object with these entries, and each other as it is
    abbrev change : Node → Node
    change n = cond (n.id == target.id) (with_inh which entries n) n

    abbrev after : Content
    after = with_each content change

    change_here : (n : Node) → (n.id == target.id) ≡ true → change n ≡ with_inh which entries n
    change_here n is = rw is

    change_other : (n : Node) → (n.id == target.id) ≡ false → change n ≡ n
    change_other n isnt = rw isnt

    of_both : {X : Type 0} (part : Node → X) (n : Node) → part (with_inh which entries n) ≡ part n
        → part (change n) ≡ part n
    of_both part n same = grind arith

    change_id : (n : Node) → (change n).id ≡ n.id
    change_id n = of_both (λ (m : Node). m.id) n (with_inh-id which entries n)

    change_parent : (n : Node) → (change n).parent ≡ n.parent
    change_parent n = of_both (λ (m : Node). m.parent) n (same_parent which entries n)

    change_flags : (n : Node) → (held_of which (change n)).flags ≡ (held_of which n).flags
    change_flags n = grind (arith, nat_tests, held_of-with_inh, of_both)

    -- ---- the rows with these entries

    given : (n : Node) → IsThere n → replaced (with_inh which entries can.there) n ≡ change n
    given n found =
        grind (
          arith,
          nat_tests,
          change_here,
          change_other,
          is_there,
          other,
          replaced_elsewhere,
          replaced_here,
          there_id,
          with_inh-id,
        )

    stored_given : (mid : Rows) → Changes target.id (with_inh which entries) old mid
        → mid ≡ with_content old after
    stored_given mid changes =
        cc (
          changes can.there can.there_is,
          with_node-replaces content can.rises target.id can.there
              (with_inh which entries can.there)
              can.there_is (place-with_inh which entries can.there),
          map_agree _ change content.nodes
              (each_there _ content.nodes (apart content can.rises) given),
        )

    above_after : (n : Node) → parent_of after (change n) ≡ option_map change (parent_of content n)
    above_after n = parent_after content can.rises change change_id n (change_parent n)

    linked_after : (n : Node) → is_linked_in after which (change n) ≡ is_linked_in content which n
    linked_after n = search (above_after, change_flags, linked_above, linked_flags)

    -- ---- the law but for the children

    above_apart : (can.above.id == target.id) ≡ false
    above_apart = grind (arith, nat_tests, node_at-number)

    agrees_here : (n : Node) → IsThere n → (n.id == target.id) ≡ true
        → agrees after which (change n) ≡ true
    agrees_here n found is =
        grind (
          arith,
          nat_tests,
          above_after,
          above_apart,
          above_there,
          change_here,
          change_other,
          equal_entries,
          held_of-with_inh,
          is_there,
          same_kind,
        )

    -- no child of the object, and not the object itself
    agrees_other : (n : Node) → IsThere n → (n.id == target.id) ≡ false
        → has_parent target.id n ≡ false → agrees after which (change n) ≡ true
    agrees_other n found isnt no_child =
        grind (arith, nat_tests, above_after, change_other, node_at-number, other)

    law_but : AllAgreeBut after which target.id
    law_but = search (rules, all_after, change_id, agrees_here, agrees_other, change_parent)

    -- ---- carried down

    unlinked_kept : (l : Node → List Ace)
        → ((m : Node) → node_at after m.id ≡ Some m → is_changed which l m ≡ true
        → IsLinkedBelow after which target.id m) → (m : Node) → node_at after m.id ≡ Some m
        → is_linked_in after which m ≡ false → l m ≡ (held_of which m).inh
    unlinked_kept l below m found unlinked = grind (arith, nat_tests, entries_equal, no_way)
      where
        no_way : (k : ℕ) → is_linked_within k after which target.id m ≡ true → ⊥
        no_way zero is = false≢true is
        no_way (suc k) is = grind arith

    abbrev linked_to_folder : Bool
    linked_to_folder = is_linked (held_of which target) (Some (held_of which folder))

    pub renewed : linked_to_folder ≡ true → (mid new : Rows) (changed : ℕ)
        → Changes target.id (with_inh which entries) old mid
        → IsSpread which target.id mid new changed → HasRenewedLists which old new
    renewed linked mid new changed changes spread =
        let down = rw (stored_given mid changes) at spread in
        record {
          lists = λ n. down.lists (change n);
          becomes =
              down.becomes
              ∙ ap (λ (nodes : List Node). with_content old (record content { nodes = nodes }))
              (search (apart, each_there, map_agree, map_map, of_both_with));
          kept = λ n found unlinked.
              let isnt : (n.id == target.id) ≡ false =
              grind (arith, nat_tests, is_there, linked_there) in
              let same : change n ≡ n = change_other n isnt in
              cc (
                unlinked_kept down.lists down.below (change n)
                    (change_there content can.rises change change_id n found)
                    (linked_after n ∙ unlinked),
                same,
              );
          law = down.law law_but;
        }
      where
        of_both_with : (l : List Ace) (n : Node) → with_inh which l (change n) ≡ with_inh which l n
        of_both_with l n = grind (arith, with_last which l entries n)
