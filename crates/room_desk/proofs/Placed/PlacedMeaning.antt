-- What rows mean where an object gets another place, and lists that aren't linked are as before.
use Rattle.std.proofs.Common.{rules, ◌≡◌, ℕ, ◌==◌, Bool, true, false, cond, List, [], map, Some}
use Rattle.std.proofs.{Common.{refl, sym, ap, ◌∙◌, arith}, lemmas.Bool.Decides.nat_tests}
use Rattle.room_entry.specs.{Ace.Ace, declared.object.Which.{Which, TheVariants.{Dacl, Sacl}}}
use Rattle.room_rows.specs.{HeldList.Held, declared.node.Node.Node, Content.{Content, node_at}}
use Rattle.room_rows.specs.{Content.{is_linked_in, with_node}, Held.{held_of, is_linked}}
use Rattle.room_rows.specs.{Meaning.{kept_held, kept_node, meaning}, Rows.Rows}
use Rattle.room_rows.proofs.InPlace.{KeepsPlaces, keeps_places, rises-with_each}
use Rattle.room_rows.proofs.SamePlace.{put-replaces, replaced, replaced_here, replaced_elsewhere}
use Rattle.room_inherit.proofs.{Children.each_there, Renewing.{map_agree, map_map}}
use Rattle.room_machine.specs.{Effect.{moved_held, moved_node}, Stored.stored_site}
use Rattle.room_desk.{specs.Moving.CanPlace, proofs.Placed.Climbing.node_at-changed}
use Rattle.room_desk.proofs.Placed.{PlacedLinks.{linked_elsewhere, linked_here}, PlacedParts.apart}
use Rattle.room_desk.proofs.Placed.{PlacedParts.lists, PlacedTree.{after, change, is_target}}

-- ---- the entries that one list keeps

-- what isn't linked is as before
pub kept_same : (l m : Bool) (held : Held) (x : List Ace) → l ≡ m → (l ≡ false → x ≡ held.inh)
    → kept_held l (record held { inh = x }) ≡ kept_held m held
kept_same l true held x same known = ap (λ b. kept_held b (record held { inh = x })) same
kept_same l false held x same known = grind (arith, nat_tests)

pub kept_moved : (l m : Bool) (held : Held) (x : List Ace) → l ≡ m → (l ≡ false → x ≡ held.inh)
    → kept_held l (record held { inh = x }) ≡ record held { inh = cond m [] held.inh }
kept_moved l true held x same known = ap (λ b. kept_held b (record held { inh = x })) same
kept_moved l false held x same known = grind (arith, nat_tests)

module _ (old : Rows) (target folder : Node) (name : List ℕ) (can : CanPlace target folder name old)
    (d s : Node → List Ace)
    (kept : (which : Which) (n : Node) → node_at old.read n.id ≡ Some n
    → is_linked_in (after old target folder name can d s) which
    (change old target folder name can d s n) ≡ false
    → lists target.id folder.id name d s which n ≡ (held_of which n).inh) where
  abbrev before : Content
  before = old.read

  abbrev moved : Node → Node
  moved = change old target folder name can d s

  abbrev now : Content
  now = after old target folder name can d s

  abbrev placed_node : Node
  placed_node = moved_node (stored_site [] target) (stored_site [] folder) name

  abbrev is_there : Node → Type 0
  is_there n = node_at before n.id ≡ Some n

  held_elsewhere : (which : Which) (n : Node) → is_there n → (n.id == target.id) ≡ false
      → kept_held (is_linked_in now which (moved n))
      (record (held_of which n) { inh = lists target.id folder.id name d s which n })
      ≡ kept_held (is_linked_in before which n) (held_of which n)
  held_elsewhere which n there isnt =
      kept_same (is_linked_in now which (moved n)) (is_linked_in before which n) (held_of which n)
      (lists target.id folder.id name d s which n)
      (linked_elsewhere old target folder name can d s which n isnt) (kept which n there)

  held_here : (which : Which) (n : Node) → is_there n → (n.id == target.id) ≡ true
      → kept_held (is_linked_in now which (moved n))
      (record (held_of which n) { inh = lists target.id folder.id name d s which n })
      ≡ record (held_of which n) {
        inh = cond
            (is_linked (held_of which n) (Some (held_of which folder))) [] (held_of which n).inh;
      }
  held_here which n there is =
      kept_moved (is_linked_in now which (moved n))
      (is_linked (held_of which n) (Some (held_of which folder))) (held_of which n)
      (lists target.id folder.id name d s which n)
      (linked_here old target folder name can d s which n is) (kept which n there)

  kept_elsewhere : (n : Node) → is_there n → (n.id == target.id) ≡ false
      → kept_node now (moved n) ≡ kept_node before n
  kept_elsewhere n there isnt =
      cc (isnt, held_elsewhere Dacl n there isnt, held_elsewhere Sacl n there isnt)

  abbrev placed_as : Node → Node
  placed_as n =
      record n {
        parent = Some folder.id;
        name = name;
        dacl = moved_held Dacl (stored_site [] n) (stored_site [] folder);
        sacl =
            moved_held Sacl (stored_site [] n) (stored_site [] folder);
      }

  kept_here : (n : Node) → is_there n → (n.id == target.id) ≡ true
      → kept_node now (moved n) ≡ placed_as n
  kept_here n there is = cc (is, held_here Dacl n there is, held_here Sacl n there is)

  each_kept : (n : Node) → is_there n
      → kept_node now (moved n) ≡ replaced placed_node (kept_node before n)
  each_kept n there =
      grind (
        arith,
        nat_tests,
        is_target,
        kept_elsewhere,
        kept_here,
        replaced_elsewhere,
        replaced_here,
      )

  abbrev kept_before : Node → Node
  kept_before n = kept_node before n

  same_places : KeepsPlaces before kept_before
  same_places = search (keeps_places)

  pub means_placed : meaning now ≡ with_node (meaning before) placed_node
  means_placed =
      ap (λ (nodes : List Node). record before { nodes = nodes })
      (map_map (kept_node now) moved before.nodes
      ∙ map_agree (λ n. kept_node now (moved n))
      (λ n. replaced placed_node (kept_before n)) before.nodes
      (search (rules, each_there, apart, each_kept))
      ∙ sym (map_map (replaced placed_node) kept_before before.nodes)
      ∙ sym (put-replaces 0 (map kept_before before.nodes) target.id
      (kept_before target) placed_node
      (rises-with_each before kept_before same_places can.are.numbers)
      (cc (node_at-changed before kept_before (λ n. refl) target.id, can.target_there)) refl))
