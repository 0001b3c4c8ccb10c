-- Sound rows stay sound when the operator replaces their pairs: no test of rows looks at these.
use Rattle.std.proofs.Common.{arith, ◌≡◌, ℕ, zero, suc, List, [], ◌∷◌, None, Some, Option, Bool}
use Rattle.std.{proofs.Common.{false, find, length, refl, ap, ◌∙◌, ◌&&◌, ◌==◌}, specs.List.list_all}
use Rattle.std.specs.Option.{option_map_or}
use Rattle.room_rows.specs.{declared.node.Node.Node, Content.{Content, reaches_root, with_members}}
use Rattle.room_rows.specs.{Rows.Rows, Keep.with_content, Sound.{AreSound, reaches}}
use Rattle.room_inherit.specs.Laws.{SoundIsNoFault}
use Rattle.room_machine.specs.Run.{Replaced}
use Rattle.store_admin.specs.Operating.{ReplacesMembers}
use Rattle.room_store.proofs.Leading.{IsEvent}

-- a way to the root depends on the objects alone
module _ (a b : Content) (same : a.nodes ≡ b.nodes) where
  way_up : (n : ℕ) (parent : Option ℕ) → reaches_root n a parent ≡ reaches_root n b parent
  way_up n None = refl
  way_up zero (Some id) = refl
  way_up (suc n) (Some id) =
      ap (λ (nodes : List Node).
      option_map_or (λ above. reaches_root n a above.parent) (find (λ node. node.id == id) nodes)
      false) same
      ∙ on (find (λ node. node.id == id) b.nodes) (λ above. way_up n above.parent)
    where
      on : (o : Option Node)
          → ((above : Node) → reaches_root n a above.parent ≡ reaches_root n b above.parent)
          → option_map_or (λ above. reaches_root n a above.parent) o false
          ≡ option_map_or (λ above. reaches_root n b above.parent) o false
      on None up = refl
      on (Some above) up = up above

  all_up : (nodes : List Node) → list_all (reaches a) nodes ≡ list_all (reaches b) nodes
  all_up [] = refl
  all_up (node ∷ nodes) =
      ap (λ (there : Bool). there && list_all (reaches a) nodes)
      (ap (λ (all : List Node). reaches_root (length all) a node.parent) same
      ∙ way_up (length b.nodes) node.parent)
      ∙ ap (λ (others : Bool). reaches b node && others) (all_up nodes)

still_sound : SoundIsNoFault → (rows : Rows) (pairs : List (List ℕ × List ℕ)) → AreSound rows
    → AreSound (with_content rows (with_members rows.read pairs))
still_sound law rows pairs sound =
    let none = (law rows).0 sound in
    let changed = with_members rows.read pairs in
    (law (with_content rows changed)).1
    (record {
      lists = none.lists;
      root = none.root;
      parents = none.parents;
      reach = all_up changed rows.read refl rows.read.nodes ∙ none.reach;
      names = none.names;
      bodies = none.bodies;
      law = none.law;
    })

pub was_replaced : SoundIsNoFault → (pairs : List (List ℕ × List ℕ)) (before after : Rows)
    → ReplacesMembers pairs before tt after → AreSound before → IsEvent (Replaced pairs) before after
was_replaced law pairs before after replaces sound =
    grind (arith, pairs, before, replaces, sound, law, before.read, still_sound)
