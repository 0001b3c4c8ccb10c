-- Which lists are linked where an object gets another place.
use Rattle.std.proofs.Common.{◌≡◌, ℕ, ◌==◌, true, false, List, Some, sym, ap, ◌∙◌, inl, inr}
use Rattle.std.proofs.lemmas.Bool.{cases_Bool}
use Rattle.room_entry.specs.{Ace.Ace, declared.object.Which.Which}
use Rattle.room_rows.specs.{HeldList.Held, declared.node.Node.Node, Content.{Content, is_linked_in}}
use Rattle.room_rows.specs.{Held.{held_of, is_linked}, Rows.Rows}
use Rattle.room_desk.specs.Moving.{CanPlace}
use Rattle.room_desk.proofs.Placed.PlacedParts.{linked_above, linked_flags, placed_held}
use Rattle.room_desk.proofs.Placed.PlacedTree.{above_elsewhere, above_here, after, change}

module _ (old : Rows) (target folder : Node) (name : List ℕ) (can : CanPlace target folder name old)
    (d s : Node → List Ace) where
  abbrev before : Content
  before = old.read

  abbrev moved : Node → Node
  moved = change old target folder name can d s

  abbrev now : Content
  now = after old target folder name can d s

  flags_now : (which : Which) (n : Node) → (held_of which (moved n)).flags ≡ (held_of which n).flags
  flags_now which n = ap (λ (h : Held). h.flags) (placed_held target.id folder.id name d s which n)

  pub linked_elsewhere : (which : Which) (n : Node) → (n.id == target.id) ≡ false
      → is_linked_in now which (moved n) ≡ is_linked_in before which n
  linked_elsewhere which n isnt = search (above_elsewhere, flags_now, linked_above, linked_flags)

  pub linked_here : (which : Which) (n : Node) → (n.id == target.id) ≡ true
      → is_linked_in now which (moved n) ≡ is_linked (held_of which n) (Some (held_of which folder))
  linked_here which n is = search (above_here, flags_now, linked_above, linked_flags)

-- whatever entries are stored
pub linked_any : (old : Rows) (target folder : Node) (name : List ℕ)
    (can : CanPlace target folder name old) (d s e u : Node → List Ace) (which : Which) (n : Node)
    → is_linked_in (after old target folder name can d s) which
    (change old target folder name can d s n)
    ≡ is_linked_in (after old target folder name can e u) which
    (change old target folder name can e u n)
linked_any old target folder name can d s e u which n = elim (cases_Bool (n.id == target.id)) [
  | inl is ↦ linked_here old target folder name can d s which n is
      ∙ sym (linked_here old target folder name can e u which n is)
  | inr isnt ↦ linked_elsewhere old target folder name can d s which n isnt
      ∙ sym (linked_elsewhere old target folder name can e u which n isnt)
]
