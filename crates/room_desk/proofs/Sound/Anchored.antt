-- Objects whose parents lead to the root, where one object of the rows is put in the place of
-- another.
use Rattle.std.proofs.Common.{rules, ◌≡◌, ℕ, zero, suc, ◌==◌, Bool, true, false, not, List, [], ◌∷◌}
use Rattle.std.proofs.Common.{map, Option, Some, None, refl, sym, ap, subst, ◌∙◌, arith}
use Rattle.std.{proofs.lemmas.Bool.{and_parts, false≢true, Decides.nat_tests}, specs.Prelude.IsTrue}
use Rattle.std.specs.Option.{option_map, option_map_or}
use Rattle.room_entry.specs.declared.object.Which.{Which}
use Rattle.room_rows.specs.{declared.node.Node.Node, Content.{Content, is_rising, node_at}}
use Rattle.room_rows.specs.{Content.{reaches_root, with_each, with_node}, Keep.Changes}
use Rattle.room_rows.specs.{Keep.{IsUnreadable, with_content, with_inh}, Rows.Rows}
use Rattle.room_rows.proofs.{Frames.{Rises, node_at-number}, InPlace.place-with_inh}
use Rattle.room_rows.proofs.SamePlace.{put-replaces, replaced, replaced_elsewhere, replaced_here}
use Rattle.room_inherit.{specs.Spread.IsSpread, proofs.Rooted.rooted_no_loop}
use Rattle.room_desk.specs.{Carrying.{HasLoop, IsRooted}, Moving.{KeepsRoot, goes_past}}
use Rattle.room_desk.proofs.Placed.Climbing.{node_at-changed, reaches-changed, step_up}

numbers_same : (change : Node → Node) → ((n : Node) → (change n).id ≡ n.id) → (nodes : List Node)
    → map (λ (n : Node). n.id) (map change nodes) ≡ map (λ (n : Node). n.id) nodes
numbers_same change number [] = refl
numbers_same change number (x ∷ xs) = grind (arith, nat_tests, numbers_same change number xs)

module _ (content : Content) (rises : Rises content) (node new : Node)
    (there : node_at content node.id ≡ Some node) (number : new.id ≡ node.id) where
  abbrev after : Content
  after = with_node content new

  pub after_is : after ≡ with_each content (replaced new)
  after_is = cc (put-replaces 0 content.nodes node.id node new rises there number)

  number_kept : (n : Node) → (replaced new n).id ≡ n.id
  number_kept n = grind (arith, nat_tests)

  pub rises_after : Rises after
  rises_after =
      subst (λ (c : Content). IsTrue (is_rising (0 ∷ map (λ (n : Node). n.id) c.nodes)))
      (sym after_is) (search (rules, numbers_same, number_kept))

  found_after : (id : ℕ) → node_at after id ≡ option_map (replaced new) (node_at content id)
  found_after id = grind (arith, nat_tests, after_is, node_at-changed, number_kept, replaced)

  pub here_after : node_at after node.id ≡ Some new
  here_after = grind (arith, nat_tests, found_after, replaced, replaced_here)

  -- what is found by another number is what it was
  elsewhere : (id : ℕ) (n : Node) → node_at content id ≡ Some n → (id == node.id) ≡ false
      → replaced new n ≡ n
  elsewhere id n found isnt = grind (arith, nat_tests, node_at-number, replaced_elsewhere)

  -- a way up that doesn't meet the object leads to the root
  pub past_up : (n : ℕ) (parent : Option ℕ) → goes_past n content node.id parent ≡ true
      → reaches_root n after parent ≡ true
  past_up n None past = refl
  past_up zero (Some id) past = absurd (false≢true past)
  past_up (suc n) (Some id) past =
      let parts = and_parts (not (id == node.id))
      (option_map_or (λ (m : Node). goes_past n content node.id m.parent)
      (node_at content id) false) past in
      let up = step_up (λ (m : Node). goes_past n content node.id m.parent)
      (node_at content id) parts.1 in
      ap (λ o. option_map_or (λ (above : Node). reaches_root n after above.parent) o false)
      (found_after id ∙ ap (option_map (replaced new)) up.1)
      ∙ ap (λ (m : Node). reaches_root n after m.parent)
      (elsewhere id up.0 up.1 (isnt (id == node.id) parts.0))
      ∙ past_up n up.0.parent up.2
    where
      isnt : (b : Bool) → not b ≡ true → b ≡ false
      isnt true is = absurd (false≢true is)
      isnt false is = refl

  -- with the same parent the ways up are the same
  module _ (parent_same : new.parent ≡ node.parent) where
    parent_kept : (id : ℕ) (n : Node) → node_at content id ≡ Some n
        → (replaced new n).parent ≡ n.parent
    parent_kept id n found = grind (arith, nat_tests, elsewhere, replaced, replaced_here)

    pub same_up : (n : ℕ) (parent : Option ℕ) → reaches_root n content parent ≡ true
        → reaches_root n after parent ≡ true
    same_up n None up = refl
    same_up zero (Some id) up = absurd (false≢true up)
    same_up (suc n) (Some id) up =
        let above = step_up (λ (m : Node). reaches_root n content m.parent)
        (node_at content id) up in
        ap (λ o. option_map_or (λ (a : Node). reaches_root n after a.parent) o false)
        (found_after id ∙ ap (option_map (replaced new)) above.1)
        ∙ ap (reaches_root n after) (parent_kept id above.0 above.1)
        ∙ same_up n above.0.parent above.2

-- ---- rooted objects

-- the object gets another list
pub rooted_changed : (id : ℕ) (old mid : Rows) (change : Node → Node)
    → ((n : Node) → (change n).id ≡ n.id) → ((n : Node) → (change n).parent ≡ n.parent)
    → Changes id change old mid → IsRooted id old → KeepsRoot id old mid
rooted_changed id old mid change number parent changes rooted =
    let named : rooted.node.id ≡ id = node_at-number old.read id rooted.node rooted.there in
    let found : node_at old.read rooted.node.id ≡ Some rooted.node = cc (named, rooted.there) in
    let becomes : mid ≡ with_content old (with_node old.read (change rooted.node)) =
    changes rooted.node rooted.there in
    record {
      unreadable = ap (λ (r : Rows). r.unreadable) becomes;
      rooted = λ _. subst (IsRooted id) (sym becomes) (record {
        rises = search (rises_after);
        node = change rooted.node;
        there = grind (arith, nat_tests, here_after);
        steps = rooted.steps;
        reaches = grind (arith, nat_tests, same_up);
      });
    }

-- each object gets other inherited entries
pub rooted_spread : (which : Which) (id row changed : ℕ) (old new : Rows)
    → IsSpread which row old new changed → IsRooted id old → KeepsRoot id old new
rooted_spread which id row changed old new spread rooted = record {
  unreadable = ap (λ (r : Rows). r.unreadable) spread.becomes;
  rooted = λ _. subst (IsRooted id) (sym spread.becomes) (record {
    rises = search (change, number, numbers_same);
    node = change rooted.node;
    there = node_at-changed old.read change number id ∙ ap (option_map change) rooted.there;
    steps = rooted.steps;
    reaches = search (change, number, parent, reaches-changed);
  });
}
  where
    change : Node → Node
    change n = with_inh which (spread.lists n) n

    number : (n : Node) → (change n).id ≡ n.id
    number n = (place-with_inh which (spread.lists n) n).number

    parent : (n : Node) → (change n).parent ≡ n.parent
    parent n = (place-with_inh which (spread.lists n) n).parent

-- what is rooted isn't its own ancestor
pub rooted_unread : (id : ℕ) (rows : Rows) (row : ℕ) → IsRooted id rows → HasLoop id rows row
    → IsUnreadable rows row
rooted_unread id rows row rooted given = grind (arith, nat_tests, rooted_no_loop)

-- no other row became unreadable
pub still_unread : (old new : Rows) (row : ℕ) → new.unreadable ≡ old.unreadable
    → IsUnreadable new row → IsUnreadable old row
still_unread old new row same h = grind (arith, nat_tests)

pub unread_first : (id : ℕ) (old mid : Rows) (row : ℕ) → KeepsRoot id old mid → IsUnreadable mid row
    → IsUnreadable old row
unread_first id old mid row keeps h = still_unread old mid row keeps.unreadable h

-- what is carried down from an object that gets another list
pub changed_unread : (id : ℕ) (old mid : Rows) (row : ℕ) (change : Node → Node)
    → ((n : Node) → (change n).id ≡ n.id) → ((n : Node) → (change n).parent ≡ n.parent)
    → Changes id change old mid → HasLoop id mid row → IsRooted id old → IsUnreadable old row
changed_unread id old mid row change number parent changes loop rooted =
    let keeps = rooted_changed id old mid change number parent changes rooted in
    unread_first id old mid row keeps (rooted_unread id mid row (keeps.rooted rooted) loop)
