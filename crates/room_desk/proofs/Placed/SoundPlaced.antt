-- Rows stay sound where an object gets another place, if the law holds again and lists that aren't
-- linked are as before.
use Rattle.std.proofs.Common.{rules, ◌≡◌, ℕ, ◌==◌, Bool, true, false, cond, List, [], filter}
use Rattle.std.proofs.{Common.{length, Some, None, sym, ap, ◌∙◌, arith}, lemmas.Bool.and_from}
use Rattle.std.proofs.lemmas.{Bool.{and_parts, Decides.nat_tests}, List.Folds.list_all-map}
use Rattle.std.specs.List.{list_all}
use Rattle.room_entry.specs.{Ace.Ace, declared.object.Which.{Which, TheVariants.{Dacl, Sacl}}}
use Rattle.room_rows.specs.{declared.node.Node.Node, Content.{Content, node_at, is_root}}
use Rattle.room_rows.specs.{Content.is_linked_in, Held.held_of, Keep.with_place, Rows.Rows}
use Rattle.room_rows.specs.{Law.{agrees, AllAgree}, Sound.{AreSound, bad_root, has_sound_lists}}
use Rattle.room_rows.specs.Sound.{is_sound_held, keeps_law, reaches}
use Rattle.room_rows.proofs.Frames.{node_at-number, no_parent}
use Rattle.room_inherit.proofs.{Children.{each_found, each_there}, Ends.each_all, NoFault.sound}
use Rattle.room_inherit.proofs.Renewing.{each_both}
use Rattle.room_entry.proofs.Facts.Members.{all_each, each_weaker}
use Rattle.room_desk.specs.Moving.{CanPlace}
use Rattle.room_desk.proofs.Placed.{PlacedParts.{apart, base, lists, placed_held}, PlacedTree.after}
use Rattle.room_desk.proofs.Placed.PlacedTree.{bodies_after, change, faultless, is_target, kind}
use Rattle.room_desk.proofs.Placed.PlacedTree.{lists_there, names_after, new, no_bad_list, number}
use Rattle.room_desk.proofs.Placed.PlacedTree.{parents_after, reach_after, roots_same, same_root}
use Rattle.room_desk.proofs.Lists.ValidDown.{are_inherited, are_own, held_parts, valid_down}
use Rattle.room_desk.proofs.Lists.Relisted.{one_list}
use Rattle.room_sound.proofs.SoundParts.{none_unreadable, sound_parts}

module _ (old : Rows) (target folder : Node) (name : List ℕ) (can : CanPlace target folder name old)
    (d s : Node → List Ace)
    (kept : (which : Which) (n : Node) → node_at old.read n.id ≡ Some n
    → is_linked_in (after old target folder name can d s) which
    (change old target folder name can d s n) ≡ false
    → lists target.id folder.id name d s which n ≡ (held_of which n).inh)
    (law : (which : Which) → AllAgree (after old target folder name can d s) which) where
  abbrev before : Content
  before = old.read

  abbrev moved : Node → Node
  moved = change old target folder name can d s

  abbrev now : Content
  now = after old target folder name can d s

  abbrev rows : Rows
  rows = new old target folder name can d s

  readable : old.unreadable ≡ []
  readable = none_unreadable old (sound_parts old can.sound)

  moved_number : (n : Node) → (moved n).id ≡ n.id
  moved_number = number old target folder name can d s

  was : (id : ℕ) (m : Node) → node_at now id ≡ Some m → (n : Node) × (node_at before n.id ≡ Some n)
      × (m ≡ moved n)
  was = base before can.are.numbers moved moved_number

  passed_now : (test : Node → Bool) → list_all test now.nodes ≡ true → (m : Node)
      → node_at now m.id ≡ Some m → test m ≡ true
  passed_now test all m there =
      let earlier = was m.id m there in
      ap test earlier.2 ∙ each_found (λ x. test (moved x) ≡ true) earlier.0.id before.nodes
      earlier.0 (each_all (λ x. test (moved x)) before.nodes
      (sym (list_all-map test moved before.nodes) ∙ all)) earlier.1

  held_was : (which : Which) (n : Node) → node_at before n.id ≡ Some n
      → is_sound_held which n.kind (held_of which n) ≡ true
  held_was which n there = search (faultless, lists_there, one_list, readable)

  -- ---- lists

  held_now : (which : Which) (n : Node)
      → held_of which (moved n)
      ≡ record (held_of which n) { inh = lists target.id folder.id name d s which n }
  held_now which n = placed_held target.id folder.id name d s which n

  own_now : (which : Which) (m : Node) → node_at now m.id ≡ Some m → (l : List Ace)
      × (is_sound_held which m.kind (record (held_of which m) { inh = l }) ≡ true)
  own_now which m there =
      let earlier = was m.id m there in (
        (held_of which earlier.0).inh,
        grind (arith, nat_tests, held_now, held_was, kind),
      )

  unlinked_now : (which : Which) (m : Node) → node_at now m.id ≡ Some m
      → is_linked_in now which m ≡ false → is_sound_held which m.kind (held_of which m) ≡ true
  unlinked_now which m there isnt =
      let earlier = was m.id m there in
      let same : lists target.id folder.id name d s which earlier.0
      ≡ (held_of which earlier.0).inh =
      kept which earlier.0 earlier.1 (sym (ap (is_linked_in now which) earlier.2) ∙ isnt) in
      grind (arith, nat_tests, held_now, held_was, kind)

  list_now : (which : Which) (m : Node) → node_at now m.id ≡ Some m
      → is_sound_held which m.kind (held_of which m) ≡ true
  list_now which m there =
      cc (
        held_parts which m.kind (held_of which m),
        and_from (are_own which m.kind (held_of which m).own)
            (are_inherited which m.kind (held_of which m).inh) (own_parts m there)
            (valid_down which now (law which) (parents_after old target folder name can d s)
            own_parts
            kept_parts (length now.nodes) m there
            (passed_now (reaches now) (reach_after old target folder name can d s) m there)),
      )
    where
      own_parts : (n : Node) → node_at now n.id ≡ Some n
          → are_own which n.kind (held_of which n).own ≡ true
      own_parts n found =
          let with_some = own_now which n found in
          cc ((and_parts (are_own which n.kind (held_of which n).own)
          (are_inherited which n.kind with_some.0)
          (sym (held_parts which n.kind (record (held_of which n) { inh = with_some.0 })) ∙
          with_some.1)).0)

      kept_parts : (n : Node) → node_at now n.id ≡ Some n → is_linked_in now which n ≡ false
          → are_inherited which n.kind (held_of which n).inh ≡ true
      kept_parts n found apart =
          (and_parts (are_own which n.kind (held_of which n).own)
          (are_inherited which n.kind (held_of which n).inh)
          (sym (held_parts which n.kind (held_of which n)) ∙ unlinked_now which n found apart)).1

  lists_now : (id : ℕ) (m : Node) → node_at now id ≡ Some m → has_sound_lists m ≡ true
  lists_now id m found =
      let there : node_at now m.id ≡ Some m = cc (node_at-number now id m found, found) in
      and_from (is_sound_held Dacl m.kind m.dacl) (is_sound_held Sacl m.kind m.sacl)
      (list_now Dacl m there) (list_now Sacl m there)

  -- ---- the root

  -- it is linked to nothing, so it stays as it is
  root_stays : (n : Node) → node_at before n.id ≡ Some n → is_root n ≡ true → moved n ≡ n
  root_stays n there root =
      let isnt : (n.id == target.id) ≡ false = grind (arith, nat_tests, is_target) in
      let none : (moved n).parent ≡ None = search (rules, no_parent, n, same_root, there, root) in
      let unlinked : (which : Which) → is_linked_in now which (moved n) ≡ false =
      grind (arith, nat_tests) in
      ap (λ b. with_lists (cond b (with_place folder.id name n) n) (d n) (s n)) isnt
      ∙ ap (λ l. with_lists n l (s n)) (kept Dacl n there (unlinked Dacl))
      ∙ ap (λ l. with_lists n n.dacl.inh l) (kept Sacl n there (unlinked Sacl))
    where
      with_lists : Node → List Ace → List Ace → Node
      with_lists m a b =
          record m { dacl = record n.dacl { inh = a }; sacl = record n.sacl { inh = b } }

  root_now : bad_root (filter is_root now.nodes) ≡ None
  root_now =
      ap bad_root (roots_same moved before.nodes
      (search (apart, each_there, root_stays, same_root)))
      ∙ (faultless old target folder name can d s).root

  -- ---- the law

  law_now : list_all (keeps_law now) now.nodes ≡ true
  law_now =
      all_each (keeps_law now) now.nodes
      (each_weaker (λ m. (agrees now Dacl m ≡ true) × (agrees now Sacl m ≡ true))
      (λ m. keeps_law now m ≡ true)
      (λ m both. and_from (agrees now Dacl m) (agrees now Sacl m) both.0 both.1) now.nodes
      (search (each_all, each_both)))

  pub sound_placed : AreSound rows
  sound_placed =
      search (
        bodies_after,
        law_now,
        lists,
        lists_now,
        names_after,
        no_bad_list,
        parents_after,
        reach_after,
        readable,
        root_now,
        sound,
      )
