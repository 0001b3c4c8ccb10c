-- What carrying a list down leaves, once the list of one object is set.
use Rattle.std.proofs.Common.{◌≡◌, ℕ, zero, suc, ◌==◌, ◌||◌, Bool, true, false, not, List, [], ◌∷◌}
use Rattle.std.proofs.Common.{map, Option, Some, None, refl, sym, ap, subst, inl, inr, arith}
use Rattle.std.proofs.lemmas.Bool.{and_from, cases_Bool, or_left, or_right, Decides.nat_tests}
use Rattle.std.specs.{List.{AllByRecursion, list_all}, Option.{option_map, option_map_or}}
use Rattle.room_entry.specs.{Ace.Ace, Same.same_entries, declared.object.ObjKind.ObjKind}
use Rattle.room_entry.{specs.declared.object.Which.Which, proofs.Same.entries_equal}
use Rattle.room_entry.proofs.Alike.{entries_themselves}
use Rattle.room_ace.specs.Sent.{Sent}
use Rattle.room_rows.specs.{HeldList.Held, declared.node.Node.Node, Content.{Content, node_at}}
use Rattle.room_rows.specs.Content.{parent_of, has_parent, is_linked_in, reaches_root}
use Rattle.room_rows.specs.{Held.{held_of, full_of, is_linked}, Law.{AllAgree, AllAgreeBut, agrees}}
use Rattle.room_rows.{specs.{Law.agrees_with, Pass.pass}, proofs.{Frames.Rises, Lookups.each_found}}
use Rattle.room_inherit.specs.Spread.{IsLinkedBelow, is_changed, is_linked_within}
use Rattle.room_inherit.proofs.Rooted.{rooted_no_loop}
use Rattle.room_machine.specs.Changed.{stored_held}
use Rattle.room_desk.proofs.Lists.Relisted.{relist, relisted, held_relisted, kind_kept, parent_kept}
use Rattle.room_desk.proofs.Lists.{Relisted.parent_relisted, SetHeld.{base, base_here}}
use Rattle.room_desk.proofs.Lists.SetHeld.{base_elsewhere, mid, mid_is, other_parent, same_object}
use Rattle.room_desk.proofs.Lists.ValidDown.{all_found}

-- what isn't linked below isn't changed
pub unlinked_unchanged : (which : Which) (content : Content) (id : ℕ) (lists : Node → List Ace)
    → ((x : Node) → node_at content x.id ≡ Some x → is_changed which lists x ≡ true
    → IsLinkedBelow content which id x)
    → (x : Node) → node_at content x.id ≡ Some x → is_linked_in content which x ≡ false
    → lists x ≡ (held_of which x).inh
unlinked_unchanged which content id lists below x found apart =
    on (same_entries (lists x) (held_of which x).inh) refl
  where
    never : (n : ℕ) → is_linked_within n content which id x ≡ true → ⊥
    never n is = grind (arith, nat_tests)

    on : (t : Bool) → same_entries (lists x) (held_of which x).inh ≡ t
        → lists x ≡ (held_of which x).inh
    on true same = entries_equal (lists x) (held_of which x).inh same
    on false isnt = let linked = below x found (ap not isnt) in absurd (never linked.0 linked.1)

all_of_each : (p : Node → Bool) (f : Node → Node) (P : Node → Type 0)
    → ((x : Node) → P x → p (f x) ≡ true) → (xs : List Node) → AllByRecursion P xs
    → list_all p (map f xs) ≡ true
all_of_each p f P passes [] all = refl
all_of_each p f P passes (x ∷ xs) all = search (and_from, all_of_each p f P passes xs all.1)

-- an object that isn't below itself isn't its own parent
pub not_own_parent : (rows : Content) (node : Node) (n : ℕ) → node_at rows node.id ≡ Some node
    → reaches_root n rows node.parent ≡ true → has_parent node.id node ≡ false
not_own_parent rows node n there reaches = elim (cases_Bool (has_parent node.id node)) [
  | inl is ↦
      absurd (rooted_no_loop rows node.id n node there reaches (
        node,
        there,
        (
          suc zero,
          grind (arith, nat_tests, or_left, node.id, node, rows, is),
        ),
      ))
  | inr isnt ↦ isnt
]

abbrev agreed : Held → Held → ObjKind → Bool
agreed held above kind =
    not (is_linked held (Some above)) || same_entries held.inh (pass kind (full_of above))

module _ (which : Which) (rows : Content) (node : Node) (held : Held) (rises : Rises rows)
    (there : node_at rows node.id ≡ Some node)
    (sent : Sent) (stored : held ≡ stored_held which sent node.kind (parent_of rows node))
    (law : AllAgree rows which) where
  abbrev with : Node → Held
  with n = base which rows node held n

  -- a list as it is stored agrees with its parent's
  new_agrees : (above : Node)
      → agreed (stored_held which sent node.kind (Some above)) (held_of which above) node.kind
      ≡ true
  new_agrees above = grind (arith, nat_tests, entries_themselves)

  one_agrees : (n : Node) → node_at rows n.id ≡ Some n → (above : Node)
      → parent_of rows n ≡ Some above → (above.id == node.id) ≡ false
      → agreed (with n) (with above) n.kind ≡ true
  one_agrees n found above is other =
      grind (arith, nat_tests, all_found, base_elsewhere, base_here, new_agrees, same_object)

  -- what an object agrees with, once the lists are changed
  agrees_up : (n : Node) (o : Option Node)
      → ((above : Node) → o ≡ Some above → agreed (with n) (with above) n.kind ≡ true)
      → option_map_or (agrees_with which (relist which with n))
      (option_map (relist which with) o) true ≡ true
  agrees_up n None agree = refl
  agrees_up n (Some above) agree = grind (arith, nat_tests, held_relisted, kind_kept, relist)

  relisted_agrees : (n : Node) → node_at rows n.id ≡ Some n
      → (has_parent node.id (relist which with n)
      || agrees (relisted which with rows) which (relist which with n)) ≡ true
  relisted_agrees n found = elim (cases_Bool (has_parent node.id n)) [
    | inl is ↦ search (or_left, parent_kept, relist, relisted)
    | inr isnt ↦
        search (agrees_up, one_agrees, or_right, other_parent, parent_relisted, relist, relisted)
  ]

  -- a list without AUTO_INHERIT passes nothing, so the law holds below it too
  module _ (stops : held.flags.auto ≡ false) where
    under_stopped : (n : Node) → agreed (with n) held n.kind ≡ true
    under_stopped n = grind (arith, nat_tests)

    stopped_agrees : (n : Node) → node_at rows n.id ≡ Some n
        → agrees (relisted which with rows) which (relist which with n) ≡ true
    stopped_agrees n found = search (agrees_up, one, parent_relisted, relist)
      where
        one : (above : Node) → parent_of rows n ≡ Some above
            → agreed (with n) (with above) n.kind ≡ true
        one above is = grind (arith, nat_tests, one_agrees, under_stopped)

    pub agree_all : AllAgree (mid which rows node held) which
    agree_all =
        subst (λ (c : Content). AllAgree c which)
        (sym (mid_is which rows node held (λ n. []) rises there))
        (search (all_of_each, each_found, relist, relisted, stopped_agrees))

  -- the law holds but for the children of the object
  pub agree_but : AllAgreeBut (mid which rows node held) which node.id
  agree_but =
      subst (λ (c : Content). AllAgreeBut c which node.id)
      (sym (mid_is which rows node held (λ n. []) rises there))
      (search (all_of_each, each_found, relist, relisted, relisted_agrees))
