-- What is passed down from valid lists is valid, as far down as the law holds.
use Rattle.std.proofs.Common.{◌≡◌, ℕ, zero, suc, ◌==◌, ◌&&◌, ◌||◌, Bool, true, false, cond, not}
use Rattle.std.proofs.Common.{List, [], ◌∷◌, ◌++◌, length, Option, Some, None, refl, sym, ap, ◌∙◌}
use Rattle.std.proofs.{Common.{inl, inr, arith}, lemmas.Bool.{and_parts, cases_Bool, false≢true}}
use Rattle.std.{proofs.lemmas.Bool.Decides.nat_tests, specs.Prelude.{is_none, nat_le}}
use Rattle.std.specs.{Prelude.option_and_then, List.{list_all, cons_option}, Option.option_map}
use Rattle.std.specs.Option.{option_map_or}
use Rattle.room_entry.specs.{Ace.Ace, declared.object.ObjKind.{ObjKind, TheVariants.Folder}}
use Rattle.room_entry.{specs.declared.object.Which.Which, proofs.Same.entries_equal}
use Rattle.room_entry.proofs.Facts.Booleans.{implied}
use Rattle.room_rows.specs.{HeldList.Held, declared.node.Node.Node, Content.{Content, node_at}}
use Rattle.room_rows.specs.Content.{parent_of, is_folder, has_folder_above, reaches_root}
use Rattle.room_rows.specs.{Content.is_linked_in, Held.{held_of, full_of}, Law.AllAgree, Pass.pass}
use Rattle.room_rows.{specs.Sound.is_sound_held, proofs.Frames.node_at-number}
use Rattle.room_inherit.proofs.{Stored.parent_reaches, Valid.pass_is_valid, Migrated.folder_is}
use Rattle.room_inherit.{proofs.Migrated.marked_flags, specs.Laws.are_valid}

-- ---- own and inherited entries apart

abbrev pub are_own : Which → ObjKind → List Ace → Bool
are_own which kind own =
    nat_le (length own) 64
    && (list_all (λ entry. not entry.flags.inherited) own && are_valid which kind own)

abbrev pub are_inherited : Which → ObjKind → List Ace → Bool
are_inherited which kind inh =
    list_all (λ entry. entry.flags.inherited) inh && are_valid which kind inh

pub all_append : {X : Type 0} (p : X → Bool) (xs ys : List X)
    → list_all p (xs ++ ys) ≡ (list_all p xs && list_all p ys)
all_append p [] ys = refl
all_append p (x ∷ xs) ys = grind (arith, nat_tests, all_append p xs ys)

regroup : (a b c d e : Bool) → (((a && b) && c) && (d && e)) ≡ ((a && (b && d)) && (c && e))
regroup a b c d e = grind (arith, nat_tests)

-- a list is sound where both of its parts are
pub held_parts : (which : Which) (kind : ObjKind) (held : Held)
    → is_sound_held which kind held
    ≡ (are_own which kind held.own && are_inherited which kind held.inh)
held_parts which kind held = grind (arith, nat_tests, all_append, regroup)

-- ---- what is passed has the flag

pub passed_marked : (kind : ObjKind) (entries : List Ace)
    → list_all (λ entry. entry.flags.inherited) (pass kind entries) ≡ true
passed_marked kind [] = refl
passed_marked kind (entry ∷ entries) =
    grind (arith, nat_tests, marked_flags, passed_marked kind entries)

pub pass_inherited : (which : Which) (kind : ObjKind) (entries : List Ace)
    → are_valid which Folder entries ≡ true → are_inherited which kind (pass kind entries) ≡ true
pass_inherited which kind entries valid = grind (arith, nat_tests, pass_is_valid, passed_marked)

-- ---- down from the root

-- an object that is found passes a test that all pass
pub all_found : (p : Node → Bool) (content : Content) (id : ℕ) (node : Node)
    → list_all p content.nodes ≡ true → node_at content id ≡ Some node → p node ≡ true
all_found p content id node all found = at content.nodes all found
  where
    at : (nodes : List Node) → list_all p nodes ≡ true
        → Rattle.std.specs.List.find (λ (n : Node). n.id == id) nodes ≡ Some node → p node ≡ true
    at [] all found = absurd (let wrong : ⊥ = cc in wrong)
    at (x ∷ xs) all found = let parts = and_parts (p x) (list_all p xs) all in
        on (x.id == id) found parts.0 (at xs parts.1)
      where
        on : (t : Bool) → cond t (Some x) (Rattle.std.specs.List.find (λ (n : Node). n.id == id) xs)
            ≡ Some node → p x ≡ true
            → (Rattle.std.specs.List.find (λ (n : Node). n.id == id) xs ≡ Some node → p node ≡ true)
            → p node ≡ true
        on true is here rest = let same : x ≡ node = cc in ap p (sym same) ∙ here
        on false is here rest = rest is

module _ (which : Which) (content : Content) (law : AllAgree content which)
    (folders : list_all (has_folder_above content) content.nodes ≡ true) where
  -- the parent of a linked object, whose list it takes
  pub linked_above : (node : Node) → node_at content node.id ≡ Some node
      → is_linked_in content which node ≡ true
      → (above : Node) × (parent_of content node ≡ Some above)
      × ((held_of which node).inh ≡ pass node.kind (full_of (held_of which above)))
  linked_above node there linked = grind (arith, nat_tests, all_found, entries_equal, implied)

  parent_there : (id : Option ℕ) (above : Node) → option_and_then (node_at content) id ≡ Some above
      → node_at content above.id ≡ Some above
  parent_there None above is = absurd (let wrong : ⊥ = cc in wrong)
  parent_there (Some id) above is = ap (node_at content) (node_at-number content id above is) ∙ is

  top : (id : Option ℕ) (above : Node) → reaches_root zero content id ≡ true
      → option_and_then (node_at content) id ≡ Some above → ⊥
  top None above reaches is = let wrong : ⊥ = cc in wrong
  top (Some id) above reaches is = false≢true reaches

  parent_folder : (id : Option ℕ) (above : Node)
      → (is_none id || option_map_or is_folder (option_and_then (node_at content) id) false) ≡ true
      → option_and_then (node_at content) id ≡ Some above → is_folder above ≡ true
  parent_folder None above has is = absurd (let wrong : ⊥ = cc in wrong)
  parent_folder (Some id) above has is = sym (ap (λ o. option_map_or is_folder o false) is) ∙ has

  module _
      (own : (node : Node) → node_at content node.id ≡ Some node
      → are_own which node.kind (held_of which node).own ≡ true)
      (kept : (node : Node) → node_at content node.id ≡ Some node
      → is_linked_in content which node ≡ false
      → are_inherited which node.kind (held_of which node).inh ≡ true)
    where
      full_valid : (above : Node) → node_at content above.id ≡ Some above → is_folder above ≡ true
          → are_inherited which above.kind (held_of which above).inh ≡ true
          → are_valid which Folder (full_of (held_of which above)) ≡ true
      full_valid above there folder inherited = grind (arith, nat_tests, all_append, folder_is)

      -- an object at most n steps below the root
      pub valid_down : (n : ℕ) (node : Node) → node_at content node.id ≡ Some node
          → reaches_root n content node.parent ≡ true
          → are_inherited which node.kind (held_of which node).inh ≡ true
      valid_down zero node there reaches = grind (arith, nat_tests, linked_above, top)
      valid_down (suc m) node there reaches = elim (cases_Bool (is_linked_in content which node)) [
        | inl linked ↦
            let found = linked_above node there linked in
            let above_there = parent_there node.parent found.0 found.1 in
            let folder = parent_folder node.parent found.0
            (all_found (has_folder_above content) content node.id node folders there) found.1 in
            cc (
              found.2,
              pass_inherited which node.kind (full_of (held_of which found.0))
                  (full_valid found.0 above_there folder
                  (valid_down m found.0 above_there
                  (parent_reaches content m node.parent found.0 reaches found.1))),
            )
        | inr apart ↦ kept node there apart
      ]
