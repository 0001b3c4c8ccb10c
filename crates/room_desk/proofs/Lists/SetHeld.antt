-- Rows in which one object has another list, and lists below it are renewed.
use Rattle.std.proofs.Common.{rules, ◌≡◌, ℕ, ◌==◌, Bool, true, false, cond, List, length, Option}
use Rattle.std.proofs.Common.{Some, None, refl, sym, ap, subst, ◌∙◌, inl, inr, arith}
use Rattle.std.proofs.lemmas.Bool.{and_parts, and_from, cases_Bool, cond-true, cond-false, eq-eqb}
use Rattle.std.{proofs.lemmas.Bool.Decides.nat_tests, specs.Prelude.option_and_then}
use Rattle.std.specs.Option.{option_map, option_map_or}
use Rattle.room_entry.specs.{Ace.Ace, declared.object.Which.{Which, TheVariants.{Dacl, Sacl}}}
use Rattle.room_rows.specs.{HeldList.Held, declared.node.Node.Node, Content.{Content, node_at}}
use Rattle.room_rows.specs.Content.{parent_of, has_parent, is_linked_in, with_each, with_node}
use Rattle.room_rows.specs.{Held.{held_of, with_held, is_linked}, Keep.with_inh, Rows.Rows}
use Rattle.room_rows.specs.{Rows.Unread, Law.AllAgree, Sound.{AreSound, is_sound_held, reaches}}
use Rattle.room_rows.proofs.{Frames.{Rises, node_at-number}, InPlace.place-with_held}
use Rattle.room_rows.proofs.{InPlace.{with_each-with_each, with_node-replaces}, Lookups.each_found}
use Rattle.room_rows.proofs.SamePlace.{replaced}
use Rattle.room_inherit.{specs.Spread.with_lists, proofs.NoFault.no_fault}
use Rattle.room_desk.proofs.Lists.Relisted.{relist, relisted, found_relisted, held_relisted}
use Rattle.room_desk.proofs.Lists.Relisted.{kind_kept, number_kept, linked_relisted, folders_kept}
use Rattle.room_desk.proofs.Lists.Relisted.{reach_kept, one_list, relisted_sound}
use Rattle.room_desk.proofs.Lists.ValidDown.{are_inherited, are_own, all_found, held_parts}
use Rattle.room_desk.proofs.{Lists.ValidDown.valid_down, Made.SoundAdded.lists_here}
use Rattle.room_sound.proofs.SoundParts.{map_same}

-- two functions that agree on the objects of a content change it alike
pub each_same : (content : Content) → Rises content → (f g : Node → Node)
    → ((x : Node) → node_at content x.id ≡ Some x → f x ≡ g x)
    → with_each content f ≡ with_each content g
each_same content rises f g same =
    ap (λ (nodes : List Node). record content { nodes = nodes })
    (search (rules, map_same, same, each_found, rises))

pub own_held : (which : Which) (node : Node) → node ≡ with_held which (held_of which node) node
own_held Dacl node = refl
own_held Sacl node = refl

renewed_held : (which : Which) (held : Held) (entries : List Ace) (node : Node)
    → with_inh which entries (with_held which held node)
    ≡ with_held which (record held { inh = entries }) node
renewed_held Dacl held entries node = refl
renewed_held Sacl held entries node = refl

-- ---- sound rows have sound lists

module _ (which : Which) (rows : Content) (node : Node) (held : Held) where
  -- the list of each object once that one has this list
  abbrev pub base : Node → Held
  base n = cond (n.id == node.id) held (held_of which n)

  abbrev pub mid : Content
  mid = with_node rows (with_held which held node)

  pub base_here : base node ≡ held
  base_here = cond-true (node.id == node.id) held (held_of which node) (eq-eqb node.id node.id refl)

  pub base_elsewhere : (n : Node) → (n.id == node.id) ≡ false → base n ≡ held_of which n
  base_elsewhere n isnt = cond-false (n.id == node.id) held (held_of which n) isnt

  -- an object of the rows is that one, or has the list that it had
  pub same_object : node_at rows node.id ≡ Some node → (n : Node) → node_at rows n.id ≡ Some n
      → (n.id == node.id) ≡ true → n ≡ node
  same_object there n found is = grind (arith, nat_tests)

  -- whether the list of an object is linked then
  abbrev pub links : Node → Bool
  links n = is_linked (base n) (option_map base (parent_of rows n))

  -- a parent that isn't the object has the list that it had
  pub other_parent : (parent : Option ℕ) (above : Node)
      → option_map_or (λ p. p == node.id) parent false ≡ false
      → option_and_then (node_at rows) parent ≡ Some above → (above.id == node.id) ≡ false
  other_parent parent above isnt is = grind (arith, nat_tests, node_at-number)

  pub other_links : (n : Node) → has_parent node.id n ≡ false
      → option_map base (parent_of rows n) ≡ option_map (held_of which) (parent_of rows n)
  other_links n isnt =
      on (parent_of rows n) (λ above is. base_elsewhere above (other_parent n.parent above isnt is))
    where
      on : (o : Option Node) → ((above : Node) → o ≡ Some above → base above ≡ held_of which above)
          → option_map base o ≡ option_map (held_of which) o
      on None same = refl
      on (Some above) same = ap (λ h. Some h) (same above refl)

  module _ (lists : Node → List Ace) where
    -- the list of each object, with these inherited entries
    abbrev pub final : Node → Held
    final n = record (base n) { inh = lists (with_held which (base n) n) }

    abbrev pub ends : Content
    ends = relisted which final rows

    pub linked_finally : (n : Node)
        → is_linked (final n) (option_map final (parent_of rows n)) ≡ links n
    linked_finally n = grind (arith, nat_tests)

    pub linked_in_end : (n : Node) → is_linked_in ends which (relist which final n) ≡ links n
    linked_in_end n = linked_relisted which final rows n ∙ linked_finally n

    module _ (rises : Rises rows) (there : node_at rows node.id ≡ Some node) where
      pub mid_is : mid ≡ relisted which base rows
      mid_is =
          grind (
            arith,
            nat_tests,
            base_elsewhere,
            each_same,
            own_held,
            place-with_held,
            relist,
            replaced,
            same_object,
            with_node-replaces,
          )

      pub ends_is : with_lists which lists mid ≡ ends
      ends_is =
          grind (arith, nat_tests, each_same, mid_is, relist, renewed_held, with_each-with_each)

      -- where nothing is inherited, the entries are what they were before
      module _
          (kept : (x : Node) → node_at mid x.id ≡ Some x → is_linked_in mid which x ≡ false
          → lists x ≡ (held_of which x).inh) where
        pub unlinked_kept : (n : Node) → node_at rows n.id ≡ Some n → links n ≡ false
            → final n ≡ base n
        unlinked_kept n found apart =
            grind (
              arith,
              nat_tests,
              found_relisted,
              held_relisted,
              linked_relisted,
              mid_is,
              number_kept,
              relist,
              relisted,
            )

        -- and the rows stay sound
        module _
            (law : AllAgree (with_lists which lists mid) which)
            (own : are_own which node.kind held.own ≡ true)
            (inherited : links node ≡ false → are_inherited which node.kind held.inh ≡ true)
          where
            ends_law : AllAgree ends which
            ends_law = subst (λ (c : Content). AllAgree c which) ends_is law

            -- each object of the end is one of the rows
            from_rows : (m : Node) → node_at ends m.id ≡ Some m → (n : Node)
                × (node_at rows n.id ≡ Some n) × (m ≡ relist which final n)
            from_rows m found = grind (arith, nat_tests, found_relisted, node_at-number, relist)

            module _ (unreadable : List Unread)
                (sound : AreSound (record { read = rows; unreadable = unreadable })) where
              abbrev old : Rows
              old = record { read = rows; unreadable = unreadable }

              parts_before : (n : Node) → node_at rows n.id ≡ Some n
                  → (are_own which n.kind (held_of which n).own ≡ true)
                  × (are_inherited which n.kind (held_of which n).inh ≡ true)
              parts_before n found =
                  and_parts (are_own which n.kind (held_of which n).own)
                  (are_inherited which n.kind (held_of which n).inh)
                  (sym (held_parts which n.kind (held_of which n))
                  ∙ one_list which n (lists_here old sound n found))

              own_parts : (n : Node) → node_at rows n.id ≡ Some n
                  → are_own which n.kind (base n).own ≡ true
              own_parts n found =
                  grind (
                    arith,
                    nat_tests,
                    are_own,
                    base_elsewhere,
                    base_here,
                    parts_before,
                    same_object,
                  )

              kept_parts : (n : Node) → node_at rows n.id ≡ Some n → links n ≡ false
                  → are_inherited which n.kind (final n).inh ≡ true
              kept_parts n found apart =
                  ap (λ (h : Held). are_inherited which n.kind h.inh) (unlinked_kept n found apart)
                  ∙ elim (cases_Bool (n.id == node.id)) [
                    | inl is ↦ grind (arith, nat_tests, are_inherited, base_here, same_object)
                    | inr isnt ↦ cc (base_elsewhere n isnt, (parts_before n found).1)
                  ]

              own_ends : (m : Node) → node_at ends m.id ≡ Some m
                  → are_own which m.kind (held_of which m).own ≡ true
              own_ends m found =
                  let from = from_rows m found in
                  let n = from.0 in
                  ap (λ (x : Node). are_own which x.kind (held_of which x).own) from.2
                  ∙ ap (λ k. are_own which k (held_of which (relist which final n)).own)
                  (kind_kept which final n)
                  ∙ ap (λ (h : Held). are_own which n.kind h.own) (held_relisted which final n)
                  ∙ own_parts n from.1

              kept_ends : (m : Node) → node_at ends m.id ≡ Some m
                  → is_linked_in ends which m ≡ false
                  → are_inherited which m.kind (held_of which m).inh ≡ true
              kept_ends m found apart =
                  grind (
                    arith,
                    nat_tests,
                    are_inherited,
                    from_rows,
                    held_relisted,
                    kept_parts,
                    kind_kept,
                    linked_in_end,
                    relist,
                  )

              inherited_parts : (n : Node) → node_at rows n.id ≡ Some n
                  → are_inherited which n.kind (final n).inh ≡ true
              inherited_parts n found =
                  cc (
                    held_relisted which final n,
                    kind_kept which final n,
                    valid_down which ends ends_law
                        (folders_kept which final rows (no_fault old sound).parents) own_ends
                        kept_ends
                        (length ends.nodes) (relist which final n)
                        (search (rules, number_kept, n, found_relisted, n.id, found))
                        (reach_kept which final rows n ∙ all_found (reaches rows) rows n.id n
                        (no_fault old sound).reach found),
                  )

              fits : (n : Node) → node_at rows n.id ≡ Some n
                  → is_sound_held which n.kind (final n) ≡ true
              fits n found =
                  search (
                    and_from,
                    are_inherited,
                    are_own,
                    held_parts,
                    inherited_parts,
                    own_parts,
                  )

              pub set_sound : AreSound (record { read = ends; unreadable = unreadable })
              set_sound = relisted_sound which final old sound fits ends_law
