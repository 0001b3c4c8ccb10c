-- What rows mean once a list is set and carried down is what setting that list makes of what they
-- meant.
use Rattle.std.proofs.Common.{rules, ◌≡◌, ◌==◌, ◌&&◌, Bool, true, false, cond, not, List, [], ◌++◌}
use Rattle.std.proofs.Common.{Option, Some, None, refl, sym, ap, ◌∙◌, inl, inr, arith}
use Rattle.std.{proofs.lemmas.Bool.{cases_Bool, Decides.nat_tests}, specs.Prelude.option_and_then}
use Rattle.std.specs.Option.{option_map}
use Rattle.room_entry.specs.{Ace.Ace, declared.object.{ObjKind.ObjKind, Which.Which}}
use Rattle.room_entry.specs.declared.object.Which.TheVariants.{Dacl, Sacl}
use Rattle.room_ace.specs.Sent.{Sent, inherited_of, own_of}
use Rattle.room_rows.specs.{HeldList.Held, declared.node.Node.Node, Content.{Content, node_at}}
use Rattle.room_rows.specs.Content.{parent_of, has_parent, is_linked_in, with_each, with_node}
use Rattle.room_rows.specs.{Held.{held_of, full_of, with_held, is_linked}, Meaning.kept_held}
use Rattle.room_rows.{specs.{Meaning.{kept_node, meaning}, Pass.pass}, proofs.Frames.Rises}
use Rattle.room_rows.proofs.{Frames.parent_is, InPlace.{keeps_places, node_at-with_each}}
use Rattle.room_rows.proofs.InPlace.{place-with_held, rises-with_each, with_each-with_each}
use Rattle.room_rows.proofs.{InPlace.with_node-replaces, SamePlace.{IsSamePlace, replaced}}
use Rattle.room_machine.specs.{Effect.{kept_by_child, sent_held, set_list}, Changed.stored_held}
use Rattle.room_machine.specs.Site.{full_at}
use Rattle.room_desk.{specs.Setting.kept_site, proofs.Lists.Relisted.{relist, kept_relisted}}
use Rattle.room_desk.proofs.Lists.SetHeld.{base, base_here, base_elsewhere, each_same, ends, final}
use Rattle.room_desk.proofs.Lists.SetHeld.{links, linked_finally, mid, other_links, own_held}
use Rattle.room_desk.proofs.Lists.SetHeld.{same_object, unlinked_kept}

-- ---- one list

held_kept : (which : Which) (rows : Content) (n : Node)
    → held_of which (kept_node rows n) ≡ kept_held (is_linked_in rows which n) (held_of which n)
held_kept Dacl rows n = refl
held_kept Sacl rows n = refl

flags_kept : (linked : Bool) (held : Held) → (kept_held linked held).flags ≡ held.flags
flags_kept true held = refl
flags_kept false held = refl

own_kept : (linked : Bool) (held : Held) → (kept_held linked held).own ≡ held.own
own_kept true held = refl
own_kept false held = refl

stored_full : (which : Which) (rows : Content) (n : Node)
    → full_at which (kept_site rows n) ≡ full_of (held_of which n)
stored_full Dacl rows n = ap (λ own. own ++ n.dacl.inh) (own_kept (is_linked_in rows Dacl n) n.dacl)
stored_full Sacl rows n = ap (λ own. own ++ n.sacl.inh) (own_kept (is_linked_in rows Sacl n) n.sacl)

-- what a child keeps, by whether the folder's list had AUTO_INHERIT and has it
child_parts : (kind : ObjKind) (full : List Ace) (auto protect : Bool) (own inh : List Ace)
    (before after : Bool) → ((not protect && before) ≡ true → inh ≡ pass kind full)
    → (let held : Held = record {
      flags = record { auto = auto; protect = protect };
      own = own;
      inh = inh;
    } in kept_held (not protect && after) held
    ≡ kept_by_child before after kind full (kept_held (not protect && before) held))
child_parts kind full auto protect own inh before after law = grind (arith, nat_tests)

child_kept : (kind : ObjKind) (full : List Ace) (held : Held) (before after : Bool)
    → ((not held.flags.protect && before) ≡ true → held.inh ≡ pass kind full)
    → kept_held (not held.flags.protect && after) held
    ≡ kept_by_child before after kind full (kept_held (not held.flags.protect && before) held)
child_kept kind full held before after law = grind (arith, nat_tests, child_parts)

sent_auto : (linked : Bool) (held : Held)
    → (cond linked (record held { inh = [] }) held).flags.auto ≡ held.flags.auto
sent_auto true held = refl
sent_auto false held = refl

module _ (which : Which) (rows : Content) (sent : Sent) (kind : ObjKind) where
  abbrev plain : Held
  plain = record { flags = sent.flags; own = own_of sent.entries; inh = inherited_of sent.entries }

  -- the list as it is stored means the list as it is sent
  sent_kept : (o : Option Node)
      → kept_held (is_linked (stored_held which sent kind o) (option_map (held_of which) o))
      (stored_held which sent kind o)
      ≡ sent_held (option_map (λ n. held_of which (kept_node rows n)) o) sent
  sent_kept None = refl
  sent_kept (Some above) = grind (arith, nat_tests, flags_kept, held_kept)

-- ---- all objects

module _ (which : Which) (rows : Content) (node : Node) (held : Held) (lists : Node → List Ace)
    (rises : Rises rows) (there : node_at rows node.id ≡ Some node)
    (kept : (x : Node) → node_at (mid which rows node held) x.id ≡ Some x
    → is_linked_in (mid which rows node held) which x ≡ false → lists x ≡ (held_of which x).inh)
    (sent : Sent) (stored : held ≡ stored_held which sent node.kind (parent_of rows node))
    (apart : has_parent node.id node ≡ false)
    (law : (n : Node) → node_at rows n.id ≡ Some n → parent_of rows n ≡ Some node
    → is_linked_in rows which n ≡ true
    → (held_of which n).inh ≡ pass n.kind (full_of (held_of which node)))
  where
    abbrev to : Node → Held
    to n = final which rows node held lists n

    abbrev with : Node → Held
    with n = base which rows node held n

    abbrev keeps : Node → Node
    keeps n = kept_node rows n

    abbrev set : Held
    set =
        sent_held (option_map (λ site. held_of which site.node)
        (option_map (kept_site rows) (parent_of rows node))) sent

    abbrev child : Node → Node
    child m =
        with_held which (kept_by_child (held_of which (keeps node)).flags.auto set.flags.auto m.kind
        (full_at which (kept_site rows node)) (held_of which m)) m

    abbrev changed : Node → Node
    changed m = cond (has_parent node.id m) (child m) m

    -- an object keeps what it stores under the new lists
    kept_final : (n : Node) → node_at rows n.id ≡ Some n → (t : Bool)
        → links which rows node held n ≡ t → kept_held t (to n) ≡ kept_held t (with n)
    kept_final n found true is = refl
    kept_final n found false is = search (unlinked_kept)

    -- the object itself
    here_set : kept_held (links which rows node held node) (to node) ≡ set
    here_set = grind (arith, nat_tests, base_here, kept_final, links, other_links, sent_kept)

    -- one that is neither the object nor a child of it
    far_kept : (n : Node) → node_at rows n.id ≡ Some n → (n.id == node.id) ≡ false
        → has_parent node.id n ≡ false
        → kept_held (links which rows node held n) (to n) ≡ held_of which (keeps n)
    far_kept n found isnt far =
        grind (arith, nat_tests, base_elsewhere, held_kept, kept_final, links, other_links)

    child_set : (n : Node) → node_at rows n.id ≡ Some n → (n.id == node.id) ≡ false
        → has_parent node.id n ≡ true
        → kept_held (links which rows node held n) (to n)
        ≡ kept_by_child (held_of which (keeps node)).flags.auto set.flags.auto n.kind
        (full_at which (kept_site rows node)) (held_of which (keeps n))
    child_set n found isnt is =
        kept_final n found (links which rows node held n) refl
        ∙ ap (λ h. kept_held (is_linked h (option_map with (parent_of rows n))) h)
        (base_elsewhere which rows node held n isnt)
        ∙ ap (λ o. kept_held (is_linked (held_of which n) (option_map with o)) (held_of which n))
        above
        ∙ ap (λ (h : Held). kept_held (not (held_of which n).flags.protect && h.flags.auto)
        (held_of which n)) (base_here which rows node held ∙ stored)
        ∙ child_kept n.kind (full_of (held_of which node)) (held_of which n)
        (held_of which node).flags.auto sent.flags.auto
        (λ linked. law n found above (linked_before ∙ linked))
        ∙ ap (λ t. kept_by_child (held_of which node).flags.auto sent.flags.auto n.kind
        (full_of (held_of which node)) (kept_held t (held_of which n))) (sym linked_before)
        ∙ ap (λ h. kept_by_child (held_of which node).flags.auto sent.flags.auto n.kind
        (full_of (held_of which node)) h) (sym (held_kept which rows n))
        ∙ ap (λ full. kept_by_child (held_of which node).flags.auto sent.flags.auto n.kind full
        (held_of which (keeps n))) (sym (stored_full which rows node))
        ∙ ap (λ t. kept_by_child (held_of which node).flags.auto t n.kind
        (full_at which (kept_site rows node)) (held_of which (keeps n)))
        (sym (sent_auto (is_linked (plain which rows sent n.kind)
        (option_map (λ site. held_of which site.node)
        (option_map (kept_site rows) (parent_of rows node)))) (plain which rows sent n.kind)))
        ∙ ap (λ t. kept_by_child t set.flags.auto n.kind (full_at which (kept_site rows node))
        (held_of which (keeps n))) (search (rules, held_kept, flags_kept))
      where
        above : parent_of rows n ≡ Some node
        above = ap (option_and_then (node_at rows)) (parent_is node.id n is) ∙ there

        linked_before : is_linked_in rows which n
            ≡ (not (held_of which n).flags.protect && (held_of which node).flags.auto)
        linked_before = ap (λ o. is_linked (held_of which n) (option_map (held_of which) o)) above

    place_changed : (m : Node) → IsSamePlace (changed m) m
    place_changed m = grind (arith, nat_tests, place-with_held)

    one_means : (n : Node) → node_at rows n.id ≡ Some n
        → kept_node (ends which rows node held lists) (relist which to n)
        ≡ replaced (with_held which set (keeps node)) (changed (keeps n))
    one_means n found =
        kept_relisted which to rows n
        ∙ ap (λ t. with_held which (kept_held t (to n)) (keeps n))
        (linked_finally which rows node held lists n)
        ∙ elim (cases_Bool (n.id == node.id)) [
          | inl is ↦ grind (arith, nat_tests, here_set, links, numbers, same_object)
          | inr isnt ↦ grind (arith, nat_tests, numbers, rest)
        ]
      where
        numbers : (n : Node)
            → ((changed (keeps n)).id == (with_held which set (keeps node)).id) ≡ (n.id == node.id)
        numbers n = grind (arith, nat_tests, place-with_held, place_changed)

        rest : (n : Node) → node_at rows n.id ≡ Some n → (n.id == node.id) ≡ false → (t : Bool)
            → has_parent node.id n ≡ t
            → with_held which (kept_held (links which rows node held n) (to n)) (keeps n)
            ≡ cond t (child (keeps n)) (keeps n)
        rest n found isnt t is = grind (arith, nat_tests, child_set, far_kept, own_held)

    pub set_means : meaning (ends which rows node held lists)
        ≡ set_list (meaning rows) which sent (option_map (kept_site rows) (parent_of rows node))
        (kept_site rows node)
    set_means =
        with_each-with_each rows (relist which to) (kept_node (ends which rows node held lists))
        ∙ each_same rows rises
        (λ n. kept_node (ends which rows node held lists) (relist which to n))
        (λ n. replaced (with_held which set (keeps node)) (changed (keeps n))) one_means
        ∙ sym (with_each-with_each rows (λ n. changed (keeps n))
        (replaced (with_held which set (keeps node))))
        ∙ sym (with_node-replaces (with_each rows (λ n. changed (keeps n))) all_rise node.id
        (changed (keeps node)) (with_held which set (keeps node))
        (cc (node_at-with_each rows (λ n. changed (keeps n)) places node.id, there)) target_place)
        ∙ ap (λ (c : Content). with_node c (with_held which set (keeps node)))
        (sym (with_each-with_each rows keeps changed))
      where
        places : Rattle.room_rows.proofs.InPlace.KeepsPlaces rows (λ n. changed (keeps n))
        places =
            keeps_places rows (λ n. changed (keeps n)) (search (rules, place_changed))

        all_rise : Rises (with_each rows (λ n. changed (keeps n)))
        all_rise = rises-with_each rows (λ n. changed (keeps n)) places rises

        target_place : IsSamePlace (with_held which set (keeps node)) (changed (keeps node))
        target_place = grind (arith, nat_tests, place-with_held, place_changed)
