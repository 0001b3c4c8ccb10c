-- Rows stay sound where an object without children is removed, and what they mean changes likewise.
use Rattle.std.proofs.Common.{rules, ◌≡◌, ℕ, zero, suc, ◌==◌, Bool, true, false, not, ◌||◌, List}
use Rattle.std.proofs.Common.{[], map, filter, length, Option, Some, None, refl, sym, ap, ◌∙◌}
use Rattle.std.proofs.{Common.arith, lemmas.Bool.{true≢false, Decides.nat_tests}}
use Rattle.std.specs.{Prelude.option_and_then, List.{find, AllByRecursion}, Option.option_map_or}
use Rattle.room_entry.specs.{Pieces.is_among, declared.object.Which.{Which, TheVariants.Dacl}}
use Rattle.room_entry.specs.declared.object.Which.TheVariants.{Sacl}
use Rattle.room_rows.specs.{declared.node.Node.Node, Content.{Content, has_parent, is_linked_in}}
use Rattle.room_rows.specs.Content.{is_root, has_folder_above, node_at, parent_of, reaches_root}
use Rattle.room_rows.specs.{Content.without_node, Finding.find_id, Keep.with_content}
use Rattle.room_rows.specs.{Meaning.{kept_node, meaning}, Rows.{Rows, put_numbers, unread_numbers}}
use Rattle.room_rows.specs.Sound.{AreSound, first_failing, has_sound_name, has_sound_body}
use Rattle.room_rows.specs.Sound.{keeps_law, reaches}
use Rattle.room_rows.proofs.Frames.{Rises, node_at-without_node-other, has_its_parent}
use Rattle.room_rows.proofs.Lookups.{each-kept, each-weaker, each_found, find-kept, find-kept_none}
use Rattle.room_rows.proofs.Lookups.{stands-each, stands-found}
use Rattle.room_inherit.proofs.Enough.{enough_steps}
use Rattle.room_entry.proofs.Facts.Members.{none_filter}
use Rattle.room_desk.proofs.Gone.Childless.{bad_at, body_kept, by_objects, chosen_kept, each_both}
use Rattle.room_desk.proofs.Gone.Childless.{map_kept, of_objects, still_pass}
use Rattle.room_sound.proofs.SoundParts.{SoundParts, map_same, sound_parts, parts_sound}
use Rattle.room_sound.proofs.SoundParts.{none_numbered, none_unreadable}

-- ---- the content without the object

-- It is there below another, and nothing is below it.
pub record CanGo (content : Content) (id : ℕ) : Type 0 where
  pub rises : Rises content
  pub node : Node
  pub there : node_at content id ≡ Some node
  pub parent : ℕ
  pub below : node.parent ≡ Some parent
  pub none : AllByRecursion (λ n. has_parent id n ≡ false) content.nodes

module _ (content : Content) (id : ℕ) (can : CanGo content id) where
  abbrev keep : Node → Bool
  keep n = not (n.id == id)

  abbrev after : Content
  after = without_node content id

  -- an object that stays
  record Stays (n : Node) : Type 0 where
    pub found : find_id n.id content.nodes ≡ Some n
    pub apart : has_parent id n ≡ false
    pub other : n.id ≡ id → ⊥

  all_stay : AllByRecursion Stays after.nodes
  all_stay =
      each-weaker _ Stays
      (grind (arith, nat_tests)) after.nodes
      (each-kept _ keep content.nodes
      (each_both _ _ content.nodes (each_found 0 content.nodes can.rises) can.none))

  -- what has no such parent has the parent that it had
  above_stays : (n : Node) → has_parent id n ≡ false → parent_of after n ≡ parent_of content n
  above_stays n apart = on n.parent apart
    where
      on : (o : Option ℕ) → option_map_or (λ p. p == id) o false ≡ false
          → option_and_then (node_at after) o ≡ option_and_then (node_at content) o
      on None is = refl
      on (Some p) is = node_at-without_node-other content id p (grind (arith, nat_tests))

  -- ---- the tests

  folders : (n : Node) → Stays n → has_folder_above content n ≡ true
      → has_folder_above after n ≡ true
  folders n stays passes = rw (above_stays n stays.apart) passes

  -- a way to the root doesn't meet the object
  same_way : (steps : ℕ) (parent : Option ℕ) → (parent ≡ Some id → ⊥)
      → reaches_root steps after parent ≡ reaches_root steps content parent
  same_way steps None apart = refl
  same_way zero (Some p) apart = refl
  same_way (suc steps) (Some p) apart =
      rw (node_at-without_node-other content id p (λ same. apart (ap (λ (i : ℕ). Some i) same)))
      (on (node_at content p) (λ n found. same_way steps n.parent
      (λ is. true≢false (sym (has_its_parent id n is)
      ∙ stands-each _ content.nodes n can.none (stands-found _ content.nodes n found)))))
    where
      on : (o : Option Node) → ((n : Node) → o ≡ Some n
          → reaches_root steps after n.parent ≡ reaches_root steps content n.parent)
          → option_map_or (λ (n : Node). reaches_root steps after n.parent) o false
          ≡ option_map_or (λ (n : Node). reaches_root steps content n.parent) o false
      on None same = refl
      on (Some n) same = same n refl

  reached : (n : Node) → Stays n → reaches content n ≡ true → reaches after n ≡ true
  reached n stays passes =
      enough_steps after (length content.nodes) n.parent
      (search (rules, same_way, n.parent, true≢false, has_its_parent, n, stays.apart, passes))

  names : (n : Node) → Stays n → has_sound_name content n ≡ true → has_sound_name after n ≡ true
  names n stays passes = grind (arith, nat_tests, none_filter)

  bodies : (n : Node) → Stays n → has_sound_body content n ≡ true → has_sound_body after n ≡ true
  bodies n stays passes = rw (body_kept id n.id stays.other content.bodies) passes

  laws : (n : Node) → Stays n → keeps_law content n ≡ true → keeps_law after n ≡ true
  laws n stays passes = rw (above_stays n stays.apart) passes

  roots : filter is_root after.nodes ≡ filter is_root content.nodes
  roots = search (chosen_kept, each-weaker, each_found, root_stays)
    where
      root_stays : (n : Node) → find_id n.id content.nodes ≡ Some n → is_root n ≡ true
          → keep n ≡ true
      root_stays n found is = grind (arith, nat_tests, can.there, can.below)

  passed : (test other : Node → Bool) → ((n : Node) → Stays n → test n ≡ true → other n ≡ true)
      → first_failing test content ≡ None → first_failing other after ≡ None
  passed test other next none =
      still_pass test other Stays next after.nodes all_stay (find-kept_none _ keep content.nodes none)

  -- ---- what the rows mean

  links : (which : Which) (n : Node) → has_parent id n ≡ false
      → is_linked_in after which n ≡ is_linked_in content which n
  links which n apart = rw (above_stays n apart)

  kept : (n : Node) → has_parent id n ≡ false → kept_node after n ≡ kept_node content n
  kept n apart = rw (links Dacl n apart, links Sacl n apart)

  pub removed_means : meaning after ≡ without_node (meaning content) id
  removed_means = grind (arith, nat_tests, all_stay, kept, map_kept, map_same)

-- ---- the rows

-- where each row can be read
abbrev bad_with : List ℕ → List Node → Option ℕ
bad_with unreadable nodes =
    find (λ x. is_among unreadable x || bad_at nodes x)
    (put_numbers unreadable (map (λ (n : Node). n.id) nodes))

pub sound_removed : (rows : Rows) (id : ℕ) → AreSound rows → CanGo rows.read id
    → AreSound (with_content rows (without_node rows.read id))
sound_removed rows id sound can =
    parts_sound (with_content rows (without_node rows.read id)) (record {
      lists =
          ap (λ u. bad_with u (without_node rows.read id).nodes) readable
          ∙ by_objects _ _ still_found (find-kept_none _ (keep rows.read id can) rows.read.nodes
          (of_objects _ _ found (sym (ap (λ u. bad_with u rows.read.nodes) readable)
          ∙ parts.lists)));
      root = rw (roots rows.read id can) parts.root;
      parents = passed rows.read id can _ _ (folders rows.read id can) parts.parents;
      reached = passed rows.read id can _ _ (reached rows.read id can) parts.reached;
      names = passed rows.read id can _ _ (names rows.read id can) parts.names;
      bodies = passed rows.read id can _ _ (bodies rows.read id can) parts.bodies;
      law = passed rows.read id can _ _ (laws rows.read id can) parts.law;
    })
  where
    parts : SoundParts rows
    parts = sound_parts rows sound

    readable : unread_numbers rows ≡ []
    readable = none_numbered rows (none_unreadable rows parts)

    found : AllByRecursion (λ n. find_id n.id rows.read.nodes ≡ Some n) rows.read.nodes
    found = each_found 0 rows.read.nodes can.rises

    still_found : AllByRecursion (λ n. find_id n.id (without_node rows.read id).nodes ≡ Some n)
        (without_node rows.read id).nodes
    still_found = grind (arith, nat_tests, each-kept, each-weaker, find-kept, found)
