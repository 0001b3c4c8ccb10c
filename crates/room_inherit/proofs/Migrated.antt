-- Rows of which all lists were carried down are sound, and mean what they meant.
use Rattle.std.proofs.Common.{◌≡◌, ℕ, zero, suc, ◌==◌, Bool, true, false, not, ◌&&◌, List, [], ◌∷◌}
use Rattle.std.proofs.Common.{map, length, Option, Some, None, refl, sym, ap, subst, ◌∙◌, arith}
use Rattle.std.proofs.{Common.rules, lemmas.Bool.{and_parts, and_from, false≢true, not-false}}
use Rattle.std.proofs.lemmas.{Bool.Decides.nat_tests, List.Folds.list_all-append}
use Rattle.std.specs.{Prelude.{nat_le, option_and_then}, List.list_all, Option.option_map}
use Rattle.std.specs.Option.{option_map_or}
use Rattle.room_entry.specs.{Ace.Ace, Valid.is_document, declared.flags.EntryFlags.EntryFlags}
use Rattle.room_entry.specs.declared.object.{ObjKind.{ObjKind, TheVariants.Folder}, Which.Which}
use Rattle.room_entry.specs.declared.object.Which.TheVariants.{Dacl, Sacl}
use Rattle.room_entry.proofs.{Same.entries_equal, Facts.Booleans.implied}
use Rattle.room_rows.specs.{HeldList.Held, declared.node.Node.Node, Content.Content}
use Rattle.room_rows.specs.Content.{has_folder_above, is_linked_in, node_at, parent_of}
use Rattle.room_rows.specs.{Content.reaches_root, Held.{held_of, full_of, is_linked}}
use Rattle.room_rows.specs.{Keep.{with_content, with_inh}, Meaning.{kept_held, kept_node, meaning}}
use Rattle.room_rows.specs.{Rows.{AreRows, Rows}, Law.{AllAgree, agrees}, Pass.{pass, passed_flags}}
use Rattle.room_rows.specs.Sound.{AreSound, first_fault, has_sound_lists, is_sound_held, reaches}
use Rattle.room_rows.proofs.{InPlace.{KeepsPlaces, node_at-with_each}, SamePlace.IsSamePlace}
use Rattle.room_rows.proofs.Lookups.{found_number}
use Rattle.room_inherit.specs.Laws.{are_valid, MigratedIsSound, MigratedMeansTheSame}
use Rattle.room_inherit.specs.{Spread.is_changed, SpreadAll.{IsSpreadAll, with_both}}
use Rattle.room_inherit.proofs.{Children.{apart_rising, each_there}, NoFault.{IsChecked, checked}}
use Rattle.room_inherit.proofs.{NoFault.list_checked, Renewing.{map_agree, map_map}}
use Rattle.room_inherit.proofs.{Stored.all_found, Valid.pass_is_valid, Whole.not_bad}
use Rattle.room_inherit.proofs.Unmoved as unmoved

all_both : {X : Type 0} (p q : X → Bool) (xs : List X) → list_all p xs ≡ true → list_all q xs ≡ true
    → list_all (λ x. p x && q x) xs ≡ true
all_both p q [] one two = refl
all_both p q (x ∷ xs) one two =
    let first = and_parts (p x) (list_all p xs) one in
    let second = and_parts (q x) (list_all q xs) two in
    search (rules, and_from, first.0, second.0, all_both p q xs first.1 second.1)

-- ---- what is passed has the flag

abbrev are_marked : List Ace → Bool
are_marked entries = list_all (λ entry. entry.flags.inherited) entries

pub marked_flags : (kind : ObjKind) (flags : EntryFlags)
    → option_map_or (λ f. f.inherited) (passed_flags kind flags) true ≡ true
marked_flags kind flags = grind (arith, nat_tests)

passed_marked : (kind : ObjKind) (entries : List Ace) → are_marked (pass kind entries) ≡ true
passed_marked kind [] = refl
passed_marked kind (entry ∷ entries) =
    grind (arith, nat_tests, marked_flags, passed_marked kind entries)

-- ---- a sound list with other inherited entries

module _ (which : Which) (kind : ObjKind) (held : Held)
    (is : is_sound_held which kind held ≡ true) where
  abbrev own_part : Bool
  own_part = nat_le (length held.own) 64 && list_all (λ entry. not entry.flags.inherited) held.own

  parts : ((own_part && are_marked held.inh) ≡ true) × (are_valid which kind (full_of held) ≡ true)
  parts = and_parts (own_part && are_marked held.inh) (are_valid which kind (full_of held)) is

  own_valid : are_valid which kind held.own ≡ true
  own_valid = grind (arith, nat_tests, list_all-append, parts)

  renewed : (entries : List Ace) → are_marked entries ≡ true → are_valid which kind entries ≡ true
      → is_sound_held which kind (record held { inh = entries }) ≡ true
  renewed entries marked valid = grind (arith, nat_tests, list_all-append, own_valid, parts)

pub folder_is : (kind : ObjKind) → not (is_document kind) ≡ true → kind ≡ Folder
folder_is kind is = grind (arith, nat_tests)

-- ---- objects with these inherited entries

module _ (f g : Node → List Ace) (old : Content) where
  abbrev both : Node → Node
  both node = with_inh Sacl (g node) (with_inh Dacl (f node) node)

  abbrev new : Content
  new = with_both f g old

  abbrev lists : Which → Node → List Ace
  lists Dacl = f
  lists Sacl = g

  place : (node : Node) → IsSamePlace (both node) node
  place node = record { number = refl; parent = refl; name = refl }

  places : KeepsPlaces old both
  places = unmoved.places old both place

  above : (node : Node) → parent_of new (both node) ≡ option_map both (parent_of old node)
  above node = unmoved.above old both place node

  held_new : (which : Which) (node : Node)
      → held_of which (both node) ≡ record (held_of which node) { inh = lists which node }
  held_new which node = grind (arith, nat_tests)

  linked_to : (which : Which) (node parent : Node)
      → is_linked (held_of which (both node)) (Some (held_of which (both parent)))
      ≡ is_linked (held_of which node) (Some (held_of which parent))
  linked_to which node parent = grind (arith, nat_tests)

  linked_new : (which : Which) (node : Node)
      → is_linked_in new which (both node) ≡ is_linked_in old which node
  linked_new which node = grind (arith, nat_tests, above, linked_to)

  -- one that isn't linked stores what it did
  abbrev There : Node → Type 0
  There node = node_at old node.id ≡ Some node

  module _
      (linked_if : (which : Which) (node : Node) → There node
      → is_changed which (lists which) node ≡ true → is_linked_in old which node ≡ true) where
    unchanged : (which : Which) (node : Node) → is_changed which (lists which) node ≡ false
        → lists which node ≡ (held_of which node).inh
    unchanged which node same =
        entries_equal (lists which node) (held_of which node).inh (not-false _ same)

    -- ---- the meaning

    kept_new : (t : Bool) (held : Held) (entries : List Ace) → (t ≡ false → entries ≡ held.inh)
        → kept_held t (record held { inh = entries }) ≡ kept_held t held
    kept_new t held entries same = grind (arith, nat_tests)

    kept_same : (which : Which) (node : Node) → There node
        → kept_held (is_linked_in new which (both node)) (held_of which (both node))
        ≡ kept_held (is_linked_in old which node) (held_of which node)
    kept_same which node there = grind (arith, nat_tests, held_new, kept_new, linked_new, unchanged)

    node_same : (node : Node) → There node → kept_node new (both node) ≡ kept_node old node
    node_same node there =
        λ i. record node { dacl = kept_same Dacl node there i; sacl = kept_same Sacl node there i }

    -- ---- sound lists

    module _ (law : (which : Which) → AllAgree new which)
        (folders : list_all (has_folder_above old) old.nodes ≡ true)
        (old_sound : (which : Which) (node : Node) → There node
        → is_sound_held which node.kind (held_of which node) ≡ true) where
      -- one that is linked stores what its parent passes
      taken : (which : Which) (node parent : Node) → There node → parent_of old node ≡ Some parent
          → is_linked_in old which node ≡ true
          → lists which node ≡ pass node.kind (full_of (held_of which (both parent)))
      taken which node parent there up linked =
          let here : agrees new which (both node) ≡ true = all_found (agrees new which)
          (λ m. m.id == node.id) (map both old.nodes) (both node) (law which)
          (node_at-with_each old both places node.id ∙ ap (option_map both) there) in
          search (rules, above, nat_tests, linked_to, entries_equal, held_new, implied, up, here)

      abbrev SoundNow : Which → Node → Type 0
      SoundNow which node = is_sound_held which node.kind (held_of which (both node)) ≡ true

      settle : (which : Which) (node : Node) → There node
          → (is_linked_in old which node ≡ true → (are_marked (lists which node) ≡ true)
          × (are_valid which node.kind (lists which node) ≡ true)) → SoundNow which node
      settle which node there passed = grind (arith, nat_tests, held_new, renewed, unchanged)

      -- down from the root
      descend : (which : Which) (k : ℕ) (node : Node) → There node → (up : Option ℕ)
          → node.parent ≡ up → reaches_root k old up ≡ true → SoundNow which node
      descend which k node there None is reaches = grind (arith, nat_tests, settle)
      descend which zero node there (Some id) is reaches = absurd (false≢true reaches)
      descend which (suc k) node there (Some id) is reaches =
          on (node_at old id) refl
          (λ parent there' leads. descend which k parent there' parent.parent refl leads)
        where
          on : (o : Option Node) → node_at old id ≡ o
              → ((parent : Node) → There parent → reaches_root k old parent.parent ≡ true
              → SoundNow which parent) → SoundNow which node
          on None found before = search (false≢true)
          on (Some parent) found before =
              let there' : There parent = grind (arith, nat_tests, found_number) in
              let sound = before parent there'
              (cc (found, reaches)) in
              let has : has_folder_above old node ≡ true = grind (arith, nat_tests, all_found) in
              let folder = folder_is parent.kind
              (cc (found, is, has)) in
              let full = full_of (held_of which (both parent)) in
              let valid : are_valid which Folder full ≡ true = grind (arith, nat_tests, parts) in
              settle which node there (λ linked.
              let takes = taken which node parent there
              (ap (option_and_then (node_at old)) is ∙ found) linked in
              grind (arith, nat_tests, pass_is_valid, passed_marked))

-- ---- rows

module _ (old new : Rows) (changed : ℕ) (spread : IsSpreadAll old new changed) where
  abbrev f : Node → List Ace
  f = spread.dacls

  abbrev g : Node → List Ace
  g = spread.sacls

  abbrev set : Node → Node
  set = both f g old.read

  abbrev after : Rows
  after = with_content old (with_both f g old.read)

  linked_of : (which : Which) (node : Node) → node_at old.read node.id ≡ Some node
      → is_changed which (lists f g old.read which) node ≡ true
      → is_linked_in old.read which node ≡ true
  linked_of which node there is = grind (arith, nat_tests)

  meant : AreRows old → meaning after.read ≡ meaning old.read
  meant are =
      let each = each_there
      (λ n. kept_node after.read (set n) ≡ kept_node old.read n) old.read.nodes
      (apart_rising 0 old.read.nodes are.numbers)
      (λ n there. node_same f g old.read linked_of n there) in
      grind (arith, nat_tests, map_agree, map_map)

  module _ (none : first_fault old ≡ None) where
    tests : IsChecked old
    tests = checked old none

    law : (which : Which) → AllAgree after.read which
    law which = subst (λ (r : Rows). AllAgree r.read which) spread.becomes (spread.law none which)

    there_good : (node : Node) → node_at old.read node.id ≡ Some node → has_sound_lists node ≡ true
    there_good node there = grind (arith, nat_tests, list_checked, not_bad, tests)

    old_good : (which : Which) (node : Node) → node_at old.read node.id ≡ Some node
        → is_sound_held which node.kind (held_of which node) ≡ true
    old_good Dacl node there =
        (and_parts (is_sound_held Dacl node.kind node.dacl) (is_sound_held Sacl node.kind node.sacl)
        (there_good node there)).0
    old_good Sacl node there =
        (and_parts (is_sound_held Dacl node.kind node.dacl) (is_sound_held Sacl node.kind node.sacl)
        (there_good node there)).1

    good : (which : Which) (node : Node) → node_at old.read node.id ≡ Some node
        → is_sound_held which node.kind (held_of which (set node)) ≡ true
    good which node there =
        grind (arith, nat_tests, all_found, descend, law, linked_of, old_good, tests)

    now_sound : AreSound after
    now_sound =
        unmoved.still_sound old set (place f g old.read) (λ n. refl) tests
        (λ node there before. and_from (is_sound_held Dacl node.kind (set node).dacl) _
        (good Dacl node there) (good Sacl node there))
        (search (all_both, law))

pub migrated_is_sound : MigratedIsSound
migrated_is_sound old new changed none spread =
    subst AreSound (sym spread.becomes) (now_sound old new changed spread none)

pub migrated_means_the_same : MigratedMeansTheSame
migrated_means_the_same old new changed are spread =
    ap (λ (r : Rows). meaning r.read) spread.becomes ∙ meant old new changed spread are
