-- In sound rows a child is found by its name, which is an object name.
use Rattle.std.proofs.Common.{◌≡◌, ℕ, ◌==◌, ◌&&◌, ◌||◌, Bool, true, false, cond, not, List, [], ◌∷◌}
use Rattle.std.proofs.Common.{◌<◌, filter, Some, None, nat_lt, refl, sym, ap, ◌∙◌, arith}
use Rattle.std.{proofs.lemmas.Bool.{and_parts, lt-ltb, Decides.nat_tests}, specs.Prelude.is_none}
use Rattle.std.specs.List.{find, list_any, AllByRecursion as Each}
use Rattle.room_entry.{specs.Pieces.same_text, proofs.{Alike.text_itself, Texts.same_text-sym}}
use Rattle.room_entry.proofs.Facts.Members.{each_filter, each_weaker}
use Rattle.room_rows.specs.{declared.node.Node.Node, Content.{Content, child_of, has_parent}}
use Rattle.room_rows.specs.{Content.same_parent, Paths.is_object_name, Rows.{AreRows, Rows}}
use Rattle.room_rows.specs.Sound.{has_sound_name, same_place}
use Rattle.room_dump.{proofs.{Counting.each_found, Reached.all_there}, specs.Visits.IsThere}
use Rattle.room_sound.proofs.SoundParts.{SoundParts, passes_test}
use Rattle.room_review.proofs.Visited.{IsNamed}

-- ---- what is found

found_passes : (p : Node → Bool) (nodes : List Node) (node : Node) → find p nodes ≡ Some node
    → p node ≡ true
found_passes p [] node found = absurd (let wrong : ⊥ = cc in wrong)
found_passes p (x ∷ xs) node found = grind (arith, nat_tests, found_passes p xs node)

any_found : (p q : Node → Bool) (nodes : List Node) (node : Node) → find q nodes ≡ Some node
    → p node ≡ true → list_any p nodes ≡ true
any_found p q [] node found is = absurd (let wrong : ⊥ = cc in wrong)
any_found p q (x ∷ xs) node found is = on (q x) found (λ f. any_found p q xs node f is)
  where
    or_right : (t : Bool) → t || true ≡ true
    or_right true = refl
    or_right false = refl

    on : (t : Bool) → cond t (Some x) (find q xs) ≡ Some node
        → (find q xs ≡ Some node → list_any p xs ≡ true) → p x || list_any p xs ≡ true
    on true found rest =
        let same : x ≡ node = cc in
        ap (λ t. t || list_any p xs) (ap p same ∙ is)
    on false found rest = ap (λ t. p x || t) (rest found) ∙ or_right (p x)

none_found : (p : Node → Bool) (nodes : List Node) → find p nodes ≡ None
    → list_any p nodes ≡ true → ⊥
none_found p [] none some = let wrong : ⊥ = cc in wrong
none_found p (x ∷ xs) none some = grind (arith, nat_tests, none_found p xs)

-- ---- no two children have one name

same_folder : (id : ℕ) (x y : Node) → has_parent id x ≡ true → has_parent id y ≡ true
    → same_parent x.parent y.parent ≡ true
same_folder id x y first second = grind (arith, nat_tests)

no_root : (id : ℕ) (node : Node) → has_parent id node ≡ true → is_none node.parent ≡ false
no_root id node is = grind (arith, nat_tests)

twins : (content : Content) (id : ℕ) (x y : Node) (q : Node → Bool) → has_parent id x ≡ true
    → has_parent id y ≡ true → same_text x.name y.name ≡ true → nat_lt x.id y.id ≡ true
    → has_sound_name content y ≡ true → find q content.nodes ≡ Some x → ⊥
twins content id x y q first second same below sound found =
    grind (arith, nat_tests, any_found, no_root, same_folder)

module _ (rows : Rows) (are : AreRows rows) (parts : SoundParts rows) (id : ℕ) where
  abbrev content : Content
  content = rows.read

  abbrev here : Node → Node → Bool
  here child node = has_parent id node && same_text node.name child.name

  is_sound : (q : Node → Bool) (node : Node) → find q content.nodes ≡ Some node
      → has_sound_name content node ≡ true
  is_sound q node found = passes_test (has_sound_name content) q content.nodes node parts.names found

  module _ (child other : Node) (there : IsThere content child) (is : has_parent id child ≡ true)
      (found : child_of content id child.name ≡ Some other) where
    passes : (has_parent id other ≡ true) × (same_text other.name child.name ≡ true)
    passes = grind (arith, nat_tests, found_passes)

    other_there : IsThere content other
    other_there =
        each_found (IsThere content) (here child) content.nodes other (all_there rows are) found

    not_before : other.id < child.id → ⊥
    not_before before =
        twins content id other child (here child) passes.0 is passes.1
        (lt-ltb other.id child.id before) (is_sound (λ n. n.id == child.id) child there) found

    not_behind : child.id < other.id → ⊥
    not_behind behind =
        twins content id child other (λ n. n.id == child.id) is passes.0
        (same_text-sym child.name other.name ∙ passes.1) (lt-ltb child.id other.id behind)
        (is_sound (here child) other found) there

    found_itself : child_of content id child.name ≡ Some child
    found_itself = grind (arith, nat_tests, not_before, not_behind, other_there)

  by_name : (child : Node) → IsThere content child → has_parent id child ≡ true
      → IsNamed content id child
  by_name child there is =
      grind (arith, nat_tests, any_found, found_itself, none_found, text_itself)

  pub all_named : Each (IsNamed content id) (filter (has_parent id) content.nodes)
  all_named = grind (arith, nat_tests, all_there, by_name, each_filter, each_weaker)

  object_name : (child : Node) → IsThere content child → has_parent id child ≡ true
      → is_object_name child.name ≡ true
  object_name child there is =
      let earlier = λ (other : Node). nat_lt other.id child.id && same_place other child in
      (and_parts (is_object_name child.name) (not (list_any earlier content.nodes))
      (ap (λ b. b || (is_object_name child.name && not (list_any earlier content.nodes)))
      (sym (no_root id child is)) ∙ is_sound (λ n. n.id == child.id) child there)).0

  pub all_kids : Each (λ child. IsNamed content id child × (is_object_name child.name ≡ true))
      (filter (has_parent id) content.nodes)
  all_kids = grind (arith, nat_tests, all_there, by_name, each_filter, each_weaker, object_name)
