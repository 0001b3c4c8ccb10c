-- The tree of rows stays sound where an object gets another place.
use Rattle.std.proofs.Common.{rules, ◌≡◌, ℕ, ◌==◌, Bool, true, false, not, ◌&&◌, List, [], ◌∷◌, map}
use Rattle.std.proofs.Common.{filter, length, Some, None, refl, sym, ◌∙◌, inl, inr, arith}
use Rattle.std.proofs.lemmas.{Bool.{cases_Bool, Decides.nat_tests}, List.Folds.list_all-map}
use Rattle.std.specs.{Prelude.nat_lt, List.{find, list_all, list_any, AllByRecursion as Each}}
use Rattle.std.specs.Option.{option_map}
use Rattle.room_entry.{specs.{Ace.Ace, Pieces.same_text}, proofs.Alike.text_itself}
use Rattle.room_entry.proofs.{Texts.same_text-true, Facts.Members.{any_map, any_none, each_fails}}
use Rattle.room_rows.specs.{declared.node.Node.Node, Content.{Content, node_at, parent_of}}
use Rattle.room_rows.specs.Content.{has_parent, is_root, has_folder_above, with_each}
use Rattle.room_rows.specs.{Keep.with_content, Rows.{Rows, AreRows, numbers_of}, Sound.has_bad_list}
use Rattle.room_rows.specs.Sound.{has_sound_body, has_sound_lists, has_sound_name, reaches}
use Rattle.room_rows.specs.Sound.{same_place}
use Rattle.room_inherit.{specs.Laws.HasNoFault, proofs.Children.{each_found, each_there}}
use Rattle.room_inherit.proofs.{Enough.enough_steps, NoFault.no_fault}
use Rattle.room_desk.{specs.Moving.CanPlace, proofs.Placed.Climbing.{past_reaches, reaches_again}}
use Rattle.room_desk.proofs.Placed.PlacedParts.{all_after, apart, parent_after, parent_found}
use Rattle.room_desk.proofs.Placed.PlacedParts.{passes, placed, placed_kind, placed_number}
use Rattle.room_sound.proofs.SoundParts.{none_numbered}

-- ---- rows whose numbers are all readable

-- each object that is there has sound lists
pub lists_there : (rows : Rows) → rows.unreadable ≡ [] → AreRows rows → HasNoFault rows → (n : Node)
    → node_at rows.read n.id ≡ Some n → has_sound_lists n ≡ true
lists_there rows none are faultless n there =
    let all = simp (none_numbered rows none) at faultless.lists in
    let here =
    passes rows.read are.numbers _ (sym (list_all-map _ _ rows.read.nodes) ∙ all) n there in
    grind (arith, here, there)

-- none of the numbers has a bad list, if no object that is there has one
pub no_bad_list : (rows : Rows) → rows.unreadable ≡ []
    → ((id : ℕ) (n : Node) → node_at rows.read id ≡ Some n → has_sound_lists n ≡ true)
    → list_all (λ id. not (has_bad_list rows id)) (numbers_of rows) ≡ true
no_bad_list rows none all = every (numbers_of rows)
  where
    good : (id : ℕ) → not (has_bad_list rows id) ≡ true
    good id = simp (none_numbered rows none) (grind (arith, all id))

    every : (ids : List ℕ) → list_all (λ id. not (has_bad_list rows id)) ids ≡ true
    every [] = refl
    every (id ∷ ids) = rw (good id) (every ids)

-- ---- the same roots

pub roots_same : (change : Node → Node) (nodes : List Node)
    → Each (λ n. (is_root (change n) ≡ is_root n) × (is_root n ≡ true → change n ≡ n)) nodes
    → filter is_root (map change nodes) ≡ filter is_root nodes
roots_same change [] each = refl
roots_same change (x ∷ xs) each = grind (arith, roots_same change xs each.1, each.0)

-- ---- names

none_passes : {X : Type 0} (p : X → Bool) (xs : List X) → find p xs ≡ None
    → Each (λ x. p x ≡ false) xs
none_passes p [] none = tt
none_passes p (x ∷ xs) none = (grind arith, none_passes p xs (grind arith))

-- ---- the rows with the object at its new place

module _ (old : Rows) (target folder : Node) (name : List ℕ) (can : CanPlace target folder name old)
    (d s : Node → List Ace) where
  abbrev pub content : Content
  content = old.read

  abbrev pub change : Node → Node
  change = placed target.id folder.id name d s

  abbrev pub after : Content
  after = with_each content change

  abbrev pub new : Rows
  new = with_content old after

  pub number : (n : Node) → (change n).id ≡ n.id
  number = placed_number target.id folder.id name d s

  pub kind : (n : Node) → (change n).kind ≡ n.kind
  kind = placed_kind target.id folder.id name d s

  pub elsewhere : (n : Node) → (n.id == target.id) ≡ false → (change n).parent ≡ n.parent
  elsewhere n isnt = rw isnt

  pub here : (n : Node) → (n.id == target.id) ≡ true → (change n).parent ≡ Some folder.id
  here n is = rw is

  abbrev pub IsThere : Node → Type 0
  IsThere n = node_at content n.id ≡ Some n

  pub faultless : HasNoFault old
  faultless = no_fault old can.sound

  pub passes_old : (test : Node → Bool) → list_all test content.nodes ≡ true → (n : Node)
      → IsThere n → test n ≡ true
  passes_old = passes content can.are.numbers

  pub passes_new : (test : Node → Bool) → ((n : Node) → IsThere n → test (change n) ≡ true)
      → list_all test after.nodes ≡ true
  passes_new = all_after content can.are.numbers change number

  pub is_target : (n : Node) → IsThere n → (n.id == target.id) ≡ true → n ≡ target
  is_target = grind (arith, nat_tests, can.target_there)

  -- the parent of the object is the folder now
  pub above_here : (n : Node) → (n.id == target.id) ≡ true
      → parent_of after (change n) ≡ Some (change folder)
  above_here n is =
      parent_found content can.are.numbers change number n folder folder.id (here n is)
      can.folder_there

  pub above_elsewhere : (n : Node) → (n.id == target.id) ≡ false
      → parent_of after (change n) ≡ option_map change (parent_of content n)
  above_elsewhere n isnt = parent_after content can.are.numbers change number n (elsewhere n isnt)

  pub same_root : (n : Node) → IsThere n → is_root (change n) ≡ is_root n
  same_root = grind (arith, nat_tests, can.target_there, can.has_parent)

  -- ---- parents are folders

  pub parents_after : list_all (has_folder_above after) after.nodes ≡ true
  parents_after = passes_new _ (λ n there.
      let was = passes_old (has_folder_above content) faultless.parents n there in
      grind (arith, nat_tests, was, above_here n, above_elsewhere n, can.folder_is))

  -- ---- ways lead to the root

  pub reach_after : list_all (reaches after) after.nodes ≡ true
  reach_after = passes_new _ (λ n there. elim (cases_Bool (n.id == target.id)) [
    | inl is ↦
        enough_steps after can.steps _
        (rw is (past_reaches content change number target.id folder.id elsewhere here can.steps
        (Some folder.id) can.past))
    | inr isnt ↦
        let again =
        reaches_again content change number target.id folder.id elsewhere here can.steps
        can.past (length content.nodes) n.parent
        (passes_old (reaches content) faultless.reach n there) in
        enough_steps after again.0 _ (rw isnt again.1)
  ])

  -- ---- names stay apart

  -- nothing has the new name in the folder
  free_of : (n : Node) → IsThere n → (has_parent folder.id n && same_text n.name name) ≡ false
  free_of n there =
      each_found _ n.id content.nodes n (none_passes _ content.nodes can.is_free) there

  -- of two, one the object
  apart_from_target : (x n : Node) → IsThere n → (x.id == target.id) ≡ true
      → (n.id == target.id) ≡ false → same_place (change x) (change n) ≡ false
  apart_from_target x n there is isnt =
      let free = free_of n there in search (rules, same_text-true, n.name, text_itself)

  target_apart : (x n : Node) → IsThere x → (x.id == target.id) ≡ false → (n.id == target.id) ≡ true
      → same_place (change x) (change n) ≡ false
  target_apart x n there isnt is =
      let free = free_of x there in rw (isnt, is) (grind (arith, nat_tests))

  same_places : (x n : Node) → (x.id == target.id) ≡ false → (n.id == target.id) ≡ false
      → same_place (change x) (change n) ≡ same_place x n
  same_places x n first second = rw (first, second)

  abbrev earlier_after : Node → Node → Bool
  earlier_after n other = nat_lt other.id (change n).id && same_place other (change n)

  none_earlier : (n : Node) → ((x : Node) → IsThere x → earlier_after n (change x) ≡ false)
      → list_any (earlier_after n) after.nodes ≡ false
  none_earlier n each = search (any_map, any_none, apart, each_there)

  not_before : (x n : Node) → (x.id == target.id) ≡ true → (n.id == target.id) ≡ true
      → nat_lt (change x).id (change n).id ≡ false
  not_before = grind (arith, nat_tests)

  abbrev earlier : Node → Node → Bool
  earlier n other = nat_lt other.id n.id && same_place other n

  not_earlier : (n x : Node) → IsThere n → IsThere x
      → ((n.id == target.id) ≡ false → earlier n x ≡ false) → earlier_after n (change x) ≡ false
  not_earlier n x there x_there was =
      grind (arith, nat_tests, apart_from_target, not_before, number, same_places, target_apart)

  named : (n : Node) → IsThere n → has_sound_name content n ≡ true
      → has_sound_name after (change n) ≡ true
  named n there was =
      let root = same_root n there in
      let none = λ (w : (n.id == target.id) ≡ false → list_any (earlier n) content.nodes ≡ false).
      none_earlier n (λ x x_there. not_earlier n x there x_there (λ isnt.
      each_found _ x.id content.nodes x (each_fails _ content.nodes (w isnt)) x_there)) in
      grind (arith, none, can.is_name)

  pub names_after : list_all (has_sound_name after) after.nodes ≡ true
  names_after = grind (arith, nat_tests, faultless, named, passes_new, passes_old)

  -- ---- bytes

  pub bodies_after : list_all (has_sound_body after) after.nodes ≡ true
  bodies_after = grind (arith, nat_tests, faultless, kind, number, passes_new, passes_old)
