-- Ways in rows to which an object came.
use Rattle.std.proofs.Common.{◌≡◌, ℕ, ◌&&◌, Bool, true, false, List, [], ◌∷◌, ◌++◌, Option, Some}
use Rattle.std.proofs.{Common.{None, refl, sym, ap, ◌∙◌, inl, inr, arith}, lemmas.Bool.and_from}
use Rattle.std.proofs.lemmas.Bool.{and_parts, cases_Bool, Decides.nat_tests}
use Rattle.std.{proofs.lemmas.{Slice.Eq.bytes_eq-Decides, Option.none-some}, specs.List.find}
use Rattle.std.specs.{Option.option_map_or, Prelude.is_none}
use Rattle.room_entry.specs.Pieces.{same_text}
use Rattle.room_rows.specs.{declared.node.Node.Node, Content.{Content, child_of, has_parent}}
use Rattle.room_rows.specs.{Content.{put_node, root_of}, Finding.find_id}
use Rattle.room_rows.proofs.Frames.{has_its_parent, parent_is}
use Rattle.room_machine.specs.{Site.{Site, site_at}, Stored.{stored_along, stored_from}}
use Rattle.room_machine.specs.Stored.{stored_site}

-- ---- what is found among others and a new one

pub find_past : (p : Node → Bool) (new : Node) (nodes : List Node) → find_id new.id nodes ≡ None
    → p new ≡ false → find p (put_node new nodes) ≡ find p nodes
find_past p new [] unused fails = grind (arith, nat_tests)
find_past p new (x ∷ xs) unused fails = grind (arith, nat_tests, find_past p new xs)

pub find_it : (p : Node → Bool) (new : Node) (nodes : List Node) → find p nodes ≡ None
    → p new ≡ true → find p (put_node new nodes) ≡ Some new
find_it p new [] none holds = grind (arith, nat_tests)
find_it p new (x ∷ xs) none holds = grind (arith, nat_tests, find_it p new xs)

-- ---- ways

module _ (old : Content) (new : Node) (folder : ℕ) (bodies : List (ℕ × List ℕ))
    (unused : find_id new.id old.nodes ≡ None) (below : new.parent ≡ Some folder)
    (free : child_of old folder new.name ≡ None) where
  abbrev pub after : Content
  after = record old { nodes = put_node new old.nodes; bodies = bodies }

  abbrev is_it : ℕ → List ℕ → Node → Bool
  is_it id name node = has_parent id node && same_text node.name name

  -- who has the place of the new one stands nowhere
  not_it : (id : ℕ) (name : List ℕ) (child : Node) → child_of old id name ≡ Some child
      → is_it id name new ≡ true → ⊥
  not_it id name child found is =
      let parts = and_parts (has_parent id new) (same_text new.name name) is in
      let up : new.parent ≡ Some id = parent_is id new parts.0 in
      let named : new.name ≡ name = (bytes_eq-Decides new.name name).0 parts.1 in
      let here : id ≡ folder = cc in
      let same : child_of old folder new.name ≡ child_of old id name = cc in
      none-some child (sym free ∙ same ∙ found)

  pub child_stays : (id : ℕ) (name : List ℕ) (child : Node) → child_of old id name ≡ Some child
      → child_of after id name ≡ Some child
  child_stays id name child found = elim (cases_Bool (is_it id name new)) [
    | inl is ↦ absurd (not_it id name child found is)
    | inr isnt ↦ find_past (is_it id name) new old.nodes unused isnt ∙ found
  ]

  pub comes_there : child_of after folder new.name ≡ Some new
  comes_there = find_it (is_it folder new.name) new old.nodes free
      (and_from (has_parent folder new) (same_text new.name new.name)
      (has_its_parent folder new below) ((bytes_eq-Decides new.name new.name).1 refl))

  pub root_stays : root_of after ≡ root_of old
  root_stays = find_past (λ node. is_none node.parent) new old.nodes unused (ap is_none below)

  stays_on : (names p : List (List ℕ)) (node : Node) (site : Site)
      → site_at (stored_from old p node names) names ≡ Some site
      → site_at (stored_from after p node names) names ≡ Some site
  stays_on [] p node site is = is
  stays_on (name ∷ names) p node site is =
      on (child_of old node.id name) refl
      (λ child. stays_on names (p ++ name ∷ []) child site) is
    where
      on : (o : Option Node) → child_of old node.id name ≡ o
          → ((child : Node)
          → site_at (stored_from old (p ++ name ∷ []) child names) names ≡ Some site
          → site_at (stored_from after (p ++ name ∷ []) child names) names ≡ Some site)
          → site_at (option_map_or (λ child. stored_from old (p ++ name ∷ []) child names) o [])
          names ≡ Some site
          → site_at (option_map_or (λ child. stored_from after (p ++ name ∷ []) child names)
          (child_of after node.id name) []) names ≡ Some site
      on None found next wrong = absurd (none-some site wrong)
      on (Some child) found next here =
          ap (λ o. site_at (option_map_or
          (λ child. stored_from after (p ++ name ∷ []) child names) o []) names)
          (child_stays node.id name child found) ∙ next child here

  -- what stands at a path stands there still
  pub stays_at : (path : List (List ℕ)) (site : Site)
      → site_at (stored_along old path) path ≡ Some site
      → site_at (stored_along after path) path ≡ Some site
  stays_at path site is =
      ap (λ o. site_at (option_map_or (λ root. stored_from after [] root path) o []) path)
      root_stays ∙ on (root_of old) is
    where
      on : (o : Option Node)
          → site_at (option_map_or (λ root. stored_from old [] root path) o []) path ≡ Some site
          → site_at (option_map_or (λ root. stored_from after [] root path) o []) path ≡ Some site
      on None wrong = absurd (none-some site wrong)
      on (Some root) here = stays_on path [] root site here

-- ---- one object further

same_site : (p q : List (List ℕ)) (node last : Node)
    → Some (stored_site p node) ≡ Some (stored_site q last) → (p ≡ q) × (node ≡ last)
same_site p q node last is =
    let same : stored_site p node ≡ stored_site q last = cc in
    (ap (λ (s : Site). s.path) same, ap (λ (s : Site). s.node) same)

module _ (content : Content) (last next : Node) (name : List ℕ)
    (there : child_of content last.id name ≡ Some next) where
  further_on : (names p q : List (List ℕ)) (node : Node)
      → site_at (stored_from content p node names) names ≡ Some (stored_site q last)
      → site_at (stored_from content p node (names ++ name ∷ [])) (names ++ name ∷ [])
      ≡ Some (stored_site (q ++ name ∷ []) next)
  further_on [] p q node is =
      let same = same_site p q node last is in
      let child : child_of content node.id name ≡ Some next =
      ap (λ (n : Node). child_of content n.id name) same.1 ∙ there in
      ap (λ o. site_at (option_map_or (λ child. stored_from content (p ++ name ∷ []) child []) o [])
      []) child
      ∙ ap (λ r. Some (stored_site (r ++ name ∷ []) next)) same.0
  further_on (other ∷ names) p q node is =
      on (child_of content node.id other)
      (λ child. further_on names (p ++ other ∷ []) q child) is
    where
      on : (o : Option Node)
          → ((child : Node)
          → site_at (stored_from content (p ++ other ∷ []) child names) names
          ≡ Some (stored_site q last)
          → site_at (stored_from content (p ++ other ∷ []) child (names ++ name ∷ []))
          (names ++ name ∷ []) ≡ Some (stored_site (q ++ name ∷ []) next))
          → site_at (option_map_or (λ child. stored_from content (p ++ other ∷ []) child names) o
          []) names ≡ Some (stored_site q last)
          → site_at (option_map_or (λ child.
          stored_from content (p ++ other ∷ []) child (names ++ name ∷ [])) o [])
          (names ++ name ∷ []) ≡ Some (stored_site (q ++ name ∷ []) next)
      on None go wrong = absurd (none-some (stored_site q last) wrong)
      on (Some child) go here = go child here

  pub further_at : (path q : List (List ℕ))
      → site_at (stored_along content path) path ≡ Some (stored_site q last)
      → site_at (stored_along content (path ++ name ∷ [])) (path ++ name ∷ [])
      ≡ Some (stored_site (q ++ name ∷ []) next)
  further_at path q is = on (root_of content) is
    where
      on : (o : Option Node)
          → site_at (option_map_or (λ root. stored_from content [] root path) o []) path
          ≡ Some (stored_site q last)
          → site_at (option_map_or (λ root. stored_from content [] root (path ++ name ∷ [])) o [])
          (path ++ name ∷ []) ≡ Some (stored_site (q ++ name ∷ []) next)
      on None wrong = absurd (none-some (stored_site q last) wrong)
      on (Some root) here = further_on path [] q root here
