-- On sound rows, the objects that a walk finds have the lists that are stored.
use Rattle.std.proofs.Common.{◌≡◌, ℕ, Bool, true, false, cond, List, [], ◌∷◌, ◌++◌, map, Option}
use Rattle.std.proofs.{Common.{Some, None, refl, sym, ap, ◌∙◌, arith}, lemmas.Bool.and_parts}
use Rattle.std.proofs.lemmas.Bool.Decides.{nat_tests}
use Rattle.std.specs.{Prelude.length, Option.{option_map, option_map_or}}
use Rattle.room_entry.specs.{Ace.Ace, declared.object.Which.{Which, TheVariants.{Dacl, Sacl}}}
use Rattle.room_entry.proofs.{Same.entries_equal, Facts.Booleans.implied}
use Rattle.room_rows.specs.{HeldList.Held, declared.node.Node.Node, Held.{held_of, full_of}}
use Rattle.room_rows.specs.{Held.is_linked, Content.{Content, node_at, root_of, child_of}}
use Rattle.room_rows.specs.{Content.{parent_of, is_linked_in}, Meaning.{kept_held, kept_node}}
use Rattle.room_rows.specs.{Meaning.meaning, Rows.{Rows, AreRows}, Walk.{walk_from, behind}}
use Rattle.room_rows.specs.{Pass.pass, Law.{agrees_with, agrees}, Sound.keeps_law}
use Rattle.room_rows.proofs.Frames.{Rises, root_of-is_there, root_of-parent, child_of-is_there}
use Rattle.room_rows.proofs.{Frames.{child_of-parent, child_of-name}, InPlace.KeepsPlaces}
use Rattle.room_rows.proofs.InPlace.{keeps_places, root_of-with_each, child_of-with_each}
use Rattle.room_machine.specs.Site.{Site, full_at, root_site, site_below, sites_below, sites_of}
use Rattle.room_machine.specs.{Site.sites_along, Stored.{stored_site, stored_from, stored_along}}
use Rattle.room_sound.proofs.SoundParts.{SoundParts, passes_test}
use Rattle.room_inherit.proofs.Stored.{linked_kept}

-- the object with the inherited entries of its lists
abbrev pub fill : Site → Site
fill site =
    record site {
      node = record site.node {
        dacl = record site.node.dacl { inh = site.dacl };
        sacl = record site.node.sacl { inh = site.sacl };
      };
    }

-- ---- the chain below an object

abbrev chain_below : Content → Node → List (List ℕ) → List Node
chain_below content node [] = []
chain_below content node (name ∷ names) =
    option_map_or (λ child. child ∷ chain_below content child names) (child_of content node.id name)
    []

chain_of : (content : Content) (node : Node) (names : List (List ℕ))
    → (walk_from content node names).chain ≡ node ∷ chain_below content node names
chain_of content node [] = refl
chain_of content node (name ∷ names) =
    on (child_of content node.id name) (λ child. chain_of content child names)
  where
    on : (o : Option Node)
        → ((child : Node) → (walk_from content child names).chain ≡ child
        ∷ chain_below content child names)
        → (option_map_or (λ child. behind node (walk_from content child names)) o
        (record { chain = node ∷ []; rest = length (name ∷ names) })).chain ≡ node
        ∷ option_map_or (λ child. child ∷ chain_below content child names) o []
    on None rest = refl
    on (Some child) rest = ap (λ chain. node ∷ chain) (rest child)

-- ---- kept and stored entries

-- what an object inherits is what it stores
inherits_stored : (b c : Bool) (held above : Held) (passed : List Ace)
    → is_linked held (Some above) ≡ b → (b ≡ true → held.inh ≡ passed)
    → cond (is_linked (kept_held b held) (Some (kept_held c above))) passed (kept_held b held).inh
    ≡ held.inh
inherits_stored true c held above passed linked agree = grind (arith, nat_tests, linked_kept)
inherits_stored false c held above passed linked agree = grind (arith, nat_tests, linked_kept)

refilled : (b : Bool) (held : Held) → record (kept_held b held) { inh = held.inh } ≡ held
refilled true held = refl
refilled false held = refl

module _ (rows : Rows) (are : AreRows rows) (parts : SoundParts rows) where
  abbrev content : Content
  content = rows.read

  abbrev kept : Node → Node
  kept node = kept_node content node

  same_places : KeepsPlaces content kept
  same_places =
      keeps_places content kept (λ n. record { number = refl; parent = refl; name = refl })

  rises : Rises content
  rises = are.numbers

  -- ---- one object below another

  module _ (node child : Node) (there : node_at content node.id ≡ Some node) (name : List ℕ)
      (is : child_of content node.id name ≡ Some child) where
    above_is : parent_of content child ≡ Some node
    above_is = grind (arith, nat_tests, child_of-parent)

    law_here : keeps_law content child ≡ true
    law_here = grind (arith, nat_tests, passes_test)

    agrees_here : (which : Which) → agrees content which child ≡ true
        → agrees_with which child node ≡ true
    agrees_here which agree =
        sym (ap (λ o. option_map_or (agrees_with which child) o true) above_is) ∙ agree

    stored_as_passed : (which : Which) → agrees content which child ≡ true
        → is_linked (held_of which child) (Some (held_of which node)) ≡ true
        → (held_of which child).inh ≡ pass child.kind (full_of (held_of which node))
    stored_as_passed which agree linked =
        entries_equal (held_of which child).inh (pass child.kind (full_of (held_of which node)))
        (implied (is_linked (held_of which child) (Some (held_of which node))) _
        (agrees_here which agree) linked)

    linked_here : (which : Which)
        → is_linked (held_of which child) (Some (held_of which node))
        ≡ is_linked_in content which child
    linked_here which =
        sym (ap (λ o. is_linked (held_of which child) (option_map (held_of which) o)) above_is)

    module _ (path : List (List ℕ)) (site : Site) (found : site.node ≡ kept node)
        (filled : fill site ≡ stored_site path node) where
      abbrev below : Site
      below = site_below site (kept child)

      dacl_is : below.dacl ≡ child.dacl.inh
      dacl_is =
          ap (λ (n : Node). cond (is_linked (kept child).dacl (Some n.dacl))
          (pass child.kind (full_at Dacl site)) (kept child).dacl.inh) found
          ∙ ap (λ (s : Site). cond (is_linked (kept child).dacl (Some (kept node).dacl))
          (pass child.kind (full_at Dacl s)) (kept child).dacl.inh) filled
          ∙ inherits_stored (is_linked_in content Dacl child)
          (is_linked_in content Dacl node) child.dacl node.dacl
          (pass child.kind (full_of node.dacl)) (linked_here Dacl)
          (λ linked. stored_as_passed Dacl
          (and_parts (agrees content Dacl child) (agrees content Sacl child) law_here).0
          (linked_here Dacl ∙ linked))

      sacl_is : below.sacl ≡ child.sacl.inh
      sacl_is =
          ap (λ (n : Node). cond (is_linked (kept child).sacl (Some n.sacl))
          (pass child.kind (full_at Sacl site)) (kept child).sacl.inh) found
          ∙ ap (λ (s : Site). cond (is_linked (kept child).sacl (Some (kept node).sacl))
          (pass child.kind (full_at Sacl s)) (kept child).sacl.inh) filled
          ∙ inherits_stored (is_linked_in content Sacl child)
          (is_linked_in content Sacl node) child.sacl node.sacl
          (pass child.kind (full_of node.sacl)) (linked_here Sacl)
          (λ linked. stored_as_passed Sacl
          (and_parts (agrees content Dacl child) (agrees content Sacl child) law_here).1
          (linked_here Sacl ∙ linked))

      below_filled : fill below ≡ stored_site (path ++ name ∷ []) child
      below_filled = grind (arith, nat_tests, child_of-name, dacl_is, refilled, sacl_is)

  -- ---- from an object on

  filled_from : (names path : List (List ℕ)) (node : Node) (site : Site)
      → node_at content node.id ≡ Some node → site.node ≡ kept node
      → fill site ≡ stored_site path node
      → map fill (site ∷ sites_below site (chain_below (meaning content) (kept node) names))
      ≡ stored_from content path node names
  filled_from [] path node site there found filled = ap (λ s. s ∷ []) filled
  filled_from (name ∷ names) path node site there found filled =
      ap (λ o. map fill (site ∷ sites_below site
      (option_map_or (λ child. child ∷ chain_below (meaning content) child names) o [])))
      (child_of-with_each content kept same_places node.id name)
      ∙ ap
      (λ s. s
      ∷ map fill
      (sites_below site (option_map_or (λ child. child ∷ chain_below (meaning content) child names)
      (option_map kept (child_of content node.id name)) []))) filled
      ∙ ap (λ rest. stored_site path node ∷ rest) (on (child_of content node.id name) (λ child is.
      filled_from names (path ++ name ∷ []) child (site_below site (kept child))
      (child_of-is_there content rises node.id name child is) refl
      (below_filled node child there name is path site found filled)))
    where
      on : (o : Option Node)
          → ((child : Node) → o ≡ Some child
          → map fill (site_below site (kept child)
          ∷ sites_below (site_below site (kept child))
          (chain_below (meaning content) (kept child) names))
          ≡ stored_from content (path ++ name ∷ []) child names)
          → map fill
          (sites_below site
          (option_map_or (λ child. child ∷ chain_below (meaning content) child names)
          (option_map kept o) []))
          ≡ option_map_or (λ child. stored_from content (path ++ name ∷ []) child names) o []
      on None rest = refl
      on (Some child) rest = rest child refl

  -- ---- from the root on

  root_filled : (root : Node) → root.parent ≡ None
      → fill (root_site (kept root)) ≡ stored_site [] root
  root_filled root none = grind (arith, nat_tests)

  pub sites_filled : (path : List (List ℕ))
      → map fill (sites_along (meaning content) path) ≡ stored_along content path
  sites_filled path =
      ap (λ o. map fill
      (sites_of (option_map_or (λ root. walk_from (meaning content) root path) o
      (record { chain = []; rest = length path })).chain))
      (root_of-with_each content kept same_places) ∙ on (root_of content) (λ root is. is)
    where
      on : (o : Option Node) → ((root : Node) → o ≡ Some root → root_of content ≡ Some root)
          → map fill
          (sites_of (option_map_or (λ root. walk_from (meaning content) root path)
          (option_map kept o) (record { chain = []; rest = length path })).chain)
          ≡ option_map_or (λ root. stored_from content [] root path) o []
      on None there = refl
      on (Some root) there =
          ap (λ chain. map fill (sites_of chain)) (chain_of (meaning content) (kept root) path)
          ∙ filled_from path [] root (root_site (kept root))
          (root_of-is_there content rises root (there root refl)) refl
          (root_filled root (root_of-parent content root (there root refl)))
