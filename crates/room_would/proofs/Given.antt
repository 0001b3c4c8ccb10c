-- Rows stay sound where objects get other owners, and what they mean changes likewise.
use Rattle.std.proofs.Common.{◌≡◌, ℕ, Bool, true, false, List, [], ◌∷◌, map, Option, Some, None}
use Rattle.std.proofs.{Common.{refl, sym, ap, subst, ◌∙◌, arith}, lemmas.Bool.Decides.nat_tests}
use Rattle.std.specs.{List.list_all, Option.{option_map, option_map_or}, Prelude.if◌then◌else◌}
use Rattle.std.specs.Prelude.{is_none}
use Rattle.room_entry.specs.{Pieces.is_among, declared.object.Which.{Which, TheVariants.Dacl}}
use Rattle.room_entry.specs.declared.{object.Which.TheVariants.Sacl, parties.Caller.Caller}
use Rattle.room_entry.specs.declared.parties.Owners.{Owners}
use Rattle.room_rows.specs.{declared.node.Node.Node, Content.{Content, is_linked_in, parent_of}}
use Rattle.room_rows.specs.{Content.{with_each, node_at}, Keep.with_content, Meaning.kept_node}
use Rattle.room_rows.specs.{Meaning.meaning, Rows.{AreRows, Rows}, Sound.{AreSound, keeps_law}}
use Rattle.room_rows.proofs.InPlace.{keeps_places, numbers-with_each, numbers_of-reading}
use Rattle.room_rows.proofs.{InPlace.{rises-with_each, KeepsPlaces}, SamePlace.IsSamePlace}
use Rattle.room_inherit.proofs.{NoFault.{no_fault, sound_checked}, Unmoved.{above, all_kept}}
use Rattle.room_inherit.proofs.Unmoved.{still_sound}
use Rattle.room_sound.proofs.SoundParts.{none_numbered, none_unreadable, sound_parts}
use Rattle.room_turns.specs.{Laws.rows_for, Turns.owned_by}

-- an object with owners that its number and its owners tell
abbrev pub given : (ℕ → Owners → Owners) → Node → Node
given o node = record node { owners = o node.id node.owners }

module _ (o : ℕ → Owners → Owners) where
  stays : (node : Node) → IsSamePlace (given o node) node
  stays node = record { number = refl; parent = refl; name = refl }

  module _ (content : Content) where
    abbrev after : Content
    after = with_each content (given o)

    above_changed : (node : Node)
        → parent_of after (given o node) ≡ option_map (given o) (parent_of content node)
    above_changed node = above content (given o) stays node

    above_kept : {A : Type 0} (f g : Node → A) → ((n : Node) → f (given o n) ≡ g n)
        → (d : A) (n : Node)
        → option_map_or f (parent_of after (given o n)) d ≡ option_map_or g (parent_of content n) d
    above_kept f g same d n =
        ap (λ p. option_map_or f p d) (above_changed n) ∙ on (parent_of content n)
      where
        on : (p : Option Node)
            → option_map_or f (option_map (given o) p) d ≡ option_map_or g p d
        on None = refl
        on (Some above) = same above

    laws : (n : Node) → keeps_law after (given o n) ≡ keeps_law content n
    laws n = grind (arith, nat_tests, above_kept)

    links : (which : Which) (n : Node)
        → is_linked_in after which (given o n) ≡ is_linked_in content which n
    links Dacl n = grind (arith, nat_tests, above_changed)
    links Sacl n = grind (arith, nat_tests, above_changed)

    kept : (n : Node) → kept_node after (given o n) ≡ given o (kept_node content n)
    kept n = search (links)

    means_given : meaning after ≡ with_each (meaning content) (given o)
    means_given = ap (λ (nodes : List Node). record content { nodes = nodes }) (all content.nodes)
      where
        all : (nodes : List Node)
            → map (kept_node after) (map (given o) nodes)
            ≡ map (given o) (map (kept_node content) nodes)
        all [] = refl
        all (x ∷ xs) = λ i. kept x i ∷ all xs i

  module _ (rows : Rows) (are : AreRows rows) (sound : AreSound rows) where
    abbrev later : Rows
    later = with_content rows (with_each rows.read (given o))

    sound_given : AreSound later
    sound_given =
        still_sound rows (given o) stays (λ n. refl) (sound_checked rows sound)
        (λ n there good. good)
        (all_kept (given o) (keeps_law (with_each rows.read (given o))) (keeps_law rows.read)
        (laws rows.read) rows.read.nodes (no_fault rows sound).law)

    are_given : AreRows later
    are_given = record {
      numbers = rises-with_each rows.read (given o) places are.numbers;
      unreadable = are.unreadable;
      apart = subst (λ (ids : List ℕ).
          list_all (λ id. is_none (node_at later.read id)) ids ≡ true)
          (sym (none_numbered rows (none_unreadable rows (sound_parts rows sound)))) refl;
      body_numbers = are.body_numbers;
      bodies = subst (λ (ids : List ℕ).
          list_all (λ (row : ℕ × List ℕ). is_among ids row.0) rows.read.bodies ≡ true)
          (sym (numbers_of-reading rows later.read (numbers-with_each rows.read (given o) places)))
          are.bodies;
      members = are.members;
    }
      where
        places : KeepsPlaces rows.read (given o)
        places = keeps_places rows.read (given o) stays

-- ---- the objects that a caller would have made itself

abbrev claims : List ℕ → Caller → ℕ → Owners → Owners
claims own caller id owners =
    option_map_or (λ name. record owners { owner = name })
    (if is_among own id then caller.user else None) owners

owned_is : (own : List ℕ) (caller : Caller) (node : Node)
    → owned_by own caller node ≡ given (claims own caller) node
owned_is own caller node = on (is_among own node.id) caller.user
  where
    on : (t : Bool) (user : Option (List ℕ))
        → (if t then option_map_or
        (λ name. record node { owners = record node.owners { owner = name } }) user node
        else node)
        ≡ record node {
          owners = option_map_or (λ name. record node.owners { owner = name })
              (if t then user else None) node.owners;
        }
    on true None = refl
    on true (Some name) = refl
    on false user = refl

each_is : (own : List ℕ) (caller : Caller) (content : Content)
    → with_each content (owned_by own caller) ≡ with_each content (given (claims own caller))
each_is own caller content = λ i. with_each content (λ node. owned_is own caller node i)

module _ (own : List ℕ) (caller : Caller) (rows : Rows) where
  -- what the rows mean as the caller finds them
  pub means_found : meaning (rows_for own caller rows).read
      ≡ with_each (meaning rows.read) (owned_by own caller)
  means_found =
      ap meaning (each_is own caller rows.read)
      ∙ means_given (claims own caller) rows.read
      ∙ sym (each_is own caller (meaning rows.read))

  rows_are : rows_for own caller rows
      ≡ with_content rows (with_each rows.read (given (claims own caller)))
  rows_are = ap (with_content rows) (each_is own caller rows.read)

  module _ (are : AreRows rows) (sound : AreSound rows) where
    pub are_found : AreRows (rows_for own caller rows)
    are_found = subst AreRows (sym rows_are) (are_given (claims own caller) rows are sound)

    pub sound_found : AreSound (rows_for own caller rows)
    sound_found = subst AreSound (sym rows_are) (sound_given (claims own caller) rows are sound)
