-- Rows to which an object came stay sound, and mean what they meant, with the object.
use Rattle.std.proofs.Common.{◌≡◌, ℕ, true, List, [], ◌∷◌, map, Option, Some, None, refl, sym, ap}
use Rattle.std.proofs.{Common.{◌∙◌, arith}, lemmas.{Bool.Decides.nat_tests, Option.none-some}}
use Rattle.std.specs.Option.{option_map}
use Rattle.room_entry.specs.declared.object.ObjKind.{ObjKind, TheVariants.{Document, Folder}}
use Rattle.room_entry.specs.declared.{object.Which.TheVariants.{Dacl, Sacl}, parties.Caller.Caller}
use Rattle.room_rows.specs.{declared.node.Node.Node, Held.{held_of, is_linked}, Content.Content}
use Rattle.room_rows.specs.Content.{node_at, child_of, is_folder, put_node, body_at}
use Rattle.room_rows.specs.{Keep.with_content, Law.agrees_with, Meaning.{kept_held, kept_node}}
use Rattle.room_rows.specs.{Meaning.meaning, Paths.is_object_name, Rows.{Rows, AreRows}}
use Rattle.room_rows.specs.Sound.{AreSound, fits_kind, has_sound_body, has_sound_lists}
use Rattle.room_rows.proofs.{InPlace.body_of-with_body-other, Lookups.find-put_same}
use Rattle.room_inherit.proofs.{Children.{each_there, apart_rising}, Renewing.map_agree}
use Rattle.room_inherit.proofs.NoFault.{no_fault}
use Rattle.room_desk.proofs.Made.{NewObject.{added, added_sound, bodies_then}, SoundAdded.above_new}
use Rattle.room_desk.proofs.Made.SoundAdded.{above_old, found_passes, sound_added}

-- a change that leaves numbers as they are, of an object among others
map_put : (change : Node → Node) → ((n : Node) → (change n).id ≡ n.id) → (new : Node)
    → (nodes : List Node)
    → map change (put_node new nodes) ≡ put_node (change new) (map change nodes)
map_put change same new [] = refl
map_put change same new (x ∷ xs) =
    let here = same x in
    let it = same new in
    grind (arith, nat_tests, map_put change same new xs)

other_bytes : (kind : ObjKind) (id : ℕ) (content : Content) (row : ℕ) → (row ≡ id → ⊥)
    → body_at (bodies_then kind id [] content.bodies) row ≡ body_at content.bodies row
other_bytes Document id content row other = body_of-with_body-other content id [] row other
other_bytes Folder id content row other = refl

-- what an object means below this one, or without one
abbrev pub meant_under : Option Node → Node → Node
meant_under above node = record node {
  dacl = kept_held (is_linked node.dacl (option_map (held_of Dacl) above)) node.dacl;
  sacl = kept_held (is_linked node.sacl (option_map (held_of Sacl) above)) node.sacl;
}

nobody_asks : Caller
nobody_asks = record { user = None; groups = [] }

module _ (old : Rows) (are : AreRows old) (were : AreSound old) (new folder : Node)
    (unused : node_at old.read new.id ≡ None)
    (there : node_at old.read folder.id ≡ Some folder) (is_above : is_folder folder ≡ true)
    (below : new.parent ≡ Some folder.id)
    (free : child_of old.read folder.id new.name ≡ None)
    (named : is_object_name new.name ≡ true) where
  abbrev bodies : List (ℕ × List ℕ)
  bodies = bodies_then new.kind new.id [] old.read.bodies

  -- the rows with the object, and with no bytes if it is a document
  abbrev pub with_it : Content
  with_it = record old.read { nodes = put_node new old.read.nodes; bodies = bodies }

  -- what else is made there has bytes as it should have
  bytes_fit : fits_kind new.kind (body_at bodies new.id) ≡ true
  bytes_fit =
      let made = added old are were nobody_asks new.kind folder new.name [] new.id unused there
      is_above free in
      let well : AreSound (with_content old made) = added_sound old are were nobody_asks new.kind
      folder new.name [] new.id unused there is_above free named (λ document. refl) in
      found_passes (has_sound_body made) made.nodes new.id _
      (no_fault (with_content old made) well).bodies
      (find-put_same _ old.read.nodes)

  pub still_sound : has_sound_lists new ≡ true → agrees_with Dacl new folder ≡ true
      → agrees_with Sacl new folder ≡ true → AreSound (with_content old with_it)
  still_sound valid dacl sacl =
      sound_added old are were new folder bodies unused there is_above below free named valid dacl
      sacl
      (λ n found. other_bytes new.kind new.id old.read n.id
      (λ same. absurd (none-some n (sym unused ∙ ap (node_at old.read) (sym same) ∙ found))))
      bytes_fit

  pub it_means : kept_node with_it new ≡ meant_under (Some folder) new
  it_means =
      ap (λ o. meant_under o new)
      (above_new old are were new folder bodies unused there is_above below free)

  others_mean : map (kept_node with_it) old.read.nodes ≡ map (kept_node old.read) old.read.nodes
  others_mean = map_agree (kept_node with_it) (kept_node old.read) old.read.nodes
      (each_there (λ n. kept_node with_it n ≡ kept_node old.read n) old.read.nodes
      (apart_rising 0 old.read.nodes are.numbers)
      (λ n found.
      ap (λ o. meant_under o n)
      (above_old old are were new folder bodies unused there is_above below free n found)))

  pub all_mean : meaning with_it
      ≡ record (meaning old.read) {
        nodes = put_node (meant_under (Some folder) new) (meaning old.read).nodes;
        bodies = bodies;
      }
  all_mean =
      ap (λ (l : List Node). record with_it { nodes = l })
      (map_put (kept_node with_it) (λ n. refl) new old.read.nodes
      ∙ ap (λ n. put_node n (map (kept_node with_it) old.read.nodes)) it_means
      ∙ ap (λ l. put_node (meant_under (Some folder) new) l) others_mean)
