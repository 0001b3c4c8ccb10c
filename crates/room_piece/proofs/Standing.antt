-- An object that comes stands at its path, all others stand where they stood, and the rows are
-- sound.
use Rattle.std.proofs.Common.{◌≡◌, ℕ, ◌+◌, ◌<◌, true, List, [], ◌∷◌, ◌++◌, length, Option, Some}
use Rattle.std.proofs.{Common.{None, refl, sym, ap, subst, max, ◌∙◌, arith}, lemmas.Bool.and_from}
use Rattle.std.proofs.lemmas.Bool.{and_parts, or_right, Decides.nat_tests}
use Rattle.room_entry.specs.declared.object.ObjKind.{ObjKind, TheVariants.{Document, Folder}}
use Rattle.room_entry.specs.declared.object.Which.TheVariants.{Dacl, Sacl}
use Rattle.room_entry.proofs.Alike.{entries_themselves}
use Rattle.room_rows.specs.{declared.node.{NewNode.NewNode, Node.Node}, Content.Content}
use Rattle.room_rows.specs.{Content.{is_folder, node_at, put_node}, Keep.{node_of, with_bytes}}
use Rattle.room_rows.specs.{Keep.{with_content, with_new}, Held.{full_of, is_linked}, Pass.pass}
use Rattle.room_rows.specs.{Paths.is_object_name, Meaning.meaning, Rows.{AreRows, Rows}}
use Rattle.room_rows.specs.Sound.{AreSound, has_sound_lists, is_sound_held}
use Rattle.room_rows.proofs.Lookups.{put_behind}
use Rattle.room_inherit.proofs.Migrated.{folder_is}
use Rattle.room_machine.specs.{Site.{front, last_name, site_at}, Changed.passed_held}
use Rattle.room_machine.specs.Stored.{stored_along, stored_site}
use Rattle.room_judge.proofs.Spots.{path_parts}
use Rattle.room_memory.{specs.Objects.greatest, proofs.Changed.none_past}
use Rattle.room_desk.proofs.Made.{NewObject.bodies_then, SoundAdded.{above_new, above_old}}
use Rattle.room_desk.proofs.Made.{SoundAdded.lists_here, Added.length_put}
use Rattle.room_desk.proofs.Steps.Serving.{along_there}
use Rattle.room_question.specs.declared.question.Object.{Object}
use Rattle.room_piece.specs.{Building.{AllStand, Stands, list_in}, Coming.{IsPlaceFor, meant_in}}
use Rattle.room_piece.specs.{Coming.{next_number, object_in, with_comer}, Storing.IsWithin}
use Rattle.room_piece.{specs.Storing.misfit, proofs.Arrived.{all_mean, still_sound}}
use Rattle.room_piece.proofs.{Fitting.{list_agrees, list_sound, sacl_sound}, Placing.stands_at}
use Rattle.room_piece.proofs.Ways.{comes_there, further_at, stays_at}

-- ---- what is added

new_of : (content : Content) (id : ℕ) (kind : ObjKind) (new : NewNode) → new.kind ≡ kind
    → with_new content id (with_bytes new [])
    ≡ record content {
      nodes = put_node (node_of id new) content.nodes;
      bodies = bodies_then kind id [] content.bodies;
    }
new_of content id Document new is = grind (arith, nat_tests, bodies_then)
new_of content id Folder new is = grind (arith, nat_tests, bodies_then)

greatest_put : (new : Node) (nodes : List Node) → greatest nodes < new.id
    → greatest (put_node new nodes) ≡ new.id
greatest_put new [] above = omega arith
greatest_put new (x ∷ xs) above =
    ap greatest (put_behind new x xs (omega arith))
    ∙ ap (λ (n : ℕ). max x.id n) (greatest_put new xs (omega arith)) ∙ omega arith

comer_is : (room : Content) (path : List (List ℕ)) (node : Node) (kind : ObjKind)
    → node.kind ≡ kind
    → with_comer room path node
    ≡ record room {
      nodes = put_node node room.nodes;
      bodies = bodies_then kind node.id [] room.bodies;
    }
comer_is room path node Document is = grind (arith, nat_tests, bodies_then)
comer_is room path node Folder is = grind (arith, nat_tests, bodies_then)

folder_lists : (node : Node) → is_folder node ≡ true → has_sound_lists node ≡ true
    → (is_sound_held Dacl Folder node.dacl ≡ true) × (is_sound_held Sacl Folder node.sacl ≡ true)
folder_lists node folder valid =
    let parts = and_parts (is_sound_held Dacl node.kind node.dacl)
    (is_sound_held Sacl node.kind node.sacl) valid in
    let kind = folder_is node.kind folder in (
      ap (λ k. is_sound_held Dacl k node.dacl) (sym kind) ∙ parts.0,
      ap (λ k. is_sound_held Sacl k node.sacl) (sym kind) ∙ parts.1,
    )

module _ (unread : List ℕ) (object : Object) (old : Rows) (are : AreRows old) (were : AreSound old)
    (folder : Node) (place : IsPlaceFor object.path folder old)
    (named : is_object_name (last_name object.path) ≡ true) where
  abbrev pub new : Node
  new = node_of (next_number old) (object_in unread object (last_name object.path) folder)

  pub unused : node_at old.read (next_number old) ≡ None
  unused = none_past old.read.nodes (next_number old) (omega arith)

  pub there : node_at old.read folder.id ≡ Some folder
  there = along_there old.read are.numbers (front object.path)
      (stored_site (front object.path) folder)
      (stands_at (front object.path) folder old place.way.ends)

  abbrev bodies : List (ℕ × List ℕ)
  bodies = bodies_then object.kind (next_number old) [] old.read.bodies

  abbrev pub after : Content
  after = record old.read { nodes = put_node new old.read.nodes; bodies = bodies }

  pub after_is : with_new old.read (next_number old)
      (with_bytes (object_in unread object (last_name object.path) folder) []) ≡ after
  after_is = new_of old.read (next_number old) object.kind
      (object_in unread object (last_name object.path) folder) refl

  pub after_sound : misfit object folder.dacl ≡ None → IsWithin object.list
      → AreSound (with_content old after)
  after_sound fits within =
      let folder_is = folder_lists folder place.way.folds (lists_here old were folder there) in
      still_sound old are were new folder unused there place.way.folds refl place.free named
      (and_from _ _ (list_sound object.list object.kind folder.dacl within fits folder_is.0)
      (sacl_sound object.kind folder.sacl folder_is.1))
      (list_agrees object.list object.kind folder.dacl fits)
      (or_right (not_linked) _ (entries_themselves (pass object.kind (full_of folder.sacl))))
    where
      not_linked : Rattle.std.proofs.Common.Bool
      not_linked = Rattle.std.proofs.Common.not
          (is_linked (passed_held object.kind folder.sacl) (Some folder.sacl))

  pub after_means : meaning after
      ≡ with_comer (meaning old.read) object.path (meant_in folder new)
  after_means =
      all_mean old are were new folder unused there place.way.folds refl place.free named
      ∙ sym (comer_is (meaning old.read) object.path (meant_in folder new) object.kind refl)

  -- ---- where objects stand

  abbrev rows_then : Rows
  rows_then = with_content old after

  pub stands_still : (id : ℕ) (one : Object) → Stands unread old id one
      → Stands unread rows_then id one
  stands_still id one stands =
      let at = stands.at in
      let found = along_there old.read are.numbers one.path (stored_site one.path stands.node) at in
      record {
        node = stands.node;
        numbered = stands.numbered;
        at = stays_at old.read new folder.id bodies unused refl place.free one.path
            (stored_site one.path stands.node) at;
        kind = stands.kind;
        owners = stands.owners;
        list =
            stands.list
            ∙ ap (λ o. list_in one.list one.kind o)
            (sym (above_old old are were new folder bodies unused there place.way.folds refl
            place.free stands.node found));
      }

  pub all_still : (id : ℕ) (objects : List Object) → AllStand unread old id objects
      → AllStand unread rows_then id objects
  all_still id [] stand = tt
  all_still id (one ∷ objects) stand =
      (stands_still id one stand.0, all_still (id + 1) objects stand.1)

  pub it_stands : Stands unread rows_then (next_number old) object
  it_stands =
      let whole = path_parts object.path place.way.some in
      let here = stays_at old.read new folder.id bodies unused refl place.free (front object.path)
      (stored_site (front object.path) folder)
      (stands_at (front object.path) folder old place.way.ends) in
      let at = further_at after folder new (last_name object.path)
      (comes_there old.read new folder.id bodies unused refl place.free)
      (front object.path) (front object.path) here in
      record {
        node = new;
        numbered = refl;
        at = subst (λ (p : List (List ℕ)). site_at (stored_along after p) p
            ≡ Some (stored_site p new)) whole at;
        kind = refl;
        owners = refl;
        list =
            ap (λ o. list_in object.list object.kind o)
            (sym (above_new old are were new folder bodies unused there place.way.folds refl
            place.free));
      }

  -- one more number is in use
  pub one_more : length after.nodes ≡ length old.read.nodes + 1
  one_more = length_put new old.read.nodes unused ∙ (omega arith)

  pub next_then : greatest after.nodes ≡ next_number old
  next_then = greatest_put new old.read.nodes (omega arith)

-- with one more at the end, all stand
pub all_and : (unread : List ℕ) (rows : Rows) (id : ℕ) (objects : List Object) (one : Object)
    → AllStand unread rows id objects → Stands unread rows (id + length objects) one
    → AllStand unread rows id (objects ++ one ∷ [])
all_and unread rows id [] one stand last =
    (subst (λ (n : ℕ). Stands unread rows n one) (omega arith) last, tt)
all_and unread rows id (x ∷ objects) one stand last = (
  stand.0,
  all_and unread rows (id + 1) objects one stand.1
      (subst (λ (n : ℕ). Stands unread rows n one) (omega arith) last),
)
