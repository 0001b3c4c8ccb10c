-- What a new object stores is sound, and what the rows mean that it is added to.
use Rattle.std.proofs.Common.{◌≡◌, ℕ, ◌==◌, Bool, true, false, cond, not, List, [], ◌∷◌, map}
use Rattle.std.proofs.Common.{length, Option, Some, None, refl, sym, ap, ◌∙◌, arith}
use Rattle.std.proofs.lemmas.Bool.{false≢true, and_parts, or_right, eqb-true, Decides.nat_tests}
use Rattle.std.proofs.lemmas.Option.{none-some}
use Rattle.std.specs.{Prelude.nat_le, List.list_all, Option.option_map}
use Rattle.room_entry.specs.{Pieces.is_among, Valid.is_document, declared.object.ObjKind.ObjKind}
use Rattle.room_entry.specs.declared.object.{ObjKind.TheVariants.{Document, Folder}, Which.Which}
use Rattle.room_entry.specs.declared.{object.Which.TheVariants.{Dacl, Sacl}, parties.Caller.Caller}
use Rattle.room_entry.proofs.Alike.{entries_themselves}
use Rattle.room_rows.specs.{HeldList.Held, declared.node.Node.Node, Held.{held_of, full_of}}
use Rattle.room_rows.specs.{Held.is_linked, Content.{Content, node_at, child_of, is_folder}}
use Rattle.room_rows.specs.{Content.{put_node, put_body, body_at}, Finding.find_id, Keep.node_of}
use Rattle.room_rows.specs.{Keep.with_content, Meaning.{kept_held, kept_node, meaning}}
use Rattle.room_rows.specs.{Paths.is_object_name, Rows.{Rows, AreRows, numbers_of}, Pass.pass}
use Rattle.room_rows.specs.Sound.{AreSound, fits_kind, has_sound_lists, is_sound_held}
use Rattle.room_rows.proofs.InPlace.{body_of-with_body, body_of-with_body-other}
use Rattle.room_inherit.proofs.{Children.{ids_of, each_there, apart_rising}, Renewing.map_agree}
use Rattle.room_inherit.proofs.{Valid.pass_is_valid, Migrated.folder_is}
use Rattle.room_machine.specs.{Effect.new_node, Changed.{child_node, passed_held}}
use Rattle.room_machine.specs.Stored.{stored_site}
use Rattle.room_desk.proofs.Made.SoundAdded.{above_new, above_old, lists_here, sound_added}
use Rattle.room_desk.proofs.Lists.ValidDown.{passed_marked}
use Rattle.room_sound.proofs.SoundParts.{none_numbered, none_unreadable, sound_parts}

-- ---- its lists

passed_sound : (which : Which) (kind : ObjKind) (parent : Held)
    → is_sound_held which Folder parent ≡ true
    → is_sound_held which kind (passed_held kind parent) ≡ true
passed_sound which kind parent is = grind (arith, nat_tests, pass_is_valid, passed_marked)

-- the lists of a new object are sound if its parent's are
child_sound : (caller : Caller) (kind : ObjKind) (parent : Node) (name : List ℕ) (id : ℕ)
    → is_folder parent ≡ true → has_sound_lists parent ≡ true
    → has_sound_lists (node_of id (child_node caller kind parent name)) ≡ true
child_sound caller kind parent name id folder valid =
    grind (arith, nat_tests, folder_is, passed_sound)

-- ---- bytes belong to a number in use

no_bytes_in : (numbers : List ℕ) (bodies : List (ℕ × List ℕ)) (id : ℕ) → is_among numbers id ≡ false
    → list_all (λ (row : ℕ × List ℕ). is_among numbers row.0) bodies ≡ true
    → body_at bodies id ≡ None
no_bytes_in numbers [] id unused all = refl
no_bytes_in numbers (row ∷ rows) id unused all =
    let parts = and_parts (is_among numbers row.0)
    (list_all (λ (r : ℕ × List ℕ). is_among numbers r.0) rows) all in
    on (row.0 == id)
    (λ same. absurd
    (false≢true (sym unused ∙ ap (is_among numbers) (sym (eqb-true row.0 id same)) ∙ parts.0)))
    (no_bytes_in numbers rows id unused parts.1)
  where
    on : (t : Bool) → (t ≡ true → ⊥) → body_at rows id ≡ None
        → cond t (Some row.1) (body_at rows id) ≡ None
    on true other rest = absurd (other refl)
    on false other rest = rest

not_listed : (nodes : List Node) (id : ℕ) → find_id id nodes ≡ None
    → is_among (ids_of nodes) id ≡ false
not_listed [] id none = refl
not_listed (x ∷ xs) id none = grind (arith, nat_tests, ids_of, not_listed xs id)

no_bytes_unused : (rows : Rows) → AreRows rows → AreSound rows → (id : ℕ)
    → node_at rows.read id ≡ None → body_at rows.read.bodies id ≡ None
no_bytes_unused rows are sound id unused =
    no_bytes_in (numbers_of rows) rows.read.bodies id
    (
    cc (
      none_numbered rows (none_unreadable rows (sound_parts rows sound)),
      not_listed rows.read.nodes id unused,
    ))
    are.bodies

-- ---- the bytes of a new object

abbrev pub bodies_then : ObjKind → ℕ → List ℕ → List (ℕ × List ℕ) → List (ℕ × List ℕ)
bodies_then kind id bytes bodies = cond (is_document kind) (put_body id bytes bodies) bodies

new_fits : (kind : ObjKind) (id : ℕ) (bytes : List ℕ) (content : Content)
    → body_at content.bodies id ≡ None
    → (is_document kind ≡ true → nat_le (length bytes) 1048576 ≡ true)
    → fits_kind kind (body_at (bodies_then kind id bytes content.bodies) id) ≡ true
new_fits kind id bytes content none few = grind (arith, nat_tests, body_of-with_body)

same_bytes : (kind : ObjKind) (id : ℕ) (bytes : List ℕ) (content : Content)
    (row : ℕ) → (row ≡ id → ⊥)
    → body_at (bodies_then kind id bytes content.bodies) row ≡ body_at content.bodies row
same_bytes Document id bytes content row other = body_of-with_body-other content id bytes row other
same_bytes Folder id bytes content row other = refl

-- ---- what the rows mean then

map_put : (content : Content) (new : Node) (nodes : List Node)
    → map (kept_node content) (put_node new nodes)
    ≡ put_node (kept_node content new) (map (kept_node content) nodes)
map_put content new [] = refl
map_put content new (x ∷ xs) = grind (arith, nat_tests, map_put content new xs)

-- an object below a parent, or without one
abbrev kept_under : Option Node → Node → Node
kept_under above node =
    record node {
      dacl = kept_held
          (is_linked node.dacl (option_map (held_of Dacl) above)) node.dacl;
      sacl =
          kept_held (is_linked node.sacl (option_map (held_of Sacl) above)) node.sacl;
    }

kept_new : (t : Bool) (kind : ObjKind) (parent : Held)
    → kept_held t (passed_held kind parent)
    ≡ record {
      flags = record { auto = parent.flags.auto; protect = false };
      own = [];
      inh = cond t [] (pass kind (full_of parent));
    }
kept_new true kind parent = refl
kept_new false kind parent = refl

module _ (old : Rows) (are : AreRows old) (were : AreSound old) (caller : Caller) (kind : ObjKind)
    (folder : Node) (name bytes : List ℕ) (id : ℕ) (unused : node_at old.read id ≡ None)
    (there : node_at old.read folder.id ≡ Some folder) (is_above : is_folder folder ≡ true)
    (free : child_of old.read folder.id name ≡ None) where
  abbrev new : Node
  new = node_of id (child_node caller kind folder name)

  -- the rows with the object and its bytes
  abbrev pub added : Content
  added =
      record old.read {
        nodes = put_node new old.read.nodes;
        bodies = bodies_then kind id bytes old.read.bodies;
      }

  pub added_sound : is_object_name name ≡ true
      → (is_document kind ≡ true → nat_le (length bytes) 1048576 ≡ true)
      → AreSound (with_content old added)
  added_sound named few =
      sound_added old are were new folder
      (bodies_then kind id bytes old.read.bodies) unused there is_above refl free named
      (child_sound caller kind folder name id is_above (lists_here old were folder there))
      (or_right (not (is_linked new.dacl (Some folder.dacl))) _
      (entries_themselves (pass kind (full_of folder.dacl))))
      (or_right (not (is_linked new.sacl (Some folder.sacl))) _
      (entries_themselves (pass kind (full_of folder.sacl))))
      (λ n found. same_bytes kind id bytes old.read n.id
      (λ same. absurd (none-some n (sym unused ∙ ap (node_at old.read) (sym same) ∙ found))))
      (new_fits kind id bytes old.read (no_bytes_unused old are were id unused) few)

  -- the object as the rows mean it
  new_means : (q : List (List ℕ))
      → kept_node added new ≡ new_node id caller kind (stored_site q folder) name
  new_means q =
      ap (λ o. kept_under o new)
      (above_new old are were new folder
      (bodies_then kind id bytes old.read.bodies) unused there is_above refl free)
      ∙ ap
      (λ h. record new {
        dacl = h;
        sacl = kept_held folder.sacl.flags.auto
            (passed_held kind folder.sacl);
      }) (kept_new folder.dacl.flags.auto kind folder.dacl)
      ∙ ap
      (λ h. record new {
        dacl = (new_node id caller kind (stored_site q folder) name).dacl;
        sacl = h;
      }) (kept_new folder.sacl.flags.auto kind folder.sacl)

  others_mean : map (kept_node added) old.read.nodes ≡ map (kept_node old.read) old.read.nodes
  others_mean = map_agree (kept_node added) (kept_node old.read) old.read.nodes
      (each_there (λ n. kept_node added n ≡ kept_node old.read n) old.read.nodes
      (apart_rising 0 old.read.nodes are.numbers)
      (λ n found.
      cc (above_old old are were new folder (bodies_then kind id bytes old.read.bodies) unused
      there is_above refl free n found)))

  pub added_means : (q : List (List ℕ))
      → meaning added
      ≡ record (meaning old.read) {
        nodes = put_node
            (new_node id caller kind (stored_site q folder) name) (meaning old.read).nodes;
        bodies =
            bodies_then kind id bytes old.read.bodies;
      }
  added_means q = search (map_put, new_means, others_mean)
