-- What becomes of the rows where an object is made.
use Rattle.std.proofs.Common.{rules, ◌≡◌, ℕ, true, List, length, Option, Some, None, sym, ap, subst}
use Rattle.std.proofs.{Common.{◌∙◌, arith}, lemmas.Bool.Decides.nat_tests}
use Rattle.std.specs.{Prelude.{is_none, nat_le}, Option.option_map}
use Rattle.room_entry.specs.{Valid.is_document, declared.object.ObjKind.ObjKind}
use Rattle.room_entry.specs.declared.object.ObjKind.TheVariants.{Document, Folder}
use Rattle.room_entry.specs.declared.parties.Caller.{Caller}
use Rattle.room_rows.specs.declared.node.{AuditRow.AuditRow, Node.Node}
use Rattle.room_rows.specs.Content.{Content, node_at, child_of, is_folder, put_node, with_records}
use Rattle.room_rows.specs.{Keep.{Addition, IsAdded, node_of, with_content, with_new}, Rows.Rows}
use Rattle.room_rows.specs.{Meaning.meaning, Paths.is_object_name, Rows.AreRows, Sound.AreSound}
use Rattle.room_rows.proofs.InPlace.{keeps_places, node_at-with_each}
use Rattle.room_machine.specs.{Effect.new_node, Changed.{AddsNew, new_child}, Step.IsFree}
use Rattle.room_machine.specs.Stored.{stored_site}
use Rattle.room_judge.specs.Judged.{with_notes}
use Rattle.room_desk.specs.Made.{IsMade}
use Rattle.room_desk.proofs.Made.NewObject.{added, added_means, added_sound, bodies_then}
use Rattle.room_sound.proofs.SoundParts.{sound_noted}

new_rows : (content : Content) (id : ℕ) (kind : ObjKind) (new : Addition) → new.node.kind ≡ kind
    → with_new content id new
    ≡ record content {
      nodes = put_node (node_of id new.node) content.nodes;
      bodies = bodies_then kind id new.bytes content.bodies;
    }
new_rows content id Document new is = grind (arith, nat_tests, bodies_then)
new_rows content id Folder new is = grind (arith, nat_tests, bodies_then)

pub new_audits : (content : Content) (id : ℕ) (new : Addition)
    → (with_new content id new).audits ≡ content.audits
new_audits content id new = grind (arith, nat_tests)

-- it comes beside records that were added
new_noted : (content : Content) (id : ℕ) (new : Addition) (records : List AuditRow)
    → with_new (with_records content records) id new
    ≡ with_records (with_new content id new) records
new_noted content id new records = grind (arith, nat_tests)

-- An object is made by this name, and the records come after the others.
pub record AddsNoted (node : Addition) (old : Rows) (records : List AuditRow) (new : Rows)
    : Type 0 where
  pub next : Content
  pub audits : next.audits ≡ old.read.audits
  pub becomes : new ≡ with_notes (with_content old next) records
  pub adds : AddsNew node old next

noted_adds : (node : Addition) (old new : Rows) (records : List AuditRow) (id : ℕ)
    → IsAdded node (with_notes old records) id new → AddsNoted node old records new
noted_adds node old new records id added = grind (arith, nat_tests, added, new_audits, new_noted)

pub made_adds : (caller : Caller) (kind : ObjKind) (folder : Node) (name last bytes : List ℕ)
    (old mid new : Rows) (records : List AuditRow) → node_at old.read folder.id ≡ Some folder
    → is_folder folder ≡ true → child_of old.read folder.id name ≡ None → name ≡ last
    → mid ≡ with_notes old records
    → IsMade (new_child caller kind folder name bytes) mid new
    → AddsNoted (new_child caller kind folder last bytes) old records new
made_adds caller kind folder name last bytes old mid new records there is_above absent same notes
    made = grind (arith, nat_tests, noted_adds)

none_mapped : (o : Option Node) (f : Node → Node) → o ≡ None → is_none (option_map f o) ≡ true
none_mapped o f is = ap (λ p. is_none (option_map f p)) is

module _ (old : Rows) (are : AreRows old) (were : AreSound old) (caller : Caller) (kind : ObjKind)
    (folder : Node) (name bytes : List ℕ)
    (there : node_at old.read folder.id ≡ Some folder) (is_above : is_folder folder ≡ true)
    (absent : child_of old.read folder.id name ≡ None) where
  -- The new number was free, and the rows mean what they meant, with the object and its bytes.
  pub record IsNew (records : List AuditRow) (q : List (List ℕ)) (new : Rows) : Type 0 where
    pub id : ℕ
    pub free : IsFree (meaning old.read) id
    pub means : meaning new.read
        ≡ with_records
        (record (meaning old.read) {
          nodes = put_node
              (new_node id caller kind (stored_site q folder) name) (meaning old.read).nodes;
          bodies =
              bodies_then kind id bytes old.read.bodies;
        }) records
    pub sound : AreSound new

  is_added : (records : List AuditRow) (q : List (List ℕ)) (id : ℕ) (new : Rows)
      → is_object_name name ≡ true
      → (is_document kind ≡ true → nat_le (length bytes) 1048576 ≡ true)
      → IsAdded (new_child caller kind folder name bytes) (with_notes old records) id new
      → IsNew records q new
  is_added records q id new named few adds =
      let becomes : new
      ≡ with_notes
      (with_content old
      (added old are were caller kind folder name bytes id adds.is_new there is_above absent))
      records = grind (arith, nat_tests, new_rows) in
      record {
        id = id;
        free = search (keeps_places, node_at-with_each, none_mapped);
        means =
            ap (λ (r : Rows). meaning r.read) becomes
            ∙ ap (λ (c : Content). with_records c records)
            (search (rules, added_means, adds.is_new));
        sound = subst AreSound (sym becomes)
            (search (added, added_sound, sound_noted));
      }

  pub made_new : (records : List AuditRow) (q : List (List ℕ)) (mid new : Rows)
      → mid ≡ with_notes old records → is_object_name name ≡ true
      → (is_document kind ≡ true → nat_le (length bytes) 1048576 ≡ true)
      → IsMade (new_child caller kind folder name bytes) mid new → IsNew records q new
  made_new records q mid new notes named few made = grind (arith, nat_tests, is_added)
