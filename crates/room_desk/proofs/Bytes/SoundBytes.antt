-- Rows stay sound where a document gets other bytes.
use Rattle.std.proofs.Common.{◌≡◌, ℕ, zero, suc, Bool, true, false, cond, not, List, [], ◌∷◌}
use Rattle.std.proofs.Common.{length, Option, Some, None, refl, ap, ◌∙◌, arith}
use Rattle.std.proofs.lemmas.Bool.Decides.{nat_tests}
use Rattle.std.specs.{Prelude.nat_le, List.{find, AllByRecursion}, Option.option_map_or}
use Rattle.room_entry.specs.{Valid.is_document, declared.object.ObjKind.ObjKind}
use Rattle.room_rows.specs.{declared.node.Node.Node, Content.{Content, node_at, reaches_root}}
use Rattle.room_rows.specs.{Content.with_body, Finding.find_id, Keep.with_content, Rows.Rows}
use Rattle.room_rows.specs.{Rows.AreRows, Sound.{AreSound, fits_kind, has_sound_body}}
use Rattle.room_rows.proofs.InPlace.{body_of-with_body, body_of-with_body-other}
use Rattle.room_rows.proofs.Lookups.{each_found}
use Rattle.room_sound.proofs.SoundParts.{sound_parts, parts_sound, find_same}

-- what passes one test passes another
none_fails : (test other : Node → Bool) (P : Node → Type 0)
    → ((node : Node) → P node → test node ≡ true → other node ≡ true) → (nodes : List Node)
    → AllByRecursion P nodes
    → find (λ n. not (test n)) nodes ≡ None → find (λ n. not (other n)) nodes ≡ None
none_fails test other P next [] each none = refl
none_fails test other P next (x ∷ xs) each none =
    grind (arith, nat_tests, none_fails test other P next xs each.1)

reaches_bytes : (content : Content) (id : ℕ) (bytes : List ℕ) (n : ℕ) (parent : Option ℕ)
    → reaches_root n (with_body content id bytes) parent ≡ reaches_root n content parent
reaches_bytes content id bytes n None = refl
reaches_bytes content id bytes zero (Some above) = refl
reaches_bytes content id bytes (suc n) (Some above) =
    on (node_at content above) (λ node. reaches_bytes content id bytes n node.parent)
  where
    on : (o : Option Node)
        → ((node : Node) → reaches_root n (with_body content id bytes) node.parent
        ≡ reaches_root n content node.parent)
        → option_map_or (λ node. reaches_root n (with_body content id bytes) node.parent) o false
        ≡ option_map_or (λ node. reaches_root n content node.parent) o false
    on None same = refl
    on (Some node) same = same node

-- the bytes of a document fit
document_fits : (kind : ObjKind) (bytes : List ℕ) → is_document kind ≡ true
    → nat_le (length bytes) 1048576 ≡ true → fits_kind kind (Some bytes) ≡ true
document_fits kind bytes is few = ap (λ t. cond t (nat_le (length bytes) 1048576) false) is ∙ few

pub sound_bytes : (rows : Rows) (id : ℕ) (node : Node) (bytes : List ℕ) → AreRows rows
    → AreSound rows → node_at rows.read id ≡ Some node → is_document node.kind ≡ true
    → nat_le (length bytes) 1048576 ≡ true
    → AreSound (with_content rows (with_body rows.read id bytes))
sound_bytes rows id node bytes are sound there document few =
    let parts = sound_parts rows sound in
    parts_sound (with_content rows (with_body rows.read id bytes)) (record {
      lists = parts.lists;
      root = parts.root;
      parents = parts.parents;
      reached = search (find_same, reaches_bytes);
      names = parts.names;
      bodies = grind (arith, nat_tests, each_found, none_fails, one);
      law = parts.law;
    })
  where
    one : (n : Node) → find_id n.id rows.read.nodes ≡ Some n → has_sound_body rows.read n ≡ true
        → has_sound_body (with_body rows.read id bytes) n ≡ true
    one n found fits =
        grind (arith, nat_tests, body_of-with_body, body_of-with_body-other, document_fits)
