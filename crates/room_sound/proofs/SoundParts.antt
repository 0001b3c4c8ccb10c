-- Sound rows, test by test.
use Rattle.std.proofs.Common.{◌≡◌, ℕ, zero, suc, Bool, true, false, cond, not, List, [], ◌∷◌, map}
use Rattle.std.proofs.Common.{filter, length, Option, Some, None, refl, sym, ap, ◌∙◌, inl, inr}
use Rattle.std.proofs.{Common.arith, lemmas.Bool.{eq-eqb, or_left, Decides.nat_tests}}
use Rattle.std.specs.{Prelude.is_none, List.{AllByRecursion, find}, Option.option_map_or}
use Rattle.room_entry.specs.Pieces.{is_among}
use Rattle.room_rows.specs.{declared.node.{AuditRow.AuditRow, Node.Node}, Content.Content}
use Rattle.room_rows.specs.Content.{node_at, is_root, has_folder_above, reaches_root, with_records}
use Rattle.room_rows.specs.{Keep.{HasNoRoot, IsUnreadable}, Rows.{Rows, Unread, put_number}}
use Rattle.room_rows.specs.{Rows.unread_numbers, Sound.{AreSound, first_bad_list, bad_root}}
use Rattle.room_rows.specs.Sound.{first_failing, reaches, has_sound_name, has_sound_body, keeps_law}
use Rattle.room_judge.specs.Judged.{NotSound, with_notes}
use Rattle.room_inherit.proofs.NoFault.{all_pass, no_fault, none_bad, none_fails, sound, unbad}
use Rattle.room_inherit.proofs.Whole.{all_read}

-- No test finds a fault.
pub record SoundParts (rows : Rows) : Type 0 where
  pub lists : first_bad_list rows ≡ None
  pub root : bad_root (filter is_root rows.read.nodes) ≡ None
  pub parents : first_failing (has_folder_above rows.read) rows.read ≡ None
  pub reached : first_failing (reaches rows.read) rows.read ≡ None
  pub names : first_failing (has_sound_name rows.read) rows.read ≡ None
  pub bodies : first_failing (has_sound_body rows.read) rows.read ≡ None
  pub law : first_failing (keeps_law rows.read) rows.read ≡ None

module _ (rows : Rows) where
  pub sound_parts : AreSound rows → SoundParts rows
  sound_parts is = grind (arith, nat_tests, no_fault, none_bad, none_fails)

  pub parts_sound : SoundParts rows → AreSound rows
  parts_sound parts = grind (arith, nat_tests, all_pass, sound, unbad)

-- ---- of use in what follows

pub map_same : (f g : Node → Node) (P : Node → Type 0) → ((n : Node) → P n → f n ≡ g n)
    → (nodes : List Node) → AllByRecursion P nodes → map f nodes ≡ map g nodes
map_same f g P same [] each = refl
map_same f g P same (x ∷ xs) each = λ i. same x each.0 i ∷ map_same f g P same xs each.1 i

-- ---- records leave rows sound

pub find_same : {X : Type 0} (p q : X → Bool) → ((x : X) → p x ≡ q x) → (xs : List X)
    → find p xs ≡ find q xs
find_same p q same [] = refl
find_same p q same (x ∷ xs) = grind (arith, nat_tests, find_same p q same xs)

reaches_noted : (content : Content) (records : List AuditRow) (n : ℕ) (parent : Option ℕ)
    → reaches_root n (with_records content records) parent ≡ reaches_root n content parent
reaches_noted content records n None = refl
reaches_noted content records zero (Some id) = refl
reaches_noted content records (suc n) (Some id) =
    on (node_at content id) (λ above. reaches_noted content records n above.parent)
  where
    on : (o : Option Node)
        → ((above : Node) → reaches_root n (with_records content records) above.parent
        ≡ reaches_root n content above.parent)
        → option_map_or (λ above. reaches_root n (with_records content records) above.parent) o
        false ≡ option_map_or (λ above. reaches_root n content above.parent) o false
    on None same = refl
    on (Some above) same = same above

pub sound_noted : (rows : Rows) (records : List AuditRow) → AreSound rows
    → AreSound (with_notes rows records)
sound_noted rows records sound =
    let parts = sound_parts rows sound in
    parts_sound (with_notes rows records) (record {
      lists = parts.lists;
      root = parts.root;
      parents = parts.parents;
      reached =
          find_same (λ node. not (reaches (with_records rows.read records) node))
          (λ node. not (reaches rows.read node))
          (λ (node : Node). ap not (reaches_noted rows.read records
          (length rows.read.nodes) node.parent)) rows.read.nodes ∙ parts.reached;
      names = parts.names;
      bodies = parts.bodies;
      law = parts.law;
    })

-- ---- what the tests say

-- each object that is found passes
pub passes_test : (test found : Node → Bool) (nodes : List Node) (node : Node)
    → find (λ n. not (test n)) nodes ≡ None → find found nodes ≡ Some node → test node ≡ true
passes_test test found [] node none is = absurd (let wrong : ⊥ = cc in wrong)
passes_test test found (x ∷ xs) node none is =
    grind (arith, nat_tests, passes_test test found xs node)

-- the root is there
pub root_there : (nodes : List Node) → bad_root (filter is_root nodes) ≡ None → (root : Node)
    × (find (λ node. is_none node.parent) nodes ≡ Some root)
root_there [] is = absurd (let wrong : ⊥ = cc in wrong)
root_there (x ∷ xs) is = on (is_none x.parent) (root_there xs) is
  where
    on : (t : Bool) → (bad_root (filter is_root xs) ≡ None → (root : Node)
        × (find (λ node. is_none node.parent) xs ≡ Some root))
        → bad_root (cond t (x ∷ filter is_root xs) (filter is_root xs)) ≡ None → (root : Node)
        × (cond t (Some x) (find (λ node. is_none node.parent) xs) ≡ Some root)
    on true rest is = (x, refl)
    on false rest is = rest is

-- ---- each row can be read

listed : (new : ℕ) (ids : List ℕ) → is_among (put_number new ids) new ≡ true
listed new [] = or_left _ _ (eq-eqb new new refl)
listed new (x ∷ xs) = grind (arith, nat_tests, listed new xs)

pub none_unreadable : (rows : Rows) → SoundParts rows → rows.unreadable ≡ []
none_unreadable rows parts = all_read rows rows.unreadable refl parts.lists

-- then no number is one of a row that can't be read
pub none_numbered : (rows : Rows) → rows.unreadable ≡ [] → unread_numbers rows ≡ []
none_numbered rows none = ap (map (λ (row : Unread). row.id)) none

-- ---- no row of sound rows is blamed

pub readable_unsound : (rows : Rows) (row : ℕ) → IsUnreadable rows row → NotSound rows row
readable_unsound rows row unreadable sound =
    grind (arith, nat_tests, none_numbered, none_unreadable, sound, sound_parts)

pub rootless_unsound : (rows : Rows) (row : ℕ) → HasNoRoot rows row → NotSound rows row
rootless_unsound rows row (inl unreadable) sound = readable_unsound rows row unreadable sound
rootless_unsound rows row (inr none) sound = let there =
    root_there rows.read.nodes (sound_parts rows sound).root in
    absurd (let wrong : None ≡ Some there.0 = sym none.1 ∙ there.1 in let no : ⊥ = cc in no)
