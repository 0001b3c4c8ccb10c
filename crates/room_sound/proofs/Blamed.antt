-- What is blamed for a fault, and that sound rows have none of it.
use Rattle.std.proofs.Common.{◌≡◌, ℕ, Bool, true, false, cond, List, Option, Some, None, ap, subst}
use Rattle.std.proofs.{Common.{◌∙◌, inl, inr}, lemmas.Bool.false≢true}
use Rattle.std.specs.{Prelude.{is_none, nat_le, length, ◌==◌}, Option.option_map_or}
use Rattle.room_entry.specs.Valid.{is_document}
use Rattle.room_rows.specs.{declared.node.{Node.Node, AuditRow.AuditRow}, Content.body_of}
use Rattle.room_rows.specs.{Content.node_at, Keep.{HasNoRoot, IsDamaged, IsUnreadable}, Rows.Rows}
use Rattle.room_rows.specs.Sound.{AreSound, has_sound_body}
use Rattle.room_judge.specs.Judged.{with_notes}
use Rattle.room_sound.proofs.SoundParts.{passes_test, rootless_unsound, sound_parts}

pub rootless_damaged : (old mid : Rows) (row : ℕ) → mid ≡ old → HasNoRoot mid row
    → IsDamaged old row
rootless_damaged old mid row same h = inl (subst (λ (r : Rows). HasNoRoot r row) same h)

pub unread_damaged : (old mid : Rows) (row : ℕ) → mid ≡ old → IsUnreadable mid row
    → IsDamaged old row
unread_damaged old mid row same h = inl (inl (subst (λ (r : Rows). IsUnreadable r row) same h))

pub damaged_before : (old mid : Rows) (row : ℕ) → mid ≡ old → IsDamaged mid row → IsDamaged old row
damaged_before old mid row same h = subst (λ (r : Rows). IsDamaged r row) same h

pub noted_unread : (old mid : Rows) (records : List AuditRow) (row : ℕ)
    → mid ≡ with_notes old records
    → IsUnreadable mid row → IsDamaged old row
noted_unread old mid records row same h =
    inl (inl (subst (λ (r : Rows). IsUnreadable r row) same h))

-- sound rows have nothing to blame
pub sound_undamaged : (rows : Rows) (row : ℕ) → AreSound rows → IsDamaged rows row → ⊥
sound_undamaged rows row sound (inl rootless) = rootless_unsound rows row rootless sound
sound_undamaged rows row sound (inr lacks) =
    let fits : has_sound_body rows.read lacks.0 ≡ true = passes_test (has_sound_body rows.read)
    (λ n. n.id == row) rows.read.nodes lacks.0 (sound_parts rows sound).bodies lacks.1 in
    wrong (is_document lacks.0.kind) (body_of rows.read lacks.0.id) lacks.2
    (ap (body_of rows.read) (number rows row lacks.0 lacks.1) ∙ lacks.3) fits
  where
    number : (r : Rows) (id : ℕ) (node : Node) → node_at r.read id ≡ Some node → node.id ≡ id
    number r id node found = Rattle.room_rows.proofs.Frames.node_at-number r.read id node found

    wrong : (t : Bool) (o : Option (List ℕ)) → t ≡ true → o ≡ None
        → cond t (option_map_or (λ bytes. nat_le (length bytes) 1048576) o false) (is_none o) ≡ true
        → ⊥
    wrong true None is none fits = false≢true fits
    wrong true (Some x) is none fits = let no : ⊥ = cc in no
    wrong false o is none fits = false≢true is
