-- Worked rows of nodes that can't be read as an object.
use Rattle.std.proofs.Common.{◌≡◌, pos, List, [], ◌∷◌, codes, Some, None, ℕ, refl}
use Rattle.sqlite.specs.{declared.types.Value.TheVariants.{Null, Int, Text}, Order.Row}
use Rattle.room_entry.specs.{Bits.all_bits, Letters.mask_letters, Names.is_name}
use Rattle.room_entry.specs.declared.object.ObjKind.TheVariants.{Document}
use Rattle.room_rows.specs.Rows.{Stored, Nothing, Whole}
use Rattle.store_tables.specs.Meaning.{unread_in}

-- row 3, a document below row 1 by the name `a`, with this kind and this owner
abbrev document : ℕ → List ℕ → Row
document kind owner =
    Int (pos 3) ∷ Null ∷ Int (pos 1) ∷ Text (codes "a") ∷ Int (pos kind) ∷ Text owner
    ∷ Text (codes "sales") ∷ Int (pos 0) ∷ Int (pos 0) ∷ Text [] ∷ Text [] ∷ Text [] ∷ Text [] ∷ []

it_can_be_read : unread_in (document 0 (codes "bob")) ≡ None
unfolding all_bits mask_letters is_name
it_can_be_read = refl

-- an owner that is no name: the name and the kind can still be read
without_owner : unread_in (document 0 []) ≡ Some (record {
  id = 3;
  parent = Some 1;
  named = Some (codes "a", Document);
  values = Whole (pos 3) ∷ Nothing ∷ Whole (pos 1) ∷ Stored.Text (codes "a") ∷ Whole (pos 0)
      ∷ Stored.Text [] ∷ Stored.Text (codes "sales") ∷ Whole (pos 0) ∷ Whole (pos 0)
      ∷ Stored.Text [] ∷ Stored.Text [] ∷ Stored.Text [] ∷ Stored.Text [] ∷ [];
})
unfolding all_bits mask_letters is_name
without_owner = refl

-- a kind that is none: neither can
without_kind : unread_in (document 7 (codes "bob")) ≡ Some (record {
  id = 3;
  parent = Some 1;
  named = None;
  values = Whole (pos 3) ∷ Nothing ∷ Whole (pos 1) ∷ Stored.Text (codes "a") ∷ Whole (pos 7)
      ∷ Stored.Text (codes "bob") ∷ Stored.Text (codes "sales") ∷ Whole (pos 0) ∷ Whole (pos 0)
      ∷ Stored.Text [] ∷ Stored.Text [] ∷ Stored.Text [] ∷ Stored.Text [] ∷ [];
})
unfolding all_bits mask_letters is_name
without_kind = refl
