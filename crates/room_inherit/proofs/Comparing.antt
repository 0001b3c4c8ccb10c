-- Lists of entries compared.
use Rattle.std.proofs.Common.{◌≡◌, Bool, true, false, List, refl, sym, ap, ◌∙◌}
use Rattle.room_entry.specs.{Ace.Ace, Same.same_entries}
use Rattle.room_entry.proofs.{Alike.entries_themselves, Same.entries_equal}

-- either of two lists may stand first
pub swapped : (a b : List Ace) → same_entries a b ≡ same_entries b a
swapped a b = on (same_entries a b) (same_entries b a) refl refl
  where
    on : (s t : Bool) → same_entries a b ≡ s → same_entries b a ≡ t → s ≡ t
    on true t is other =
        sym (ap (same_entries b) (entries_equal a b is) ∙ entries_themselves b) ∙ other
    on false true is other =
        sym is ∙ ap (same_entries a) (entries_equal b a other) ∙ entries_themselves a
    on false false is other = refl
