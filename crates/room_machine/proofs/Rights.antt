-- The folder that an object stands in, and the bits that are kept of a mask.
use Rattle.std.proofs.Common.{◌≡◌, ℕ, Bool, ◌&&◌, List, [], ◌∷◌, length, take, filter, Some, refl}
use Rattle.std.proofs.{Common.arith, lemmas.{Map.Views.any-filter_same, Bool.Decides.nat_tests}}
use Rattle.room_entry.specs.Bits.{has}
use Rattle.room_machine.specs.{Rights.last_of, Site.{Site, front, site_at}}

-- the folder of the path's last name is the last of the objects above
pub folder_is_last : (sites : List Site) (name : List ℕ) (names : List (List ℕ)) (target : Site)
    → site_at sites (name ∷ names) ≡ Some target
    → last_of (take (length (name ∷ names)) sites) ≡ site_at sites (front (name ∷ names))
folder_is_last [] name names target found = absurd (let wrong : ⊥ = cc in wrong)
folder_is_last (site ∷ sites) name [] target found = refl
folder_is_last (site ∷ []) name (next ∷ names) target found =
    absurd (let wrong : ⊥ = cc in wrong)
folder_is_last (site ∷ other ∷ sites) name (next ∷ names) target found =
    folder_is_last (other ∷ sites) next names target found

-- what a kept part of a mask has
pub has_kept : (test : ℕ → Bool) (mask : List ℕ) (bit : ℕ)
    → has (filter test mask) bit ≡ (test bit && has mask bit)
has_kept test mask bit = grind (arith, nat_tests, any-filter_same)
