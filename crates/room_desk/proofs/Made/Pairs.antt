-- The object at a path, and the folder of the path's last name.
use Rattle.std.proofs.Common.{◌≡◌, ℕ, List, [], ◌∷◌, ◌++◌, Some, arith}
use Rattle.room_rows.specs.{declared.node.Node.Node, Content.{Content, child_of}}
use Rattle.room_rows.proofs.Frames.{child_of-parent}
use Rattle.room_machine.specs.{Site.{Site, site_at, parent_at, last_name}, Stored.stored_from}
use Rattle.room_machine.specs.Stored.{stored_along}

-- The object at the end of the names stands in the folder by the last name.
child_from : (content : Content) (names path : List (List ℕ)) (node : Node) (folder target : Site)
    → parent_at (stored_from content path node names) names ≡ Some folder
    → site_at (stored_from content path node names) names ≡ Some target
    → child_of content folder.node.id (last_name names) ≡ Some target.node
child_from content [] path node folder target above at = absurd (let wrong : ⊥ = cc in wrong)
child_from content (name ∷ []) path node folder target above at = grind arith
child_from content (name ∷ next ∷ names) path node folder target above at =
    let below = λ (child : Node).
    child_from content (next ∷ names) (path ++ name ∷ []) child folder target in grind arith

pub child_along : (content : Content) (path : List (List ℕ)) (folder target : Site)
    → parent_at (stored_along content path) path ≡ Some folder
    → site_at (stored_along content path) path ≡ Some target
    → child_of content folder.node.id (last_name path) ≡ Some target.node
child_along content path folder target above at =
    let below = λ (root : Node). child_from content path [] root folder target in grind arith

-- its parent is that folder
pub parent_along : (content : Content) (path : List (List ℕ)) (folder target : Site)
    → parent_at (stored_along content path) path ≡ Some folder
    → site_at (stored_along content path) path ≡ Some target
    → target.node.parent ≡ Some folder.node.id
parent_along content path folder target above at =
    child_of-parent content folder.node.id (last_name path) target.node
    (child_along content path folder target above at)
