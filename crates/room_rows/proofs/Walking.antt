-- Steps of a walk.
use Rattle.std.proofs.Common.{arith, ◌≡◌, ℕ, ◌<◌, ◌-◌, ◌+◌, List, [], ◌∷◌, ◌++◌, length, Some, None}
use Rattle.std.proofs.Common.{drop, get_or, refl, append_assoc, drop-cons, add-one, length-drop}
use Rattle.room_rows.specs.{declared.node.Node.Node, Content.{Content, child_of}, Along.after_chain}
use Rattle.room_rows.specs.Walk.{walk_from, behind}

pub next_name : (names : List (List ℕ)) (i : ℕ) (name : List ℕ) → i < length names
    → name ≡ get_or names i name → drop i names ≡ name ∷ drop (i + 1) names
next_name names i name below is = cc (drop-cons names i name below, is, add-one i)

pub none_further : (content : Content) (node : Node) (name : List ℕ) (names : List (List ℕ))
    → child_of content node.id name ≡ None
    → walk_from content node (name ∷ names)
    ≡ record { chain = node ∷ []; rest = length (name ∷ names) }
none_further content node name names none = rw none refl

pub one_further : (content : Content) (node next : Node) (name : List ℕ) (names : List (List ℕ))
    → child_of content node.id name ≡ Some next
    → walk_from content node (name ∷ names) ≡ behind node (walk_from content next names)
one_further content node next name names is = rw is refl

-- no child of the next name
pub walk_ends : (content : Content) (node : Node) (chain : List Node) (names : List (List ℕ))
    (i : ℕ) (name : List ℕ) → i < length names → name ≡ get_or names i name
    → child_of content node.id name ≡ None
    → after_chain chain (walk_from content node (drop i names))
    ≡ record { chain = chain ++ node ∷ []; rest = length names - i }
walk_ends content node chain names i name below is none =
    grind (arith, next_name, below, is, none_further, content, node, none, length-drop)

-- a child of the next name
pub walk_goes_on : (content : Content) (node next : Node) (chain : List Node)
    (names : List (List ℕ)) (i : ℕ) (name : List ℕ) → i < length names → name ≡ get_or names i name
    → child_of content node.id name ≡ Some next
    → after_chain chain (walk_from content node (drop i names))
    ≡ after_chain (chain ++ node ∷ []) (walk_from content next (drop (i + 1) names))
walk_goes_on content node next chain names i name below is found =
    grind (arith, next_name, below, is, one_further, content, node, next, found, append_assoc)
