-- Laws of a review: what a row says is what the room would answer.
use Rattle.std.specs.Prelude.{◌≡◌, ℕ, ℤ, ◌||◌, Bool, true, false, not, List, [], Option, Some}
use Rattle.std.specs.Prelude.{IsTrue, if◌then◌else◌, ◌∷◌, ◌++◌, codes, length, map, take}
use Rattle.std.specs.List.{flat_map, list_all, list_any, AllByRecursion as Each}
use Rattle.room_entry.specs.Bits.{all_bits}
use Rattle.room_entry.specs.Pieces.{same_text}
use Rattle.room_entry.specs.declared.entry.Who.{Who}
use Rattle.room_entry.specs.declared.entry.Who.TheVariants.{Owner, Group, Everyone, Anonymous}
use Rattle.room_entry.specs.declared.entry.Who.TheVariants.{Authenticated, User, Members}
use Rattle.room_entry.specs.declared.object.Which.TheVariants.{Dacl}
use Rattle.room_entry.specs.declared.parties.Caller.{Caller}
use Rattle.room_eval.specs.Verdict.{is_allowed}
use Rattle.room_rows.specs.declared.node.Node.{Node}
use Rattle.room_rows.specs.Content.{Content, is_folder}
use Rattle.room_rows.specs.Held.{full_of}
use Rattle.room_rows.specs.Meaning.{meaning}
use Rattle.room_rows.specs.Rows.{AreRows, Rows, numbers_of}
use Rattle.room_rows.specs.Sound.{AreSound}
use Rattle.room_dump.specs.Dump.{tree_of}
use Rattle.room_machine.specs.declared.reply.Reason.{Reason}
use Rattle.room_machine.specs.declared.reply.Reason.TheVariants.{NotEmpty}
use Rattle.room_machine.specs.declared.reply.Reply.{Reply}
use Rattle.room_machine.specs.declared.reply.Reply.TheVariants.{Rulings}
use Rattle.room_machine.specs.declared.reply.Reply.TheVariants.{Done, Denied, Refused}
use Rattle.room_machine.specs.declared.request.Request.{Request}
use Rattle.room_machine.specs.declared.request.Request.TheVariants.{Can, Remove}
use Rattle.room_machine.specs.Site.{Site, full_at, site_at, sites_along}
use Rattle.room_machine.specs.Step.{Step, caller_in}
use Rattle.room_machine.specs.Stored.{stored_along}
use Rattle.room_review.specs.declared.parties.Party.{Party}
use Rattle.room_machine.specs.Rights.{may_remove_at, reaches_at, rights_at, sites_above}
use Rattle.room_review.specs.Standing.{granted}
use Rattle.room_review.specs.Table.{AreAll, Place, place_below, place_of, site_of, users_of}
use Rattle.room_review.specs.Users.{is_listed}

-- ---- what replies say of rights

-- the bits that a reply to `Can` calls allowed
abbrev pub allowed_in : Reply → List ℕ
allowed_in (Rulings pairs) = flat_map (λ pair. if is_allowed pair.1 then pair.0 else []) pairs
allowed_in _ = []

abbrev pub is_rulings : Reply → Bool
is_rulings (Rulings pairs) = true
is_rulings _ = false

abbrev pub is_denial : Reply → Bool
is_denial (Denied path bits place entry) = true
is_denial _ = false

abbrev pub is_not_empty : Reason → Bool
is_not_empty NotEmpty = true
is_not_empty _ = false

-- The reply to a `Remove` that passed its rights: it is done, or refused since the folder has
-- children, which is looked at after the rights.
abbrev pub passed_rights : Reply → Bool
passed_rights Done = true
passed_rights (Refused path why) = is_not_empty why
passed_rights _ = false

-- ---- the laws

-- The rights of a row are exactly those that the reply to `Can` on all bits calls allowed. There
-- are rulings exactly where the row's caller comes to the object. Where it doesn't, and all that
-- lies before the object are folders, as in every content, the reply is a denial.
abbrev pub SaysCan : Type 0
SaysCan =
    (content : Content) (user : Option (List ℕ)) (moment : ℤ) (path : List (List ℕ))
    (target : Site) (reply : Reply) (after : Content) →
    site_at (sites_along content path) path ≡ Some target →
    Step content user moment (Can path all_bits) reply after →
    (rights_at content user path ≡ allowed_in reply)
    × (reaches_at content user path ≡ is_rulings reply)
    × (IsTrue (list_all (λ site. is_folder site.node) (sites_above content path))
    → not (reaches_at content user path) ≡ is_denial reply)

-- `remove` is yes exactly where the reply to `Remove` is one that passed its rights.
abbrev pub SaysRemove : Type 0
SaysRemove =
    (content : Content) (user : Option (List ℕ)) (moment : ℤ) (path : List (List ℕ))
    (target : Site) (reply : Reply) (after : Content) →
    site_at (sites_along content path) path ≡ Some target →
    Step content user moment (Remove path) reply after →
    may_remove_at content user path ≡ passed_rights reply

-- ---- strangers

abbrev pub is_user_named : List ℕ → Who → Bool
is_user_named name Owner = false
is_user_named name Group = false
is_user_named name Everyone = false
is_user_named name Anonymous = false
is_user_named name Authenticated = false
is_user_named name (User other) = same_text name other
is_user_named name (Members group) = false

-- the name owns the object, or an entry of its dacl names it
abbrev pub is_known_at : List ℕ → Site → Bool
is_known_at name site =
    same_text name site.node.owners.owner
    || list_any (λ entry. is_user_named name entry.who) (full_at Dacl site)

-- the name is in a pair
abbrev pub is_paired : Content → List ℕ → Bool
is_paired content name = list_any (λ pair. same_text pair.1 name) content.members

-- The name is in no pair, owns nothing on the way to the path's object nor that object, and stands
-- in none of their dacls. A name without rows in a table is a stranger to each object of it. One
-- with rows may be a stranger to some of them, since it has rows by what any of them says.
abbrev pub IsStranger : Content → List (List ℕ) → List ℕ → Type 0
IsStranger content path name =
    IsTrue (not (is_paired content name))
    × IsTrue (list_all (λ site. not (is_known_at name site)) (sites_along content path))

-- Two names that are strangers to an object have the same rights at it, and may both remove it or
-- both not.
abbrev pub StrangersAlike : Type 0
StrangersAlike =
    (content : Content) (path : List (List ℕ)) (name other : List ℕ) →
    IsStranger content path name → IsStranger content path other →
    (rights_at content (Some name) path ≡ rights_at content (Some other) path)
    × (may_remove_at content (Some name) path ≡ may_remove_at content (Some other) path)

-- the name owns the object, or an entry of its dacl, own or kept, names it
abbrev pub is_known_to : List ℕ → Node → Bool
is_known_to name node =
    same_text name node.owners.owner
    || list_any (λ entry. is_user_named name entry.who) (full_of node.dacl)

-- The name is in no pair, owns nothing, and stands in no dacl.
abbrev pub IsUnknownIn : Content → List ℕ → Type 0
IsUnknownIn content name =
    IsTrue (not (is_paired content name))
    × IsTrue (list_all (λ node. not (is_known_to name node)) content.nodes)

-- Two names that a content doesn't know get the same reply to each request. What differs is the
-- name in what is created and recorded.
abbrev pub StrangersGetTheSame : Type 0
StrangersGetTheSame =
    (content : Content) (name other : List ℕ) (moment : ℤ) (request : Request)
    (reply another : Reply) (after later : Content) →
    IsUnknownIn content name → IsUnknownIn content other →
    Step content (Some name) moment request reply after →
    Step content (Some other) moment request another later → reply ≡ another

-- ---- the table

-- the objects before the path's, with the lists that are stored
abbrev pub stored_above : Rows → List (List ℕ) → List Site
stored_above rows path = take (length path) (stored_along rows.read path)

-- the objects of a table, each with where it stands, in the order of their rows
abbrev pub told_of : Rows → Place → Node → List (Place × Node)
told_of rows place node =
    tree_of place_below (λ place node. (place, node) ∷ []) (length (numbers_of rows)) rows.read
    place node

-- those of the table of the path's object
abbrev pub told_at : Rows → List (List ℕ) → Site → List (Place × Node)
told_at rows path target = told_of rows (place_of (stored_above rows path) target) target.node

-- what the table says of a caller there, by the stored lists of the objects on the way
abbrev pub told_there : Caller → Place × Node → List ℕ × Bool
told_there caller it = granted caller it.0.above (site_of it.0 it.1)

-- that is what the lists say that are computed from the root, at the path of the object
abbrev pub SaysAt : Rows → Option (List ℕ) → Place × Node → Type 0
SaysAt rows user it =
    told_there (caller_in rows.read user) it
    ≡ (
      rights_at (meaning rows.read) user it.0.path,
      may_remove_at (meaning rows.read) user it.0.path,
    )

-- In sound rows the rows of a table say of each object what `rights_at` and `may_remove_at` say of
-- its path.
abbrev pub TableSaysRights : Type 0
TableSaysRights =
    (rows : Rows) → AreRows rows → AreSound rows → (user : Option (List ℕ)) (path : List (List ℕ))
    (target : Site) → site_at (stored_along rows.read path) path ≡ Some target
    → Each (SaysAt rows user) (told_at rows path target)

-- ---- names without rows

-- the names that have rows in the table of the path's object, with the pairs of the room
abbrev pub users_on : Rows → List (List ℕ) → Site → List (List ℕ)
users_on rows path target = users_of rows rows.read.members (stored_above rows path) target.node

-- A name that has no rows in a table is a stranger to each object of the table. This holds of any
-- keeper's rows, sound or not.
abbrev pub OthersAreStrangers : Type 0
OthersAreStrangers =
    (rows : Rows) (path : List (List ℕ)) (target : Site) (name : List ℕ) →
    site_at (stored_along rows.read path) path ≡ Some target →
    is_listed name (users_on rows path target) ≡ false →
    Each (λ it. IsStranger (meaning rows.read) it.0.path name) (told_at rows path target)

-- what the table says there is the same of two callers
abbrev pub SaysAlike : Caller → Caller → Place × Node → Type 0
SaysAlike caller other it = told_there caller it ≡ told_there other it

-- The callers of a table are its users, then `*`, then nobody. What the table says of `*` at an
-- object, it would say of every name that is none of the users, in any keeper's rows too. In sound
-- rows, `TableSaysRights` says of such a name that this is what it has there.
abbrev pub StarSpeaksForOthers : Type 0
StarSpeaksForOthers =
    (rows : Rows) (path : List (List ℕ)) (target : Site) (users : List Party)
    (star nobody : Party) (name : List ℕ) →
    site_at (stored_along rows.read path) path ≡ Some target →
    AreAll rows (users_on rows path target) (users ++ star ∷ nobody ∷ []) →
    is_listed name (map (λ user. user.label) users) ≡ false →
    (star.label ≡ codes "*")
    × Each (SaysAlike star.caller (caller_in rows.read (Some name))) (told_at rows path target)
