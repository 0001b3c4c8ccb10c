-- Who may change nothing at a path can't come to.
use Rattle.std.proofs.Common.{rules, ℕ, suc, ◌≡◌, ◌⊎◌, inl, inr, List, [], ◌∷◌, ◌++◌, Option, Some}
use Rattle.std.proofs.Common.{None, refl, ap, subst, ◌∙◌, take, length, append-nil, arith}
use Rattle.std.proofs.lemmas.{List.take-map, Bool.Decides.nat_tests}
use Rattle.std.specs.{List.AllByRecursion, Option.option_map_or}
use Rattle.room_entry.specs.Rights.{write_acl, write_owner}
use Rattle.room_entry.specs.declared.object.Which.TheVariants.{Dacl, Sacl}
use Rattle.room_rows.specs.{Content.{Content, child_of}, declared.node.Node.Node}
use Rattle.room_machine.specs.{Run.{Event, Asked}, Site.{Site, sites_along, site_below}}
use Rattle.room_machine.specs.declared.request.Request.TheVariants.{Read, List as ListFolder, Put}
use Rattle.room_machine.specs.declared.request.Request.TheVariants.{Append, MakeFolder, Remove}
use Rattle.room_machine.specs.declared.request.Request.TheVariants.{Move, ReadList, SetList}
use Rattle.room_machine.specs.declared.request.Request.TheVariants.{ReadAttr, SetOwners, Can}
use Rattle.room_laws.proofs.{Seen.{sites_from, along_from}, RightsFollow.rights_follow}
use Rattle.room_laws.proofs.WhoChanged.{changed_in_run}
use Rattle.room_laws.specs.WhoChanged.{SameBasis, SameRights, basis, Changes, IsHarmless}
use Rattle.room_laws.specs.WhoChanged.{NothingGained, IsFrom, FirstChange, HasRight, MayRemove}

-- ---- what is above a path

first_from : (content : Content) (site : Site) (names more : List (List ℕ))
    → take (suc (length names)) (sites_from content site (names ++ more))
    ≡ sites_from content site names
first_from content site [] [] = refl
first_from content site [] (x ∷ more) = refl
first_from content site (name ∷ names) more =
    ap (λ (l : List Site). site ∷ l)
    (on (child_of content site.node.id name)
    (λ child. first_from content (site_below site child) names more))
  where
    on : (o : Option Node)
        → ((child : Node)
        → take (suc (length names)) (sites_from content (site_below site child) (names ++ more))
        ≡ sites_from content (site_below site child) names)
        → take (suc (length names))
        (option_map_or (λ child. sites_from content (site_below site child) (names ++ more)) o [])
        ≡ option_map_or (λ child. sites_from content (site_below site child) names) o []
    on None rest = refl
    on (Some child) rest = rest child

first_along : (content : Content) (names more : List (List ℕ))
    → take (suc (length names)) (sites_along content (names ++ more))
    ≡ sites_along content names
first_along content names more = grind (arith, nat_tests, along_from, first_from, sites_from)

standing_first : (content : Content) (names more : List (List ℕ))
    → take (suc (length names)) (basis content (names ++ more)) ≡ basis content names
standing_first content names more = search (first_along, take-map)

-- what is the same at a path is the same above it
pub standing_above : (at path : List (List ℕ)) (a b : Content) → IsFrom at path
    → SameBasis path a b → SameBasis at a b
standing_above at path a b (rest, is) same = grind (arith, nat_tests, standing_first)

-- ---- harmless events

had : (at path : List (List ℕ)) (a b : Content) (user : Option (List ℕ)) (right : ℕ)
    → IsFrom at path → SameBasis path a b → HasRight b user at right → HasRight a user at right
had at path a b user right from same it =
    cc ((rights_follow at a b (standing_above at path a b from same)).rights user, it)

might : (at path : List (List ℕ)) (a b : Content) (user : Option (List ℕ))
    → IsFrom at path → SameBasis path a b → MayRemove b user at → MayRemove a user at
might at path a b user from same it =
    (rights_follow at a b (standing_above at path a b from same)).removal user ∙ it

no_change : (path : List (List ℕ)) (a b : Content) (event : Event) → SameBasis path a b
    → IsHarmless path a event → Changes path b event → ⊥
no_change path a b (Asked user moment (SetList at Dacl sent) reply) same harmless (from, it, done) =
    (harmless at from).0 (had at path a b user write_acl from same it)
no_change path a b (Asked user moment (SetList at Sacl sent) reply) same harmless is = is
no_change path a b (Asked user moment (SetOwners at owners) reply) same harmless (from, it, done) =
    (harmless at from).1 (had at path a b user write_owner from same it)
no_change path a b (Asked user moment (Remove at) reply) same harmless (is, it, done) =
    search (rules, is, append-nil, harmless, might, a, b, same, it)
no_change path a b (Asked user moment (Move at to) reply) same harmless (from, it, place, done) =
    (harmless at from).2 (might at path a b user from same it)
no_change path a b (Asked user moment (Read at) reply) same harmless is = is
no_change path a b (Asked user moment (ListFolder at) reply) same harmless is = is
no_change path a b (Asked user moment (Put at bytes) reply) same harmless is = is
no_change path a b (Asked user moment (Append at bytes) reply) same harmless is = is
no_change path a b (Asked user moment (MakeFolder at) reply) same harmless is = is
no_change path a b (Asked user moment (ReadList at which) reply) same harmless is = is
no_change path a b (Asked user moment (ReadAttr at) reply) same harmless is = is
no_change path a b (Asked user moment (Can at mask) reply) same harmless is = is
no_change path a b _ same harmless is = harmless

pub one_of : {X : Type 0} (P : X → Type 0) (earlier later : List X) (x : X)
    → AllByRecursion P (earlier ++ x ∷ later) → P x
one_of P [] later x all = all.0
one_of P (y ∷ earlier) later x all = one_of P earlier later x all.1

pub nothing_gained : NothingGained
nothing_gained path start events after numbered tidy there run all =
    on (changed_in_run path start events after numbered tidy there run)
  where
    on : SameBasis path start after ⊎ FirstChange path start events
        → SameBasis path start after × SameRights path start after
    on (inl same) = (same, rights_follow path start after same)
    on (inr (earlier, later, event, mid, is, to, stood, changes)) =
        absurd (no_change path start mid event stood
        (one_of (IsHarmless path start) earlier later event
        (subst (AllByRecursion (IsHarmless path start)) is all)) changes)
