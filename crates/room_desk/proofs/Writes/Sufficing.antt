-- How many writes suffice for the calls of requests.
use Rattle.std.proofs.Common.{rules, ◌≡◌, ◌∙◌, ℕ, ◌+◌, ◌≤◌, not, false, true, [], ◌∷◌, List, Option}
use Rattle.std.proofs.Common.{Some, None, length, refl, sym, ap, arith}
use Rattle.std.{proofs.lemmas.Bool.Decides.nat_tests, specs.Prelude.{zero, suc, is_none, is_some}}
use Rattle.std.specs.Option.{option_map_or}
use Rattle.room_entry.specs.{Ace.Ace, Same.same_entries, Valid.is_document}
use Rattle.room_entry.specs.declared.object.Which.{Which, TheVariants.{Dacl, Sacl}}
use Rattle.room_rows.specs.{declared.node.Node.Node, Content.{node_at, reaches_root}, Keep.Addition}
use Rattle.room_rows.specs.Keep.{Adds, CanAdd, Changes, IsDocumentAt, SetsBody, with_inh}
use Rattle.room_rows.specs.{HeldList.Held, Held.held_of, Rows.{Rows, AreRows}}
use Rattle.room_rows.proofs.InPlace.{held_of-with_inh, place-with_inh}
use Rattle.room_machine.specs.{Plan.{Check, no_folder}, Site.{Site, site_at}, Stored.stored_along}
use Rattle.room_machine.specs.Stored.{stored_site}
use Rattle.room_judge.specs.{Extent.unrecorded, Judged.IsJudged, Spot.{IsPaired, pair_of}}
use Rattle.room_judge.{specs.declared.{arrival.Found.Found, asker.Asker.Asker}, proofs.UpTo.Share}
use Rattle.room_desk.specs.{Carrying.{IsCarriedDown, IsRooted, StandsRooted}, Counted.EachList}
use Rattle.room_desk.specs.Counted.{OneAndBoth, OneAndEach, OneWrite, Provided, changed_lists}
use Rattle.room_desk.specs.{Made.IsNameOf, Moving.StandsListed, Removed.RemovableIfEmpty}
use Rattle.room_desk.proofs.Made.{FolderFound.IsFoundFolder, NewStep.new_audits}
use Rattle.room_desk.proofs.{Made.PutMade.is_none_none, Moves.MovingFacts.below_parent}
use Rattle.room_desk.proofs.{Moves.MovingSteps.some_name, Sound.RootedWays.rooted_along}
use Rattle.room_desk.proofs.Steps.Serving.{along_there, folder_fails, none_both}
use Rattle.room_desk.proofs.Writes.ChangedLists.{one_fewer, other_node}

-- ---- one call that writes one object leaves the records

pub one_changed : (id : ℕ) (change : Node → Node) (node : Node) (old new : Rows) (more : ℕ)
    → Changes id change old new → node_at old.read id ≡ Some node → 1 ≤ more
    → 1 + length old.read.audits ≤ length new.read.audits + more
one_changed id change node old new more changes there enough =
    let same : length new.read.audits ≡ length old.read.audits = ap
    (λ (r : Rows). length r.read.audits) (changes node there) in
    omega arith

pub one_put : (id : ℕ) (bytes : List ℕ) (old new : Rows) (more : ℕ) → SetsBody id bytes old new
    → Provided (λ rows. IsDocumentAt rows id) OneWrite (unrecorded old) (unrecorded new) more
    → 1 + length old.read.audits ≤ length new.read.audits + more
one_put id bytes old new more sets enough = grind (arith, nat_tests)

pub one_added : (node : Addition) (id : ℕ) (old new : Rows) (more : ℕ) → Adds node old id new
    → CanAdd node old → 1 ≤ more → 1 + length old.read.audits ≤ length new.read.audits + more
one_added node id old new more adds can enough = grind (arith, nat_tests, new_audits)

-- ---- what suffices for both lists suffices for less

pub one_of_both : (old new : Rows) (more : ℕ) → OneAndBoth old new more → 1 ≤ more
one_of_both old new more enough = omega arith

pub each_of_both : (which : Which) (old new : Rows) (more : ℕ) → OneAndBoth old new more
    → OneAndEach which old new more
each_of_both Dacl old new more enough = omega arith
each_of_both Sacl old new more enough = omega arith

pub one_of_each : (which : Which) (old new : Rows) (more : ℕ) → OneAndEach which old new more
    → 1 ≤ more
one_of_each which old new more enough = omega arith

-- ---- what a walk found

pub can_recorded : (node : Addition) (old : Rows) → CanAdd node (unrecorded old) → CanAdd node old
can_recorded node old can = grind (arith, nat_tests)

pub document_passed : (asker : Asker) (site : Site) (mask : List ℕ) (old mid : Rows)
    → IsJudged asker (no_folder site ∷ Check site mask ∷ []) old None mid
    → is_document site.node.kind ≡ true
document_passed asker site mask old mid judged = grind (arith, nat_tests, folder_fails, none_both)

-- nothing has the name in the folder
pub can_make : (path : List (List ℕ)) (folder : Node) (child : Option Node) (new : Addition)
    (old : Rows) → new.node.parent ≡ Some folder.id → IsNameOf path new.node.name
    → IsFoundFolder old path folder child → is_none child ≡ true → CanAdd new (unrecorded old)
can_make path folder child new old above named found none = grind (arith, nat_tests, is_none_none)

pub none_if : (child : Option Node) → is_some child ≡ false → is_none child ≡ true
none_if None is = refl
none_if (Some node) is = sym is

pub removable : (asker : Asker) (path : List (List ℕ)) (folder target : Found) (old mid : Rows)
    → AreRows old → IsPaired asker path old (pair_of folder target) mid
    → RemovableIfEmpty target.node.id (unrecorded old)
removable asker path folder target old mid are paired none = record {
  node = target.node;
  is_there =
      along_there old.read are.numbers path (stored_site path target.node) paired.target;
  parent = folder.node.id;
  has_parent = grind (arith, nat_tests, below_parent, some_name);
  no_children = none;
}

-- the object is rooted, whatever the records are
reaches_beside : (n : ℕ) (old : Rows) (parent : Option ℕ)
    → reaches_root n (unrecorded old).read parent ≡ reaches_root n old.read parent
reaches_beside n old None = refl
reaches_beside zero old (Some id) = refl
reaches_beside (suc n) old (Some id) =
    on (node_at old.read id) (λ above. reaches_beside n old above)
  where
    on : (o : Option Node) → ((parent : Option ℕ)
        → reaches_root n (unrecorded old).read parent ≡ reaches_root n old.read parent)
        → option_map_or (λ (m : Node). reaches_root n (unrecorded old).read m.parent) o false
        ≡ option_map_or (λ (m : Node). reaches_root n old.read m.parent) o false
    on None rest = refl
    on (Some m) rest = rest m.parent

pub rooted_unrecorded : (id : ℕ) (old : Rows) → IsRooted id old → IsRooted id (unrecorded old)
rooted_unrecorded id old rooted = grind (arith, nat_tests, reaches_beside)

pub rooted_recorded : (id : ℕ) (old : Rows) → IsRooted id (unrecorded old) → IsRooted id old
rooted_recorded id old rooted = grind (arith, nat_tests, reaches_beside)

pub stands_along : (path : List (List ℕ)) (node : Node) (old : Rows) → AreRows old
    → site_at (stored_along old.read path) path ≡ Some (stored_site path node)
    → StandsRooted node (unrecorded old)
stands_along path node old are is = (
  along_there old.read are.numbers path (stored_site path node) is,
  rooted_unrecorded node.id old (rooted_along old are.numbers path path node is),
)

-- ---- a list that is stored, and carried down

pub taken_share : (which : Which) (target : Node) (entries passed : List Ace) (old mid new : Rows)
    (more : ℕ) → entries ≡ passed → same_entries passed (held_of which target).inh ≡ false
    → Changes target.id (with_inh which entries) old mid
    → IsCarriedDown which target.id mid tt new
    → Provided (StandsListed which target) (EachList which) (unrecorded old) (unrecorded new) more
    → Share (Provided (StandsListed which target) OneWrite) (EachList which) old mid new more
taken_share which target entries passed old mid new more are isnt changes down enough =
    grind (arith, nat_tests, fits)
  where
    rooted : IsRooted target.id old
    rooted = rooted_recorded target.id old enough.0.1

    same_some : Some rooted.node ≡ Some enough.0.0.node → rooted.node ≡ enough.0.0.node
    same_some e = cc

    listed : held_of which rooted.node ≡ held_of which target
    listed = search (rooted, same_some)

    number : (n : Node) → (with_inh which entries n).id ≡ n.id
    number n = (place-with_inh which entries n).number

    parent : (n : Node) → (with_inh which entries n).parent ≡ n.parent
    parent n = (place-with_inh which entries n).parent

    fits : 1 + changed_lists which mid new ≤ more
    fits =
        let fewer = one_fewer which target.id (with_inh which entries) number parent old mid new
        changes rooted down
        (other_node which target.id (with_inh which entries) number parent old mid new changes
        rooted down
        ∙ ap (λ (h : Held). not
        (same_entries h.inh (held_of which rooted.node).inh))
        (held_of-with_inh which entries rooted.node)
        ∙ ap (λ (l : List Ace). not
        (same_entries l (held_of which rooted.node).inh)) are
        ∙ ap (λ (h : Held). not (same_entries passed h.inh)) listed
        ∙ ap not isnt) in search (rules, which, old, new, enough.1)
