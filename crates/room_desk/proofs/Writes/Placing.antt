-- How many writes suffice to give an object another place.
use Rattle.std.proofs.Common.{rules, ◌≡◌, ◌∙◌, ℕ, ◌+◌, ◌≤◌, ◌==◌, false, cond, List, [], ◌++◌}
use Rattle.std.proofs.Common.{Option, Some, None, Ok, length, refl, sym, ap, subst, arith}
use Rattle.std.proofs.lemmas.Bool.Decides.{nat_tests}
use Rattle.std.specs.{Prelude.{zero, suc}, Option.option_map_or}
use Rattle.room_entry.specs.declared.object.Which.{Which, TheVariants.{Dacl, Sacl}}
use Rattle.room_rows.specs.{declared.node.{AuditRow.AuditRow, Node.Node}, Content.Content}
use Rattle.room_rows.specs.{Content.{node_at, root_of, with_each, with_node}, Held.held_of}
use Rattle.room_rows.specs.{Keep.{Places, with_content, with_inh, with_place}, Rows.{Rows, AreRows}}
use Rattle.room_rows.proofs.InPlace.{with_inh-id}
use Rattle.room_machine.specs.{Changed.{Relinks, inh_in, with_one}, Judge.first_failure, Plan.Item}
use Rattle.room_machine.specs.{Plan.way, Site.{Site, front, last_name, site_at}}
use Rattle.room_machine.specs.Stored.{stored_along, stored_site}
use Rattle.room_judge.specs.{Extent.unrecorded, Judged.{FromRoot, IsReached}, Stored.found_site}
use Rattle.room_judge.specs.declared.{arrival.Found.Found, asker.Asker.Asker}
use Rattle.room_judge.proofs.{Judging.failure_of_parts, UpTo.Share}
use Rattle.room_desk.specs.Counted.{EachList, OneAndBoth, OneAndEach, OneWrite, Provided}
use Rattle.room_desk.specs.{Counted.changed_lists, Moving.{CanGo, HasListOf, Renews, StandsAlong}}
use Rattle.room_desk.specs.Moving.{StandsListed, at_place, begins, goes_past}
use Rattle.room_desk.proofs.{Lists.HandedDown.put_one, Moves.MovingFacts.{IsFree, all_passed}}
use Rattle.room_desk.proofs.Moves.{MovingFacts.goable, MovingPlan.along_noted}
use Rattle.room_desk.proofs.Placed.PlacingCalls.{FirstDone, is_at, placed_has, placed_stays}
use Rattle.room_desk.proofs.{Steps.Serving.none_both, Writes.ChangedLists.changed_after}
use Rattle.room_desk.proofs.Writes.{ChangedLists.changed_before, Sufficing.rooted_unrecorded}

-- ---- whatever the records are

abbrev with_audits : Content → List AuditRow → Content
with_audits content audits = record content { audits = audits }

goes_beside : (n : ℕ) (content : Content) (audits : List AuditRow) (other : ℕ) (parent : Option ℕ)
    → goes_past n (with_audits content audits) other parent ≡ goes_past n content other parent
goes_beside n content audits other None = refl
goes_beside zero content audits other (Some id) = refl
goes_beside (suc n) content audits other (Some id) =
    cc (on (node_at content id) (λ parent. goes_beside n content audits other parent))
  where
    on : (o : Option Node) → ((parent : Option ℕ)
        → goes_past n (with_audits content audits) other parent
        ≡ goes_past n content other parent)
        → option_map_or (λ (m : Node). goes_past n (with_audits content audits) other m.parent) o
        false
        ≡ option_map_or (λ (m : Node). goes_past n content other m.parent) o false
    on None rest = refl
    on (Some m) rest = rest m.parent

can_go_beside : (target folder : Node) (name : List ℕ) (old : Rows) (audits : List AuditRow)
    → CanGo target folder name old
    → CanGo target folder name (with_content old (with_audits old.read audits))
can_go_beside target folder name old audits can = grind (arith, nat_tests, goes_beside)

pub stands_unrecorded : (path : List (List ℕ)) (root node : Node) (old : Rows)
    → root_of old.read ≡ Some root
    → site_at (stored_along old.read path) path ≡ Some (stored_site path node)
    → StandsAlong path root node (unrecorded old)
stands_unrecorded path root node old is found = grind (arith, nat_tests, along_noted)

-- ---- where the walk came to the new folder, the object can go there

module _ (asker : Asker) (path to : List (List ℕ)) (from target : Found) (mid end : Rows)
    (root folder : Node) (name : List ℕ) (is_last : name ≡ last_name to) (are : AreRows mid)
    (stands : StandsAlong path root target.node (unrecorded mid)) where
  abbrev items : Site → List Item
  items =
      at_place mid.read to (begins path (front to)) (found_site path target)
      (found_site path from)

  abbrev site : Site
  site = stored_site (front to) folder

  free : IsReached asker (front to) items mid (Ok folder) end
      → IsFree mid.read to (begins path (front to)) folder
  free reached =
      let front_way : List Item = way false (stored_along mid.read (front to)) (front to) in
      let none : None ≡ first_failure asker.caller (front_way ++ items site) =
      grind (arith, nat_tests) in
      all_passed asker.caller mid.read to (begins path (front to)) (found_site path target)
      (found_site path from) site
      (none_both (first_failure asker.caller front_way) (first_failure asker.caller (items site))
      (none ∙ failure_of_parts asker.caller asker.moment front_way (items site))).1

  pub can_go_there : FromRoot root
      (λ old outcome new. IsReached asker (front to)
      (at_place old.read to (begins path (front to)) (found_site path target)
      (found_site path from)) old outcome new) mid (Ok folder) end
      → CanGo target.node folder name (unrecorded mid)
  can_go_there reached =
      let here = reached stands.0 in
      subst (λ (n : List ℕ). CanGo target.node folder n (unrecorded mid)) (sym is_last)
      (can_go_beside target.node folder (last_name to)
      (with_content mid (with_audits mid.read (mid.read.audits ++ []))) []
      (search (along_noted, free, goable)))

-- ---- an object changed alone

module _ (id : ℕ) (change : Node → Node) where
  abbrev single : Node → Node
  single n = cond (n.id == id) (change n) n

  single_number : ((n : Node) → (change n).id ≡ n.id) → (n : Node) → (single n).id ≡ n.id
  single_number number n = grind (arith, nat_tests)

  single_list : (which : Which)
      → ((n : Node) → (held_of which (change n)).inh ≡ (held_of which n).inh) → (n : Node)
      → (held_of which (single n)).inh ≡ (held_of which n).inh
  single_list which same n = grind (arith, nat_tests)

-- ---- the place, and both lists

module _ (target folder : Node) (name : List ℕ) where
  abbrev place : Node → Node
  place = with_place folder.id name

  recorded : (old : Rows) → CanGo target folder name (unrecorded old)
      → CanGo target folder name old
  recorded old can = can_go_beside target folder name (unrecorded old) old.read.audits can

  pub one_placed : (old new : Rows) (more : ℕ) → Places target.id folder.id name old new
      → Provided (CanGo target folder name) OneWrite (unrecorded old) (unrecorded new) more
      → 1 + length old.read.audits ≤ length new.read.audits + more
  one_placed old new more places enough =
      let is = is_at target folder name old new places (recorded old enough.0) in
      search (rules, new.read.audits, old.read.audits, is, enough.1)

  placed_is : (old mid : Rows) → Places target.id folder.id name old mid
      → CanGo target folder name old → mid.read ≡ with_each old.read (single target.id place)
  placed_is old mid places can =
      ap (λ (r : Rows). r.read) (is_at target folder name old mid places can)
      ∙ put_one old.read can.are.numbers target.id target can.target_there place (λ n. refl)

  place_list : (which : Which) (n : Node)
      → (held_of which (place n)).inh ≡ (held_of which n).inh
  place_list Dacl n = refl
  place_list Sacl n = refl

  listed : (which : Which) (mid : Rows) → HasListOf which target mid
      → HasListOf which target (unrecorded mid)
  listed which mid has = grind (arith, nat_tests)

  pub first_share : (old mid new : Rows) (more : ℕ) → Places target.id folder.id name old mid
      → Provided (CanGo target folder name) (OneAndEach Dacl) (unrecorded old) (unrecorded new) more
      → Share (Provided (CanGo target folder name) OneWrite)
      (Provided (StandsListed Dacl target) (EachList Dacl)) old mid new more
  first_share old mid new more places enough =
      let can = recorded old enough.0 in
      let same = changed_before Dacl (single target.id place)
      (single_number target.id place (λ n. refl))
      (single_list target.id place Dacl (place_list Dacl)) old mid new
      (placed_is old mid places can) in
      let all : changed_lists Dacl old new + 1 ≤ more = enough.1 in
      record {
        first = 1;
        second = changed_lists Dacl mid new;
        suffices_first = (enough.0, omega arith);
        suffices_second = (
          (
            listed Dacl mid (placed_has target folder name Dacl old mid places can),
            rooted_unrecorded target.id mid
                (placed_stays target folder name old mid places can).rooted,
          ),
          omega arith,
        );
        fits = omega arith;
      }

  module _ (old mid new : Rows) (can : CanGo target folder name old)
      (down : Relinks Dacl folder target (with_node old.read (place target)) mid.read)
      (further : Relinks Sacl folder target mid.read new.read) where
    -- the object stands in the folder, stores its dacl, and in the end its sacl
    abbrev placed : Rows
    placed = with_content old (with_one target.id place old.read)

    abbrev dacl_stored : Rows
    dacl_stored =
        with_content placed
        (with_one target.id (with_inh Dacl (inh_in Dacl folder target)) placed.read)

    abbrev sacl_stored : Rows
    sacl_stored =
        with_content mid (with_one target.id (with_inh Sacl (inh_in Sacl folder target)) mid.read)

    mid_is : mid.read ≡ with_each dacl_stored.read (λ n. with_inh Dacl (down.lists n) n)
    mid_is =
        down.becomes
        ∙ ap (λ (c : Content). with_each
        (with_one target.id (with_inh Dacl (inh_in Dacl folder target)) c)
        (λ n. with_inh Dacl (down.lists n) n))
        (put_one old.read can.are.numbers target.id target can.target_there place (λ n. refl))

    -- the other list isn't changed
    dacls : changed_lists Dacl old new ≡ changed_lists Dacl old mid
    dacls =
        changed_after Dacl (λ n. with_inh Sacl (further.lists n) n)
        (λ n. with_inh-id Sacl (further.lists n) n) (λ n. refl) old sacl_stored new
        further.becomes
        ∙ changed_after Dacl (single target.id (with_inh Sacl (inh_in Sacl folder target)))
        (search (rules, single_number, with_inh-id))
        (single_list target.id (with_inh Sacl (inh_in Sacl folder target)) Dacl (λ n. refl)) old
        mid sacl_stored refl

    sacls : changed_lists Sacl mid new ≡ changed_lists Sacl old new
    sacls =
        changed_before Sacl (λ n. with_inh Dacl (down.lists n) n)
        (λ n. with_inh-id Dacl (down.lists n) n) (λ n. refl) dacl_stored mid new mid_is
        ∙ changed_before Sacl (single target.id (with_inh Dacl (inh_in Dacl folder target)))
        (search (rules, single_number, with_inh-id))
        (single_list target.id (with_inh Dacl (inh_in Dacl folder target)) Sacl (λ n. refl))
        placed dacl_stored new refl
        ∙ changed_before Sacl (single target.id place)
        (single_number target.id place (λ n. refl))
        (single_list target.id place Sacl (place_list Sacl)) old placed new refl

  pub second_share : (old mid new : Rows) (more : ℕ) → FirstDone target folder name old mid
      → Renews Sacl target folder mid tt new
      → Provided (CanGo target folder name) OneAndBoth (unrecorded old) (unrecorded new) more
      → Share (Provided (CanGo target folder name) (OneAndEach Dacl))
      (Provided (StandsListed Sacl target) (EachList Sacl)) old mid new more
  second_share old mid new more done renews enough =
      let can = recorded old enough.0 in
      let first = dacls old mid new can (done.relinks can) (renews.relinks (done.sacl can)) in
      let second = sacls old mid new can (done.relinks can) (renews.relinks (done.sacl can)) in
      let all : changed_lists Dacl old new + changed_lists Sacl old new + 1 ≤ more = enough.1 in
      record {
        first = changed_lists Dacl old mid + 1;
        second = changed_lists Sacl mid new;
        suffices_first = (enough.0, omega arith);
        suffices_second = grind (arith, nat_tests, listed, rooted_unrecorded);
        fits = omega arith;
      }
