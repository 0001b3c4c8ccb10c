-- What is known of a new folder once all that is judged there has passed.
use Rattle.std.proofs.Common.{◌≡◌, ℕ, suc, ◌<◌, ◌==◌, Bool, true, false, cond, List, [], ◌∷◌, ◌++◌}
use Rattle.std.proofs.Common.{length, Option, Some, None, refl, sym, ap, ◌∙◌, arith}
use Rattle.std.{proofs.lemmas.Bool.{or_parts, false≢true, Decides.nat_tests}, specs.Prelude.is_some}
use Rattle.std.specs.{List.list_any, Option.{option_map, option_map_or}}
use Rattle.room_entry.specs.declared.parties.Caller.{Caller}
use Rattle.room_rows.specs.{declared.node.{Node.Node, AuditRow.AuditRow}, Content.Content}
use Rattle.room_rows.specs.{Content.{child_of, is_folder, node_at, root_of}, Paths.is_object_name}
use Rattle.room_rows.{specs.{Rows.{Rows, AreRows}, Sound.AreSound}, proofs.Frames.Rises}
use Rattle.room_rows.proofs.Frames.{child_of-is_there, child_of-parent, root_of-is_there}
use Rattle.room_rows.proofs.Frames.{root_of-parent}
use Rattle.room_machine.specs.{declared.reply.Reply.Reply, Judge.first_failure, Site.Site}
use Rattle.room_machine.specs.{Site.{site_at, parent_at, front, last_name}, Stored.stored_site}
use Rattle.room_machine.specs.Stored.{stored_from, stored_along}
use Rattle.room_judge.{specs.Judged.with_notes, proofs.Spots.{below_of, folder_found, target_found}}
use Rattle.room_desk.specs.Moving.{CanGo, CanPlace, at_place, begins, goes_past}
use Rattle.room_desk.proofs.Moves.{MovingPlan.along_noted, OnePath.met_by_names}
use Rattle.room_desk.proofs.Steps.Serving.{along_there, none_both}
use Rattle.room_sound.proofs.SoundParts.{sound_noted}

-- ---- nothing failed

refused_not : (holds : Bool) (reply : Reply) → None ≡ cond holds (Some reply) None → holds ≡ false
refused_not true reply is = absurd (let wrong : ⊥ = cc in wrong)
refused_not false reply is = refl

none_there : {X : Type 0} (o : Option X) → is_some o ≡ false → o ≡ None
none_there None is = refl
none_there (Some x) is = absurd (false≢true (sym is))

-- the folder is one, the name is free there, and the folder isn't below the object
pub record IsFree (rows : Content) (to : List (List ℕ)) (is_below : Bool)
    (folder : Node) : Type 0 where
  pub folder_is : is_folder folder ≡ true
  pub name_is_free : child_of rows folder.id (last_name to) ≡ None
  pub none_above : is_below ≡ false

pub all_passed : (caller : Caller) (rows : Content) (to : List (List ℕ)) (is_below : Bool)
    (target from folder : Site)
    → None ≡ first_failure caller (at_place rows to is_below target from folder)
    → IsFree rows to is_below folder.node
all_passed caller rows to is_below target from folder none =
    grind (arith, nat_tests, none_both, none_there, refused_not)

-- ---- the way up from the folder

module _ (rows : Content) (rises : Rises rows) (t : ℕ) where
  -- from an object that isn't the other one up
  one_up : (node : Node) (n : ℕ) → node_at rows node.id ≡ Some node → (node.id == t) ≡ false
      → goes_past n rows t node.parent ≡ true → goes_past (suc n) rows t (Some node.id) ≡ true
  one_up node n there isnt past = grind (arith, nat_tests)

  past_from : (names path : List (List ℕ)) (node : Node) (n : ℕ) (site : Site)
      → goes_past n rows t node.parent ≡ true → node_at rows node.id ≡ Some node
      → list_any (λ (s : Site). s.node.id == t) (stored_from rows path node names) ≡ false
      → site_at (stored_from rows path node names) names ≡ Some site → (k : ℕ)
      × (goes_past k rows t (Some site.node.id) ≡ true)
  past_from [] path node n site past there none is = (
    suc n,
    grind (arith, nat_tests, one_up),
  )
  past_from (name ∷ names) path node n site past there none is =
      let parts = or_parts (node.id == t)
      (list_any (λ (s : Site). s.node.id == t)
      (option_map_or (λ child. stored_from rows (path ++ name ∷ []) child names)
      (child_of rows node.id name) [])) none in
      let up : goes_past (suc n) rows t (Some node.id) ≡ true = one_up node n there parts.0 past in
      on (child_of rows node.id name)
      (λ child found. past_from names (path ++ name ∷ []) child (suc n) site
      (ap (goes_past (suc n) rows t) (child_of-parent rows node.id name child found) ∙ up)
      (child_of-is_there rows rises node.id name child found))
      parts.1 is
    where
      on : (o : Option Node)
          → ((child : Node) → o ≡ Some child
          → list_any (λ (s : Site). s.node.id == t)
          (stored_from rows (path ++ name ∷ []) child names) ≡ false
          → site_at (stored_from rows (path ++ name ∷ []) child names) names ≡ Some site → (k : ℕ)
          × (goes_past k rows t (Some site.node.id) ≡ true))
          → list_any (λ (s : Site). s.node.id == t)
          (option_map_or (λ child. stored_from rows (path ++ name ∷ []) child names) o []) ≡ false
          → site_at (option_map_or (λ child. stored_from rows (path ++ name ∷ []) child names) o [])
          names ≡ Some site → (k : ℕ) × (goes_past k rows t (Some site.node.id) ≡ true)
      on None known none is = absurd (let wrong : ⊥ = cc in wrong)
      on (Some child) known none is = known child refl none is

  pub past_along : (path : List (List ℕ)) (site : Site)
      → list_any (λ (s : Site). s.node.id == t) (stored_along rows path) ≡ false
      → site_at (stored_along rows path) path ≡ Some site → (k : ℕ)
      × (goes_past k rows t (Some site.node.id) ≡ true)
  past_along path site none is =
      on (root_of rows) (λ root found. past_from path [] root 0 site
      (ap (goes_past 0 rows t) (root_of-parent rows root found))
      (root_of-is_there rows rises root found)) none is
    where
      on : (o : Option Node)
          → ((root : Node) → o ≡ Some root
          → list_any (λ (s : Site). s.node.id == t) (stored_from rows [] root path) ≡ false
          → site_at (stored_from rows [] root path) path ≡ Some site → (k : ℕ)
          × (goes_past k rows t (Some site.node.id) ≡ true))
          → list_any (λ (s : Site). s.node.id == t)
          (option_map_or (λ root. stored_from rows [] root path) o []) ≡ false
          → site_at (option_map_or (λ root. stored_from rows [] root path) o []) path ≡ Some site
          → (k : ℕ) × (goes_past k rows t (Some site.node.id) ≡ true)
      on None known none is = absurd (let wrong : ⊥ = cc in wrong)
      on (Some root) known none is = known root refl none is

-- ---- the object has a parent

pub below_parent : (rows : Content) (path : List (List ℕ)) (from target : Site) → 0 < length path
    → parent_at (stored_along rows path) path ≡ Some from
    → site_at (stored_along rows path) path ≡ Some target → target.node.parent ≡ Some from.node.id
below_parent rows path from target some above is =
    grind (arith, nat_tests, below_of, folder_found, on, target_found)
  where
    on : (o : Option Node) → child_of rows from.node.id (last_name path) ≡ o
        → option_map (stored_site (from.path ++ last_name path ∷ [])) o ≡ Some target
        → target.node.parent ≡ Some from.node.id
    on o found same = grind (arith, nat_tests, child_of-parent)

-- ---- so it can be placed

pub goable : (old : Rows) (records : List AuditRow) (path to : List (List ℕ)) (target folder : Node)
    → AreRows old
    → site_at (stored_along old.read path) path ≡ Some (stored_site path target)
    → site_at (stored_along old.read (front to)) (front to) ≡ Some (stored_site (front to) folder)
    → IsFree old.read to (begins path (front to)) folder
    → CanGo target folder (last_name to) (with_notes old records)
goable old records path to target folder are found reached free =
    let past = past_along (with_notes old records).read are.numbers target.id (front to)
    (stored_site (front to) folder)
    (ap (list_any (λ (s : Site). s.node.id == target.id)) (along_noted old.read records (front to))
    ∙ met_by_names old.read are.numbers path (front to) (stored_site path target)
    (along_there old.read are.numbers path (stored_site path target) found) found ∙ free.none_above)
    (ap (λ sites. site_at sites (front to)) (along_noted old.read records (front to)) ∙ reached) in
    record {
      are = grind (arith, nat_tests);
      target_there = along_there old.read are.numbers path (stored_site path target) found;
      folder_there =
          along_there old.read are.numbers (front to) (stored_site (front to) folder) reached;
      folder_is = free.folder_is;
      is_free = free.name_is_free;
      steps = past.0;
      past = past.1;
    }

pub placeable : (old : Rows) (records : List AuditRow) (path to : List (List ℕ)) (from : Site)
    (target folder : Node) → AreSound old → 0 < length path
    → parent_at (stored_along old.read path) path ≡ Some from
    → site_at (stored_along old.read path) path ≡ Some (stored_site path target)
    → is_object_name (last_name to) ≡ true
    → CanGo target folder (last_name to) (with_notes old records)
    → CanPlace target folder (last_name to) (with_notes old records)
placeable old records path to from target folder sound some above found named can =
    grind (arith, nat_tests, below_parent, sound_noted)
