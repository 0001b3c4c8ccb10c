-- The plan of a move, with the lists as rows store them.
use Rattle.std.proofs.Common.{◌≡◌, ℕ, ◌==◌, Bool, true, false, List, [], ◌∷◌, ◌++◌, map, Option}
use Rattle.std.proofs.{Common.{Some, None, refl, sym, ap, ◌∙◌, arith}, lemmas.List.map-append}
use Rattle.std.{proofs.lemmas.Bool.Decides.nat_tests, specs.{Prelude.is_some, List.list_any}}
use Rattle.std.specs.Option.{option_map}
use Rattle.room_rows.specs.{declared.node.AuditRow.AuditRow, Content.{Content, child_of, is_empty}}
use Rattle.room_rows.specs.{Content.with_records, Meaning.{kept_node, meaning}, Rows.Rows}
use Rattle.room_rows.{specs.Rows.AreRows, proofs.InPlace.{child_of-with_each, keeps_places}}
use Rattle.room_entry.proofs.Facts.Members.{any_map}
use Rattle.room_judge.specs.{declared.asker.Asker.Asker, Judged.{IsJudged, through, with_notes}}
use Rattle.room_machine.specs.declared.reply.{Reply.Reply, Reason.TheVariants.{Exists, Loop, Root}}
use Rattle.room_machine.specs.{declared.request.Request.TheVariants.Move, Site.{Site, site_at}}
use Rattle.room_machine.specs.{Site.{sites_along, parent_at, front, last_name}, Plan.Item}
use Rattle.room_machine.specs.Plan.{Deletion, Refusal, plan_of, move_items, way, where_found}
use Rattle.room_machine.specs.{Plan.to_target, Stored.{stored_along, to_stored, stored_plan}}
use Rattle.room_desk.specs.Moving.{at_place, begins, rights_to_move}
use Rattle.room_desk.proofs.{Moves.OnePath.met_by_names, Steps.Serving.along_there}
use Rattle.room_desk.proofs.Made.FolderPlans.{parent_filled}
use Rattle.room_sound.proofs.Filled.{fill_item, judged_filled, site_filled, way_filled}
use Rattle.room_sound.proofs.{Sites.{fill, sites_filled}, SoundParts.SoundParts}

-- ---- items over stored sites

-- what is judged of an object that was found with its folder
abbrev pub stored_items : Content → List (List ℕ) → Bool → Site → Site → List Item
stored_items rows [] is_below target from = Deletion target from ∷ Refusal [] Exists true ∷ []
stored_items rows (name ∷ names) is_below target from =
    to_stored rows (front (name ∷ names)) (at_place rows (name ∷ names) is_below target from)

abbrev pub at_found : Content → List (List ℕ) → List (List ℕ) → Site → List Item
at_found rows path to target =
    Refusal path Root (is_empty path)
    ∷ where_found (parent_at (stored_along rows path) path)
    (stored_items rows to (begins path (front to)) target)

-- all that a move judges
abbrev pub stored_move : Content → List (List ℕ) → List (List ℕ) → List Item
stored_move rows path to = to_stored rows path (at_found rows path to)

-- ---- by the stored lists

same_where : (o : Option Site) (items others : Site → List Item)
    → ((site : Site) → o ≡ Some site → items site ≡ others site)
    → where_found o items ≡ where_found o others
same_where None items others same = refl
same_where (Some site) items others same = same site refl

-- The plan by the stored lists is what a move judges, since a way meets the object of a path exactly
-- if it begins with that path.
module _ (old : Rows) (are : AreRows old) where
  abbrev along : List (List ℕ) → List Site
  along = stored_along old.read

  items_stored : (path to : List (List ℕ)) (target from : Site)
      → site_at (along path) path ≡ Some target
      → stored_items old.read to (begins path (front to)) target from
      ≡ move_items along old.read to target from
  items_stored path [] target from found = refl
  items_stored path (name ∷ names) target from found =
      rw (met_by_names old.read are.numbers path (front (name ∷ names)) target
      (along_there old.read are.numbers path target found) found)

  move_stored_is : (path to : List (List ℕ))
      → stored_move old.read path to ≡ stored_plan old.read (Move path to)
  move_stored_is path to =
      ap (λ rest. way false (along path) path ++ rest)
      (search (items_stored, same_where))

  pub move_stored : (asker : Asker) (path to : List (List ℕ)) (new : Rows) (answer : Option Reply)
      → IsJudged asker (stored_move old.read path to) old answer new
      → IsJudged asker (stored_plan old.read (Move path to)) old answer new
  move_stored asker path to new answer judged = grind (arith, nat_tests, move_stored_is)

-- ---- records don't matter

pub along_noted : (content : Content) (records : List AuditRow) (path : List (List ℕ))
    → stored_along (with_records content records) path ≡ stored_along content path
along_noted content records path = grind arith

pub way_noted : (old : Rows) (records : List AuditRow) (to : List (List ℕ)) (is_below : Bool)
    (target from : Site)
    → to_stored (with_notes old records).read (front to)
    (at_place (with_notes old records).read to is_below target from)
    ≡ to_stored old.read (front to) (at_place old.read to is_below target from)
way_noted old records to is_below target from = search (along_noted)

-- ---- the plan

found_filled : (o : Option Site) (items others : Site → List Item)
    → ((site : Site) → o ≡ Some site → items (fill site) ≡ map fill_item (others site))
    → where_found (option_map fill o) items ≡ map fill_item (where_found o others)
found_filled None items others same = refl
found_filled (Some site) items others same = same site refl

module _ (old : Rows) (are : AreRows old) (parts : SoundParts old) where
  abbrev means : Content
  means = meaning old.read

  filled_with : (path : List (List ℕ)) (items others : Site → List Item)
      → ((site : Site) → site_at (sites_along means path) path ≡ Some site
      → items (fill site) ≡ map fill_item (others site))
      → to_stored old.read path items ≡ map fill_item (to_target means path others)
  filled_with path items others same =
      rw (
        ← sites_filled old are parts path,
        way_filled,
        site_filled,
        found_filled (site_at (sites_along means path) path) items others same,
        map-append,
      )

  child_kept : (id : ℕ) (name : List ℕ)
      → is_some (child_of old.read id name) ≡ is_some (child_of means id name)
  child_kept id name =
      let same = child_of-with_each old.read (kept_node old.read)
      (keeps_places old.read (kept_node old.read)
      (λ n. record { number = refl; parent = refl; name = refl })) id name in grind arith

  -- the way to the new folder meets the object exactly if it begins with its path
  met_kept : (path others : List (List ℕ)) (target : Site)
      → site_at (sites_along means path) path ≡ Some target
      → begins path others
      ≡ list_any (λ (site : Site). site.node.id == target.node.id) (sites_along means others)
  met_kept path others target found =
      let stored : site_at (stored_along old.read path) path ≡ Some (fill target) =
      rw (← sites_filled old are parts path, site_filled, found) in
      sym (met_by_names old.read are.numbers path others (fill target)
      (along_there old.read are.numbers path (fill target) stored) stored)
      ∙ rw (← sites_filled old are parts others, any_map)

  abbrev planned_place : List (List ℕ) → Site → Site → Site → List Item
  planned_place to target from folder =
      (through folder ++ rights_to_move target from folder)
      ++ Refusal to Exists (is_some (child_of means folder.node.id (last_name to)))
      ∷ Refusal to Loop (list_any (λ (site : Site). site.node.id == target.node.id)
      (sites_along means (front to))) ∷ []

  place_filled : (to : List (List ℕ)) (is_below : Bool) (target from folder : Site)
      → is_below ≡ list_any (λ (site : Site). site.node.id == target.node.id)
      (sites_along means (front to))
      → at_place old.read to is_below (fill target) (fill from) (fill folder)
      ≡ map fill_item (planned_place to target from folder)
  place_filled to is_below target from folder below = grind (arith, nat_tests, child_kept)

  items_filled : (to : List (List ℕ)) (is_below : Bool) (target from : Site)
      → is_below ≡ list_any (λ (site : Site). site.node.id == target.node.id)
      (sites_along means (front to))
      → stored_items old.read to is_below (fill target) (fill from)
      ≡ map fill_item (move_items (sites_along means) means to target from)
  items_filled [] is_below target from below = refl
  items_filled (name ∷ names) is_below target from below = search (fill, filled_with, place_filled)

  found_here : (path to : List (List ℕ)) (target : Site)
      → site_at (sites_along means path) path ≡ Some target
      → at_found old.read path to (fill target)
      ≡ map fill_item (Refusal path Root (is_empty path)
      ∷ where_found (parent_at (sites_along means path) path) (move_items (sites_along means) means to target))
  found_here path to target found =
      rw (
        ← sites_filled old are parts path,
        parent_filled,
        found_filled (parent_at (sites_along means path) path)
            (stored_items old.read to (begins path (front to)) (fill target)) (move_items (sites_along means) means to target)
            (λ from known. items_filled to (begins path (front to)) target from
            (met_kept path (front to) target found)),
      )

  -- what a move judges at the stored lists is its plan
  pub plan_filled : (path to : List (List ℕ))
      → stored_move old.read path to ≡ map fill_item (plan_of means (Move path to))
  plan_filled path to =
      filled_with path (at_found old.read path to)
      (λ target. Refusal path Root (is_empty path)
      ∷ where_found (parent_at (sites_along means path) path) (move_items (sites_along means) means to target))
      (found_here path to)

  pub move_judged : (asker : Asker) (path to : List (List ℕ)) (new : Rows) (answer : Option Reply)
      → IsJudged asker (stored_move old.read path to) old answer new
      → IsJudged asker (plan_of means (Move path to)) old answer new
  move_judged asker path to new answer judged =
      judged_filled asker (plan_of means (Move path to)) old new answer
      (rw (plan_filled path to) at judged)
