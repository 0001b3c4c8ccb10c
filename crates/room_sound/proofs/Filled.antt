-- Items judged at objects with their stored lists are those of the plan.
use Rattle.std.proofs.Common.{◌≡◌, ℕ, ℤ, Bool, false, List, [], ◌∷◌, ◌++◌, map, Option, Some, None}
use Rattle.std.proofs.{Common.{refl, sym, ap, ◌∙◌, arith}, lemmas.List.map-append}
use Rattle.std.specs.Option.{option_map}
use Rattle.room_entry.specs.declared.parties.Caller.{Caller}
use Rattle.room_rows.specs.{Content.{Content, is_empty}, Meaning.{kept_node, meaning}, Rows.Rows}
use Rattle.room_rows.specs.Rows.{AreRows}
use Rattle.room_judge.specs.{declared.asker.Asker.Asker, Judged.{IsJudged, with_notes}}
use Rattle.room_machine.specs.{declared.reply.Reply.Reply, Site.{Site, sites_along, site_at}}
use Rattle.room_machine.specs.Plan.{Item, Check, Deletion, Refusal, way, where_found, to_target}
use Rattle.room_machine.specs.Judge.{failure, passes, first_failure, checks_of, records_of_checks}
use Rattle.room_machine.specs.{Judge.records_of_plan, Stored.{stored_along, to_stored}}
use Rattle.room_sound.proofs.{SoundParts.SoundParts, Sites.{fill, sites_filled}}
use Rattle.room_sound.proofs.Targets.{target_kept}

abbrev pub fill_item : Item → Item
fill_item (Check site bits) = Check (fill site) bits
fill_item (Deletion target parent) = Deletion (fill target) (fill parent)
fill_item (Refusal path why holds) = Refusal path why holds

module _ (caller : Caller) (moment : ℤ) where
  same_failure : (item : Item) → failure caller (fill_item item) ≡ failure caller item
  same_failure = grind arith

  same_records : (t : Bool) (item : Item)
      → records_of_checks caller moment t (checks_of caller (fill_item item))
      ≡ records_of_checks caller moment t (checks_of caller item)
  same_records = grind arith

  failures_filled : (items : List Item)
      → first_failure caller (map fill_item items) ≡ first_failure caller items
  failures_filled [] = refl
  failures_filled (item ∷ items) = rw (same_failure item, failures_filled items)

  records_filled : (items : List Item)
      → records_of_plan caller moment (map fill_item items) ≡ records_of_plan caller moment items
  records_filled [] = refl
  records_filled (item ∷ items) =
      rw (same_failure item, same_records (passes caller item) item, records_filled items)

pub judged_filled : (asker : Asker) (items : List Item) (old new : Rows) (answer : Option Reply)
    → IsJudged asker (map fill_item items) old answer new → IsJudged asker items old answer new
judged_filled asker items old new answer judged = record {
  answers = judged.answers ∙ failures_filled asker.caller asker.moment items;
  notes = judged.notes ∙ ap (with_notes old) (records_filled asker.caller asker.moment items);
}

-- ---- plans

empty_filled : (sites : List Site) → is_empty (map fill sites) ≡ is_empty sites
empty_filled = grind arith

pub way_filled : (lack : Bool) (sites : List Site) (names : List (List ℕ))
    → way lack (map fill sites) names ≡ map fill_item (way lack sites names)
way_filled lack [] names = refl
way_filled lack (site ∷ sites) [] = refl
way_filled lack (site ∷ sites) (name ∷ names) =
    rw (empty_filled sites, way_filled lack sites names)

pub site_filled : (sites : List Site) (names : List (List ℕ))
    → site_at (map fill sites) names ≡ option_map fill (site_at sites names)
site_filled [] names = refl
site_filled (site ∷ sites) [] = refl
site_filled (site ∷ sites) (name ∷ names) = site_filled sites names

pub target_filled : (path : List (List ℕ)) (items : Site → List Item)
    → ((site : Site) → items (fill site) ≡ map fill_item (items site)) → (sites : List Site)
    → way false (map fill sites) path ++ where_found (site_at (map fill sites) path) items
    ≡ map fill_item (way false sites path ++ where_found (site_at sites path) items)
target_filled path items same sites =
    rw (way_filled false sites path, site_filled sites path, on (site_at sites path), map-append)
  where
    on : (o : Option Site)
        → where_found (option_map fill o) items ≡ map fill_item (where_found o items)
    on None = refl
    on (Some site) = same site

-- what is judged at the stored lists is judged by the plan to the target
pub plan_judged : (asker : Asker) (path : List (List ℕ)) (items : Site → List Item) (old new : Rows)
    (answer : Option Reply) → AreRows old → SoundParts old
    → ((site : Site) → items (fill site) ≡ map fill_item (items site))
    → IsJudged asker (to_stored old.read path items) old answer new
    → IsJudged asker (to_target (meaning old.read) path items) old answer new
plan_judged asker path items old new answer are parts same judged =
    judged_filled asker (to_target (meaning old.read) path items) old new answer
    (rw (← sites_filled old are parts path, target_filled path items same) at judged)

-- the target among the sites of the plan
pub record IsTarget (rows : Content) (path : List (List ℕ)) (site : Site) : Type 0 where
  pub planned : Site
  pub at : site_at (sites_along (meaning rows) path) path ≡ Some planned
  pub filled : fill planned ≡ site
  pub kept : planned.node ≡ kept_node rows site.node

pub target_there : (old : Rows) → AreRows old → SoundParts old
    → (path : List (List ℕ)) (site : Site) → site_at (stored_along old.read path) path ≡ Some site
    → IsTarget old.read path site
target_there old are parts path site is =
    on (site_at (sites_along (meaning old.read) path) path) refl
    (sym (site_filled (sites_along (meaning old.read) path) path)
    ∙ ap (λ sites. site_at sites path) (sites_filled old are parts path) ∙ is)
  where
    on : (o : Option Site) → site_at (sites_along (meaning old.read) path) path ≡ o
        → option_map fill o ≡ Some site → IsTarget old.read path site
    on None found same = absurd (let wrong : ⊥ = cc in wrong)
    on (Some planned) found same =
        record {
          planned = planned;
          at = found;
          filled = (let e : fill planned ≡ site = cc in e);
          kept = target_kept old.read path planned site found is;
        }
