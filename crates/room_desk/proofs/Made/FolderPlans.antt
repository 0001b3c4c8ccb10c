-- Plans that ask for the folder of a path's last name, over stored sites and over sites computed
-- from the root.
use Rattle.std.proofs.Common.{◌≡◌, ℕ, ◌<◌, Bool, true, List, [], ◌∷◌, ◌++◌, map, length, Option}
use Rattle.std.proofs.{Common.{Some, None, refl, arith}, lemmas.List.map-append}
use Rattle.std.{proofs.lemmas.Bool.Decides.nat_tests, specs.{Prelude.is_some, Option.option_map}}
use Rattle.room_entry.specs.Rights.{append_data}
use Rattle.room_rows.specs.{Content.Content, Meaning.meaning, Rows.{Rows, AreRows}}
use Rattle.room_judge.specs.{declared.asker.Asker.Asker, Judged.IsJudged}
use Rattle.room_machine.specs.declared.reply.{Reply.Reply, Reason.TheVariants.Exists}
use Rattle.room_machine.specs.{declared.request.Request.TheVariants.{Put, MakeFolder}, Site.Site}
use Rattle.room_machine.specs.{Site.{sites_along, site_at, parent_at, front}, Plan.{Along, Item}}
use Rattle.room_machine.specs.Plan.{Check, Refusal, plan_by, plan_of, put_items, way, where_found}
use Rattle.room_machine.specs.Stored.{stored_along}
use Rattle.room_sound.proofs.{SoundParts.SoundParts, Sites.{fill, sites_filled}, Filled.fill_item}
use Rattle.room_sound.proofs.Filled.{judged_filled, site_filled, way_filled}

-- ---- the sites of the plan

-- a site of the plan, with its lists as they are stored
pub record IsPlanned (found : Option Site) (site : Site) : Type 0 where
  pub planned : Site
  pub at : found ≡ Some planned
  pub filled : fill planned ≡ site

pub planned_of : (found : Option Site) (site : Site) → option_map fill found ≡ Some site
    → IsPlanned found site
planned_of found site is = grind (arith, nat_tests, fill)

pub none_planned : (found : Option Site) → option_map fill found ≡ None → found ≡ None
none_planned = grind arith

pub parent_filled : (sites : List Site) (path : List (List ℕ))
    → parent_at (map fill sites) path ≡ option_map fill (parent_at sites path)
parent_filled sites [] = refl
parent_filled sites (name ∷ names) = site_filled sites (front (name ∷ names))

module _ (old : Rows) (are : AreRows old) (parts : SoundParts old) (path : List (List ℕ)) where
  pub planned_parent : (site : Site) → parent_at (stored_along old.read path) path ≡ Some site
      → IsPlanned (parent_at (sites_along (meaning old.read) path) path) site
  planned_parent site is =
      planned_of _ site (rw (← parent_filled, sites_filled old are parts path) is)

  pub planned_none : site_at (stored_along old.read path) path ≡ None
      → site_at (sites_along (meaning old.read) path) path ≡ None
  planned_none is =
      none_planned _ (rw (← site_filled, sites_filled old are parts path) is)

  pub by_sites : (asker : Asker) (items : List Site → List Item)
      → ((sites : List Site) → items (map fill sites) ≡ map fill_item (items sites))
      → (new : Rows) (answer : Option Reply)
      → IsJudged asker (items (stored_along old.read path)) old answer new
      → IsJudged asker (items (sites_along (meaning old.read) path)) old answer new
  by_sites asker items same new answer judged =
      judged_filled asker (items (sites_along (meaning old.read) path)) old new answer
      (rw (← sites_filled old are parts path, same) at judged)

-- ---- two plans

abbrev pub put_at : List (List ℕ) → ℕ → List Site → List Item
put_at path size sites =
    way true sites path ++ put_items path size (site_at sites path) (parent_at sites path)

abbrev pub making : List (List ℕ) → Bool → Site → List Item
making path there folder = Check folder (append_data ∷ []) ∷ Refusal path Exists there ∷ []

abbrev pub folder_at : List (List ℕ) → List Site → List Item
folder_at path sites =
    way true sites path ++ where_found (parent_at sites path)
    (making path (is_some (site_at sites path)))

-- the plan of a folder that isn't the root, whatever the walk finds
pub folder_plan : (along : Along) (content : Content) (names : List (List ℕ)) → 0 < length names
    → plan_by along content (MakeFolder names) ≡ folder_at names (along names)
folder_plan along content [] some = absurd (let wrong : ⊥ = omega arith in wrong)
folder_plan along content (name ∷ names) some = refl

put_items_filled : (path : List (List ℕ)) (size : ℕ) (target parent : Option Site)
    → put_items path size (option_map fill target) (option_map fill parent)
    ≡ map fill_item (put_items path size target parent)
put_items_filled = grind arith

put_filled : (path : List (List ℕ)) (size : ℕ) (sites : List Site)
    → put_at path size (map fill sites) ≡ map fill_item (put_at path size sites)
put_filled path size sites =
    rw (way_filled, site_filled, parent_filled, put_items_filled, map-append)

making_filled : (path : List (List ℕ)) (target parent : Option Site)
    → where_found (option_map fill parent) (making path (is_some (option_map fill target)))
    ≡ map fill_item (where_found parent (making path (is_some target)))
making_filled = grind arith

folder_filled : (path : List (List ℕ)) (sites : List Site)
    → folder_at path (map fill sites) ≡ map fill_item (folder_at path sites)
folder_filled path sites = rw (way_filled, site_filled, parent_filled, making_filled, map-append)

module _ (asker : Asker) (old new : Rows) (answer : Option Reply) (are : AreRows old)
    (parts : SoundParts old) (path : List (List ℕ)) where
  pub put_judged : (bytes : List ℕ)
      → IsJudged asker (put_at path (length bytes) (stored_along old.read path)) old answer new
      → IsJudged asker (plan_of (meaning old.read) (Put path bytes)) old answer new
  put_judged bytes judged =
      by_sites old are parts path asker (put_at path (length bytes))
      (put_filled path (length bytes)) new answer judged

  pub folder_judged : 0 < length path
      → IsJudged asker (folder_at path (stored_along old.read path)) old answer new
      → IsJudged asker (plan_of (meaning old.read) (MakeFolder path)) old answer new
  folder_judged some judged =
      rw (folder_plan (sites_along (meaning old.read)) (meaning old.read) path some)
      (by_sites old are parts path asker (folder_at path) (folder_filled path) new answer judged)
