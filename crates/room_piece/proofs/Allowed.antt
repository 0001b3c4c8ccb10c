-- What a plan says none of whose refusals holds.
use Rattle.std.proofs.Common.{◌≡◌, ℕ, ◌==◌, true, false, not, List, [], ◌∷◌, ◌++◌, filter, Option}
use Rattle.std.proofs.{Common.{Some, None, refl, sym, ap, subst, ◌∙◌}, lemmas.Bool.true≢false}
use Rattle.std.{proofs.lemmas.Option.none-some, specs.{List.list_any, Option.option_map_or}}
use Rattle.std.specs.Prelude.{is_some}
use Rattle.room_rows.specs.{declared.node.Node.Node, Content.{Content, child_of, is_empty, root_of}}
use Rattle.room_rows.specs.Content.{is_folder}
use Rattle.room_machine.specs.{Judge.first_failure, Plan.{Check, Deletion, Item, Refusal, plan_of}}
use Rattle.room_machine.specs.{Plan.{move_items, way, where_found}, Site.{Site, front, last_name}}
use Rattle.room_machine.specs.Site.{parent_at, root_site, site_at, site_below, sites_along}
use Rattle.room_machine.specs.{Step.is_refusal, declared.request.Request.TheVariants.Move}
use Rattle.room_desk.proofs.Lists.SetReset.{operator}
use Rattle.room_laws.proofs.Seen.{along_from, sites_from}

abbrev pub Allowed : List Item → Type 0
Allowed [] = Unit {0}
Allowed (Check site bits ∷ items) = Allowed items
Allowed (Deletion target parent ∷ items) = Allowed items
Allowed (Refusal path why holds ∷ items) = (holds ≡ false) × Allowed items

pub allowed : (items : List Item) → first_failure operator (filter is_refusal items) ≡ None
    → Allowed items
allowed [] none = tt
allowed (Check site bits ∷ items) none = allowed items none
allowed (Deletion target parent ∷ items) none = allowed items none
allowed (Refusal path why true ∷ items) none = absurd (none-some _ (sym none))
allowed (Refusal path why false ∷ items) none = (refl, allowed items none)

allowed_on : (items more : List Item) → Allowed (items ++ more) → Allowed more
allowed_on [] more all = all
allowed_on (Check site bits ∷ items) more all = allowed_on items more all
allowed_on (Deletion target parent ∷ items) more all = allowed_on items more all
allowed_on (Refusal path why holds ∷ items) more all = allowed_on items more all.1

module _ (room : Content) (root : Node) (is_root : root_of room ≡ Some root) where
  -- such a way leads to an object
  leads_from : (site : Site) (names : List (List ℕ)) (more : List Item)
      → Allowed (way false (sites_from room site names) names ++ more)
      → site_at (sites_from room site names) names ≡ None → ⊥
  leads_from site [] more all none = none-some site (sym none)
  leads_from site (name ∷ names) more all none =
      on (child_of room site.node.id name) all none
      (λ child. leads_from (site_below site child) names more)
    where
      below : Option Node → List Site
      below o = option_map_or (λ child. sites_from room (site_below site child) names) o []

      on : (o : Option Node) → Allowed (way false (site ∷ below o) (name ∷ names) ++ more)
          → site_at (site ∷ below o) (name ∷ names) ≡ None
          → ((child : Node)
          → Allowed (way false (sites_from room (site_below site child) names) names ++ more)
          → site_at (sites_from room (site_below site child) names) names ≡ None → ⊥) → ⊥
      on None all none next = true≢false all.1.0
      on (Some child) all none next = next child all.1.1 none

  leads : (path : List (List ℕ)) (more : List Item)
      → Allowed (way false (sites_along room path) path ++ more)
      → site_at (sites_along room path) path ≡ None → ⊥
  leads path more all none =
      leads_from (root_site root) path more
      (subst (λ (sites : List Site). Allowed (way false sites path ++ more)) sites_are all)
      (ap (λ (sites : List Site). site_at sites path) (sym sites_are) ∙ none)
    where
      sites_are : sites_along room path ≡ sites_from room (root_site root) path
      sites_are =
          along_from room path
          ∙ ap (λ (o : Option Node). option_map_or (λ r. sites_from room (root_site r) path) o [])
          is_root

  -- an object is at the path, where that isn't the root, and all that follows is allowed
  pub record CanGo (path to : List (List ℕ)) : Type 0 where
    pub target : Site
    pub at : site_at (sites_along room path) path ≡ Some target
    pub below : is_empty path ≡ false
    pub rest : Allowed (where_found (parent_at (sites_along room path) path)
        (move_items (sites_along room) room to target))

  pub can_go : (path to : List (List ℕ)) → Allowed (plan_of room (Move path to)) → CanGo path to
  can_go path to all = on (site_at (sites_along room path) path) refl all
    where
      items : Site → List Item
      items target =
          Refusal path Rattle.room_machine.specs.declared.reply.Reason.TheVariants.Root
          (is_empty path)
          ∷ where_found (parent_at (sites_along room path) path)
          (move_items (sites_along room) room to target)

      on : (o : Option Site) → site_at (sites_along room path) path ≡ o
          → Allowed (way false (sites_along room path) path ++ where_found o items)
          → CanGo path to
      on None at all = absurd (leads path [] all at)
      on (Some target) at all =
          let here = allowed_on (way false (sites_along room path) path) (items target) all in
          record { target = target; at = at; below = here.0; rest = here.1 }

  -- the folder of the new place is there, has nothing of its last name, and isn't in the object
  pub record CanPlace (to : List (List ℕ)) (target : Site) : Type 0 where
    pub folder : Site
    pub at : site_at (sites_along room (front to)) (front to) ≡ Some folder
    pub free : is_some (child_of room folder.node.id (last_name to)) ≡ false
    pub no_loop : list_any (λ (site : Site). site.node.id == target.node.id)
        (sites_along room (front to)) ≡ false

  pub can_place : (name : List ℕ) (names : List (List ℕ)) (target from : Site)
      → Allowed (move_items (sites_along room) room (name ∷ names) target from)
      → CanPlace (name ∷ names) target
  can_place name names target from all =
      on (site_at (sites_along room (front (name ∷ names))) (front (name ∷ names))) refl all
    where
      to : List (List ℕ)
      to = name ∷ names

      items : Site → List Item
      items folder =
          Refusal folder.path Rattle.room_machine.specs.declared.reply.Reason.TheVariants.NotFolder
          (not (is_folder folder.node))
          ∷ Check folder (Rattle.room_entry.specs.Rights.execute ∷ [])
          ∷ Deletion target from
          ∷ Check folder (Rattle.room_machine.specs.Plan.right_to_add target.node ∷ [])
          ∷ Refusal to Rattle.room_machine.specs.declared.reply.Reason.TheVariants.Exists
          (is_some (child_of room folder.node.id (last_name to)))
          ∷ Refusal to Rattle.room_machine.specs.declared.reply.Reason.TheVariants.Loop
          (list_any (λ (site : Site). site.node.id == target.node.id)
          (sites_along room (front to)))
          ∷ []

      on : (o : Option Site) → site_at (sites_along room (front to)) (front to) ≡ o
          → Allowed (way false (sites_along room (front to)) (front to) ++ where_found o items)
          → CanPlace to target
      on None at all = absurd (leads (front to) [] all at)
      on (Some folder) at all =
          let here = allowed_on (way false (sites_along room (front to)) (front to))
          (items folder) all in
          record { folder = folder; at = at; free = here.1.0; no_loop = here.1.1.0 }
