-- The way to what is behind ends at the front or before it, for who is barred.
use Rattle.std.proofs.Common.{ℕ, ◌==◌, ◌≡◌, Bool, true, false, cond, not, ◌&&◌, List, [], ◌∷◌, ◌++◌}
use Rattle.std.proofs.Common.{Option, Some, None, refl, sym, ap, subst, ◌∙◌, arith}
use Rattle.std.proofs.lemmas.Bool.Decides.{nat_tests}
use Rattle.std.specs.{List.list_any, Option.option_map_or, Prelude.is_some}
use Rattle.room_entry.specs.{Rights.execute, declared.parties.Caller.Caller}
use Rattle.room_rows.specs.Content.{Content, child_of, is_empty, is_folder}
use Rattle.room_rows.specs.declared.node.Node.{Node}
use Rattle.room_machine.specs.{Judge.{first_failure, or_else}, Laws.first_path, Plan.{Item, Check}}
use Rattle.room_machine.specs.Plan.{Deletion, Refusal, way, where_found, plan_of, move_items}
use Rattle.room_machine.specs.{Plan.right_to_add, Site.{Site, site_below, sites_along, site_at}}
use Rattle.room_machine.specs.{Site.{front, last_name}, declared.reply.Reason.TheVariants.NotFolder}
use Rattle.room_machine.specs.declared.reply.{Reason.TheVariants.{Loop, Exists}, Reply.Reply}
use Rattle.room_machine.specs.declared.request.Request.{Request, TheVariants.Read}
use Rattle.room_machine.specs.declared.request.Request.TheVariants.{List as ListFolder, Put, Append}
use Rattle.room_machine.specs.declared.request.Request.TheVariants.{MakeFolder, Remove, Move}
use Rattle.room_machine.specs.declared.request.Request.TheVariants.{ReadList, SetList, ReadAttr}
use Rattle.room_machine.specs.declared.request.Request.TheVariants.{SetOwners, Can}
use Rattle.room_laws.specs.Outside.{IsBehind, way_behind}
use Rattle.room_laws.proofs.{LikeItems.next, OnePlace.not_empty, Seen.{along_from, sites_from}}

-- the objects after one, along names, where this child has the first name or none has
abbrev child_sites : Content → Site → Option Node → List (List ℕ) → List Site
child_sites content site o names =
    option_map_or (λ child. sites_from content (site_below site child) names) o []

-- what is asked of a folder before anything else in it
abbrev enter : (Site → List Item) → Site → List Item
enter more folder = Refusal folder.path NotFolder (not (is_folder folder.node))
    ∷ Check folder (execute ∷ []) ∷ more folder

module _ (caller : Caller) (content : Content) (reply : Reply) where
  early : (p q x : Option Reply) → or_else p (or_else q None) ≡ Some reply
      → or_else p (or_else q x) ≡ Some reply
  early p q x is = grind (arith, nat_tests)

  late : (p q : Option Reply) (t u : Bool) (r : Reply) (x y : Option Reply) → t ≡ u
      → (x ≡ Some reply → y ≡ Some reply)
      → or_else p (or_else q (or_else (cond t (Some r) None) x)) ≡ Some reply
      → or_else p (or_else q (or_else (cond u (Some r) None) y)) ≡ Some reply
  late p q t u r x y same on is = grind (arith, nat_tests)

  more_names : (f : List (List ℕ)) (name : List ℕ) (names : List (List ℕ))
      → is_empty (f ++ name ∷ names) ≡ false
  more_names [] name names = refl
  more_names (x ∷ f) name names = refl

  sites_there : (site : Site) (names : List (List ℕ))
      → is_empty (sites_from content site names) ≡ false
  sites_there site [] = refl
  sites_there site (name ∷ names) = refl

  -- whatever may lack, the refusal of a name before the last is the same
  lacks : (lack may : Bool) (f : List (List ℕ)) (x : List ℕ) (xs : List (List ℕ)) (y : List ℕ)
      (ys : List (List ℕ)) → not (lack && is_empty (f ++ x ∷ xs))
      ≡ not (may && is_empty (f ++ y ∷ ys))
  lacks lack may f x xs y ys = grind (arith, nat_tests, more_names)

  -- the way to what is behind ends in the same reply, however it goes on
  bar_from : (site : Site) (f : List (List ℕ)) (name : List ℕ) (names : List (List ℕ)) (lack : Bool)
      (more : List Item)
      → first_failure caller (way true (sites_from content site f) (f ++ [] ∷ [])) ≡ Some reply
      → first_failure caller
      (way lack (sites_from content site (f ++ name ∷ names)) (f ++ name ∷ names) ++ more)
      ≡ Some reply
  bar_from site [] name names lack more is = early _ _ _ is
  bar_from site (x ∷ f) name names lack more is =
      on (child_of content site.node.id x)
      (λ child. bar_from (site_below site child) f name names lack more) is
    where
      on : (o : Option Node)
          → ((child : Node) → first_failure caller
          (way true (sites_from content (site_below site child) f) (f ++ [] ∷ [])) ≡ Some reply
          → first_failure caller
          (way lack (sites_from content (site_below site child) (f ++ name ∷ names))
          (f ++ name ∷ names) ++ more) ≡ Some reply)
          → first_failure caller
          (way true (site ∷ child_sites content site o f) (x ∷ f ++ [] ∷ [])) ≡ Some reply
          → first_failure caller
          (way lack (site ∷ child_sites content site o (f ++ name ∷ names))
          (x ∷ f ++ name ∷ names) ++ more)
          ≡ Some reply
      on o next is = grind (arith, nat_tests, lacks, late, sites_there)

  -- the way to a folder that is in front ends so too, at the check of EXECUTE on it
  bar_at : (site : Site) (f : List (List ℕ)) (more : Site → List Item)
      → first_failure caller (way true (sites_from content site f) (f ++ [] ∷ [])) ≡ Some reply
      → first_failure caller (way false (sites_from content site f) f
      ++ where_found (site_at (sites_from content site f) f) (enter more)) ≡ Some reply
  bar_at site [] more is = early _ _ _ is
  bar_at site (x ∷ f) more is =
      on (child_of content site.node.id x) (λ child. bar_at (site_below site child) f more) is
    where
      on : (o : Option Node)
          → ((child : Node) → first_failure caller
          (way true (sites_from content (site_below site child) f) (f ++ [] ∷ [])) ≡ Some reply
          → first_failure caller (way false (sites_from content (site_below site child) f) f
          ++ where_found (site_at (sites_from content (site_below site child) f) f) (enter more))
          ≡ Some reply)
          → first_failure caller
          (way true (site ∷ child_sites content site o f) (x ∷ f ++ [] ∷ [])) ≡ Some reply
          → first_failure caller (way false (site ∷ child_sites content site o f) (x ∷ f)
          ++ where_found (site_at (child_sites content site o f) f) (enter more)) ≡ Some reply
      on o next is = grind (arith, nat_tests, late, more_names, sites_there)

  module _ (f : List (List ℕ))
      (barred : first_failure caller (way_behind content f) ≡ Some reply) where
    bar_names : (name : List ℕ) (names : List (List ℕ)) (lack : Bool) (more : List Item)
        → first_failure caller
        (way lack (sites_along content (f ++ name ∷ names)) (f ++ name ∷ names) ++ more)
        ≡ Some reply
    bar_names name names lack more = grind (arith, nat_tests, along_from, bar_from, sites_from)

    bar_way : (path : List (List ℕ)) → IsBehind f path → (lack : Bool) (more : List Item)
        → first_failure caller (way lack (sites_along content path) path ++ more) ≡ Some reply
    bar_way path is lack more = grind (arith, nat_tests, bar_names)

    bar_folder : (more : Site → List Item)
        → first_failure caller (way false (sites_along content f) f
        ++ where_found (site_at (sites_along content f) f) (enter more)) ≡ Some reply
    bar_folder more = grind (arith, nat_tests, along_from, bar_at, sites_from)

    -- a move to what is behind comes to the same
    pub bar_move : (to : List (List ℕ)) → IsBehind f to → (target from : Site)
        → first_failure caller (move_items (sites_along content) content to target from)
        ≡ Some reply
    bar_move to is target from = on to is
      where
        front_more : (x : List ℕ) (l : List (List ℕ)) (y : List ℕ) (m : List (List ℕ))
            → front (x ∷ l ++ y ∷ m) ≡ x ∷ front (l ++ y ∷ m)
        front_more x [] y m = refl
        front_more x (z ∷ l) y m = refl

        front_itself : (l : List (List ℕ)) (y : List ℕ) → front (l ++ y ∷ []) ≡ l
        front_itself [] y = refl
        front_itself (x ∷ l) y = cc (front_more x l y [], front_itself l y)

        front_behind : (l : List (List ℕ)) (y z : List ℕ) (m : List (List ℕ))
            → front (l ++ y ∷ z ∷ m) ≡ l ++ y ∷ front (z ∷ m)
        front_behind [] y z m = refl
        front_behind (x ∷ l) y z m = cc (front_more x l y (z ∷ m), front_behind l y z m)

        on : (p : List (List ℕ)) → IsBehind f p
            → first_failure caller (move_items (sites_along content) content p target from)
            ≡ Some reply
        on [] is = absurd (none f is)
          where
            none : (l : List (List ℕ)) → IsBehind l [] → ⊥
            none [] is = not_empty is.0 is.1 is.2
            none (x ∷ l) is = not_empty x (l ++ is.0 ∷ is.1) is.2
        on (first ∷ names) (name, [], same) =
            let at : front (first ∷ names) ≡ f = ap front same ∙ front_itself f name in
            subst (λ (l : List (List ℕ)). first_failure caller
            (way false (sites_along content l) l
            ++ where_found (site_at (sites_along content l) l) (λ folder.
            Refusal folder.path NotFolder (not (is_folder folder.node))
            ∷ Check folder (execute ∷ [])
            ∷ Deletion target from
            ∷ Check folder (right_to_add target.node ∷ [])
            ∷ Refusal (first ∷ names) Exists
            (is_some (child_of content folder.node.id (last_name (first ∷ names))))
            ∷ Refusal (first ∷ names) Loop
            (list_any (λ site. site.node.id == target.node.id) (sites_along content l))
            ∷ [])) ≡ Some reply) (sym at) (bar_folder _)
        on (first ∷ names) (name, next ∷ more, same) =
            grind (arith, nat_tests, bar_way, front_behind)

-- a request of what is behind ends in the reply of the way there
pub plan_barred : (caller : Caller) (content : Content) (reply : Reply) (f : List (List ℕ))
    → first_failure caller (way_behind content f) ≡ Some reply → (request : Request)
    → IsBehind f (first_path request)
    → first_failure caller (plan_of content request) ≡ Some reply
plan_barred caller content reply f barred (Read path) is = search (bar_way)
plan_barred caller content reply f barred (ListFolder path) is = search (bar_way)
plan_barred caller content reply f barred (Put path bytes) is = search (bar_way)
plan_barred caller content reply f barred (Append path bytes) is = search (bar_way)
plan_barred caller content reply f barred (MakeFolder []) is = absurd (none f is)
  where
    none : (l : List (List ℕ)) → IsBehind l [] → ⊥
    none [] is = not_empty is.0 is.1 is.2
    none (x ∷ l) is = not_empty x (l ++ is.0 ∷ is.1) is.2
plan_barred caller content reply f barred (MakeFolder (name ∷ names)) is = search (bar_way)
plan_barred caller content reply f barred (Remove path) is = search (bar_way)
plan_barred caller content reply f barred (Move path to) is = search (bar_way)
plan_barred caller content reply f barred (ReadList path which) is = search (bar_way)
plan_barred caller content reply f barred (SetList path which sent) is = search (bar_way)
plan_barred caller content reply f barred (ReadAttr path) is = search (bar_way)
plan_barred caller content reply f barred (SetOwners path owners) is = search (bar_way)
plan_barred caller content reply f barred (Can path mask) is = search (bar_way)
