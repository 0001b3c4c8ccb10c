-- Plans in two contents that are the same but for what is behind.
use Rattle.std.proofs.Common.{ℕ, ◌==◌, ◌≡◌, true, false, List, [], ◌∷◌, take, Option, Some, None}
use Rattle.std.proofs.{Common.{refl, sym, ap, subst, ◌∙◌, map, arith}, lemmas.Option.none-some}
use Rattle.std.{proofs.lemmas.Bool.Decides.nat_tests, specs.{List.list_any, Option.option_map}}
use Rattle.std.specs.Prelude.{is_some}
use Rattle.room_entry.specs.{Rights.{execute, append_data}, declared.parties.Caller.Caller}
use Rattle.room_rows.specs.Content.{Content, child_of, body_of, children_of, is_empty, groups_for}
use Rattle.room_rows.specs.declared.node.Node.{Node}
use Rattle.room_machine.specs.{Effect.names_at, Judge.failure, Laws.first_path, Plan.{Item, Check}}
use Rattle.room_machine.specs.Plan.{target_by, plan_of, put_items, move_items, right_to_add}
use Rattle.room_machine.specs.Site.{Site, sites_along, site_at, parent_at, front, last_name}
use Rattle.room_machine.specs.{Step.caller_in, declared.request.Request.{Request, TheVariants.Read}}
use Rattle.room_machine.specs.declared.request.Request.TheVariants.{List as ListFolder, Put, Append}
use Rattle.room_machine.specs.declared.request.Request.TheVariants.{MakeFolder, Remove, Move}
use Rattle.room_machine.specs.declared.request.Request.TheVariants.{ReadList, SetList, ReadAttr}
use Rattle.room_machine.specs.declared.request.Request.TheVariants.{SetOwners, Can}
use Rattle.room_machine.proofs.Replies.{same_caller}
use Rattle.room_laws.specs.Outside.{sight, found, IsBehind, SameOutside, last_path}
use Rattle.room_laws.{specs.Tidy.IsNumbered, proofs.LikeItems.{check_like, fails, deletion_like}}
use Rattle.room_laws.proofs.LikeItems.{folder_like, found_like, next, path_like, refused, ways_like}
use Rattle.room_laws.proofs.OnePlace.{found_snoc, part_outside, split_last, start_outside}
use Rattle.room_laws.proofs.{Placed.meets, Seen.{Both, IsLike, blank, both_like, found_at, like_at}}
use Rattle.room_laws.proofs.Seen.{same_along, seen_of_view}

groups_same : (a b : Content) (user : Option (List ℕ)) → a.members ≡ b.members
    → groups_for a user ≡ groups_for b user
groups_same a b user same = grind (arith, nat_tests)

-- the same pairs give a user the same groups
pub members_same : (a b : Content) (user : Option (List ℕ)) → a.members ≡ b.members
    → caller_in a user ≡ caller_in b user
members_same a b user same = same_caller a b user (groups_same a b user same)

-- there are names below an object where it has children
no_names : (content : Content) (id : ℕ)
    → is_empty (names_at content id) ≡ is_empty (children_of content id)
no_names content id = grind (arith, nat_tests)

module _ (f : List (List ℕ)) (a b : Content) (same : SameOutside f a b) where
  -- what is seen of an object at a path that isn't behind
  pub record IsSeen (path : List (List ℕ)) (s t : Site) : Type 0 where
    pub first : found a path ≡ Some s.node
    pub second : found b path ≡ Some t.node
    pub like : IsLike s t
    pub body : body_of a s.node.id ≡ body_of b t.node.id
    pub names : (path ≡ f → ⊥) → names_at a s.node.id ≡ names_at b t.node.id

  abbrev pub Outside : List (List ℕ) → Type 0
  Outside path = IsBehind f path → ⊥

  pub sites_same : (path : List (List ℕ)) → Outside path
      → map blank (sites_along a path) ≡ map blank (sites_along b path)
  sites_same path outside =
      same_along a b path (λ i. seen_of_view a b (take i path)
      (same.views (take i path) (part_outside f path outside i)))

  pub target_seen : (path : List (List ℕ)) → Outside path
      → Both (IsSeen path) (site_at (sites_along a path) path) (site_at (sites_along b path) path)
  target_seen path outside =
      on (site_at (sites_along a path) path) (site_at (sites_along b path) path)
      (found_at a path) (found_at b path)
      (like_at blank _ _ path (sites_same path outside))
      (same.views path outside) (same.names path outside)
    where
      on : (o p : Option Site)
          → option_map (λ (s : Site). s.node) o ≡ found a path
          → option_map (λ (s : Site). s.node) p ≡ found b path
          → option_map blank o ≡ option_map blank p
          → option_map (sight a) (found a path) ≡ option_map (sight b) (found b path)
          → ((path ≡ f → ⊥) → option_map (λ (n : Node). names_at a n.id) (found a path)
          ≡ option_map (λ (n : Node). names_at b n.id) (found b path))
          → Both (IsSeen path) o p
      on None None is_o is_p like views names = tt
      on None (Some t) is_o is_p like views names = none-some _ like
      on (Some s) None is_o is_p like views names = none-some _ (sym like)
      on (Some s) (Some t) is_o is_p like views names = grind (arith, nat_tests)

  pub parent_same : (path names : List (List ℕ))
      → map blank (sites_along a path) ≡ map blank (sites_along b path)
      → Both IsLike (parent_at (sites_along a path) names) (parent_at (sites_along b path) names)
  parent_same path names sites = grind (arith, nat_tests, blank, both_like, like_at)

  pub both_there : (R : Site → Site → Type 0) (o p : Option Site) → Both R o p → is_some o
      ≡ is_some p
  both_there R o p both = grind (arith, nat_tests)

  pub caller_same : (user : Option (List ℕ)) → caller_in a user ≡ caller_in b user
  caller_same user = members_same a b user same.members

  -- whether there is something at a path
  there_same : (path : List (List ℕ)) → Outside path
      → is_some (found a path) ≡ is_some (found b path)
  there_same path outside = grind (arith, nat_tests)

  module _ (caller : Caller) where
    pub target_same : (path : List (List ℕ)) → Outside path → (g h : Site → List Item)
        → ((s t : Site) → IsSeen path s t → fails caller (g s) ≡ fails caller (h t))
        → fails caller (target_by (sites_along a) path g)
        ≡ fails caller (target_by (sites_along b) path h)
    target_same path outside g h each = search (found_like, sites_same, target_seen, ways_like)

    put_same : (path : List (List ℕ)) (size : ℕ) (o p q r : Option Site) → Both (IsSeen path) o p
        → Both IsLike q r
        → fails caller (put_items path size o q) ≡ fails caller (put_items path size p r)
    put_same path size None None q r both above = search (check_like, found_like, next)
    put_same path size None (Some t) q r both above = absurd both
    put_same path size (Some s) None q r both above = absurd both
    put_same path size (Some s) (Some t) q r both above =
        grind (arith, nat_tests, check_like, next, path_like, refused)

    -- a move to a place that isn't behind
    move_same : IsNumbered a → IsNumbered b → (path to : List (List ℕ)) → Outside to
        → (s t p q : Site) → IsSeen path s t → IsLike p q
        → fails caller (move_items (sites_along a) a to s p)
        ≡ fails caller (move_items (sites_along b) b to t q)
    move_same first second path [] outside s t p q seen above = search (deletion_like, next)
    move_same first second path (name ∷ names) outside s t p q seen above =
        ways_like caller false _ _ at _ _ (sites_same at fore)
        (found_like caller (IsSeen at) _ _ _ _ (target_seen at fore) (λ c d folder.
        next caller (folder_like caller c d folder.like)
        (next caller (check_like caller c d (execute ∷ []) folder.like)
        (next caller (deletion_like caller s t p q seen.like above)
        (next caller
        (check_like caller c d (right_to_add s.node ∷ []) folder.like
        ∙ ap (λ (x : Site). failure caller (Check d (right_to_add x.node ∷ []))) seen.like)
        (search (exists, loops, next, refused)))))))
      where
        at : List (List ℕ)
        at = front (name ∷ names)

        fore : Outside at
        fore = start_outside f at (last_name (name ∷ names) ∷ [])
            (λ is. outside (subst (IsBehind f) (sym (split_last name names)) is))

        child : (content : Content) (folder : Node) → found content at ≡ Some folder
            → child_of content folder.id (last_name (name ∷ names)) ≡ found content (name ∷ names)
        child content folder is =
            cc (is, found_snoc content at (last_name (name ∷ names)), split_last name names)

        exists : (c d : Site) → IsSeen at c d
            → is_some (child_of a c.node.id (last_name (name ∷ names)))
            ≡ is_some (child_of b d.node.id (last_name (name ∷ names)))
        exists c d folder = search (child, there_same)

        loops : list_any (λ (x : Site). x.node.id == s.node.id) (sites_along a at)
            ≡ list_any (λ (x : Site). x.node.id == t.node.id) (sites_along b at)
        loops =
            cc (
              meets a first path s.node seen.first at,
              sites_same at fore,
              meets b second path t.node seen.second at,
            )

    -- the first failure of a request's plan, where no path of it is behind
    pub plan_same : IsNumbered a → IsNumbered b → (request : Request)
        → Outside (first_path request) → Outside (last_path request)
        → (request ≡ Remove f → ⊥)
        → fails caller (plan_of a request) ≡ fails caller (plan_of b request)
    plan_same one two (Read path) outside last no_remove =
        target_same path outside _ _ (
        grind (arith, nat_tests, check_like, next, path_like, refused))
    plan_same one two (ListFolder path) outside last no_remove =
        target_same path outside _ _ (λ s t seen.
        grind (arith, nat_tests, check_like, next, path_like, refused))
    plan_same one two (Put path bytes) outside last no_remove =
        search (parent_same, put_same, sites_same, target_seen, ways_like)
    plan_same one two (Append path bytes) outside last no_remove =
        target_same path outside _ _ (λ s t seen.
        next caller
        (grind (arith, nat_tests, path_like, refused))
        (next caller (check_like caller s t (append_data ∷ []) seen.like)
        (search (next))))
    plan_same one two (MakeFolder []) outside last no_remove = refl
    plan_same one two (MakeFolder (name ∷ names)) outside last no_remove =
        ways_like caller true _ _ (name ∷ names) _ _ (sites_same (name ∷ names) outside)
        (found_like caller IsLike _ _ _ _
        (parent_same (name ∷ names) (name ∷ names) (sites_same (name ∷ names) outside))
        (search (both_there, check_like, next, refused, target_seen)))
    plan_same one two (Remove path) outside last no_remove =
        target_same path outside _ _ (λ s t seen.
        next caller refl
        (found_like caller IsLike _ _ _ _ (parent_same path path (sites_same path outside))
        (λ p q above.
        next caller (deletion_like caller s t p q seen.like above)
        (grind (arith, nat_tests, next, no_names, refused)))))
    plan_same one two (Move path to) outside last no_remove =
        target_same path outside _ _ (λ s t seen.
        next caller refl
        (found_like caller IsLike _ _ _ _ (parent_same path path (sites_same path outside))
        (λ p q above. move_same one two path to last s t p q seen above)))
    plan_same one two (ReadList path which) outside last no_remove =
        target_same path outside _ _ (grind (arith, nat_tests, check_like, next))
    plan_same one two (SetList path which sent) outside last no_remove =
        target_same path outside _ _ (λ s t seen. grind (arith, nat_tests, check_like, fails, next))
    plan_same one two (ReadAttr path) outside last no_remove =
        target_same path outside _ _ (grind (arith, nat_tests, check_like, next))
    plan_same one two (SetOwners path owners) outside last no_remove =
        target_same path outside _ _ (grind (arith, nat_tests, check_like, next))
    plan_same one two (Can path mask) outside last no_remove = search (target_same)
