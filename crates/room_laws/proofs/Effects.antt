-- A request leaves two rooms the same outside.
use Rattle.std.proofs.Common.{rules, append_assoc, ℕ, ◌≡◌, ◌⊎◌, inl, inr, true, false, List, []}
use Rattle.std.proofs.Common.{◌∷◌, ◌++◌, Option, Some, None, refl, sym, ap, subst, ◌∙◌, append-nil}
use Rattle.std.proofs.{Common.arith, lemmas.Bool.{true≢false, Decides.nat_tests}}
use Rattle.std.{proofs.lemmas.List.append_cancel_left, specs.Option.option_map_or}
use Rattle.room_entry.specs.declared.object.ObjKind.{ObjKind, TheVariants.{Document, Folder}}
use Rattle.room_entry.specs.declared.{object.Which.Which, parties.{Caller.Caller, Owners.Owners}}
use Rattle.room_ace.specs.Sent.{Sent}
use Rattle.room_rows.specs.Content.{Content, children_of, is_empty, with_node, with_body}
use Rattle.room_rows.specs.{Content.without_node, declared.node.Node.Node}
use Rattle.room_machine.specs.Effect.{effect, set_list, new_node, moved_node, put_bytes, with_site}
use Rattle.room_machine.specs.{Judge.first_failure, Laws.first_path, Plan.{plan_of, move_items}}
use Rattle.room_machine.specs.Site.{Site, front, last_name, site_at, parent_at, sites_along}
use Rattle.room_machine.specs.{Step.IsFree, declared.reply.Reply.{Reply, TheVariants.Done}}
use Rattle.room_machine.specs.declared.request.Request.{Request, TheVariants.Read}
use Rattle.room_machine.specs.declared.request.Request.TheVariants.{List as ListFolder, Put, Append}
use Rattle.room_machine.specs.declared.request.Request.TheVariants.{MakeFolder, Remove, Move}
use Rattle.room_machine.specs.declared.request.Request.TheVariants.{ReadList, SetList, ReadAttr}
use Rattle.room_machine.specs.declared.request.Request.TheVariants.{SetOwners, Can}
use Rattle.room_laws.specs.{Laws.{front_done, rest_after}, Outside.{found, unnumbered, view}}
use Rattle.room_laws.specs.{Outside.{IsBehind, SameOutside, last_path}, Tidy.{IsTidy, IsNumbered}}
use Rattle.room_laws.proofs.{Changed.{bytes_view, list_view, owners_view}, Grown.GoesOn}
use Rattle.room_laws.proofs.Grown.{filled_here, filled_view, goes_on, gone_here, gone_view}
use Rattle.room_laws.proofs.{Grown.{grown_here, grown_view}, Moved.{view_apart, view_below}}
use Rattle.room_laws.proofs.{Moved.{view_new, view_old}, OnePlace.{split_last, start_outside}}
use Rattle.room_laws.proofs.{Orphans.{bare, orphans}, OtherFronts.{SeenAlike, unmoved_alike}}
use Rattle.room_laws.proofs.Passing.{rest_some, rest_none, way_leads, place_free, above_found}
use Rattle.room_laws.proofs.Passing.{at_or_not, both_none, folder_passed, move_passed, never_meets}
use Rattle.room_laws.proofs.Passing.{none_at, not_refused, outside_on, parent_is, place_passed}
use Rattle.room_laws.proofs.{Passing.remove_passed, PlansAlike.{IsSeen, parent_same, sites_same}}
use Rattle.room_laws.proofs.{PlansAlike.target_seen, Seen.{Both, IsLike}, Settings.keeper}
use Rattle.room_laws.proofs.Settings.{keeper_blank, setting, setting_like, no_children}

module _ (f : List (List ℕ)) (a b : Content) (same : SameOutside f a b)
    (content_a : IsTidy a) (content_b : IsTidy b)
    (one : IsNumbered a) (two : IsNumbered b) where
  abbrev pub SameViews : Content → Content → Type 0
  SameViews c d = SeenAlike f c d

  pub as_before : SameViews a b
  as_before = record { views = same.views }

  pub both_act : (R : Site → Site → Type 0) (o p : Option Site) (g h : Site → Reply × Content)
      → Both R o p
      → ((s t : Site) → o ≡ Some s → p ≡ Some t → R s t → SameViews (g s).1 (h t).1)
      → SameViews (option_map_or g o (Done, a)).1 (option_map_or h p (Done, b)).1
  both_act R o p g h both each = grind (arith, nat_tests, as_before)

  -- the same outside of another front
  pub both_found : (g : List (List ℕ)) (R : Site → Site → Type 0) (o p : Option Site)
      (h k : Site → Reply × Content) → Both R o p
      → (o ≡ None → p ≡ None → SeenAlike g a b)
      → ((s t : Site) → o ≡ Some s → p ≡ Some t → R s t → SeenAlike g (h s).1 (k t).1)
      → SeenAlike g (option_map_or h o (Done, a)).1 (option_map_or k p (Done, b)).1
  both_found g R o p h k both none each = grind (arith, nat_tests)

  -- ---- an object is changed in its place

  module _ (path : List (List ℕ)) (s t : Site) (seen : IsSeen f a b same path s t) where
    owners_alike : (owners : Owners)
        → SameViews (with_node a (record s.node { owners = owners }))
        (with_node b (record t.node { owners = owners }))
    owners_alike owners = record {
      views = λ q outside.
          cc (
            owners_view a one path s.node seen.first owners q,
            same.views q outside,
            owners_view b two path t.node seen.second owners q,
          );
    }

    bytes_alike : (first second : List ℕ) → first ≡ second
        → SameViews (with_body a s.node.id first) (with_body b t.node.id second)
    bytes_alike first second equal = record {
      views = λ q outside.
          rw (
            bytes_view a one path s.node seen.first first q,
            same.views q outside,
            equal,
            ← bytes_view b two path t.node seen.second second q,
          );
    }

    pub list_alike : (which : Which) (sent : Sent) (o p : Option Site) → Both IsLike o p
        → SameViews (set_list a which sent o s) (set_list b which sent p t)
    list_alike which sent o p above = record {
      views = λ q outside.
          grind (
            arith,
            nat_tests,
            list_view a one path s.node seen.first which (setting which sent o s).0
                (keeper which (setting which sent o s).1 (setting which sent o s).0.flags.auto
                (setting which sent o s).2) (search (rules, keeper_blank, sent)) q,
            setting_like which sent o p s t above seen.like,
            same.views q outside,
            list_view b two path t.node seen.second which (setting which sent p t).0
                (keeper which (setting which sent p t).1 (setting which sent p t).0.flags.auto
                (setting which sent p t).2) (search (rules, keeper_blank, sent)) q,
          );
    }

  -- ---- an object is made

  module _ (caller : Caller) (i j : ℕ) (free_i : IsFree a i) (free_j : IsFree b j)
      (name : List ℕ) (names : List (List ℕ)) (s t : Site) (like : IsLike s t)
      (at_a : found a (front (name ∷ names)) ≡ Some s.node)
      (at_b : found b (front (name ∷ names)) ≡ Some t.node)
      (none_a : found a (name ∷ names) ≡ None) (none_b : found b (name ∷ names) ≡ None) where
    abbrev new_a : ObjKind → Node
    new_a kind = new_node i caller kind s (last_name (name ∷ names))

    abbrev new_b : ObjKind → Node
    new_b kind = new_node j caller kind t (last_name (name ∷ names))

    new_like : (kind : ObjKind) → unnumbered (new_a kind) ≡ unnumbered (new_b kind)
    new_like kind = grind (arith, nat_tests)

    folder_alike : SameViews (with_node a (new_a Folder)) (with_node b (new_b Folder))
    folder_alike = record { views = λ q outside. on q outside (at_or_not (name ∷ names) q) }
      where
        on : (q : List (List ℕ)) → (IsBehind f q → ⊥)
            → (q ≡ name ∷ names) ⊎ (q ≡ name ∷ names → ⊥)
            → view (with_node a (new_a Folder)) q ≡ view (with_node b (new_b Folder)) q
        on q outside (inl is) =
            cc (
              is,
              grown_here a one name names s.node at_a none_a (new_a Folder) free_i refl refl
                  (orphans a one content_a i free_i),
              new_like Folder,
              bare a content_a i free_i,
              bare b content_b j free_j,
              grown_here b two name names t.node at_b none_b (new_b Folder) free_j refl refl
                  (orphans b two content_b j free_j),
              is,
            )
        on q outside (inr other) =
            cc (
              grown_view a one name names s.node at_a none_a (new_a Folder) free_i refl refl
                  (orphans a one content_a i free_i) q other,
              same.views q outside,
              grown_view b two name names t.node at_b none_b (new_b Folder) free_j refl refl
                  (orphans b two content_b j free_j) q other,
            )

    document_alike : (bytes : List ℕ)
        → SameViews (with_body (with_node a (new_a Document)) i bytes)
        (with_body (with_node b (new_b Document)) j bytes)
    document_alike bytes = record { views = λ q outside. on q outside (at_or_not (name ∷ names) q) }
      where
        on : (q : List (List ℕ)) → (IsBehind f q → ⊥)
            → (q ≡ name ∷ names) ⊎ (q ≡ name ∷ names → ⊥)
            → view (with_body (with_node a (new_a Document)) i bytes) q
            ≡ view (with_body (with_node b (new_b Document)) j bytes) q
        on q outside (inl is) =
            cc (
              is,
              filled_here a one name names s.node at_a none_a (new_a Document) free_i refl refl
                  (orphans a one content_a i free_i) bytes,
              new_like Document,
              filled_here b two name names t.node at_b none_b (new_b Document) free_j refl refl
                  (orphans b two content_b j free_j) bytes,
              is,
            )
        on q outside (inr other) =
            cc (
              filled_view a one name names s.node at_a none_a (new_a Document) free_i refl refl
                  (orphans a one content_a i free_i) bytes q other,
              same.views q outside,
              filled_view b two name names t.node at_b none_b (new_b Document) free_j refl refl
                  (orphans b two content_b j free_j) bytes q other,
            )

  -- ---- an object is removed

  removed_alike : (name : List ℕ) (names : List (List ℕ)) (s t : Site)
      → IsSeen f a b same (name ∷ names) s t
      → is_empty (children_of a s.node.id) ≡ true → is_empty (children_of b t.node.id) ≡ true
      → (d e : Node) → found a (front (name ∷ names)) ≡ Some d
      → found b (front (name ∷ names)) ≡ Some e
      → SameViews (without_node a s.node.id) (without_node b t.node.id)
  removed_alike name names s t seen empty_a empty_b d e at_d at_e =
      record { views = λ q outside. on q outside (at_or_not (name ∷ names) q) }
    where
      on : (q : List (List ℕ)) → (IsBehind f q → ⊥) → (q ≡ name ∷ names) ⊎ (q ≡ name ∷ names → ⊥)
          → view (without_node a s.node.id) q ≡ view (without_node b t.node.id) q
      on q outside (inl is) =
          cc (
            is,
            gone_here a one content_a.names name names s.node seen.first
                (no_children a s.node.id content_a.names empty_a) d at_d,
            gone_here b two content_b.names name names t.node seen.second
                (no_children b t.node.id content_b.names empty_b) e at_e,
            is,
          )
      on q outside (inr other) =
          cc (
            gone_view a one content_a.names name names s.node seen.first
                (no_children a s.node.id content_a.names empty_a) d at_d q other,
            same.views q outside,
            gone_view b two content_b.names name names t.node seen.second
                (no_children b t.node.id content_b.names empty_b) e at_e q other,
          )

  -- ---- an object is moved

  module _ (name : List ℕ) (names : List (List ℕ)) (s t : Site)
      (seen : IsSeen f a b same (name ∷ names) s t)
      (g : List (List ℕ)) (from_a from_b : Node)
      (above_a : found a (front (name ∷ names)) ≡ Some from_a)
      (above_b : found b (front (name ∷ names)) ≡ Some from_b)
      (first : List ℕ) (more : List (List ℕ)) (c d : Site)
      (place : IsSeen f a b same (front (first ∷ more)) c d)
      (absent_a : found a (first ∷ more) ≡ None) (absent_b : found b (first ∷ more) ≡ None)
      (no_loop : GoesOn (name ∷ names) (front (first ∷ more)) → ⊥)
      (apart_out : (q : List (List ℕ)) → (IsBehind g q → ⊥) → (GoesOn (name ∷ names) q → ⊥)
      → IsBehind f q → ⊥)
      (below_out : (x : List ℕ) (rest : List (List ℕ))
      → (IsBehind g ((first ∷ more) ++ x ∷ rest) → ⊥)
      → IsBehind f ((name ∷ names) ++ x ∷ rest) → ⊥) where
    abbrev moved_a : Node
    moved_a = moved_node s c (last_name (first ∷ more))

    abbrev moved_b : Node
    moved_b = moved_node t d (last_name (first ∷ more))

    moved_like : unnumbered moved_a ≡ unnumbered moved_b
    moved_like = grind (arith, nat_tests)

    moved_alike : SeenAlike g (with_node a moved_a) (with_node b moved_b)
    moved_alike = search (goes_on, on)
      where
        on : (q : List (List ℕ)) → (IsBehind g q → ⊥)
            → GoesOn (first ∷ more) q ⊎ (GoesOn (first ∷ more) q → ⊥)
            → GoesOn (name ∷ names) q ⊎ (GoesOn (name ∷ names) q → ⊥)
            → view (with_node a moved_a) q ≡ view (with_node b moved_b) q
        on q apart (inl ([], is)) old =
            let at = is ∙ append-nil (first ∷ more) in
            cc (
              at,
              view_new a one content_a.names name names s.node seen.first from_a above_a first more
                  c.node place.first absent_a no_loop moved_a refl refl refl,
              moved_like,
              seen.body,
              view_new b two content_b.names name names t.node seen.second from_b above_b first more
                  d.node place.second absent_b no_loop moved_b refl refl refl,
              at,
            )
        on q apart (inl (x ∷ rest, is)) old =
            ap (view (with_node a moved_a)) is
            ∙ view_below a one content_a.names name names s.node seen.first from_a above_a first
            more c.node place.first absent_a no_loop moved_a refl refl refl x rest
            ∙ same.views ((name ∷ names) ++ x ∷ rest)
            (below_out x rest (subst (λ (l : List (List ℕ)). IsBehind g l → ⊥) is apart))
            ∙ sym (
            cc (
              is,
              view_below b two content_b.names name names t.node seen.second from_b above_b first
                  more d.node place.second absent_b no_loop moved_b refl refl refl x rest,
            ))
        on q apart (inr not_new) (inl (rest, is)) =
            cc (
              is,
              view_old a one content_a.names name names s.node seen.first from_a above_a first more
                  c.node place.first absent_a no_loop moved_a refl refl refl rest,
              view_old b two content_b.names name names t.node seen.second from_b above_b first more
                  d.node place.second absent_b no_loop moved_b refl refl refl rest,
              is,
            )
        on q apart (inr not_new) (inr not_old) =
            view_apart a one content_a.names name names s.node seen.first from_a above_a first more
            c.node place.first absent_a no_loop moved_a refl refl refl q not_old not_new
            ∙ same.views q (apart_out q apart not_old)
            ∙ sym (search (view_apart))

  -- ---- all requests

  module _ (caller : Caller) (i j : ℕ) (free_i : IsFree a i) (free_j : IsFree b j) where
    document_put : (path : List (List ℕ)) (bytes : List ℕ) → (IsBehind f path → ⊥)
        → SameViews (effect a caller i (Put path bytes)).1 (effect b caller j (Put path bytes)).1
    document_put [] bytes outside = search (on, target_seen)
      where
        on : (o p : Option Site) → Both (IsSeen f a b same []) o p
            → SameViews (put_bytes a caller i [] bytes o None).1
            (put_bytes b caller j [] bytes p None).1
        on o p both = grind (arith, nat_tests, as_before, bytes_alike)
    document_put (name ∷ names) bytes outside = search (on, target_seen)
      where
        on : (o p : Option Site) → site_at (sites_along a (name ∷ names)) (name ∷ names) ≡ o
            → site_at (sites_along b (name ∷ names)) (name ∷ names) ≡ p
            → Both (IsSeen f a b same (name ∷ names)) o p
            → SameViews (put_bytes a caller i (name ∷ names) bytes o
            (parent_at (sites_along a (name ∷ names)) (name ∷ names))).1
            (put_bytes b caller j (name ∷ names) bytes p
            (parent_at (sites_along b (name ∷ names)) (name ∷ names))).1
        on None None at_o at_p both =
            both_act IsLike (parent_at (sites_along a (name ∷ names)) (name ∷ names))
            (parent_at (sites_along b (name ∷ names)) (name ∷ names)) _ _
            (search (parent_same, sites_same))
            (search (document_alike, none_at, parent_is))
        on None (Some t) at_o at_p both = absurd both
        on (Some s) None at_o at_p both = absurd both
        on (Some s) (Some t) at_o at_p both = search (bytes_alike)

    folder_made : (path : List (List ℕ)) → (IsBehind f path → ⊥)
        → first_failure caller (plan_of a (MakeFolder path)) ≡ None
        → first_failure caller (plan_of b (MakeFolder path)) ≡ None
        → SameViews (effect a caller i (MakeFolder path)).1 (effect b caller j (MakeFolder path)).1
    folder_made [] outside passes_a passes_b = as_before
    folder_made (name ∷ names) outside passes_a passes_b =
        both_act IsLike (parent_at (sites_along a (name ∷ names)) (name ∷ names))
        (parent_at (sites_along b (name ∷ names)) (name ∷ names)) _ _
        (search (parent_same, sites_same))
        (search (folder_alike, folder_passed, parent_is))

    removed_at : (path : List (List ℕ)) (s t : Site) → IsSeen f a b same path s t
        → (is_empty path ≡ false) × (is_empty (children_of a s.node.id) ≡ true)
        → (is_empty path ≡ false) × (is_empty (children_of b t.node.id) ≡ true)
        → SameViews (without_node a s.node.id) (without_node b t.node.id)
    removed_at [] s t seen first second = absurd (true≢false first.0)
    removed_at (name ∷ names) s t seen first second =
        let d = above_found a name names s.node seen.first in
        let e = above_found b name names t.node seen.second in
        search (parent_is, removed_alike)

    moved_at : (path to : List (List ℕ)) → (IsBehind f to → ⊥) → (g : List (List ℕ))
        → ((q : List (List ℕ)) → (IsBehind g q → ⊥) → (GoesOn path q → ⊥) → IsBehind f q → ⊥)
        → ((x : List ℕ) (rest : List (List ℕ)) → (IsBehind g (to ++ x ∷ rest) → ⊥)
        → IsBehind f (path ++ x ∷ rest) → ⊥)
        → (s t : Site) → IsSeen f a b same path s t
        → (is_empty path ≡ false) × ((d : Site)
        × (parent_at (sites_along a path) path ≡ Some d)
        × (first_failure caller (move_items (sites_along a) a to s d) ≡ None))
        → (is_empty path ≡ false) × ((e : Site)
        × (parent_at (sites_along b path) path ≡ Some e)
        × (first_failure caller (move_items (sites_along b) b to t e) ≡ None))
        → SeenAlike g (with_site a (site_at (sites_along a (front to)) (front to))
        (λ c. (Done, with_node a (moved_node s c (last_name to))))).1
        (with_site b (site_at (sites_along b (front to)) (front to))
        (λ d. (Done, with_node b (moved_node t d (last_name to))))).1
    moved_at [] to last g apart_out below_out s t seen first second = absurd (true≢false first.0)
    moved_at (name ∷ names) [] last g apart_out below_out s t seen (full, (d, at, passes)) second =
        grind (arith, nat_tests, both_none, not_refused)
    moved_at (name ∷ names) (first ∷ more) last g apart_out below_out s t seen
        (full, (d, at_d, passes)) (full', (e, at_e, passes')) =
        both_found g (IsSeen f a b same (front (first ∷ more)))
        (site_at (sites_along a (front (first ∷ more))) (front (first ∷ more)))
        (site_at (sites_along b (front (first ∷ more))) (front (first ∷ more))) _ _
        (target_seen f a b same (front (first ∷ more)) fore)
        (λ none none'. search (way_leads))
        (λ x y at_x at_y place.
        moved_alike name names s t seen g d.node e.node
        (parent_is a name names d at_d) (parent_is b name names e at_e) first more x y place
        (place_free caller a first more s d x at_x place.first passes)
        (place_free caller b first more t e y at_y place.second passes')
        (never_meets a (name ∷ names) (front (first ∷ more)) s.node seen.first
        (place_passed caller a first more s d x at_x passes).1)
        apart_out below_out)
      where
        fore : IsBehind f (front (first ∷ more)) → ⊥
        fore = start_outside f (front (first ∷ more)) (last_name (first ∷ more) ∷ [])
            (λ is. last (subst (IsBehind f) (sym (split_last first more)) is))

    -- a move that takes the front along, or leaves it in its place
    move_alike : (path to : List (List ℕ)) → (IsBehind f path → ⊥) → (IsBehind f to → ⊥)
        → first_failure caller (plan_of a (Move path to)) ≡ None
        → first_failure caller (plan_of b (Move path to)) ≡ None
        → SeenAlike (front_done f (Move path to)) (effect a caller i (Move path to)).1
        (effect b caller j (Move path to)).1
    move_alike path to outside last passes_a passes_b =
        both_found (front_done f (Move path to)) (IsSeen f a b same path) _ _ _ _
        (target_seen f a b same path outside)
        (search (none_at, unmoved_alike))
        (λ s t at_s at_t seen. on (rest_after path f) refl s t seen
        (move_passed caller a path to s at_s passes_a)
        (move_passed caller b path to t at_t passes_b))
      where
        on : (o : Option (List (List ℕ))) → rest_after path f ≡ o → (s t : Site)
            → IsSeen f a b same path s t
            → (is_empty path ≡ false) × ((d : Site)
            × (parent_at (sites_along a path) path ≡ Some d)
            × (first_failure caller (move_items (sites_along a) a to s d) ≡ None))
            → (is_empty path ≡ false) × ((e : Site)
            × (parent_at (sites_along b path) path ≡ Some e)
            × (first_failure caller (move_items (sites_along b) b to t e) ≡ None))
            → SeenAlike (option_map_or (λ names. to ++ names) o f)
            (with_site a (site_at (sites_along a (front to)) (front to))
            (λ c. (Done, with_node a (moved_node s c (last_name to))))).1
            (with_site b (site_at (sites_along b (front to)) (front to))
            (λ d. (Done, with_node b (moved_node t d (last_name to))))).1
        on None is s t seen first second =
            moved_at path to last f (λ q apart old behind. apart behind)
            (λ x rest apart. outside_on path f (x ∷ rest) outside (rest_none path f is)) s t seen
            first second
        on (Some names) is s t seen first second =
            let at = rest_some path f names is in
            moved_at path to last (to ++ names)
            (λ q apart old (n, ns, e). old (
              names ++ n ∷ ns,
              e ∙ ap (λ (l : List (List ℕ)). l ++ n ∷ ns) at ∙ append_assoc path names (n ∷ ns),
            )) (search (rules, append_cancel_left, append_assoc)) s t seen first second

    pub effects_alike : (request : Request) → (IsBehind f (first_path request) → ⊥)
        → (IsBehind f (last_path request) → ⊥)
        → first_failure caller (plan_of a request) ≡ None
        → first_failure caller (plan_of b request) ≡ None
        → SeenAlike (front_done f request) (effect a caller i request).1
        (effect b caller j request).1
    effects_alike (Read path) outside last passes_a passes_b =
        both_act (IsSeen f a b same path) _ _ _ _ (target_seen f a b same path outside)
        (λ s t at_s at_t seen. as_before)
    effects_alike (ListFolder path) outside last passes_a passes_b =
        both_act (IsSeen f a b same path) _ _ _ _ (target_seen f a b same path outside)
        (λ s t at_s at_t seen. as_before)
    effects_alike (Put path bytes) outside last passes_a passes_b = search (document_put)
    effects_alike (Append path bytes) outside last passes_a passes_b =
        both_act (IsSeen f a b same path) _ _ _ _ (target_seen f a b same path outside)
        (grind (arith, nat_tests, bytes_alike))
    effects_alike (MakeFolder path) outside last passes_a passes_b = search (folder_made)
    effects_alike (Remove path) outside last passes_a passes_b =
        both_act (IsSeen f a b same path) _ _ _ _ (target_seen f a b same path outside)
        (grind (arith, nat_tests, remove_passed, removed_at))
    effects_alike (Move path to) outside last passes_a passes_b = search (move_alike)
    effects_alike (ReadList path which) outside last passes_a passes_b =
        both_act (IsSeen f a b same path) _ _ _ _ (target_seen f a b same path outside)
        (λ s t at_s at_t seen. as_before)
    effects_alike (SetList path which sent) outside last passes_a passes_b =
        both_act (IsSeen f a b same path) _ _ _ _ (target_seen f a b same path outside)
        (search (list_alike, parent_same, sites_same))
    effects_alike (ReadAttr path) outside last passes_a passes_b =
        both_act (IsSeen f a b same path) _ _ _ _ (target_seen f a b same path outside)
        (λ s t at_s at_t seen. as_before)
    effects_alike (SetOwners path owners) outside last passes_a passes_b =
        both_act (IsSeen f a b same path) _ _ _ _ (target_seen f a b same path outside)
        (λ s t at_s at_t seen. owners_alike path s t seen owners)
    effects_alike (Can path mask) outside last passes_a passes_b =
        both_act (IsSeen f a b same path) _ _ _ _ (target_seen f a b same path outside)
        (λ s t at_s at_t seen. as_before)
