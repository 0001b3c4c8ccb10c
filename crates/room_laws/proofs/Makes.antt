-- What puts something at a path where nothing was.
use Rattle.std.proofs.Common.{rules, ℕ, ℤ, ◌≡◌, ◌⊎◌, inl, inr, true, false, List, [], ◌∷◌, ◌++◌}
use Rattle.std.proofs.Common.{Option, Some, None, refl, sym, ap, subst, ◌∙◌, arith}
use Rattle.std.proofs.lemmas.{Bool.{true≢false, Decides.nat_tests}, Option.none-some}
use Rattle.std.specs.Option.{option_map}
use Rattle.room_entry.specs.Rights.{write_data, append_data}
use Rattle.room_entry.specs.declared.object.{ObjKind.TheVariants.{Document, Folder}, Which.Which}
use Rattle.room_entry.specs.declared.parties.{Caller.Caller, Owners.Owners}
use Rattle.room_ace.specs.Sent.{Sent}
use Rattle.room_rows.specs.Content.{Content, is_empty, with_records, with_node, with_body}
use Rattle.room_rows.specs.{Content.without_node, HeldList.Held, Keep.with_owners}
use Rattle.room_rows.specs.declared.node.{AuditRow.AuditRow, Node.Node}
use Rattle.room_machine.specs.Effect.{effect, bytes_at, put_bytes, with_site, new_node, moved_node}
use Rattle.room_machine.specs.{Effect.set_list, Judge.first_failure, Plan.{plan_of, move_items}}
use Rattle.room_machine.specs.{Rights.{reaches, sites_above}, Run.{Event, Asked}, Site.Site}
use Rattle.room_machine.specs.Site.{front, last_name, site_at, parent_at, sites_along}
use Rattle.room_machine.specs.Step.{IsFree, Step, Reset, caller_in, failure_or}
use Rattle.room_machine.specs.declared.reply.Reply.{Reply, TheVariants.Done}
use Rattle.room_machine.specs.declared.request.Request.{Request, TheVariants.Read}
use Rattle.room_machine.specs.declared.request.Request.TheVariants.{List as ListFolder, Put, Append}
use Rattle.room_machine.specs.declared.request.Request.TheVariants.{MakeFolder, Remove, Move}
use Rattle.room_machine.specs.declared.request.Request.TheVariants.{ReadList, SetList, ReadAttr}
use Rattle.room_machine.specs.declared.request.Request.TheVariants.{SetOwners, Can}
use Rattle.room_laws.specs.{Outside.{found, view, sight}, Tidy.{IsNumbered, IsTidy}}
use Rattle.room_laws.specs.WhoChanged.{Makes}
use Rattle.room_laws.proofs.{Behind.{act_on, target_found}, Changed.{nodes_found, owned}}
use Rattle.room_laws.proofs.{Changed.{owners_view, relisted, list_view}, Grown.{GoesOn, goes_on}}
use Rattle.room_laws.proofs.{Grown.{grown_view, gone_view}, Moved.{view_apart, view_old}}
use Rattle.room_laws.proofs.{Orphans.orphans, Passing.{not_refused, passed, parent_is, none_at}}
use Rattle.room_laws.proofs.Passing.{never_meets, remove_passed, move_passed, place_passed}
use Rattle.room_laws.proofs.Passing.{folder_passed, above_found, at_or_not, place_free}
use Rattle.room_laws.proofs.{Settings.{no_children, setting, keeper, keeper_blank}, Apart.changed}
use Rattle.room_laws.proofs.{Asked.{move_granted, put_granted, folder_granted}, Held.in_table}
use Rattle.room_laws.proofs.Held.{open_to, open_before, folder_at, may_take, bits_known}
use Rattle.room_laws.proofs.{Held.adding_known, WhoChanged.move_done}

-- nothing is at the path, or the event is one that puts something there
pub record Empty (q : List (List ℕ)) (a : Content) (event : Event) (c : Content) : Type 0 where
  pub either : (found c q ≡ None) ⊎ Makes q a event

still_empty : (q : List (List ℕ)) (a : Content) (event : Event) (c : Content) → found c q ≡ None
    → Empty q a event c
still_empty q a event c none = record { either = inl none }

made : (q : List (List ℕ)) (a : Content) (event : Event) (c : Content) → Makes q a event
    → Empty q a event c
made q a event c is = record { either = inr is }

nothing_seen : (c : Content) (q : List (List ℕ)) → view c q ≡ None → found c q ≡ None
nothing_seen c q is = grind (arith, nat_tests)

module _ (q : List (List ℕ)) (a : Content) (absent : found a q ≡ None) where
  view_none : view a q ≡ None
  view_none = ap (option_map (sight a)) absent

  pub none_as_before : (c : Content) → view c q ≡ view a q → found c q ≡ None
  none_as_before c is = nothing_seen c q (is ∙ view_none)

  pub none_changed : (c : Content) (G : Node → Node)
      → view c q ≡ option_map (changed G) (view a q) → found c q ≡ None
  none_changed c G is = nothing_seen c q (is ∙ ap (option_map (changed G)) view_none)

  module _ (numbered : IsNumbered a) (p : List (List ℕ)) (s : Site)
      (at : found a p ≡ Some s.node) where
    pub owners_none : (owners : Owners)
        → found (with_node a (record s.node { owners = owners })) q ≡ None
    owners_none owners =
        none_changed (with_node a (with_owners owners s.node))
        (owned a numbered p s.node at owners q)
        (owners_view a numbered p s.node at owners q)

    pub list_none : (which : Which) (sent : Sent) (o : Option Site)
        → found (set_list a which sent o s) q ≡ None
    list_none which sent o =
        none_changed (set_list a which sent o s)
        (relisted a numbered p s.node at which (setting which sent o s).0 keep q)
        (list_view a numbered p s.node at which (setting which sent o s).0 keep
        (search (rules, keeper_blank, sent)) q)
      where
        keep : Node → Held
        keep node =
            keeper which (setting which sent o s).1 (setting which sent o s).0.flags.auto
            (setting which sent o s).2 node

  pub bytes_none : (c : Content) (id : ℕ) (bytes : List ℕ) → found c q ≡ None
      → found (with_body c id bytes) q ≡ None
  bytes_none c id bytes none = nodes_found c (with_body c id bytes) refl q ∙ none

  pub records_none : (c : Content) (rows : List AuditRow) → found c q ≡ None
      → found (with_records c rows) q ≡ None
  records_none c rows none = nodes_found c (with_records c rows) refl q ∙ none

module _ (q : List (List ℕ)) (a : Content) (numbered : IsNumbered a) (tidy : IsTidy a)
    (absent : found a q ≡ None) (user : Option (List ℕ)) (moment : ℤ) (reply : Reply) where
  abbrev caller : Caller
  caller = caller_in a user

  abbrev After : Request → Content → Type 0
  After request c = Empty q a (Asked user moment request reply) c

  as_before : (request : Request) → After request a
  as_before request = still_empty q a (Asked user moment request reply) a absent

  empty_after : (request : Request) (c : Content) → found c q ≡ None → After request c
  empty_after request c none = still_empty q a (Asked user moment request reply) c none

  module _ (id : ℕ) (free : IsFree a id) where
    put_makes : (path : List (List ℕ)) (bytes : List ℕ)
        → first_failure caller (plan_of a (Put path bytes)) ≡ None
        → (effect a caller id (Put path bytes)).0 ≡ reply
        → After (Put path bytes) (effect a caller id (Put path bytes)).1
    put_makes [] bytes none given = grind (arith, nat_tests, as_before, bytes_none, empty_after)
    put_makes (name ∷ names) bytes none given =
        on (site_at (sites_along a (name ∷ names)) (name ∷ names)) refl
      where
        by : (d : Site) → site_at (sites_along a (name ∷ names)) (name ∷ names) ≡ None
            → parent_at (sites_along a (name ∷ names)) (name ∷ names) ≡ Some d
            → (q ≡ name ∷ names) ⊎ (q ≡ name ∷ names → ⊥)
            → After (Put (name ∷ names) bytes) (with_body (with_node a
            (new_node id caller Document d (last_name (name ∷ names)))) id bytes)
        by d at at_d (inl is) =
            made q a (Asked user moment (Put (name ∷ names) bytes) reply) _ (
              is,
              in_table a user (front (name ∷ names)) d write_data
                  (folder_at a user name names d at_d)
                  (open_before a user true name names _ none)
                  (put_granted caller a (name ∷ names) bytes d at at_d none) bits_known.2,
              cc (given, at, at_d),
            )
        by d at at_d (inr other) =
            search (
              bytes_none,
              empty_after,
              grown_view,
              none_as_before,
              none_at,
              orphans,
              parent_is,
            )

        on : (o : Option Site) → site_at (sites_along a (name ∷ names)) (name ∷ names) ≡ o
            → After (Put (name ∷ names) bytes) (put_bytes a caller id (name ∷ names) bytes o
            (parent_at (sites_along a (name ∷ names)) (name ∷ names))).1
        on None at =
            act_on (Empty q a (Asked user moment (Put (name ∷ names) bytes) reply)) a
            (parent_at (sites_along a (name ∷ names)) (name ∷ names)) _
            (as_before (Put (name ∷ names) bytes))
            (λ d at_d. by d at at_d (at_or_not (name ∷ names) q))
        on (Some t) at_t = search (bytes_none, empty_after)

    folder_makes : (path : List (List ℕ))
        → first_failure caller (plan_of a (MakeFolder path)) ≡ None
        → (effect a caller id (MakeFolder path)).0 ≡ reply
        → After (MakeFolder path) (effect a caller id (MakeFolder path)).1
    folder_makes [] none given = as_before (MakeFolder [])
    folder_makes (name ∷ names) none given =
        act_on (Empty q a (Asked user moment (MakeFolder (name ∷ names)) reply)) a
        (parent_at (sites_along a (name ∷ names)) (name ∷ names)) _
        (as_before (MakeFolder (name ∷ names)))
        (λ d at_d. by d at_d (at_or_not (name ∷ names) q))
      where
        by : (d : Site) → parent_at (sites_along a (name ∷ names)) (name ∷ names) ≡ Some d
            → (q ≡ name ∷ names) ⊎ (q ≡ name ∷ names → ⊥)
            → After (MakeFolder (name ∷ names))
            (with_node a (new_node id caller Folder d (last_name (name ∷ names))))
        by d at_d (inl is) =
            made q a (Asked user moment (MakeFolder (name ∷ names)) reply) _ (
              is,
              in_table a user (front (name ∷ names)) d append_data
                  (folder_at a user name names d at_d)
                  (open_before a user true name names _ none)
                  (folder_granted caller a name names d at_d none) bits_known.3,
              cc (given, at_d),
            )
        by d at_d (inr other) =
            search (empty_after, folder_passed, grown_view, none_as_before, orphans, parent_is)

  removed_makes : (path : List (List ℕ)) (s : Site) → site_at (sites_along a path) path ≡ Some s
      → first_failure caller (plan_of a (Remove path)) ≡ None
      → After (Remove path) (without_node a s.node.id)
  removed_makes [] s at none = absurd (true≢false (remove_passed caller a [] s at none).0)
  removed_makes (name ∷ names) s at none =
      let above = above_found a name names s.node (target_found a (name ∷ names) s at) in
      empty_after (Remove (name ∷ names)) (without_node a s.node.id)
      (none_as_before q a absent (without_node a s.node.id)
      (gone_view a numbered tidy.names name names s.node (target_found a (name ∷ names) s at)
      (no_children a s.node.id tidy.names (remove_passed caller a (name ∷ names) s at none).1)
      above.0.node (parent_is a name names above.0 above.1) q
      (λ is. none-some s.node (cc (absent, is, target_found a (name ∷ names) s at)))))

  moved_makes : (path to : List (List ℕ)) (s : Site) → site_at (sites_along a path) path ≡ Some s
      → (is_empty path ≡ false) × ((d : Site)
      × (parent_at (sites_along a path) path ≡ Some d)
      × (first_failure caller (move_items (sites_along a) a to s d) ≡ None))
      → reaches caller (sites_above a path) ≡ true → reply ≡ Done
      → After (Move path to) (with_site a (site_at (sites_along a (front to)) (front to))
      (λ e. (Done, with_node a (moved_node s e (last_name to))))).1
  moved_makes [] to s at (full, rest) free done = absurd (true≢false full)
  moved_makes (name ∷ names) [] s at (full, (d, at_d, none)) free done =
      grind (arith, nat_tests, not_refused, passed)
  moved_makes (name ∷ names) (first ∷ more) s at (full, (d, at_d, none)) free done =
      act_on (Empty q a (Asked user moment (Move (name ∷ names) (first ∷ more)) reply)) a
      (site_at (sites_along a (front (first ∷ more))) (front (first ∷ more)))
      (λ e. (Done, with_node a (moved_node s e (last_name (first ∷ more)))))
      (as_before (Move (name ∷ names) (first ∷ more)))
      (λ e at_e. on e at_e (goes_on (first ∷ more) q) (goes_on (name ∷ names) q))
    where
      at_node : found a (name ∷ names) ≡ Some s.node
      at_node = target_found a (name ∷ names) s at

      on : (e : Site)
          → site_at (sites_along a (front (first ∷ more))) (front (first ∷ more)) ≡ Some e
          → GoesOn (first ∷ more) q ⊎ (GoesOn (first ∷ more) q → ⊥)
          → GoesOn (name ∷ names) q ⊎ (GoesOn (name ∷ names) q → ⊥)
          → After (Move (name ∷ names) (first ∷ more))
          (with_node a (moved_node s e (last_name (first ∷ more))))
      on e at_e (inl is) old =
          let given = move_granted caller a first more s d e at_e none in
          made q a (Asked user moment (Move (name ∷ names) (first ∷ more)) reply) _ (
            is,
            may_take a user name names s d at at_d free given.0,
            grind (arith, nat_tests, adding_known, bits_known, in_table, open_to),
            done,
          )
      on e at_e (inr not_new) (inl (rest, is)) =
          empty_after (Move (name ∷ names) (first ∷ more)) _
          (nothing_seen (with_node a (moved_node s e (last_name (first ∷ more)))) q
          (
          cc (
            is,
            view_old a numbered tidy.names name names s.node at_node d.node
                (parent_is a name names d at_d) first more e.node
                (target_found a (front (first ∷ more)) e at_e)
                (place_free caller a first more s d e at_e
                (target_found a (front (first ∷ more)) e at_e) none)
                (never_meets a (name ∷ names) (front (first ∷ more)) s.node at_node
                (place_passed caller a first more s d e at_e none).1)
                (moved_node s e (last_name (first ∷ more))) refl refl refl rest,
          )))
      on e at_e (inr not_new) (inr not_old) =
          empty_after (Move (name ∷ names) (first ∷ more)) _
          (none_as_before q a absent (with_node a (moved_node s e (last_name (first ∷ more))))
          (view_apart a numbered tidy.names name names s.node at_node d.node
          (parent_is a name names d at_d) first more e.node
          (target_found a (front (first ∷ more)) e at_e) (place_free caller a first more s d e at_e
          (target_found a (front (first ∷ more)) e at_e) none)
          (never_meets a (name ∷ names) (front (first ∷ more)) s.node at_node
          (place_passed caller a first more s d e at_e none).1)
          (moved_node s e (last_name (first ∷ more))) refl refl refl q not_old not_new))

  effects_make : (id : ℕ) → IsFree a id → (request : Request)
      → first_failure caller (plan_of a request) ≡ None
      → (effect a caller id request).0 ≡ reply
      → After request (effect a caller id request).1
  effects_make id free (Read path) none is =
      act_on (Empty q a (Asked user moment (Read path) reply)) a _ _ (as_before (Read path))
      (λ s at. as_before (Read path))
  effects_make id free (ListFolder path) none is =
      act_on (Empty q a (Asked user moment (ListFolder path) reply)) a _ _
      (as_before (ListFolder path)) (λ s at. as_before (ListFolder path))
  effects_make id free (Put path bytes) none is = put_makes id free path bytes none is
  effects_make id free (Append path bytes) none is =
      act_on (Empty q a (Asked user moment (Append path bytes) reply)) a _ _
      (as_before (Append path bytes)) (λ s at.
      empty_after (Append path bytes)
      (with_body a s.node.id (bytes_at a s.node.id ++ bytes))
      (bytes_none q a absent a s.node.id (bytes_at a s.node.id ++ bytes) absent))
  effects_make id free (MakeFolder path) none is = folder_makes id free path none is
  effects_make id free (Remove path) none is =
      act_on (Empty q a (Asked user moment (Remove path) reply)) a _ _
      (as_before (Remove path)) (λ s at. removed_makes path s at none)
  effects_make id free (Move path to) none is =
      act_on (Empty q a (Asked user moment (Move path to) reply)) a
      (site_at (sites_along a path) path) _ (as_before (Move path to))
      (λ s at. moved_makes path to s at (move_passed caller a path to s at none)
      (open_to a user false path _ none) (sym is ∙ move_done a (site_at (sites_along a path) path)
      (site_at (sites_along a (front to)) (front to))
      (λ x y. with_node a (moved_node x y (last_name to)))))
  effects_make id free (ReadList path which) none is =
      act_on (Empty q a (Asked user moment (ReadList path which) reply)) a _ _
      (as_before (ReadList path which)) (λ s at. as_before (ReadList path which))
  effects_make id free (SetList path which sent) none is =
      act_on (Empty q a (Asked user moment (SetList path which sent) reply)) a _ _
      (as_before (SetList path which sent)) (λ s at.
      empty_after (SetList path which sent) _
      (list_none q a absent numbered path s (target_found a path s at) which sent
      (parent_at (sites_along a path) path)))
  effects_make id free (ReadAttr path) none is =
      act_on (Empty q a (Asked user moment (ReadAttr path) reply)) a _ _
      (as_before (ReadAttr path)) (λ s at. as_before (ReadAttr path))
  effects_make id free (SetOwners path owners) none is =
      act_on (Empty q a (Asked user moment (SetOwners path owners) reply)) a _ _
      (as_before (SetOwners path owners)) (λ s at.
      empty_after (SetOwners path owners) _
      (owners_none q a absent numbered path s (target_found a path s at) owners))
  effects_make id free (Can path mask) none is =
      act_on (Empty q a (Asked user moment (Can path mask) reply)) a _ _
      (as_before (Can path mask)) (λ s at. as_before (Can path mask))

  noted : (event : Event) (c : Content) (rows : List AuditRow) → Empty q a event c
      → Empty q a event (with_records c rows)
  noted event c rows outcome = grind (arith, nat_tests, made, records_none, still_empty)

  pub step_makes : (request : Request) (after : Content) → Step a user moment request reply after
      → After request after
  step_makes request after s =
      subst (Empty q a (Asked user moment request reply)) (ap (λ (d : Reply × Content). d.1) s.2)
      (grind (arith, nat_tests, noted, on))
    where
      on : (o : Option Reply) → first_failure caller (plan_of a request) ≡ o
          → (failure_or o a (effect a caller s.0 request)).0 ≡ reply
          → After request (failure_or o a (effect a caller s.0 request)).1
      on None none is = effects_make s.0 s.1 request none is
      on (Some r) some is = as_before request

-- ---- a list that the operator sets makes nothing

record StillNone (q : List (List ℕ)) (c : Content) : Type 0 where
  none : found c q ≡ None

still_none : (q : List (List ℕ)) (c : Content) → found c q ≡ None → StillNone q c
still_none q c is = record { none = is }

pub reset_none : (q : List (List ℕ)) (a : Content) → IsNumbered a → found a q ≡ None
    → (path : List (List ℕ)) (which : Which) (sent : Sent) (reply : Reply) (after : Content)
    → Reset a path which sent reply after → found after q ≡ None
reset_none q a numbered absent path which sent reply after s = grind (arith, nat_tests, on)
  where
    done : StillNone q
        (effect a (record { user = None; groups = [] }) 0 (SetList path which sent)).1
    done =
        act_on (StillNone q) a (site_at (sites_along a path) path) _ (still_none q a absent)
        (λ x at. search (list_none, still_none, target_found))

    on : (o : Option Reply) → StillNone q
        (failure_or o a (effect a (record { user = None; groups = [] }) 0
        (SetList path which sent))).1
    on None = done
    on (Some r) = still_none q a absent
