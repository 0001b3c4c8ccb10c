-- What changes who may do what.
use Rattle.std.proofs.Common.{rules, ℕ, ℤ, ◌≡◌, ◌⊎◌, inl, inr, true, false, List, [], ◌∷◌, Option}
use Rattle.std.proofs.Common.{Some, None, refl, sym, ap, subst, ◌∙◌, arith}
use Rattle.std.{proofs.lemmas.Bool.{true≢false, Decides.nat_tests}, specs.Option.option_map}
use Rattle.std.specs.Prelude.{is_some}
use Rattle.room_entry.specs.{Rights.{write_acl, write_owner}, Valid.first_bad_entry}
use Rattle.room_entry.specs.declared.object.Which.{Which, TheVariants.{Dacl, Sacl}}
use Rattle.room_entry.specs.declared.parties.Caller.{Caller}
use Rattle.room_ace.specs.Sent.{Sent}
use Rattle.room_rows.specs.Content.{Content, child_of, is_empty, with_records, with_node}
use Rattle.room_rows.specs.{Content.without_node, declared.node.{AuditRow.AuditRow, Node.Node}}
use Rattle.room_machine.specs.Effect.{effect, put_bytes, with_site, moved_node, set_list}
use Rattle.room_machine.specs.{Judge.first_failure, Plan.{plan_of, move_items, bad_list}}
use Rattle.room_machine.specs.{Rights.{reaches, sites_above}, Run.{Event, Asked, WasReset}}
use Rattle.room_machine.specs.{Run.{Replaced, Happens}, Site.{Site, front, last_name, site_at}}
use Rattle.room_machine.specs.{Site.{parent_at, sites_along}, Step.{IsFree, Step, caller_in}}
use Rattle.room_machine.specs.{Step.{failure_or, Reset}, declared.reply.Reply.Reply}
use Rattle.room_machine.specs.declared.{reply.Reply.TheVariants.Done, request.Request.Request}
use Rattle.room_machine.specs.declared.request.Request.TheVariants.{Read, List as ListFolder, Put}
use Rattle.room_machine.specs.declared.request.Request.TheVariants.{Append, MakeFolder, Remove}
use Rattle.room_machine.specs.declared.request.Request.TheVariants.{Move, ReadList, SetList}
use Rattle.room_machine.specs.declared.request.Request.TheVariants.{ReadAttr, SetOwners, Can}
use Rattle.room_laws.specs.{Outside.found, Tidy.{IsNumbered, IsTidy}, WhoChanged.{Changes, IsThere}}
use Rattle.room_laws.specs.WhoChanged.{SameBasis, ChangedBy, ChangedInRun, FirstChange}
use Rattle.room_laws.{specs.WhoChanged.deciding_site, proofs.Behind.{act_on, target_found}}
use Rattle.room_laws.proofs.{Behind.{numbers_stay, after_step}, Grown.{GoesOn, goes_on}}
use Rattle.room_laws.proofs.{Orphans.orphans, PairsStay.{KeepsMembers, kept_by, members_stay}}
use Rattle.room_laws.proofs.Passing.{not_refused, passed, parent_is, none_at, never_meets}
use Rattle.room_laws.proofs.Passing.{remove_passed, move_passed, place_passed, folder_passed}
use Rattle.room_laws.proofs.{Passing.{above_found, place_free}, Seen.like_at, Settings.no_children}
use Rattle.room_laws.proofs.{TidySteps.tidy_stays, Apart.{SameDown, down_itself, basis_down}}
use Rattle.room_laws.proofs.Apart.{owners_apart, list_apart, bytes_apart, records_apart}
use Rattle.room_laws.proofs.Apart.{grown_apart, gone_apart, moved_apart, childless_end}
use Rattle.room_laws.proofs.{Apart.audits_apart, Asked.{check_passed, removal_passed, move_granted}}
use Rattle.room_laws.proofs.Held.{in_table, open_to, may_take, bits_known, adding_known}

-- the objects down to the path are the same, or the event is one that changes them
record Outcome (q : List (List ℕ)) (a : Content) (event : Event) (c : Content) : Type 0 where
  either : SameDown q a c ⊎ Changes q a event

same_outcome : (q : List (List ℕ)) (a : Content) (event : Event) (c : Content) → SameDown q a c
    → Outcome q a event c
same_outcome q a event c same = record { either = inl same }

changed_outcome : (q : List (List ℕ)) (a : Content) (event : Event) (c : Content)
    → Changes q a event → Outcome q a event c
changed_outcome q a event c is = record { either = inr is }

-- what these requests answer
pub all_done : (a : Content) (o : Option Site) (act : Site → Content)
    → (with_site a o (λ s. (Done, act s))).0 ≡ Done
all_done a None act = refl
all_done a (Some s) act = refl

pub move_done : (a : Content) (o p : Option Site) (act : Site → Site → Content)
    → (with_site a o (λ s. with_site a p (λ d. (Done, act s d)))).0 ≡ Done
move_done a o p act = grind (arith, nat_tests)

module _ (q : List (List ℕ)) (a : Content) (numbered : IsNumbered a) (tidy : IsTidy a) (n : Node)
    (there : found a q ≡ Some n) (user : Option (List ℕ)) (moment : ℤ) (reply : Reply) where
  abbrev caller : Caller
  caller = caller_in a user

  abbrev After : Request → Content → Type 0
  After request c = Outcome q a (Asked user moment request reply) c

  as_before : (request : Request) → After request a
  as_before request = search (down_itself, same_outcome)

  -- ---- objects that are made

  module _ (id : ℕ) (free : IsFree a id) where
    put_down : (path : List (List ℕ)) (bytes : List ℕ)
        → After (Put path bytes) (effect a caller id (Put path bytes)).1
    put_down [] bytes = grind (arith, nat_tests, as_before, bytes_apart, down_itself, same_outcome)
    put_down (name ∷ names) bytes =
        on (site_at (sites_along a (name ∷ names)) (name ∷ names)) refl
      where
        on : (o : Option Site) → site_at (sites_along a (name ∷ names)) (name ∷ names) ≡ o
            → After (Put (name ∷ names) bytes) (put_bytes a caller id (name ∷ names) bytes o
            (parent_at (sites_along a (name ∷ names)) (name ∷ names))).1
        on None none =
            act_on (Outcome q a (Asked user moment (Put (name ∷ names) bytes) reply)) a
            (parent_at (sites_along a (name ∷ names)) (name ∷ names)) _
            (as_before (Put (name ∷ names) bytes)) (λ d at_d.
            search (bytes_apart, grown_apart, none_at, orphans, parent_is, same_outcome))
        on (Some t) at_t = search (bytes_apart, down_itself, same_outcome)

    folder_down : (path : List (List ℕ))
        → first_failure caller (plan_of a (MakeFolder path)) ≡ None
        → After (MakeFolder path) (effect a caller id (MakeFolder path)).1
    folder_down [] none = as_before (MakeFolder [])
    folder_down (name ∷ names) none =
        act_on (Outcome q a (Asked user moment (MakeFolder (name ∷ names)) reply)) a
        (parent_at (sites_along a (name ∷ names)) (name ∷ names)) _
        (as_before (MakeFolder (name ∷ names))) (λ d at_d.
        search (folder_passed, grown_apart, orphans, parent_is, same_outcome))

  -- ---- an object is removed or moved

  removed_down : (path : List (List ℕ)) (s : Site) → site_at (sites_along a path) path ≡ Some s
      → first_failure caller (plan_of a (Remove path)) ≡ None → reply ≡ Done
      → After (Remove path) (without_node a s.node.id)
  removed_down [] s at none done = absurd (true≢false (remove_passed caller a [] s at none).0)
  removed_down (name ∷ names) s at none done = on (goes_on (name ∷ names) q)
    where
      at_node : found a (name ∷ names) ≡ Some s.node
      at_node = target_found a (name ∷ names) s at

      above : (d : Site) × (parent_at (sites_along a (name ∷ names)) (name ∷ names) ≡ Some d)
      above = above_found a name names s.node at_node

      childless : (x : List ℕ) → child_of a s.node.id x ≡ None
      childless = no_children a s.node.id tidy.names
          (remove_passed caller a (name ∷ names) s at none).1

      on : GoesOn (name ∷ names) q ⊎ (GoesOn (name ∷ names) q → ⊥)
          → After (Remove (name ∷ names)) (without_node a s.node.id)
      on (inl (rest, is)) =
          search (
            above,
            at_node,
            changed_outcome,
            childless,
            childless_end,
            may_take,
            open_to,
            removal_passed,
          )
      on (inr apart) = search (above, at_node, childless, gone_apart, parent_is, same_outcome)

  moved_down : (path to : List (List ℕ)) (s : Site) → site_at (sites_along a path) path ≡ Some s
      → (is_empty path ≡ false) × ((d : Site)
      × (parent_at (sites_along a path) path ≡ Some d)
      × (first_failure caller (move_items (sites_along a) a to s d) ≡ None))
      → reaches caller (sites_above a path) ≡ true → reply ≡ Done
      → After (Move path to) (with_site a (site_at (sites_along a (front to)) (front to))
      (λ e. (Done, with_node a (moved_node s e (last_name to))))).1
  moved_down [] to s at (full, rest) free done = absurd (true≢false full)
  moved_down (name ∷ names) [] s at (full, (d, at_d, none)) free done =
      grind (arith, nat_tests, not_refused, passed)
  moved_down (name ∷ names) (first ∷ more) s at (full, (d, at_d, none)) free done =
      act_on (Outcome q a (Asked user moment (Move (name ∷ names) (first ∷ more)) reply)) a
      (site_at (sites_along a (front (first ∷ more))) (front (first ∷ more)))
      (λ e. (Done, with_node a (moved_node s e (last_name (first ∷ more)))))
      (as_before (Move (name ∷ names) (first ∷ more)))
      (λ e at_e. on e at_e (goes_on (name ∷ names) q))
    where
      at_node : found a (name ∷ names) ≡ Some s.node
      at_node = target_found a (name ∷ names) s at

      on : (e : Site)
          → site_at (sites_along a (front (first ∷ more))) (front (first ∷ more)) ≡ Some e
          → GoesOn (name ∷ names) q ⊎ (GoesOn (name ∷ names) q → ⊥)
          → After (Move (name ∷ names) (first ∷ more))
          (with_node a (moved_node s e (last_name (first ∷ more))))
      on e at_e (inl is) =
          let given = move_granted caller a first more s d e at_e none in
          grind (
            arith,
            nat_tests,
            adding_known,
            bits_known,
            changed_outcome,
            in_table,
            may_take,
            open_to,
          )
      on e at_e (inr apart) =
          same_outcome q a (Asked user moment (Move (name ∷ names) (first ∷ more)) reply)
          (with_node a (moved_node s e (last_name (first ∷ more))))
          (moved_apart a numbered q n there tidy.names name names s.node at_node d.node
          (parent_is a name names d at_d) first more e.node
          (target_found a (front (first ∷ more)) e at_e)
          (place_free caller a first more s d e at_e
          (target_found a (front (first ∷ more)) e at_e) none)
          (never_meets a (name ∷ names) (front (first ∷ more)) s.node at_node
          (place_passed caller a first more s d e at_e none).1)
          (moved_node s e (last_name (first ∷ more))) refl refl refl apart)

  -- ---- lists and owners

  listed_down : (path : List (List ℕ)) (which : Which) (sent : Sent) (s : Site)
      → site_at (sites_along a path) path ≡ Some s
      → first_failure caller (plan_of a (SetList path which sent)) ≡ None → reply ≡ Done
      → After (SetList path which sent)
      (set_list a which sent (parent_at (sites_along a path) path) s)
  listed_down path Sacl sent s at none done = search (audits_apart, same_outcome, target_found)
  listed_down path Dacl sent s at none done = on (goes_on path q)
    where
      on : GoesOn path q ⊎ (GoesOn path q → ⊥) → After (SetList path Dacl sent)
          (set_list a Dacl sent (parent_at (sites_along a path) path) s)
      on (inl is) =
          changed_outcome q a (Asked user moment (SetList path Dacl sent) reply) _ (
            is,
            in_table a user path s write_acl at (open_to a user false path _ none)
                (check_passed caller a path (write_acl ∷ [])
                (λ t. bad_list path (first_bad_entry 1 Dacl t.node.kind sent.entries)) s at none)
                bits_known.0,
            done,
          )
      on (inr apart) = search (list_apart, same_outcome, target_found)

  owned_down : (path : List (List ℕ)) (owners : _) (s : Site)
      → site_at (sites_along a path) path ≡ Some s
      → first_failure caller (plan_of a (SetOwners path owners)) ≡ None → reply ≡ Done
      → After (SetOwners path owners) (with_node a (record s.node { owners = owners }))
  owned_down path owners s at none done = on (goes_on path q)
    where
      on : GoesOn path q ⊎ (GoesOn path q → ⊥) → After (SetOwners path owners)
          (with_node a (record s.node { owners = owners }))
      on (inl is) =
          changed_outcome q a (Asked user moment (SetOwners path owners) reply) _ (
            is,
            in_table a user path s write_owner at (open_to a user false path _ none)
                (check_passed caller a path (write_owner ∷ []) (λ t. []) s at none) bits_known.1,
            done,
          )
      on (inr apart) = search (owners_apart, same_outcome, target_found)

  -- ---- all requests

  effects_down : (id : ℕ) → IsFree a id → (request : Request)
      → first_failure caller (plan_of a request) ≡ None
      → (effect a caller id request).0 ≡ reply
      → After request (effect a caller id request).1
  effects_down id free (Read path) none is =
      act_on (Outcome q a (Asked user moment (Read path) reply)) a _ _ (as_before (Read path))
      (λ s at. as_before (Read path))
  effects_down id free (ListFolder path) none is =
      act_on (Outcome q a (Asked user moment (ListFolder path) reply)) a _ _
      (as_before (ListFolder path)) (λ s at. as_before (ListFolder path))
  effects_down id free (Put path bytes) none is = put_down id free path bytes
  effects_down id free (Append path bytes) none is =
      act_on (Outcome q a (Asked user moment (Append path bytes) reply)) a _ _
      (as_before (Append path bytes)) (λ s at.
      same_outcome q a (Asked user moment (Append path bytes) reply) _
      (bytes_apart q a a s.node.id _ (down_itself q a)))
  effects_down id free (MakeFolder path) none is = folder_down id free path none
  effects_down id free (Remove path) none is =
      act_on (Outcome q a (Asked user moment (Remove path) reply)) a _ _
      (as_before (Remove path)) (λ s at. removed_down path s at none
      (sym is ∙ all_done a (site_at (sites_along a path) path) (λ x. without_node a x.node.id)))
  effects_down id free (Move path to) none is =
      act_on (Outcome q a (Asked user moment (Move path to) reply)) a
      (site_at (sites_along a path) path) _
      (as_before (Move path to)) (λ s at.
      moved_down path to s at (move_passed caller a path to s at none)
      (open_to a user false path _ none) (sym is ∙ move_done a (site_at (sites_along a path) path)
      (site_at (sites_along a (front to)) (front to))
      (λ x y. with_node a (moved_node x y (last_name to)))))
  effects_down id free (ReadList path which) none is =
      act_on (Outcome q a (Asked user moment (ReadList path which) reply)) a _ _
      (as_before (ReadList path which)) (λ s at. as_before (ReadList path which))
  effects_down id free (SetList path which sent) none is =
      act_on (Outcome q a (Asked user moment (SetList path which sent) reply)) a _ _
      (as_before (SetList path which sent)) (λ s at. listed_down path which sent s at none
      (search (rules, is, all_done)))
  effects_down id free (ReadAttr path) none is =
      act_on (Outcome q a (Asked user moment (ReadAttr path) reply)) a _ _
      (as_before (ReadAttr path)) (λ s at. as_before (ReadAttr path))
  effects_down id free (SetOwners path owners) none is =
      act_on (Outcome q a (Asked user moment (SetOwners path owners) reply)) a _ _
      (as_before (SetOwners path owners)) (λ s at. owned_down path owners s at none
      (search (rules, is, all_done)))
  effects_down id free (Can path mask) none is =
      act_on (Outcome q a (Asked user moment (Can path mask) reply)) a _ _
      (as_before (Can path mask)) (λ s at. as_before (Can path mask))

  noted : (event : Event) (c : Content) (rows : List AuditRow) → Outcome q a event c
      → Outcome q a event (with_records c rows)
  noted event c rows outcome =
      grind (arith, nat_tests, changed_outcome, records_apart, same_outcome)

  step_down : (request : Request) (after : Content) → Step a user moment request reply after
      → After request after
  step_down request after s =
      subst (Outcome q a (Asked user moment request reply)) (ap (λ (d : Reply × Content). d.1) s.2)
      (grind (arith, nat_tests, noted, on))
    where
      on : (o : Option Reply) → first_failure caller (plan_of a request) ≡ o
          → (failure_or o a (effect a caller s.0 request)).0 ≡ reply
          → After request (failure_or o a (effect a caller s.0 request)).1
      on None none is = effects_down s.0 s.1 request none is
      on (Some r) some is = as_before request

-- ---- pairs

noted_pairs : (a c : Content) (rows : List AuditRow) → KeepsMembers a c
    → KeepsMembers a (with_records c rows)
noted_pairs a c rows keeps = record { members = keeps.members }

step_pairs : (a : Content) (user : Option (List ℕ)) (moment : ℤ) (request : Request) (reply : Reply)
    (after : Content) → Step a user moment request reply after → KeepsMembers a after
step_pairs a user moment request reply after s =
    grind (arith, nat_tests, after_step, kept_by, members_stay, noted_pairs)

-- ---- any event

there_at : (a : Content) (q : List (List ℕ)) → IsThere a q
    → (n : Node) × (found a q ≡ Some n)
there_at a q is = grind (arith, nat_tests, target_found)

standing_of : (q : List (List ℕ)) (a c : Content) (event : Event) → KeepsMembers a c
    → Outcome q a event c → SameBasis q a c ⊎ Changes q a event
standing_of q a c event keeps outcome = grind (arith, nat_tests, basis_down)

-- a list that the operator sets, where it changes nothing down to the path
module _ (q : List (List ℕ)) (a : Content) (path : List (List ℕ))
    (which : Which) (sent : Sent)
    (quiet : (x : Site) → site_at (sites_along a path) path ≡ Some x
    → SameDown q a (set_list a which sent (parent_at (sites_along a path) path) x)) where
  abbrev nobody : Caller
  nobody = record { user = None; groups = [] }

  record SetApart (c : Content) : Type 0 where
    down : SameDown q a c
    members : c.members ≡ a.members

  set_apart : (c : Content) → SameDown q a c → c.members ≡ a.members → SetApart c
  set_apart c down members = record { down = down; members = members }

  done_apart : SetApart (effect a nobody 0 (SetList path which sent)).1
  done_apart = grind (arith, nat_tests, act_on, down_itself, set_apart)

  either_apart : (o : Option Reply)
      → SetApart (failure_or o a (effect a nobody 0 (SetList path which sent))).1
  either_apart None = done_apart
  either_apart (Some r) = set_apart a (down_itself q a) refl

  reset_apart : (reply : Reply) (after : Content) → Reset a path which sent reply after
      → SameBasis q a after
  reset_apart reply after s =
      let is : SetApart after = subst SetApart (ap (λ (d : Reply × Content). d.1) s)
      (search (rules, either_apart)) in
      record { members = sym is.members; objects = basis_down q a after is.down }

pub changed_by : ChangedBy
changed_by q a (Asked user moment request reply) after numbered tidy there s =
    let at = there_at a q there in
    search (standing_of, step_down, step_pairs)
changed_by q a (WasReset path Sacl sent reply) after numbered tidy there s =
    inl (reset_apart q a path Sacl sent (λ x at. search (audits_apart, target_found)) reply after s)
changed_by q a (WasReset path Dacl sent reply) after numbered tidy there s = on (goes_on path q)
  where
    on : GoesOn path q ⊎ (GoesOn path q → ⊥)
        → SameBasis q a after ⊎ Changes q a (WasReset path Dacl sent reply)
    on (inl is) = inr is
    on (inr apart) = inl (reset_apart q a path Dacl sent (λ x at.
        list_apart a numbered path x (target_found a path x at) q apart Dacl sent
        (parent_at (sites_along a path) path)) reply after s)
changed_by q a (Replaced pairs) after numbered tidy there s = inr tt

-- ---- runs

some_blank : (o p : Option Site) → option_map deciding_site o ≡ option_map deciding_site p
    → is_some o ≡ true → is_some p ≡ true
some_blank o p same none = grind (arith, nat_tests)

pub still_there : (q : List (List ℕ)) (a c : Content) → SameBasis q a c → IsThere a q
    → IsThere c q
still_there q a c same there = grind (arith, nat_tests, like_at, some_blank)

pub standing_itself : (q : List (List ℕ)) (a : Content) → SameBasis q a a
standing_itself q a = record { members = refl; objects = refl }

pub standing_on : (q : List (List ℕ)) (a b c : Content) → SameBasis q a b → SameBasis q b c
    → SameBasis q a c
standing_on q a b c one two = grind (arith, nat_tests)

-- by the first event, and then the rest
first_or_later : (q : List (List ℕ)) (a mid after : Content) (event : Event) (events : List Event)
    → Happens a event mid → SameBasis q a mid ⊎ Changes q a event
    → (SameBasis q a mid → SameBasis q mid after ⊎ FirstChange q mid events)
    → SameBasis q a after ⊎ FirstChange q a (event ∷ events)
first_or_later q a mid after event events happens (inr changes) rest =
    inr ([], events, event, a, refl, refl, standing_itself q a, changes)
first_or_later q a mid after event events happens (inl same) rest = on (rest same)
  where
    on : SameBasis q mid after ⊎ FirstChange q mid events
        → SameBasis q a after ⊎ FirstChange q a (event ∷ events)
    on (inl more) = inl (standing_on q a mid after same more)
    on (inr (earlier, later, next, at, is, to, stood, changes)) =
        inr (
          event ∷ earlier,
          later,
          next,
          at,
          ap (λ (l : List Event). event ∷ l) is,
          (mid, happens, to),
          standing_on q a mid at same stood,
          changes,
        )

pub changed_in_run : ChangedInRun
changed_in_run q a [] after numbered tidy there is = grind (arith, nat_tests, standing_itself)
changed_in_run q a (event ∷ events) after numbered tidy there (mid, happens, run) =
    first_or_later q a mid after event events happens
    (changed_by q a event mid numbered tidy there happens)
    (λ same. changed_in_run q mid events after (numbers_stay a event mid numbered happens)
    (tidy_stays a event mid numbered tidy happens) (still_there q a mid same there) run)
