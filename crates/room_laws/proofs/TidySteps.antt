-- Whatever happens, contents stay tidy.
use Rattle.std.proofs.Common.{ℕ, ◌≡◌, true, List, [], ◌∷◌, Option, Some, None, refl, sym, ap, subst}
use Rattle.std.{proofs.{Common.arith, lemmas.Bool.Decides.nat_tests}, specs.Prelude.is_some}
use Rattle.room_entry.specs.declared.{object.Which.Which, parties.Caller.Caller}
use Rattle.room_ace.specs.Sent.{Sent}
use Rattle.room_rows.specs.Content.{Content, node_at, child_of, with_node, with_each, with_records}
use Rattle.room_rows.specs.{Held.with_held, HeldList.Held, Keep.with_owners}
use Rattle.room_rows.specs.declared.node.{AuditRow.AuditRow, Node.Node}
use Rattle.room_rows.proofs.InPlace.{keeps_places, rises-with_each, node_at-with_each}
use Rattle.room_rows.proofs.{InPlace.{place-with_held, place-with_owners}, SamePlace.IsSamePlace}
use Rattle.room_machine.specs.Effect.{effect, put_bytes, moved_node, with_site}
use Rattle.room_machine.specs.{Judge.first_failure, Plan.{plan_of, move_items}, Run.{Event, Asked}}
use Rattle.room_machine.specs.{Run.{WasReset, Replaced, Happens}, Site.{Site, sites_along, site_at}}
use Rattle.room_machine.specs.{Site.{parent_at, front, last_name}, Step.{IsFree, failure_or}}
use Rattle.room_machine.specs.declared.reply.Reply.{Reply, TheVariants.Done}
use Rattle.room_machine.specs.declared.request.Request.{Request, TheVariants.Read}
use Rattle.room_machine.specs.declared.request.Request.TheVariants.{List as ListFolder, Put, Append}
use Rattle.room_machine.specs.declared.request.Request.TheVariants.{MakeFolder, Remove, Move}
use Rattle.room_machine.specs.declared.request.Request.TheVariants.{ReadList, SetList, ReadAttr}
use Rattle.room_machine.specs.declared.request.Request.TheVariants.{SetOwners, Can}
use Rattle.room_laws.specs.{Outside.found, Tidy.{IsNumbered, IsTidy, StaysTidy}}
use Rattle.room_laws.proofs.Behind.{act_on, change, change_place, numbers_stay, target_found}
use Rattle.room_laws.proofs.{Changed.{only, only_place, put_only}, OnePlace.found_snoc}
use Rattle.room_laws.proofs.{OnePlace.{found_there, split_last}, Passing.{both_none, folder_passed}}
use Rattle.room_laws.proofs.Passing.{move_passed, none_at, not_refused, parent_is, place_passed}
use Rattle.room_laws.proofs.{Passing.remove_passed, Settings.no_children, Tidy.body_tidy}
use Rattle.room_laws.proofs.Tidy.{each_tidy, gone_tidy, put_tidy}
use Rattle.room_rows.proofs.Lookups as lookups

module _ (a : Content) (numbered : IsNumbered a) (tidy : IsTidy a) where
  there : (path : List (List ℕ)) (node : Node) → found a path ≡ Some node
      → is_some (node_at a node.id) ≡ true
  there path node is = ap is_some (found_there a numbered path node is)

  -- one object is changed in its place
  only_tidy : (target : Node) → node_at a target.id ≡ Some target → (u : Node → Node)
      → ((n : Node) → IsSamePlace (u n) n) → IsTidy (with_node a (u target))
  only_tidy target at u places =
      subst IsTidy (sym (put_only a numbered target at u places))
      (each_tidy a tidy (only target.id u) (only_place target.id u places))

  -- a list is set, with those of the children
  list_tidy : (which : Which) (held : Held) (keep : Node → Held) (target : Node)
      → node_at a target.id ≡ Some target
      → IsTidy (with_node (with_each a (change which keep target.id)) (with_held which held target))
  list_tidy which held keep target at =
      subst (λ (n : Node). IsTidy (with_node (with_each a ch) n)) overwritten
      (subst IsTidy (sym (put_only (with_each a ch)
      (rises-with_each a ch (keeps_places a ch places) numbered) (ch target) now
      (with_held which held) (place-with_held which held)))
      (search (ch, each_tidy, only, only_place, place-with_held, places)))
    where
      ch : Node → Node
      ch n = change which keep target.id n

      places : (n : Node) → IsSamePlace (ch n) n
      places = change_place which keep target.id

      now : node_at (with_each a ch) (ch target).id ≡ Some (ch target)
      now =
          cc (
            (places target).number,
            node_at-with_each a ch (keeps_places a ch places) target.id,
            at,
          )

      overwritten : with_held which held (ch target) ≡ with_held which held target
      overwritten = grind (arith, nat_tests)

  -- the last name is free in the folder before it
  free_there : (name : List ℕ) (names : List (List ℕ)) (folder : Node)
      → found a (front (name ∷ names)) ≡ Some folder → found a (name ∷ names) ≡ None
      → child_of a folder.id (last_name (name ∷ names)) ≡ None
  free_there name names folder at none =
      cc (
        at,
        found_snoc a (front (name ∷ names)) (last_name (name ∷ names)),
        split_last name names,
        none,
      )

  set_tidy : (caller : Caller) (id : ℕ) (path : List (List ℕ)) (which : Which) (sent : Sent)
      → IsTidy (effect a caller id (SetList path which sent)).1
  set_tidy caller id path which sent =
      act_on IsTidy a _ _ tidy (λ s is. list_tidy which _ _ s.node
      (found_there a numbered path s.node (target_found a path s is)))

  module _ (caller : Caller) (id : ℕ) (free : IsFree a id) where
    put_stays : (path : List (List ℕ)) (bytes : List ℕ)
        → IsTidy (effect a caller id (Put path bytes)).1
    put_stays [] bytes = on (site_at (sites_along a []) []) refl
      where
        on : (o : Option Site) → site_at (sites_along a []) [] ≡ o
            → IsTidy (put_bytes a caller id [] bytes o None).1
        on None is = tidy
        on (Some s) is = body_tidy a tidy s.node.id bytes (there [] s.node (target_found a [] s is))
    put_stays (name ∷ names) bytes = on (site_at (sites_along a (name ∷ names)) (name ∷ names)) refl
      where
        on : (o : Option Site) → site_at (sites_along a (name ∷ names)) (name ∷ names) ≡ o
            → IsTidy (put_bytes a caller id (name ∷ names) bytes o
            (parent_at (sites_along a (name ∷ names)) (name ∷ names))).1
        on (Some s) is = search (body_tidy, target_found, there)
        on None is =
            act_on IsTidy a (parent_at (sites_along a (name ∷ names)) (name ∷ names)) _ tidy
            (λ folder at.
            search (
              body_tidy,
              free_there,
              lookups.find-put_same,
              none_at,
              parent_is,
              put_tidy,
              there,
            ))

    folder_stays : (path : List (List ℕ)) → first_failure caller (plan_of a (MakeFolder path))
        ≡ None
        → IsTidy (effect a caller id (MakeFolder path)).1
    folder_stays [] passes = tidy
    folder_stays (name ∷ names) passes =
        act_on IsTidy a (parent_at (sites_along a (name ∷ names)) (name ∷ names)) _ tidy
        (λ folder at. search (folder_passed, free_there, parent_is, put_tidy, there))

    moved_stays : (path to : List (List ℕ)) (s d : Site)
        → first_failure caller (move_items (sites_along a) a to s d) ≡ None
        → IsTidy (with_site a (site_at (sites_along a (front to)) (front to))
        (λ folder. (Done, with_node a (moved_node s folder (last_name to))))).1
    moved_stays path [] s d passes = grind (arith, nat_tests, both_none, not_refused)
    moved_stays path (first ∷ more) s d passes =
        act_on IsTidy a
        (site_at (sites_along a (front (first ∷ more))) (front (first ∷ more)))
        (λ folder. (Done, with_node a (moved_node s folder (last_name (first ∷ more))))) tidy
        (λ folder at.
        put_tidy a tidy (moved_node s folder (last_name (first ∷ more))) folder.node.id refl
        (search (target_found, there))
        (place_passed caller a first more s d folder at passes).0)

    tidy_effect : (request : Request) → first_failure caller (plan_of a request) ≡ None
        → IsTidy (effect a caller id request).1
    tidy_effect (Read path) passes = act_on IsTidy a _ _ tidy (λ s is. tidy)
    tidy_effect (ListFolder path) passes = act_on IsTidy a _ _ tidy (λ s is. tidy)
    tidy_effect (Put path bytes) passes = put_stays path bytes
    tidy_effect (Append path bytes) passes =
        act_on IsTidy a _ _ tidy (λ s is.
        body_tidy a tidy s.node.id _ (there path s.node (target_found a path s is)))
    tidy_effect (MakeFolder path) passes = folder_stays path passes
    tidy_effect (Remove path) passes =
        act_on IsTidy a (site_at (sites_along a path) path) _ tidy (λ s is.
        gone_tidy a tidy s.node.id
        (no_children a s.node.id tidy.names (remove_passed caller a path s is passes).1))
    tidy_effect (Move path to) passes =
        act_on IsTidy a (site_at (sites_along a path) path) _ tidy (λ s is.
        moved_stays path to s (move_passed caller a path to s is passes).1.0
        (move_passed caller a path to s is passes).1.2)
    tidy_effect (ReadList path which) passes = act_on IsTidy a _ _ tidy (λ s is. tidy)
    tidy_effect (SetList path which sent) passes = set_tidy caller id path which sent
    tidy_effect (ReadAttr path) passes = act_on IsTidy a _ _ tidy (λ s is. tidy)
    tidy_effect (SetOwners path owners) passes =
        act_on IsTidy a _ _ tidy (λ s is.
        only_tidy s.node (found_there a numbered path s.node (target_found a path s is))
        (with_owners owners) (place-with_owners owners))
    tidy_effect (Can path mask) passes = act_on IsTidy a _ _ tidy (λ s is. tidy)

noted_tidy : (c : Content) (rows : List AuditRow) → IsTidy c → IsTidy (with_records c rows)
noted_tidy c rows tidy = grind (arith, nat_tests)

either_tidy : (o : Option Reply) (content : Content) (done : Reply × Content) → IsTidy content
    → (o ≡ None → IsTidy done.1) → IsTidy (failure_or o content done).1
either_tidy o content done tidy next = grind (arith, nat_tests)

-- Whatever happens leaves a tidy content tidy.
pub tidy_stays : (before : Content) (event : Event) (after : Content) → IsNumbered before
    → IsTidy before → Happens before event after → IsTidy after
tidy_stays before (Asked user moment request reply) after numbered tidy s =
    subst IsTidy (ap (λ (d : Reply × Content). d.1) s.2)
    (search (either_tidy, noted_tidy, tidy_effect))
tidy_stays before (WasReset path which sent reply) after numbered tidy s =
    subst IsTidy (ap (λ (d : Reply × Content). d.1) s)
    (search (either_tidy, set_tidy))
tidy_stays before (Replaced pairs) after numbered tidy same = grind (arith, nat_tests)

pub stays_tidy : StaysTidy
stays_tidy before event after numbered tidy happens =
    grind (arith, nat_tests, numbers_stay, tidy_stays)
