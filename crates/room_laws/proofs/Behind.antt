-- What happens behind a folder changes what is behind it alone.
use Rattle.std.proofs.Common.{ℕ, ℤ, ◌≡◌, ◌<◌, false, List, [], ◌∷◌, ◌++◌, Option, Some, None, refl}
use Rattle.std.proofs.{Common.{sym, ap, subst, ◌∙◌, arith}, lemmas.Bool.{false≢true, cond-false}}
use Rattle.std.proofs.lemmas.{Bool.Decides.nat_tests, Option.{none-some, same_Some}}
use Rattle.std.specs.{Option.{option_map, option_map_or}, Prelude.{option_and_then, is_none}}
use Rattle.std.specs.Prelude.{if◌then◌else◌}
use Rattle.room_entry.specs.declared.{object.Which.Which, parties.Caller.Caller}
use Rattle.room_ace.specs.Sent.{Sent}
use Rattle.room_rows.specs.Content.{Content, child_of, node_at, has_parent, with_node, with_body}
use Rattle.room_rows.specs.{Content.{without_node, with_each, with_records}, Held.with_held}
use Rattle.room_rows.specs.{HeldList.Held, declared.node.{AuditRow.AuditRow, Node.Node}}
use Rattle.room_rows.proofs.InPlace.{keeps_places, place-with_held, rises-with_each}
use Rattle.room_rows.proofs.{InPlace.{node_at-with_each, KeepsPlaces}, SamePlace.IsSamePlace}
use Rattle.room_rows.proofs.SamePlace.{same_place}
use Rattle.room_machine.specs.{Effect.{effect, put_bytes}, Laws.first_path, Run.{Event, Asked}}
use Rattle.room_machine.specs.{Run.{WasReset, Replaced, Happens, Run}, Site.{Site, sites_along}}
use Rattle.room_machine.specs.{Site.{site_at, parent_at, site_below, front, last_name}, Step.Step}
use Rattle.room_machine.specs.{Step.{IsFree, caller_in, failure_or}, declared.reply.Reply.Reply}
use Rattle.room_machine.specs.declared.{reply.Reply.TheVariants.Done, request.Request.Request}
use Rattle.room_machine.specs.declared.request.Request.TheVariants.{Read, List as ListFolder, Put}
use Rattle.room_machine.specs.declared.request.Request.TheVariants.{Append, MakeFolder, Remove}
use Rattle.room_machine.specs.declared.request.Request.TheVariants.{Move, ReadList, SetList}
use Rattle.room_machine.specs.declared.request.Request.TheVariants.{ReadAttr, SetOwners, Can}
use Rattle.room_laws.specs.Laws.{HappensBehind, AllBehind, UnseenBehind}
use Rattle.room_laws.specs.Outside.{found, found_from, IsBehind, SameOutside, last_path}
use Rattle.room_laws.{specs.Tidy.IsNumbered, proofs.Local.{IsBelowInside, IsInside, IsLocal}}
use Rattle.room_laws.proofs.Local.{IsUnder, body_local, each_local, itself_local, local_outside}
use Rattle.room_laws.proofs.Local.{node_local, records_local, removed_local, shown_of, split_behind}
use Rattle.room_laws.proofs.{Local.{under_below, under_inside}, OnePlace.{found_there, split_last}}
use Rattle.room_laws.proofs.{SameReplies.{bar_same, same_replies}, Seen.{along_from, found_at}}
use Rattle.room_laws.proofs.Seen.{sites_from}
use Rattle.room_rows.proofs.Lookups as lookups
use Rattle.room_laws.proofs.Kept as kept

-- ---- what is found before the end of a path

prefix_from : (content : Content) (site : Site) (names more : List (List ℕ))
    → option_map (λ (s : Site). s.node) (site_at (sites_from content site (names ++ more)) names)
    ≡ found_from content site.node names
prefix_from content site [] [] = refl
prefix_from content site [] (name ∷ more) = refl
prefix_from content site (name ∷ names) more =
    on (child_of content site.node.id name)
    (λ child. prefix_from content (site_below site child) names more)
  where
    on : (o : Option Node)
        → ((child : Node) → option_map (λ (s : Site). s.node)
        (site_at (sites_from content (site_below site child) (names ++ more)) names)
        ≡ found_from content child names)
        → option_map (λ (s : Site). s.node)
        (site_at (option_map_or
        (λ child. sites_from content (site_below site child) (names ++ more)) o []) names)
        ≡ option_and_then (λ child. found_from content child names) o
    on o next = grind (arith, nat_tests)

pub found_before : (content : Content) (names more : List (List ℕ))
    → option_map (λ (s : Site). s.node) (site_at (sites_along content (names ++ more)) names)
    ≡ found content names
found_before content names more = grind (arith, nat_tests, along_from, prefix_from, sites_from)

pub front_snoc : (names : List (List ℕ)) (name : List ℕ) → front (names ++ name ∷ []) ≡ names
front_snoc [] name = refl
front_snoc (x ∷ []) name = refl
front_snoc (x ∷ y ∷ names) name = ap (λ (l : List (List ℕ)). x ∷ l) (front_snoc (y ∷ names) name)

pub target_found : (content : Content) (path : List (List ℕ)) (target : Site)
    → site_at (sites_along content path) path ≡ Some target
    → found content path ≡ Some target.node
target_found content path target is = cc (found_at content path, is)

pub free_none : (content : Content) (id : ℕ) → IsFree content id → (node : Node)
    → node_at content id ≡ Some node → ⊥
free_none content id free node is = false≢true (sym (ap is_none is) ∙ free.1)

-- what a request does with an object that is there
pub act_on : (P : Content → Type 0) (content : Content) (o : Option Site)
    (act : Site → Reply × Content)
    → P content → ((s : Site) → o ≡ Some s → P (act s).1)
    → P (option_map_or act o (Done, content)).1
act_on P content o act same each = grind (arith, nat_tests)

-- ---- a list that is set, with those of the children

module _ (which : Which) (keep : Node → Held) (at : ℕ) where
  abbrev pub change : Node → Node
  change node = if has_parent at node then with_held which (keep node) node else node

  pub change_place : (n : Node) → IsSamePlace (change n) n
  change_place n = grind (arith, nat_tests, place-with_held, same_place)

  pub change_shown : (n : Node) → shown_of (change n) ≡ shown_of n
  change_shown n = grind (arith, nat_tests, shown_of)

  pub change_none : (n : Node) → has_parent at n ≡ false → change n ≡ n
  change_none n isnt = cond-false _ _ _ isnt

record Numbered (content : Content) : Type 0 where
  rises : IsNumbered content

module _ (a : Content) (numbered : IsNumbered a) where
  one_there : (id : ℕ) (n m : Node) → node_at a id ≡ Some n → node_at a id ≡ Some m → n ≡ m
  one_there id n m first second = same_Some n m (sym first ∙ second)

  from_one : (path : List (List ℕ)) (node : Node) → found a path ≡ Some node → 0 < node.id
  from_one path node is =
      lookups.found_above 0 a.nodes node.id node numbered (found_there a numbered path node is)

  -- ---- numbers after a request

  put_numbered : (c : Content) (new : Node) → IsNumbered c → 0 < new.id
      → Numbered (with_node c new)
  put_numbered c new rises above = record { rises = kept.rises-put 0 new c.nodes above rises }

  body_numbered : (c : Content) (id : ℕ) (bytes : List ℕ) → IsNumbered c
      → Numbered (with_body c id bytes)
  body_numbered c id bytes rises = record { rises = rises }

  removed_numbered : (id : ℕ) → Numbered (without_node a id)
  removed_numbered id = search (kept.rises-removed)

  as_before : Numbered a
  as_before = record { rises = numbered }

  set_numbered : (path : List (List ℕ)) (which : Which) (held : Held) (keep : Node → Held)
      (s : Site) → site_at (sites_along a path) path ≡ Some s
      → Numbered (with_node (with_each a (change which keep s.node.id))
      (with_held which held s.node))
  set_numbered path which held keep s is =
      put_numbered (with_each a (change which keep s.node.id)) (with_held which held s.node)
      (search (change_place, keeps_places, rises-with_each))
      (grind (arith, nat_tests, from_one, place-with_held, target_found))

  list_numbered : (caller : Caller) (id : ℕ) (path : List (List ℕ)) (which : Which) (sent : Sent)
      → Numbered (effect a caller id (SetList path which sent)).1
  list_numbered caller id path which sent =
      act_on Numbered a _ _ as_before (λ s is. set_numbered path which _ _ s is)

  numbered_effect : (caller : Caller) (id : ℕ) → IsFree a id → (request : Request)
      → Numbered (effect a caller id request).1
  numbered_effect caller id free (Read path) = grind (arith, nat_tests, act_on, as_before)
  numbered_effect caller id free (ListFolder path) = grind (arith, nat_tests, act_on, as_before)
  numbered_effect caller id free (Put path bytes) =
      on (site_at (sites_along a path) path) (parent_at (sites_along a path) path)
    where
      on : (o p : Option Site) → Numbered (put_bytes a caller id path bytes o p).1
      on o p = grind (arith, nat_tests, act_on, as_before, body_numbered, put_numbered)
  numbered_effect caller id free (Append path bytes) =
      act_on Numbered a _ _ as_before (λ s is. body_numbered a s.node.id _ numbered)
  numbered_effect caller id free (MakeFolder path) =
      act_on Numbered a _ _ as_before (λ folder is. put_numbered a _ numbered free.0)
  numbered_effect caller id free (Remove path) =
      grind (arith, nat_tests, act_on, as_before, removed_numbered)
  numbered_effect caller id free (Move path to) =
      act_on Numbered a _ _ as_before (λ s is.
      act_on Numbered a _ _ as_before (λ folder at.
      put_numbered a _ numbered (from_one path s.node (target_found a path s is))))
  numbered_effect caller id free (ReadList path which) = grind (arith, nat_tests, act_on, as_before)
  numbered_effect caller id free (SetList path which sent) = search (list_numbered)
  numbered_effect caller id free (ReadAttr path) = grind (arith, nat_tests, act_on, as_before)
  numbered_effect caller id free (SetOwners path owners) =
      act_on Numbered a _ _ as_before (λ s is.
      put_numbered a _ numbered (from_one path s.node (target_found a path s is)))
  numbered_effect caller id free (Can path mask) = grind (arith, nat_tests, act_on, as_before)

  module _ (f : List (List ℕ)) where
    -- an object at a path that is behind
    module _ (path : List (List ℕ)) (target : Site) (is : IsBehind f path)
        (at : site_at (sites_along a path) path ≡ Some target) where
      found_behind : found a (f ++ is.0 ∷ is.1) ≡ Some target.node
      found_behind = ap (found a) (sym is.2) ∙ target_found a path target at

      there : node_at a target.node.id ≡ Some target.node
      there = found_there a numbered path target.node (target_found a path target at)

      under : IsUnder f a target.node.id
      under = (is.0, is.1, target.node, found_behind, refl)

      below : IsBelowInside f a target.node
      below = under_below f a is.0 is.1 target.node found_behind

      -- what is found by its number
      known : (old : Node) → node_at a target.node.id ≡ Some old → IsBelowInside f a old
      known old found = grind (arith, nat_tests, below, one_there, there)

      apart : (node : Node) → node_at a node.id ≡ Some node → (IsUnder f a node.id → ⊥)
          → node.id ≡ target.node.id → ⊥
      apart node found other same = other (subst (IsUnder f a) (sym same) under)

      -- it is changed, and keeps its number
      renewed_local : (new : Node) → new.id ≡ target.node.id → IsBelowInside f a new
          → IsLocal f a (with_node a new)
      renewed_local new number under_new =
          node_local f a a new numbered (itself_local f a) under_new
          (λ old found. known old (ap (node_at a) (sym number) ∙ found))

      -- a list of it is set, and its children's with it
      relisted_local : (which : Which) (held : Held) (keep : Node → Held)
          → IsLocal f a (with_node (with_each a (change which keep target.node.id))
          (with_held which held target.node))
      relisted_local which held keep =
          node_local f a (with_each a (change which keep target.node.id))
          (with_held which held target.node)
          (rises-with_each a (change which keep target.node.id) places numbered)
          (each_local f a a (change which keep target.node.id) target.node.id (itself_local f a)
          places
          (change_shown which keep target.node.id) (change_none which keep target.node.id)
          (under_inside f a target.node.id under))
          (below.0, (place-with_held which held target.node).parent ∙ below.1, below.2)
          (
          grind (
            arith,
            nat_tests,
            below,
            change_place,
            node_at-with_each,
            place-with_held,
            places,
            there,
          ))
        where
          places : KeepsPlaces a (change which keep target.node.id)
          places = keeps_places a _ (change_place which keep target.node.id)

    -- the folder of what is behind is inside
    front_inside : (path : List (List ℕ)) → IsBehind f path → (folder : Node)
        → found a (front path) ≡ Some folder → IsInside f a folder.id
    front_inside path (name, names, is) folder found_it =
        grind (arith, nat_tests, front_snoc, split_behind)

    folder_inside : (path : List (List ℕ)) → IsBehind f path → (folder : Site)
        → parent_at (sites_along a path) path ≡ Some folder → IsInside f a folder.node.id
    folder_inside [] is folder at = absurd (none-some folder at)
    folder_inside (x ∷ path) is folder at =
        front_inside (x ∷ path) is folder.node
        (cc (found_before a (front (x ∷ path)) (last_name (x ∷ path) ∷ []), split_last x path, at))

    -- a new object below an object inside
    added_local : (new : Node) (folder : Node) → IsFree a new.id → new.parent ≡ Some folder.id
        → IsInside f a folder.id → IsLocal f a (with_node a new)
    added_local new folder free parent inside =
        node_local f a a new numbered (itself_local f a) (folder.id, parent, inside)
        (λ old found. absurd (free_none a new.id free old found))

    list_local : (caller : Caller) (id : ℕ) (path : List (List ℕ)) (which : Which) (sent : Sent)
        → IsBehind f path → IsLocal f a (effect a caller id (SetList path which sent)).1
    list_local caller id path which sent is =
        act_on (IsLocal f a) a _ _ (itself_local f a) (λ s at.
        relisted_local path s is at which _ _)

    behind_effect : (caller : Caller) (id : ℕ) → IsFree a id → (request : Request)
        → IsBehind f (first_path request) → IsBehind f (last_path request)
        → IsLocal f a (effect a caller id request).1
    behind_effect caller id free (Read path) is last =
        act_on (IsLocal f a) a _ _ (itself_local f a) (λ s at. itself_local f a)
    behind_effect caller id free (ListFolder path) is last =
        act_on (IsLocal f a) a _ _ (itself_local f a) (λ s at. itself_local f a)
    behind_effect caller id free (Put path bytes) is last =
        on (site_at (sites_along a path) path) (parent_at (sites_along a path) path) refl refl
      where
        on : (o p : Option Site) → site_at (sites_along a path) path ≡ o
            → parent_at (sites_along a path) path ≡ p
            → IsLocal f a (put_bytes a caller id path bytes o p).1
        on (Some target) p at above = search (apart, body_local, itself_local)
        on None p at above =
            act_on (IsLocal f a) a p _ (itself_local f a) (λ folder found_it.
            body_local f a _ id bytes
            (added_local _ folder.node free refl (folder_inside path is folder (above ∙ found_it)))
            (grind (arith, nat_tests, free_none)))
    behind_effect caller id free (Append path bytes) is last =
        act_on (IsLocal f a) a _ _ (itself_local f a) (λ s at.
        body_local f a a s.node.id _ (itself_local f a) (apart path s is at))
    behind_effect caller id free (MakeFolder path) is last =
        act_on (IsLocal f a) a _ _ (itself_local f a) (λ folder at.
        added_local _ folder.node free refl (folder_inside path is folder at))
    behind_effect caller id free (Remove path) is last =
        act_on (IsLocal f a) a _ _ (itself_local f a) (λ s at.
        removed_local f a a s.node.id numbered (itself_local f a) (under path s is at)
        (known path s is at))
    behind_effect caller id free (Move path to) is last =
        act_on (IsLocal f a) a _ _ (itself_local f a) (λ s at.
        act_on (IsLocal f a) a _ _ (itself_local f a) (λ folder found_it.
        renewed_local path s is at _ refl (
          folder.node.id,
          refl,
          front_inside to last folder.node (target_found a (front to) folder found_it),
        )))
    behind_effect caller id free (ReadList path which) is last =
        act_on (IsLocal f a) a _ _ (itself_local f a) (λ s at. itself_local f a)
    behind_effect caller id free (SetList path which sent) is last = search (list_local)
    behind_effect caller id free (ReadAttr path) is last =
        act_on (IsLocal f a) a _ _ (itself_local f a) (λ s at. itself_local f a)
    behind_effect caller id free (SetOwners path owners) is last =
        act_on (IsLocal f a) a _ _ (itself_local f a) (λ s at.
        renewed_local path s is at _ refl (below path s is at))
    behind_effect caller id free (Can path mask) is last =
        act_on (IsLocal f a) a _ _ (itself_local f a) (λ s at. itself_local f a)

-- ---- steps

-- what holds of the content that a failure leaves, and of the one that is done, holds of either
either_holds : (P : Content → Type 0) (failed : Option Reply) (content : Content)
    (done : Reply × Content) → P content → P done.1 → P (failure_or failed content done).1
either_holds P failed content done same other = grind (arith, nat_tests)

-- the content after a step
pub after_step : (P : Content → Type 0) → ((c : Content) (rows : List AuditRow) → P c
    → P (with_records c rows)) → (content : Content) (user : Option (List ℕ)) (moment : ℤ)
    (request : Request) (reply : Reply) (after : Content)
    → (s : Step content user moment request reply after) → P content
    → P (effect content (caller_in content user) s.0 request).1 → P after
after_step P noted content user moment request reply after s same done =
    grind (arith, nat_tests, either_holds)

noted_numbers : (c : Content) (rows : List AuditRow) → Numbered c → Numbered (with_records c rows)
noted_numbers c rows numbered = record { rises = numbered.rises }

-- numbers rise after whatever happens
pub numbers_stay : (before : Content) (event : Event) (after : Content) → IsNumbered before
    → Happens before event after → IsNumbered after
numbers_stay before (Asked user moment request reply) after numbered s =
    (after_step Numbered noted_numbers before user moment request reply after s
    (record { rises = numbered })
    (numbered_effect before numbered (caller_in before user) s.0 s.1 request)).rises
numbers_stay before (WasReset path which sent reply) after numbered s =
    (subst Numbered (ap (λ (d : Reply × Content). d.1) s)
    (either_holds Numbered _ before _ (record { rises = numbered })
    (list_numbered before numbered (record { user = None; groups = [] }) 0 path which sent))).rises
numbers_stay before (Replaced pairs) after numbered same = grind (arith, nat_tests)

local_event : (f : List (List ℕ)) (before : Content) (event : Event) (after : Content)
    → IsNumbered before → HappensBehind f event → Happens before event after
    → IsLocal f before after
local_event f before (Asked user moment request reply) after numbered is s =
    after_step (IsLocal f before) (records_local f before) before user moment request reply after s
    (itself_local f before)
    (behind_effect before numbered f (caller_in before user) s.0 s.1 request is.0 is.1)
local_event f before (WasReset path which sent reply) after numbered is s =
    subst (IsLocal f before) (ap (λ (d : Reply × Content). d.1) s)
    (either_holds (IsLocal f before) _ before _ (itself_local f before)
    (list_local before numbered f (record { user = None; groups = [] }) 0 path which sent is))
local_event f before (Replaced pairs) after numbered is s = absurd is

pub behind_stays : (f : List (List ℕ)) (before : Content) (event : Event) (after : Content)
    → IsNumbered before → HappensBehind f event → Happens before event after
    → SameOutside f before after × IsNumbered after
behind_stays f before event after numbered is happens = (
  local_outside f before numbered after (local_event f before event after numbered is happens),
  numbers_stay before event after numbered happens,
)

-- ---- runs

pub same_itself : (f : List (List ℕ)) (a : Content) → SameOutside f a a
same_itself f a = grind (arith, nat_tests)

pub same_back : (f : List (List ℕ)) (a b : Content) → SameOutside f a b → SameOutside f b a
same_back f a b same = grind (arith, nat_tests)

pub same_on : (f : List (List ℕ)) (a b c : Content) → SameOutside f a b → SameOutside f b c
    → SameOutside f a c
same_on f a b c first second = grind (arith, nat_tests)

pub run_behind : (f : List (List ℕ)) (events : List Event) (a b : Content) → IsNumbered a
    → AllBehind f events → Run a events b → SameOutside f a b × IsNumbered b
run_behind f [] a b numbered all run = grind (arith, nat_tests, same_itself)
run_behind f (event ∷ events) a b numbered all (mid, happens, run) =
    let one = behind_stays f a event mid numbered all.0 happens in
    let rest = run_behind f events mid b one.1 all.1 run in
    (same_on f a mid b one.0 rest.0, rest.1)

pub unseen_behind : UnseenBehind
unseen_behind f start a b events others user moment later request first second after other numbered
    all all' run run' barred no_list no_remove s t =
    let one = run_behind f events start a numbered all run in
    let two = run_behind f others start b numbered all' run' in
    same_replies f a b user moment later request first second after other
    (same_on f a start b (same_back f start a one.0) two.0) one.1 two.1
    (λ reaches. let bar = barred reaches in
    (bar.0, sym (bar_same f start a one.0 user) ∙ bar.1)) no_list no_remove s t
