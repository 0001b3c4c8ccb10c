-- The way to an object, one step after the other.
use Rattle.std.proofs.Common.{rules, ◌≡◌, ℕ, ◌<◌, ◌+◌, false, List, [], ◌∷◌, ◌++◌, length, take}
use Rattle.std.proofs.Common.{drop, get_or, Option, Some, None, Result, Ok, Err, refl, sym, ap}
use Rattle.std.proofs.{Common.{subst, ◌∙◌, arith}, lemmas.List.{append-nil, take_more, drop_more}}
use Rattle.std.proofs.{lemmas.{List.get_or_read, Bool.Decides.nat_tests}, Math.Seq.take-length}
use Rattle.std.{proofs.Math.Seq.drop-length, specs.{Prelude.is_none, Option.option_map_or}}
use Rattle.room_rows.specs.{declared.node.Node.Node, Content.{Content, child_of, root_of, is_empty}}
use Rattle.room_rows.specs.{Keep.IsUnreadable, Rows.Rows}
use Rattle.room_judge.specs.{declared.{arrival.Found.Found, asker.Asker.Asker}, Stored.found_site}
use Rattle.room_judge.specs.Judged.{IsJudged, IsStepDown, IsReached, name_after, through}
use Rattle.room_judge.proofs.Judging.{SoFar, fails_first, passes_first, judged_none, so_far_none}
use Rattle.room_judge.proofs.Judging.{so_far_as, so_far_on, so_far_fails}
use Rattle.room_machine.specs.{declared.reply.{Reply.Reply, Reason.TheVariants.NoSuch}, Site.Site}
use Rattle.room_machine.specs.{Site.site_at, Plan.{Item, Refusal, way, where_found}}
use Rattle.room_machine.specs.Stored.{stored_site, stored_from, stored_along, to_stored}

-- ---- one step

one_name_more : (path : List (List ℕ)) (depth : ℕ) → depth < length path
    → take (depth + 1) path ≡ take depth path ++ name_after path depth ∷ []
one_name_more path depth below = take_more path depth [] below

-- the name that is read off the path
pub name_read : (path names : List (List ℕ)) (i : ℕ) (name text : List ℕ) → names ≡ path
    → i < length path → name ≡ get_or names i name → text ≡ name → text ≡ name_after path i
name_read path names i name text are below is same = grind (arith, nat_tests, get_or_read)

-- a row that can't be read after a walk to an object couldn't be read before it
pub reached_blames : (asker : Asker) (path : List (List ℕ)) (items : Site → List Item)
    (outcome : Result Node Reply) (old now : Rows) (row : ℕ)
    → IsReached asker path items old outcome now → IsUnreadable now row → IsUnreadable old row
reached_blames asker path items outcome old now row reached h = grind (arith, nat_tests)

-- the object, or the refusal where there is one
abbrev pub unless : Node → Option Reply → Result Node Reply
unless node None = Ok node
unless node (Some reply) = Err reply

-- ---- the whole way

pub not_empty : (rows : Content) (path : List (List ℕ)) (node : Node) (names : List (List ℕ))
    → is_empty (stored_from rows path node names) ≡ false
not_empty rows path node [] = refl
not_empty rows path node (name ∷ names) = refl

-- the way goes through an object, asks for the next name, and goes on below
way_down : (rows : Content) (path : List (List ℕ)) (node : Node) (name : List ℕ)
    (names : List (List ℕ))
    → way false (stored_from rows path node (name ∷ names)) (name ∷ names)
    ≡ (through (stored_site path node)
    ++ Refusal (path ++ name ∷ []) NoSuch (is_none (child_of rows node.id name)) ∷ [])
    ++ option_map_or (λ child. way false (stored_from rows (path ++ name ∷ []) child names) names)
    (child_of rows node.id name) []
way_down rows path node name names = grind (arith, nat_tests, not_empty)

-- n steps are done: what is left of the way begins at this object, and the target is looked up from
-- there.
pub record IsOnWay (asker : Asker) (path : List (List ℕ)) (from : Found)
    (old now : Rows) : Type 0 where
  pub so_far : SoFar asker (way false (stored_along old.read path) path)
      (way false (stored_from old.read (take from.depth path) from.node (drop from.depth path))
      (drop from.depth path)) old now
  pub found : site_at (stored_along old.read path) path
      ≡ site_at (stored_from old.read (take from.depth path) from.node (drop from.depth path))
      (drop from.depth path)

-- what can't be read on the way couldn't be read before
pub way_blames : (asker : Asker) (path : List (List ℕ)) (from : Found) (old now : Rows) (row : ℕ)
    → IsOnWay asker path from old now → IsUnreadable now row → IsUnreadable old row
way_blames asker path from old now row on_way h = grind (arith, nat_tests)

nothing_there : {X : Type 0} (o : Option X)
    → option_map_or {T = X} {U = List Item} (λ _. []) o [] ≡ []
nothing_there None = refl
nothing_there (Some x) = refl

module _ (asker : Asker) (path : List (List ℕ)) where
  abbrev all_of : Rows → List Item
  all_of old = way false (stored_along old.read path) path

  -- a path with no items at its target is judged by the way to it alone
  pub plain_way : (old : Rows) → to_stored old.read path (λ _. []) ≡ all_of old
  plain_way old = grind (arith, nat_tests, append-nil, nothing_there)

  -- at the root no step is done, and the whole way is left
  pub way_begins : (node : Node) (old now : Rows) → root_of old.read ≡ Some node → now ≡ old
      → IsOnWay asker path (record { node = node; depth = 0 }) old now
  way_begins node old now is same = grind (arith, nat_tests, so_far_as, so_far_none)

  module _ (from : Found) (below : from.depth < length path) where
    abbrev next_name : List ℕ
    next_name = name_after path from.depth

    abbrev names_left : List (List ℕ)
    names_left = drop (from.depth + 1) path

    here : drop from.depth path ≡ next_name ∷ names_left
    here = drop_more path from.depth [] below

    abbrev step_items : Rows → List Item
    step_items old =
        through (found_site path from)
        ++ Refusal ((found_site path from).path ++ next_name ∷ []) NoSuch
        (is_none (child_of old.read from.node.id next_name)) ∷ []

    abbrev items_below : Rows → List Item
    items_below old =
        option_map_or
        (λ child. way false (stored_from old.read
        (take from.depth path ++ next_name ∷ []) child names_left) names_left)
        (child_of old.read from.node.id next_name) []

    way_here : (old : Rows)
        → way false (stored_from old.read (take from.depth path) from.node (drop from.depth path))
        (drop from.depth path) ≡ step_items old ++ items_below old
    way_here old = grind (arith, nat_tests, here, way_down)

    -- the step starts from the rows with the records of the way added
    at_first : (old now : Rows) → IsOnWay asker path from old now → step_items now ≡ step_items old
    at_first old now on_way = ap (λ (r : Rows). step_items r) on_way.so_far.judged.notes

    -- a step that is refused ends the walk along the whole path with its reply
    pub way_ends : (old now new : Rows) (reply : Reply) → IsOnWay asker path from old now
        → IsStepDown asker path from now (Err reply) new
        → IsReached asker path (λ _. []) old (Err reply) new
    way_ends old now new reply on_way step = record {
      judged = subst (λ items. IsJudged asker items old (Some reply) new) (sym (plain_way old))
          (so_far_fails asker (all_of old) (step_items old) (items_below old) old now new reply
          (search (rules, so_far_as, old, way_here, on_way.so_far))
          (search (rules, now, reply, new, at_first, old, on_way, step.judged)));
      found = tt;
    }

    -- a step that comes to a child leaves the rest of the way, from that child on
    pub way_goes_on : (old now new : Rows) (next : Found) → next.depth ≡ from.depth + 1
        → IsOnWay asker path from old now → IsStepDown asker path from now (Ok next.node) new
        → IsOnWay asker path next old new
    way_goes_on old now new next deeper on_way step =
        let child : child_of old.read from.node.id next_name ≡ Some next.node =
        cc (on_way.so_far.judged.notes, step.found) in
        let path_then : take from.depth path ++ next_name ∷ [] ≡ take next.depth path =
        sym (one_name_more path from.depth below) ∙ ap (λ (d : ℕ). take d path) (sym deeper) in
        let below_here : items_below old
        ≡ way false (stored_from old.read (take next.depth path) next.node
        (drop next.depth path)) (drop next.depth path) = grind (arith, nat_tests) in
        record {
          so_far = so_far_as asker (all_of old) (items_below old) _ old new below_here
              (so_far_on asker (all_of old) (step_items old) (items_below old) old now new
              (search (rules, so_far_as, old, way_here, on_way.so_far))
              (search (rules, now, new, at_first, old, on_way, step.judged)));
          found = search (here);
        }

  -- all steps are done
  pub way_done : (from : Found) (old now : Rows) → from.depth ≡ length path
      → IsOnWay asker path from old now → IsReached asker path (λ _. []) old (Ok from.node) now
  way_done from old now full on_way =
      search (rules, drop-length, take-length, plain_way, so_far_as, judged_none, nat_tests, full)

  -- ---- items at the target

  module _ (items : Site → List Item) where
    -- a walk that ended before its target ends with that reply, whatever items are at the target
    pub not_reached : (old new : Rows) (reply : Reply)
        → IsReached asker path (λ _. []) old (Err reply) new
        → IsReached asker path items old (Err reply) new
    not_reached old new reply reached = record {
      judged =
          fails_first asker (all_of old)
          (where_found (site_at (stored_along old.read path) path) items) old new reply
          (subst (λ list. IsJudged asker list old (Some reply) new) (plain_way old) reached.judged);
      found = tt;
    }

    at_target : (old mid new : Rows) (target : Found) (answer : Option Reply)
        → target.depth ≡ length path → IsReached asker path (λ _. []) old (Ok target.node) mid
        → IsJudged asker (items (found_site path target)) mid answer new
        → IsJudged asker (to_stored old.read path items) old answer new
    at_target old mid new target answer deep reached judged =
        let site : site_at (stored_along old.read path) path ≡ Some (found_site path target) =
        cc (reached.found, take-length path, deep) in
        passes_first asker (all_of old)
        (where_found (site_at (stored_along old.read path) path) items) old mid new answer
        (subst (λ list. IsJudged asker list old None mid) (plain_way old) reached.judged)
        (search (rules, site, judged))

    -- a walk that came to its target ends there, with the reply for an item that fails
    pub target_refused : (old mid new : Rows) (target : Found) (reply : Reply)
        → target.depth ≡ length path → IsReached asker path (λ _. []) old (Ok target.node) mid
        → IsJudged asker (items (found_site path target)) mid (Some reply) new
        → IsReached asker path items old (Err reply) new
    target_refused old mid new target reply deep reached judged = search (at_target)

    -- a walk that came to its target has reached it where all items there pass
    pub target_passed : (old mid new : Rows) (target : Found) → target.depth ≡ length path
        → IsReached asker path (λ _. []) old (Ok target.node) mid
        → IsJudged asker (items (found_site path target)) mid None new
        → IsReached asker path items old (Ok target.node) new
    target_passed old mid new target deep reached judged = search (at_target)

    -- the walk comes to the object, or ends with the reply of its items
    pub reaches_with : (old mid new : Rows) (node : Node) (target : Found) (refusal : Option Reply)
        → target ≡ record { node = node; depth = length path }
        → IsReached asker path (λ _. []) old (Ok node) mid
        → IsJudged asker (items (found_site path target)) mid refusal new
        → IsReached asker path items old (unless node refusal) new
    reaches_with old mid new node target None is reached judged =
        target_passed old mid new (record { node = node; depth = length path }) refl reached
        (search (rules, mid, new, is, judged))
    reaches_with old mid new node target (Some reply) is reached judged =
        search (rules, target_refused, old, reached, is, judged)
