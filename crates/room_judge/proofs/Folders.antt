-- The way to the folder of a path's last name, judged.
use Rattle.std.proofs.Common.{rules, ◌≡◌, ℕ, ◌<◌, ◌+◌, Bool, true, false, cond, ◌&&◌, List, [], ◌∷◌}
use Rattle.std.proofs.Common.{◌++◌, length, take, Option, Some, None, Result, Ok, Err, refl, sym}
use Rattle.std.proofs.{Common.{ap, subst, ◌∙◌, arith}, lemmas.List.append-nil}
use Rattle.std.{proofs.{lemmas.Bool.Decides.nat_tests, Math.Bool.and-false}, specs.Prelude.is_none}
use Rattle.std.specs.Option.{option_map, option_and_then}
use Rattle.room_rows.specs.{declared.node.{AuditRow.AuditRow, Node.Node}, Content.child_of}
use Rattle.room_rows.specs.Rows.{Rows}
use Rattle.room_judge.specs.declared.arrival.{Both.Both, Found.Found, Under.Under}
use Rattle.room_judge.specs.{declared.asker.Asker.Asker, Stored.found_site, Halted.both_with}
use Rattle.room_judge.specs.{Judged.{IsJudged, IsReached, child_below, through}, Spot.IsPaired}
use Rattle.room_judge.{specs.Spot.{IsSpotted, SpotsUnder, spot_of}, proofs.Judging.failure_of_parts}
use Rattle.room_judge.proofs.Judging.{records_of_parts, fails_first, passes_first, refuses}
use Rattle.room_judge.proofs.{Judging.{passes_on, judged_none}, Ways.plain_way, Spots.below_of}
use Rattle.room_judge.proofs.Spots.{missing, last_look, stem, way_along, folder_along, folder_found}
use Rattle.room_judge.proofs.Spots.{target_found, folder_path, path_parts, take_front, name_is_last}
use Rattle.room_machine.specs.declared.reply.{Reply.Reply, Reason.{Reason, TheVariants.NoSuch}}
use Rattle.room_machine.specs.{Site.{Site, front, last_name}, Plan.{Item, Refusal, way}}
use Rattle.room_machine.specs.{Plan.where_found, Judge.{first_failure, or_else, records_of_plan}}
use Rattle.room_machine.specs.Stored.{stored_site, stored_along, to_stored}

-- ---- the folder of the last name

module _ (asker : Asker) (path : List (List ℕ)) (from : Found) where
  -- where the folder is passed, the spot is the folder with what has the next name in it
  pub spot_found : (old mid new : Rows) (child : Option Node)
      → IsJudged asker (through (found_site path from)) old None mid
      → child ≡ child_below path from mid → new ≡ mid
      → SpotsUnder asker path from old (spot_of from child) new
  spot_found old mid new child judged is same = grind (arith, nat_tests)

-- ---- a last refusal that can't hold

nothing : (t : Bool) → cond {A = List AuditRow} t [] [] ≡ []
nothing true = refl
nothing false = refl

or_none : (o : Option Reply) → or_else o None ≡ o
or_none None = refl
or_none (Some reply) = refl

module _ (asker : Asker) (items : List Item) (path : List (List ℕ)) (why : Reason) where
  same_failure : first_failure asker.caller (items ++ Refusal path why false ∷ [])
      ≡ first_failure asker.caller items
  same_failure = search (failure_of_parts, or_none)

  same_records : records_of_plan asker.caller asker.moment (items ++ Refusal path why false ∷ [])
      ≡ records_of_plan asker.caller asker.moment items
  same_records = grind (arith, nat_tests, append-nil, nothing, records_of_parts)

  without_last : (old new : Rows) (answer : Option Reply)
      → IsJudged asker (items ++ Refusal path why false ∷ []) old answer new
      → IsJudged asker items old answer new
  without_last old new answer judged = grind (arith, nat_tests, same_failure, same_records)

-- ---- the whole way

module _ (asker : Asker) (path : List (List ℕ)) (some : 0 < length path) where
  -- the way without its last check
  way_to_front : (old : Rows)
      → to_stored old.read (front path) (λ _. [])
      ≡ way false (stored_along old.read (front path)) (front path)
  way_to_front old = grind (arith, nat_tests, append-nil)

  -- a walk that ended before it came to the folder bars the spot with its reply
  pub spot_ends : (old new : Rows) (reply : Reply)
      → IsReached asker (front path) (λ _. []) old (Err reply) new
      → IsSpotted asker path old (Err reply) new
  spot_ends old new reply reached = record {
    judged =
        subst (λ items. IsJudged asker items old (Some reply) new)
        (sym (way_along old.read true path some))
        (fails_first asker (stem old.read path) (last_look old.read true path) old new reply
        (fails_first asker (way false (stored_along old.read (front path)) (front path))
        (where_found (folder_along old.read path) through) old new reply
        (search (rules, old, reply, new, way_to_front, reached.judged))));
    folder = tt;
    child = tt;
  }

  module _ (node : Node) (depth : ℕ) (deep : length path ≡ depth + 1) (old mid : Rows)
      (reached : IsReached asker (front path) (λ _. []) old (Ok node) mid) where
    abbrev from : Found
    from = record { node = node; depth = depth }

    site_is : found_site path from ≡ stored_site (front path) node
    site_is = ap (λ p. stored_site p node) (take_front path depth deep)

    at_folder : folder_along old.read path ≡ Some (found_site path from)
    at_folder = reached.found ∙ ap (λ (s : Site). Some s) (sym site_is)

    stem_is : stem old.read path ≡ way false (stored_along old.read (front path)) (front path)
        ++ through (found_site path from)
    stem_is = grind (arith, nat_tests, at_folder)

    stem_judged : (new : Rows) (answer : Option Reply)
        → IsJudged asker (through (found_site path from)) mid answer new
        → IsJudged asker (stem old.read path) old answer new
    stem_judged new answer judged =
        subst (λ items. IsJudged asker items old answer new) (sym stem_is)
        (passes_first asker (way false (stored_along old.read (front path)) (front path))
        (through (found_site path from)) old mid new answer
        (subst (λ items. IsJudged asker items old None mid) (way_to_front old) reached.judged)
        judged)

    look_is : last_look old.read true path
        ≡ Refusal ((found_site path from).path ++ last_name path ∷ []) NoSuch false ∷ []
    look_is = grind (arith, nat_tests, and-false, at_folder, missing)

    -- a walk that came to the folder has the spot that is found there, barred or not
    pub spot_on : (new : Rows) (outcome : Result Under Reply)
        → SpotsUnder asker path from mid outcome new → IsSpotted asker path old outcome new
    spot_on new (Err reply) under = search (fails_first, last_look, stem, stem_judged, way_along)
    spot_on new (Ok spot) under = record {
      judged = search (judged_none, look_is, passes_first, passes_on, stem, stem_judged, way_along);
      folder = grind (arith, nat_tests, at_folder, folder_found);
      child = search (child_is, reached_child, target_found);
    }
      where
        child_is : spot.child ≡ child_of old.read node.id (last_name path)
        child_is = grind (arith, nat_tests, name_is_last)

        reached_child : option_and_then (below_of old.read (last_name path))
            (folder_along old.read path)
            ≡ option_map (stored_site path) (child_of old.read node.id (last_name path))
        reached_child = grind (arith, nat_tests, below_of, path_parts)

  -- ---- an object that has to be there

  -- whether the object may be absent is judged last
  module _ (old new : Rows) (answer : Option Reply)
      (judged : IsJudged asker (way true (stored_along old.read path) path) old answer new) where
    on_stem : (o : Option Site) → folder_along old.read path ≡ o
        → IsJudged asker (stem old.read path) old answer new
    on_stem None is = grind (arith, nat_tests, append-nil, missing, stem, way_along)
    on_stem (Some site) is =
        without_last asker (stem old.read path)
        (site.path ++ last_name path ∷ []) NoSuch old new answer
        (grind (arith, nat_tests, and-false, missing, stem, way_along))

    -- where the last name may be absent, only the way to the folder and through it was judged
    pub stem_of : IsJudged asker (stem old.read path) old answer new
    stem_of = on_stem (folder_along old.read path) refl

  -- where the spot is barred, the walk to the object and its folder halts with the same reply
  pub pair_barred : (old new : Rows) (reply : Reply) → IsSpotted asker path old (Err reply) new
      → IsPaired asker path old (Err reply) new
  pair_barred old new reply spotted = search (fails_first, last_look, stem, stem_of, way_along)

  module _ (old new : Rows) (folder : Found) (child : Option Node)
      (spotted : IsSpotted asker path old (spot_of folder child) new) where
    site : Site
    site = found_site path folder

    -- the folder of the spot is what is found along all names of the path but the last
    pub folder_is : folder_along old.read path ≡ Some (found_site path folder)
    folder_is = sym (folder_found old.read path some) ∙ spotted.folder

    whole : (found_site path folder).path ++ last_name path ∷ [] ≡ path
    whole = cc (folder_path old.read path (found_site path folder) folder_is, path_parts path some)

    missing_is : (o : Option Node)
        → option_map (stored_site path) (child_of old.read folder.node.id (last_name path))
        ≡ option_map (stored_site path) o
        → is_none (child_of old.read folder.node.id (last_name path)) ≡ is_none o
    missing_is o same = on (child_of old.read folder.node.id (last_name path)) o same
      where
        on : (a b : Option Node) → option_map (stored_site path) a ≡ option_map (stored_site path) b
            → is_none a ≡ is_none b
        on a b same = grind (arith, nat_tests)

    -- nothing in that folder has the last name exactly if the spot has no child
    pub lacks : is_none (child_of old.read folder.node.id (last_name path)) ≡ is_none child
    lacks = grind (arith, nat_tests, below_of, folder_is, missing_is, target_found, whole)

    look_says : last_look old.read false path ≡ Refusal path NoSuch (is_none child && true) ∷ []
    look_says = grind (arith, nat_tests, folder_is, lacks, missing, whole)

    -- after the spot, to judge whether the last name is there is to have judged the whole way
    pub way_looks : (answer : Option Reply)
        → IsJudged asker (Refusal path NoSuch (is_none child && true) ∷ []) new answer new
        → IsJudged asker (way false (stored_along old.read path) path) old answer new
    way_looks answer judged = search (look_says, passes_first, stem, stem_of, way_along)

  -- what has to be there is found, or the walk is refused
  pub both_found : (old new : Rows) (folder : Found) (child : Option Node)
      → IsSpotted asker path old (spot_of folder child) new
      → IsPaired asker path old (both_with path folder child) new
  both_found old new folder (Some node) spotted = search (judged_none, passes_on, way_looks)
  both_found old new folder None spotted = search (refuses, way_looks)

-- ---- in terms of the calls

-- so may, in a spot under a folder, what has the last name there
pub spotted_child : (asker : Asker) (path : List (List ℕ)) (folder : Found)
    (child other : Option Node) (old new : Rows) → child ≡ other
    → IsSpotted asker path old (spot_of folder child) new
    → IsSpotted asker path old (spot_of folder other) new
spotted_child asker path folder child other old new same spotted = grind (arith, nat_tests)

module _ (asker : Asker) (path : List (List ℕ)) (depth : ℕ) (deep : length path ≡ depth + 1) where
  some : 0 < length path
  some = omega (arith, deep)

  -- the walk along all names but the last
  walked_front : (outcome : Result Node Reply) (old new : Rows)
      → IsReached asker (take depth path) (λ _. []) old outcome new
      → IsReached asker (front path) (λ _. []) old outcome new
  walked_front outcome old new reached = grind (arith, nat_tests, take_front)

  -- a walk that ended before the folder
  pub spot_barred : (old new : Rows) (reply : Reply)
      → IsReached asker (take depth path) (λ _. []) old (Err reply) new
      → IsSpotted asker path old (Err reply) new
  spot_barred old new reply reached = search (some, spot_ends, walked_front)

  -- a walk to the folder, and what follows it
  pub spot_follows : (node : Node) (old mid new : Rows) (outcome : Result Under Reply)
      → IsReached asker (take depth path) (λ _. []) old (Ok node) mid
      → SpotsUnder asker path (record { node = node; depth = depth }) mid outcome new
      → IsSpotted asker path old outcome new
  spot_follows node old mid new outcome reached spots = search (some, spot_on, walked_front)

-- the walk to the object alone
abbrev pub target_in : Result Both Reply → Result Node Reply
target_in (Ok pair) = Ok pair.target.node
target_in (Err reply) = Err reply

-- a walk to an object and its folder has reached the object, or ended with that reply
pub pair_reached : (asker : Asker) (path : List (List ℕ)) (outcome : Result Both Reply)
    (old new : Rows) → IsPaired asker path old outcome new
    → IsReached asker path (λ _. []) old (target_in outcome) new
pair_reached asker path (Ok pair) old new paired = search (plain_way)
pair_reached asker path (Err reply) old new paired = search (plain_way)
