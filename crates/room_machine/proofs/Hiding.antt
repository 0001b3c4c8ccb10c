-- What a denial on the way to an object hides.
use Rattle.std.proofs.Common.{rules, ℕ, zero, suc, ◌+◌, ◌≡◌, ◌⊎◌, inl, inr, Bool, true, false, cond}
use Rattle.std.proofs.Common.{not, ◌&&◌, List, [], ◌∷◌, ◌++◌, length, length-append, take, Option}
use Rattle.std.proofs.Common.{Some, None, refl, sym, ap, subst, ◌∙◌, add-one, arith}
use Rattle.std.{proofs.lemmas.Bool.Decides.nat_tests, specs.Option.option_map_or}
use Rattle.room_entry.specs.{Ace.Ace, Rights.execute, declared.parties.Caller.Caller}
use Rattle.room_eval.specs.declared.outcome.Verdict.{Verdict, TheVariants.Granted}
use Rattle.room_eval.specs.declared.outcome.Verdict.TheVariants.{Denied as DeniedWith}
use Rattle.room_rows.specs.{declared.node.Node.Node, Content.{Content, child_of, is_empty}}
use Rattle.room_rows.specs.{Content.is_folder, Rows.Rows, Walk.walk_of}
use Rattle.room_machine.specs.declared.request.Request.{Request, TheVariants.Read}
use Rattle.room_machine.specs.declared.request.Request.TheVariants.{List as ListFolder, Put, Append}
use Rattle.room_machine.specs.declared.request.Request.TheVariants.{MakeFolder, Remove, Move}
use Rattle.room_machine.specs.declared.request.Request.TheVariants.{ReadList, SetList, ReadAttr}
use Rattle.room_machine.specs.declared.request.Request.TheVariants.{SetOwners, Can}
use Rattle.room_machine.specs.declared.reply.Reply.{Reply, TheVariants.{Denied, Refused}}
use Rattle.room_machine.specs.declared.reply.Reason.{Reason, TheVariants.{NotFolder, NoSuch}}
use Rattle.room_machine.specs.Site.{Site, sites_of, sites_below, site_below, root_site, sites_along}
use Rattle.room_machine.specs.Plan.{Along, Item, Check, Refusal, way, plan_by}
use Rattle.room_machine.specs.{Stored.{stored_along, stored_from, stored_site}, Closed.TellsFailure}
use Rattle.room_machine.specs.{Judge.{failure, first_failure, of_verdict, or_else}, Effect.effect}
use Rattle.room_machine.specs.{Step.caller_in, Laws.{first_path, Hides, HidesStored}}
use Rattle.room_machine.proofs.Replies.{or_reply, reply_of, same_caller}

-- the way as far as the check of EXECUTE on the object after n names
abbrev way_as_far : ℕ → List Site → List (List ℕ) → List Item
way_as_far n [] names = []
way_as_far n (site ∷ sites) [] = []
way_as_far zero (site ∷ sites) (name ∷ names) =
    Refusal site.path NotFolder (not (is_folder site.node)) ∷ Check site (execute ∷ []) ∷ []
way_as_far (suc n) (site ∷ sites) (name ∷ names) =
    Refusal site.path NotFolder (not (is_folder site.node)) ∷ Check site (execute ∷ [])
    ∷ Refusal (site.path ++ name ∷ []) NoSuch (is_empty sites) ∷ way_as_far n sites names

take_sites_below : (n : ℕ) (above : Site) (chain : List Node)
    → sites_below above (take n chain) ≡ take n (sites_below above chain)
take_sites_below zero above chain = refl
take_sites_below (suc n) above [] = refl
take_sites_below (suc n) above (node ∷ chain) =
    ap (λ sites. site_below above node ∷ sites) (take_sites_below n (site_below above node) chain)

take_sites : (n : ℕ) (chain : List Node) → sites_of (take n chain) ≡ take n (sites_of chain)
take_sites zero chain = refl
take_sites (suc n) [] = refl
take_sites (suc n) (node ∷ chain) =
    ap (λ sites. root_site node ∷ sites) (take_sites_below n (root_site node) chain)

empty_take : (n : ℕ) (sites : List Site) → is_empty (take (suc n) sites) ≡ is_empty sites
empty_take n [] = refl
empty_take n (site ∷ sites) = refl

-- the way as far as an object depends on the objects down to it alone
far_take : (n : ℕ) (sites : List Site) (names : List (List ℕ))
    → way_as_far n (take (suc n) sites) names ≡ way_as_far n sites names
far_take zero [] names = refl
far_take zero (site ∷ sites) [] = refl
far_take zero (site ∷ sites) (name ∷ names) = refl
far_take (suc n) [] names = refl
far_take (suc n) (site ∷ sites) [] = refl
far_take (suc n) (site ∷ sites) (name ∷ names) =
    grind (arith, nat_tests, empty_take, far_take n sites names)

far_same : (n : ℕ) (sites others : List Site) (names : List (List ℕ))
    → take (n + 1) sites ≡ take (n + 1) others
    → way_as_far n sites names ≡ way_as_far n others names
far_same n sites others names same = grind (arith, nat_tests, far_take)

same_far : (n : ℕ) (chain other : List Node) (names : List (List ℕ))
    → take (n + 1) chain ≡ take (n + 1) other
    → way_as_far n (sites_of chain) names ≡ way_as_far n (sites_of other) names
same_far n chain other names same =
    let suc_same : take (suc n) chain ≡ take (suc n) other = rw add-one at same in
    sym (far_take n (sites_of chain) names)
    ∙ ap (λ sites. way_as_far n sites names)
    (sym (take_sites (suc n) chain) ∙ ap sites_of suc_same ∙ take_sites (suc n) other)
    ∙ far_take n (sites_of other) names

-- a denial on the way as far as an object is the first failure of each plan that begins with the
-- way
module _ (caller : Caller) (lack : Bool) (rest : List Item) (front : List (List ℕ)) (bits : List ℕ)
    (place : Option ℕ) (entry : Option Ace) where
  abbrev denial : Option Reply
  denial = Some (Denied front bits place entry)

  -- a refusal isn't a denial, so where a denial comes first, the fact doesn't hold
  past_refusal : (path : List (List ℕ)) (why : Reason) (holds : Bool) (others : Option Reply)
      → or_else (cond holds (Some (Refused path why)) None) others ≡ denial → (holds ≡ false)
      × (others ≡ denial)
  past_refusal path why true others is = grind (arith, nat_tests)
  past_refusal path why false others is = (refl, is)

  past_check : (failed others more : Option Reply) → or_else failed others ≡ denial
      → (others ≡ denial → more ≡ denial) → or_else failed more ≡ denial
  past_check None others more is next = next is
  past_check (Some reply) others more is next = is

  denied_first : (n : ℕ) (sites : List Site) (names : List (List ℕ))
      → first_failure caller (way_as_far n sites names) ≡ denial
      → first_failure caller (way lack sites names ++ rest) ≡ denial
  denied_first n [] names is = absurd (none_some is)
    where
      none_some : first_failure caller [] ≡ denial → ⊥
      none_some same = cc
  denied_first n (site ∷ sites) [] is = absurd (none_some is)
    where
      none_some : first_failure caller [] ≡ denial → ⊥
      none_some same = cc
  denied_first zero (site ∷ sites) (name ∷ names) is =
      let folder = past_refusal site.path NotFolder (not (is_folder site.node))
      (or_else (failure caller (Check site (execute ∷ []))) None) is in
      let more : Option Reply = or_else
      (cond (is_empty sites && not (lack && is_empty names))
      (Some (Refused (site.path ++ name ∷ []) NoSuch)) None)
      (first_failure caller (way lack sites names ++ rest)) in
      ap (λ t. or_else (cond t (Some (Refused site.path NotFolder)) None)
      (or_else (failure caller (Check site (execute ∷ []))) more)) folder.0
      ∙ past_check (failure caller (Check site (execute ∷ []))) None more folder.1
      (λ same. no_denial same more)
    where
      no_denial : None ≡ denial → (o : Option Reply) → o ≡ denial
      no_denial same o = cc
  denied_first (suc n) (site ∷ sites) (name ∷ names) is =
      let failed : Option Reply = failure caller (Check site (execute ∷ [])) in
      let others : Option Reply = or_else
      (cond (is_empty sites) (Some (Refused (site.path ++ name ∷ []) NoSuch)) None)
      (first_failure caller (way_as_far n sites names)) in
      let folder = past_refusal site.path NotFolder (not (is_folder site.node))
      (or_else failed others) is in
      let behind : Option Reply = first_failure caller (way lack sites names ++ rest) in
      let more : Option Reply = or_else
      (cond (is_empty sites && not (lack && is_empty names))
      (Some (Refused (site.path ++ name ∷ []) NoSuch)) None) behind in
      ap (λ t. or_else (cond t (Some (Refused site.path NotFolder)) None) (or_else failed more))
      folder.0
      ∙ past_check failed others more folder.1 (λ same.
      let there = past_refusal (site.path ++ name ∷ []) NoSuch (is_empty sites)
      (first_failure caller (way_as_far n sites names)) same in
      ap (λ t. or_else (cond (t && not (lack && is_empty names))
      (Some (Refused (site.path ++ name ∷ []) NoSuch)) None) behind) there.0
      ∙ denied_first n sites names there.1)

-- the plan of a request with a path begins with the way
module _ (along : Along) (b : Content) (caller : Caller) (n : ℕ) (front : List (List ℕ))
    (bits : List ℕ) (place : Option ℕ) (entry : Option Ace) where
  abbrev IsDenied : Request → Type 0
  IsDenied request =
      first_failure caller (way_as_far n (along (first_path request)) (first_path request))
      ≡ Some (Denied front bits place entry)

  no_way : (sites : List Site) → way_as_far n sites [] ≡ []
  no_way [] = refl
  no_way (site ∷ sites) = refl

  plan_denied : (request : Request) → IsDenied request
      → first_failure caller (plan_by along b request) ≡ Some (Denied front bits place entry)
  plan_denied (Read path) is = grind (arith, nat_tests, denied_first)
  plan_denied (ListFolder path) is = grind (arith, nat_tests, denied_first)
  plan_denied (Put path bytes) is = grind (arith, nat_tests, denied_first)
  plan_denied (Append path bytes) is = grind (arith, nat_tests, denied_first)
  plan_denied (MakeFolder []) is = grind (arith, nat_tests, no_way)
  plan_denied (MakeFolder (name ∷ names)) is = grind (arith, nat_tests, denied_first)
  plan_denied (Remove path) is = grind (arith, nat_tests, denied_first)
  plan_denied (Move path to) is = grind (arith, nat_tests, denied_first)
  plan_denied (ReadList path which) is = grind (arith, nat_tests, denied_first)
  plan_denied (SetList path which sent) is = grind (arith, nat_tests, denied_first)
  plan_denied (ReadAttr path) is = grind (arith, nat_tests, denied_first)
  plan_denied (SetOwners path owners) is = grind (arith, nat_tests, denied_first)
  plan_denied (Can path mask) is = grind (arith, nat_tests, denied_first)

-- each object's path has one name more than that of the one before
abbrev Deepens : Site → List Site → Type 0
Deepens site [] = Unit {0}
Deepens site (next ∷ sites) = (length next.path ≡ length site.path + 1) × Deepens next sites

deepens_below : (site : Site) (chain : List Node) → Deepens site (sites_below site chain)
deepens_below site [] = tt
deepens_below site (node ∷ chain) =
    (length-append site.path (node.name ∷ []), deepens_below (site_below site node) chain)

-- the objects after the first of those with their stored lists
abbrev stored_tail : Content → List (List ℕ) → Node → List (List ℕ) → List Site
stored_tail rows path node [] = []
stored_tail rows path node (name ∷ names) =
    option_map_or (λ child. stored_from rows (path ++ name ∷ []) child names)
    (child_of rows node.id name) []

stored_head : (rows : Content) (path : List (List ℕ)) (node : Node) (names : List (List ℕ))
    → stored_from rows path node names ≡ stored_site path node ∷ stored_tail rows path node names
stored_head rows path node [] = refl
stored_head rows path node (name ∷ names) = refl

deepens_stored : (rows : Content) (path : List (List ℕ)) (node : Node) (names : List (List ℕ))
    → Deepens (stored_site path node) (stored_tail rows path node names)
deepens_stored rows path node [] = tt
deepens_stored rows path node (name ∷ names) = on (child_of rows node.id name)
    (λ child. deepens_stored rows (path ++ name ∷ []) child names)
  where
    on : (o : Option Node)
        → ((child : Node) → Deepens (stored_site (path ++ name ∷ []) child)
        (stored_tail rows (path ++ name ∷ []) child names))
        → Deepens (stored_site path node)
        (option_map_or (λ child. stored_from rows (path ++ name ∷ []) child names) o [])
    on None more = tt
    on (Some child) more =
        subst (Deepens (stored_site path node))
        (sym (stored_head rows (path ++ name ∷ []) child names))
        (length-append path (name ∷ []), more child)

-- where the way is denied, it is denied at an object on it
module _ (caller : Caller) (lack : Bool) (front : List (List ℕ)) (bits : List ℕ) (place : Option ℕ)
    (entry : Option Ace) where
  abbrev denied : Option Reply
  denied = Some (Denied front bits place entry)

  no_failure : None ≡ denied → ⊥
  no_failure same = cc

  or_none : (o : Option Reply) → or_else o None ≡ o
  or_none None = refl
  or_none (Some reply) = refl

  either : (failed more : Option Reply) → or_else failed more ≡ denied → (failed ≡ denied)
      ⊎ ((failed ≡ None) × (more ≡ denied))
  either None more is = inr (refl, is)
  either (Some reply) more is = inl is

  -- a check is denied at its object
  at_site : (site : Site) (v : Verdict) → of_verdict site v ≡ denied
      → length front ≡ length site.path
  at_site site Granted is = absurd (no_failure is)
  at_site site (DeniedWith of_bits of_place) is = grind (arith, nat_tests)

  -- so far, as many names below this object as the path of the denial has more
  abbrev IsDeniedBelow : Site → List Site → List (List ℕ) → Type 0
  IsDeniedBelow site sites names = (n : ℕ) × (length front ≡ length site.path + n)
      × (first_failure caller (way_as_far n (site ∷ sites) names) ≡ denied)

  denied_here : (site : Site) (sites : List Site) (name : List ℕ) (names : List (List ℕ))
      → not (is_folder site.node) ≡ false → failure caller (Check site (execute ∷ [])) ≡ denied
      → IsDeniedBelow site sites (name ∷ names)
  denied_here site sites name names folder is = grind (arith, nat_tests, at_site, or_none)

  denied_next : (site next : Site) (sites : List Site) (name : List ℕ) (names : List (List ℕ))
      → length next.path ≡ length site.path + 1 → not (is_folder site.node) ≡ false
      → failure caller (Check site (execute ∷ [])) ≡ None
      → IsDeniedBelow next sites names → IsDeniedBelow site (next ∷ sites) (name ∷ names)
  denied_next site next sites name names deeper folder passes below = (
    suc below.0,
    omega (arith, below.1, deeper),
    search (rules, folder, passes, below.2),
  )

  denied_below : (site : Site) (sites : List Site) (names : List (List ℕ)) → Deepens site sites
      → first_failure caller (way lack (site ∷ sites) names) ≡ denied
      → IsDeniedBelow site sites names
  denied_below site sites [] deeper is = absurd (no_failure is)
  denied_below site [] (name ∷ names) deeper is =
      search (rules, site, site.path, past_refusal, site.node, is, either, denied_here, no_failure)
  denied_below site (next ∷ sites) (name ∷ names) deeper is =
      let failed : Option Reply = failure caller (Check site (execute ∷ [])) in
      let more : Option Reply = first_failure caller (way lack (next ∷ sites) names) in
      let folder = past_refusal caller lack [] front bits place entry site.path NotFolder
      (not (is_folder site.node)) (or_else failed more) is in
      elim (either failed more folder.1) [
        | inl here ↦ denied_here site (next ∷ sites) name names folder.0 here
        | inr on ↦
            denied_next site next sites name names deeper.0 folder.0 on.0
            (denied_below next sites names deeper.1 on.1)
      ]

  at_depth : (site : Site) (sites : List Site) (names : List (List ℕ)) → length site.path ≡ 0
      → IsDeniedBelow site sites names
      → first_failure caller (way_as_far (length front) (site ∷ sites) names) ≡ denied
  at_depth site sites names none below = grind (arith, nat_tests)

  denied_along : (chain : List Node) (names : List (List ℕ))
      → first_failure caller (way lack (sites_of chain) names) ≡ denied
      → first_failure caller (way_as_far (length front) (sites_of chain) names) ≡ denied
  denied_along [] names is = absurd (no_failure is)
  denied_along (root ∷ chain) names is =
      grind (arith, nat_tests, at_depth, deepens_below, denied_below)

  denied_stored : (rows : Content) (path names : List (List ℕ))
      → first_failure caller (way lack (stored_along rows path) names) ≡ denied
      → first_failure caller (way_as_far (length front) (stored_along rows path) names) ≡ denied
  denied_stored rows path names is =
      grind (arith, nat_tests, at_depth, deepens_stored, denied_below, no_failure, stored_head)

pub hides : Hides
hides a b user moment request may_lack at bits place entry reply after denied objects groups
    stepped =
    let path = first_path request in
    let n : ℕ = length at in
    let first : first_failure (caller_in a user) (way_as_far n (sites_along a path) path)
    ≡ Some (Denied at bits place entry) =
    denied_along (caller_in a user) may_lack at bits place entry
    (walk_of a path).chain path denied in
    let there : first_failure (caller_in b user) (way_as_far n (sites_along b path) path)
    ≡ Some (Denied at bits place entry) =
    ap (λ c. first_failure c (way_as_far n (sites_along b path) path))
    (sym (same_caller a b user groups))
    ∙ ap (first_failure (caller_in a user))
    (sym (same_far n (walk_of a path).chain (walk_of b path).chain path objects)) ∙ first in
    reply_of b user moment request reply after stepped
    ∙ ap (λ f. or_reply f (effect b (caller_in b user) stepped.0 request).0)
    (plan_denied (sites_along b) b (caller_in b user) n at bits place entry request there)

-- a reply that tells this denial is it
told_denial : (rows : Rows) (request : Request) (reply : Reply) (at : List (List ℕ))
    (bits : List ℕ) (place : Option ℕ) (entry : Option Ace)
    → TellsFailure rows request reply (Some (Denied at bits place entry))
    → reply ≡ Denied at bits place entry
told_denial rows request reply at bits place entry (inl told) = grind (arith, nat_tests)
told_denial rows request reply at bits place entry (inr more) = grind (arith, nat_tests)

pub hides_stored : HidesStored
hides_stored a b user moment request may_lack at bits place entry reply after denied objects groups
    closed =
    let path = first_path request in
    let n : ℕ = length at in
    let first : first_failure (caller_in a.read user)
    (way_as_far n (stored_along a.read path) path) ≡ Some (Denied at bits place entry) =
    denied_stored (caller_in a.read user) may_lack at bits place entry a.read path path denied in
    let there : first_failure (caller_in b.read user)
    (way_as_far n (stored_along b.read path) path) ≡ Some (Denied at bits place entry) =
    ap (λ c. first_failure c (way_as_far n (stored_along b.read path) path))
    (sym (same_caller a.read b.read user groups))
    ∙ ap (first_failure (caller_in a.read user))
    (sym (far_same n (stored_along a.read path) (stored_along b.read path) path objects))
    ∙ first in
    told_denial b request reply at bits place entry
    (subst (TellsFailure b request reply)
    (plan_denied (stored_along b.read) b.read (caller_in b.read user) n at bits place entry request
    there) closed.judged)
