-- What a plan that passes says of paths.
use Rattle.std.proofs.Common.{rules, cond, not, ℕ, ◌≡◌, ◌==◌, ◌⊎◌, inl, inr, Bool, true, false}
use Rattle.std.proofs.Common.{List, [], ◌∷◌, ◌++◌, Option, Some, None, refl, sym, ap, ◌∙◌, arith}
use Rattle.std.proofs.lemmas.Bool.{false≢true, cases_Bool, or_right, Decides.nat_tests}
use Rattle.std.proofs.lemmas.Option.{none-some, same_Some}
use Rattle.std.specs.{List.list_any, Option.{option_map_or, option_map}, Prelude.is_some}
use Rattle.room_entry.specs.{Pieces.same_text, Rights.{execute, append_data}}
use Rattle.room_entry.specs.declared.parties.Caller.{Caller}
use Rattle.room_entry.proofs.{Alike.text_itself, Texts.same_text-true}
use Rattle.room_rows.specs.Content.{Content, child_of, children_of, is_empty, is_folder}
use Rattle.room_rows.specs.declared.node.Node.{Node}
use Rattle.room_machine.specs.{Judge.{failure, first_failure, or_else}, Plan.{Item, Check}}
use Rattle.room_machine.specs.Plan.{Deletion, Refusal, plan_of, move_items, way, where_found}
use Rattle.room_machine.specs.{Plan.right_to_add, Site.{site_below, Site, front, last_name}}
use Rattle.room_machine.specs.{Site.{site_at, parent_at, sites_along}, declared.reply.Reason.Reason}
use Rattle.room_machine.specs.declared.reply.Reason.TheVariants.{NotFolder, NotEmpty, Exists, Loop}
use Rattle.room_machine.specs.declared.reply.{Reason.TheVariants.Root, Reply.Reply}
use Rattle.room_machine.specs.declared.request.Request.TheVariants.{MakeFolder, Remove, Move}
use Rattle.room_laws.specs.{Laws.rest_after, Outside.{found, IsBehind}}
use Rattle.room_laws.proofs.{Behind.found_before, Grown.GoesOn, OnePlace.{not_empty, found_snoc}}
use Rattle.room_laws.proofs.{OnePlace.{head_same, split_last, tail_same}, Placed.names_decide}
use Rattle.room_laws.proofs.{Placed.same_names, Seen.{sites_from, along_from, found_at}}

-- ---- paths

pub at_or_not : (path q : List (List ℕ)) → (q ≡ path) ⊎ (q ≡ path → ⊥)
at_or_not path q = elim (cases_Bool (same_names q path)) [
  | inl is ↦ inl ((names_decide q path).0 is)
  | inr isnt ↦ inr (λ same. false≢true (sym isnt ∙ (names_decide q path).1 same))
]

-- what goes on from a path that neither is behind nor leads to the front isn't behind
pub outside_on : (path f rest : List (List ℕ)) → (IsBehind f path → ⊥) → (GoesOn path f → ⊥)
    → IsBehind f (path ++ rest) → ⊥
outside_on [] f rest outside away is = away (f, refl)
outside_on (x ∷ path) [] rest outside away is = outside (x, path, refl)
outside_on (x ∷ path) (y ∷ f) rest outside away (n, ns, is) =
    search (rules, head_same, n, ns, is, tail_same, outside_on path f rest)

-- the object before the last name of a path
pub parent_found : (content : Content) (name : List ℕ) (names : List (List ℕ))
    → option_map (λ (s : Site). s.node)
    (parent_at (sites_along content (name ∷ names)) (name ∷ names))
    ≡ found content (front (name ∷ names))
parent_found content name names =
    cc (
      split_last name names,
      found_before content (front (name ∷ names)) (last_name (name ∷ names) ∷ []),
    )

pub parent_is : (content : Content) (name : List ℕ) (names : List (List ℕ)) (s : Site)
    → parent_at (sites_along content (name ∷ names)) (name ∷ names) ≡ Some s
    → found content (front (name ∷ names)) ≡ Some s.node
parent_is content name names s is = cc (parent_found content name names, is)

pub none_at : (content : Content) (path : List (List ℕ))
    → site_at (sites_along content path) path ≡ None → found content path ≡ None
none_at content path is = sym (found_at content path) ∙ ap (option_map (λ (x : Site). x.node)) is

-- an object at a path of names stands in one
pub above_found : (content : Content) (name : List ℕ) (names : List (List ℕ)) (n : Node)
    → found content (name ∷ names) ≡ Some n
    → (s : Site) × (parent_at (sites_along content (name ∷ names)) (name ∷ names) ≡ Some s)
above_found content name names n is =
    on (parent_at (sites_along content (name ∷ names)) (name ∷ names)) refl
  where
    none : parent_at (sites_along content (name ∷ names)) (name ∷ names) ≡ None
        → found content (name ∷ names) ≡ None
    none at =
        cc (
          split_last name names,
          found_snoc content (front (name ∷ names)) (last_name (name ∷ names)),
          parent_found content name names,
          at,
        )

    on : (o : Option Site)
        → parent_at (sites_along content (name ∷ names)) (name ∷ names) ≡ o
        → (s : Site) × (parent_at (sites_along content (name ∷ names)) (name ∷ names) ≡ Some s)
    on None at = absurd (none-some n (sym (none at) ∙ is))
    on (Some s) at = (s, at)

parents : (content : Content) (p : List (List ℕ)) (n : Node) → found content p ≡ Some n
    → is_empty p ≡ false → (d : Site) × (parent_at (sites_along content p) p ≡ Some d)
parents content p n is none = grind (arith, nat_tests, above_found)

-- ---- a path that begins with another

pub rest_some : (path f names : List (List ℕ)) → rest_after path f ≡ Some names
    → f ≡ path ++ names
rest_some [] f names is = same_Some f names is
rest_some (x ∷ path) [] names is = absurd (none-some names is)
rest_some (x ∷ path) (y ∷ f) names is = on (same_text x y) refl is (rest_some path f names)
  where
    on : (t : Bool) → same_text x y ≡ t → cond t (rest_after path f) None ≡ Some names
        → (rest_after path f ≡ Some names → f ≡ path ++ names) → y ∷ f ≡ x ∷ path ++ names
    on true same is rest = cc (same_text-true x y same, rest is)
    on false differ is rest = absurd (none-some names is)

pub rest_none : (path f : List (List ℕ)) → rest_after path f ≡ None → GoesOn path f → ⊥
rest_none [] f is (r, e) = none-some f (sym is)
rest_none (x ∷ path) [] is (r, e) = not_empty x (path ++ r) e
rest_none (x ∷ path) (y ∷ f) is (r, e) =
    on (same_text x y) refl is (λ none. rest_none path f none (r, tail_same y x f (path ++ r) e))
  where
    on : (t : Bool) → same_text x y ≡ t → cond t (rest_after path f) None ≡ None
        → (rest_after path f ≡ None → ⊥) → ⊥
    on t same is rest = grind (arith, nat_tests, head_same, text_itself)

-- ---- a way that meets an object

meets_at : (p : Site → Bool) (sites : List Site) (names : List (List ℕ)) (s : Site)
    → site_at sites names ≡ Some s → p s ≡ true → list_any p sites ≡ true
meets_at p [] names s is passes = absurd (none-some s is)
meets_at p (x ∷ xs) [] s is passes = search (same_Some)
meets_at p (x ∷ xs) (name ∷ names) s is passes = search (or_right, meets_at p xs names s is passes)

-- where a way doesn't meet the object at a path, it doesn't go on from that path
pub never_meets : (content : Content) (path to : List (List ℕ)) (n : Node)
    → found content path ≡ Some n
    → list_any (λ (s : Site). s.node.id == n.id) (sites_along content to) ≡ false
    → GoesOn path to → ⊥
never_meets content path to n at none (rest, is) =
    on (site_at (sites_along content (path ++ rest)) path) refl
  where
    on : (o : Option Site) → site_at (sites_along content (path ++ rest)) path ≡ o → ⊥
    on o empty = grind (arith, nat_tests, found_before, meets_at)

-- ---- what a plan says that passes

module _ (caller : Caller) where
  pub passed : (i : Item) (is : List Item) → first_failure caller (i ∷ is) ≡ None
      → (failure caller i ≡ None) × (first_failure caller is ≡ None)
  passed i is none = grind (arith, nat_tests)

  pub passed_on : (is js : List Item) → first_failure caller (is ++ js) ≡ None
      → first_failure caller js ≡ None
  passed_on [] js none = none
  passed_on (i ∷ is) js none = passed_on is js (passed i (is ++ js) none).1

  pub not_refused : (path : List (List ℕ)) (why : Reason) (holds : Bool)
      → failure caller (Refusal path why holds) ≡ None → holds ≡ false
  not_refused path why holds none = grind (arith, nat_tests)

pub both_none : {o p : Option Reply} → or_else o p ≡ None → (o ≡ None) × (p ≡ None)
both_none {o = None} {p = p} none = (refl, none)
both_none {o = Some reply} {p = p} none = absurd (none-some reply (sym none))

module _ (caller : Caller) (content : Content) where
  abbrev remove_items : List (List ℕ) → Site → List Item
  remove_items path target = Refusal path Root (is_empty path)
      ∷ where_found (parent_at (sites_along content path) path) (λ folder.
      Deletion target folder
      ∷ Refusal path NotEmpty (not (is_empty (children_of content target.node.id))) ∷ [])

  full : (t : Bool) → not t ≡ false → t ≡ true
  full t is = grind (arith, nat_tests)

  pub remove_passed : (path : List (List ℕ)) (s : Site)
      → site_at (sites_along content path) path ≡ Some s
      → first_failure caller (plan_of content (Remove path)) ≡ None
      → (is_empty path ≡ false) × (is_empty (children_of content s.node.id) ≡ true)
  remove_passed path s at passes =
      let later = passed_on caller (way false (sites_along content path) path)
      (where_found (site_at (sites_along content path) path) (remove_items path)) passes in
      let here =
      ap (λ o. first_failure caller (where_found o (remove_items path))) (sym at) ∙ later in
      let two = both_none here in
      let not_root : is_empty path ≡ false =
      not_refused caller path Root (is_empty path) two.0 in
      let parent = parents content path s.node
      (sym (found_at content path) ∙ ap (option_map (λ (x : Site). x.node)) at) not_root in
      let rest = ap (λ o. first_failure caller (where_found o (λ folder.
      Deletion s folder
      ∷ Refusal path NotEmpty (not (is_empty (children_of content s.node.id))) ∷ [])))
      (sym parent.1) ∙ two.1 in (
        not_root,
        grind (arith, nat_tests, both_none, full, not_refused),
      )

  abbrev move_all : List (List ℕ) → List (List ℕ) → Site → List Item
  move_all path to target = Refusal path Root (is_empty path)
      ∷ where_found (parent_at (sites_along content path) path)
      (move_items (sites_along content) content to target)

  -- what is judged of a move once its object is found
  pub move_passed : (path to : List (List ℕ)) (s : Site)
      → site_at (sites_along content path) path ≡ Some s
      → first_failure caller (plan_of content (Move path to)) ≡ None
      → (is_empty path ≡ false) × ((d : Site)
      × (parent_at (sites_along content path) path ≡ Some d)
      × (first_failure caller (move_items (sites_along content) content to s d) ≡ None))
  move_passed path to s at passes =
      let later = passed_on caller (way false (sites_along content path) path)
      (where_found (site_at (sites_along content path) path) (move_all path to)) passes in
      let here =
      ap (λ o. first_failure caller (where_found o (move_all path to))) (sym at) ∙ later in
      let two = both_none here in
      let not_root : is_empty path ≡ false =
      not_refused caller path Root (is_empty path) two.0 in
      let parent = parents content path s.node
      (sym (found_at content path) ∙ ap (option_map (λ (x : Site). x.node)) at) not_root in
      grind (arith, nat_tests)

  abbrev place_items : List (List ℕ) → Site → Site → Site → List Item
  place_items to s d folder = Refusal folder.path NotFolder (not (is_folder folder.node))
      ∷ Check folder (execute ∷ [])
      ∷ Deletion s d
      ∷ Check folder (right_to_add s.node ∷ [])
      ∷ Refusal to Exists (is_some (child_of content folder.node.id (last_name to)))
      ∷ Refusal to Loop (list_any (λ (x : Site). x.node.id == s.node.id)
      (sites_along content (front to))) ∷ []

  no_child : (o : Option Node) → is_some o ≡ false → o ≡ None
  no_child o is = grind (arith, nat_tests)

  pub place_passed : (first : List ℕ) (more : List (List ℕ)) (s d e : Site)
      → site_at (sites_along content (front (first ∷ more))) (front (first ∷ more)) ≡ Some e
      → first_failure caller (move_items (sites_along content) content (first ∷ more) s d) ≡ None
      → (child_of content e.node.id (last_name (first ∷ more)) ≡ None)
      × (list_any (λ (x : Site). x.node.id == s.node.id)
      (sites_along content (front (first ∷ more))) ≡ false)
  place_passed first more s d e at passes =
      let later = passed_on caller
      (way false (sites_along content (front (first ∷ more))) (front (first ∷ more)))
      (where_found
      (site_at (sites_along content (front (first ∷ more))) (front (first ∷ more)))
      (place_items (first ∷ more) s d)) passes in
      let here =
      ap (λ o. first_failure caller (where_found o (place_items (first ∷ more) s d))) (sym at)
      ∙ later in
      let one = both_none
      {o = failure caller (Refusal e.path NotFolder (not (is_folder e.node)))} here in
      let two = both_none {o = failure caller (Check e (execute ∷ []))} one.1 in
      let three = both_none {o = failure caller (Deletion s d)} two.1 in
      let four = both_none {o = failure caller (Check e (right_to_add s.node ∷ []))} three.1 in
      let five = both_none {o = failure caller (Refusal (first ∷ more) Exists
      (is_some (child_of content e.node.id (last_name (first ∷ more)))))} four.1 in
      let six = both_none {o = failure caller (Refusal (first ∷ more) Loop
      (list_any (λ (x : Site). x.node.id == s.node.id)
      (sites_along content (front (first ∷ more)))))} {p = None} five.1 in
      search (no_child, not_refused)

  abbrev folder_items : List (List ℕ) → Site → List Item
  folder_items path folder = Check folder (append_data ∷ [])
      ∷ Refusal path Exists (is_some (site_at (sites_along content path) path)) ∷ []

  no_site : (o : Option Site) → is_some o ≡ false → o ≡ None
  no_site o is = grind (arith, nat_tests)

  pub folder_passed : (name : List ℕ) (names : List (List ℕ)) (d : Site)
      → parent_at (sites_along content (name ∷ names)) (name ∷ names) ≡ Some d
      → first_failure caller (plan_of content (MakeFolder (name ∷ names))) ≡ None
      → found content (name ∷ names) ≡ None
  folder_passed name names d at passes =
      let later = passed_on caller (way true (sites_along content (name ∷ names)) (name ∷ names))
      (where_found (parent_at (sites_along content (name ∷ names)) (name ∷ names))
      (folder_items (name ∷ names))) passes in
      let here =
      ap (λ o. first_failure caller (where_found o (folder_items (name ∷ names)))) (sym at)
      ∙ later in
      let two = both_none (both_none here).1 in
      none_at content (name ∷ names)
      (no_site (site_at (sites_along content (name ∷ names)) (name ∷ names))
      (not_refused caller (name ∷ names) Exists
      (is_some (site_at (sites_along content (name ∷ names)) (name ∷ names))) two.0))

  -- nothing is at the new place of a move that passes
  pub place_free : (first : List ℕ) (more : List (List ℕ)) (s d e : Site)
      → site_at (sites_along content (front (first ∷ more))) (front (first ∷ more)) ≡ Some e
      → found content (front (first ∷ more)) ≡ Some e.node
      → first_failure caller (move_items (sites_along content) content (first ∷ more) s d) ≡ None
      → found content (first ∷ more) ≡ None
  place_free first more s d e at there passes =
      cc (
        split_last first more,
        found_snoc content (front (first ∷ more)) (last_name (first ∷ more)),
        there,
        (place_passed first more s d e at passes).0,
      )

  -- a way that passes leads to an object, where there is a root
  leads_from : (site : Site) (names : List (List ℕ)) (more : List Item)
      → first_failure caller (way false (sites_from content site names) names ++ more) ≡ None
      → site_at (sites_from content site names) names ≡ None → ⊥
  leads_from site [] more passes none = none-some site (sym none)
  leads_from site (name ∷ names) more passes none =
      on (child_of content site.node.id name) passes none
      (λ child. leads_from (site_below site child) names more)
    where
      below : Option Node → List Site
      below o = option_map_or (λ child. sites_from content (site_below site child) names) o []

      on : (o : Option Node)
          → first_failure caller (way false (site ∷ below o) (name ∷ names) ++ more) ≡ None
          → site_at (site ∷ below o) (name ∷ names) ≡ None
          → ((child : Node)
          → first_failure caller
          (way false (sites_from content (site_below site child) names) names ++ more) ≡ None
          → site_at (sites_from content (site_below site child) names) names ≡ None → ⊥) → ⊥
      on o passes none rest = grind (arith, nat_tests, not_refused, passed)

  pub way_leads : (p : List (List ℕ)) (n : Node) → found content p ≡ Some n
      → (path : List (List ℕ)) (more : List Item)
      → first_failure caller (way false (sites_along content path) path ++ more) ≡ None
      → site_at (sites_along content path) path ≡ None → ⊥
  way_leads p n there path more passes none =
      grind (arith, nat_tests, along_from, leads_from, sites_from)
