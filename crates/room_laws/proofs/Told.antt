-- Which replies tell what is behind a folder.
use Rattle.std.proofs.Common.{ℕ, ℤ, ◌≡◌, ◌⊎◌, inl, inr, Bool, true, false, not, List, [], ◌∷◌, ◌++◌}
use Rattle.std.proofs.Common.{Option, Some, None, refl, sym, subst, ◌∙◌, append_assoc, arith}
use Rattle.std.{proofs.lemmas.{Option.none-some, Bool.Decides.nat_tests}, specs.Option.option_map}
use Rattle.room_entry.specs.{Ace.Ace, declared.object.Which.TheVariants.{Dacl, Sacl}}
use Rattle.room_entry.specs.declared.parties.Caller.{Caller}
use Rattle.room_rows.specs.Content.{Content, children_of, is_empty}
use Rattle.room_machine.specs.{Effect.{effect, names_at, with_site}, Judge.first_failure, Plan.Item}
use Rattle.room_machine.specs.Plan.{Deletion, Refusal, plan_of, way, where_found, target_by}
use Rattle.room_machine.specs.{Site.{Site, site_at, parent_at, sites_along, full_at}, Step.Step}
use Rattle.room_machine.specs.{Step.caller_in, declared.reply.Reason.TheVariants.{NotEmpty, Root}}
use Rattle.room_machine.specs.declared.reply.Reply.{Reply, TheVariants.{Names, Done, Refused}}
use Rattle.room_machine.specs.declared.request.Request.{Request, TheVariants.Read}
use Rattle.room_machine.specs.declared.request.Request.TheVariants.{List as ListFolder, Put, Append}
use Rattle.room_machine.specs.declared.request.Request.TheVariants.{MakeFolder, Remove, Move}
use Rattle.room_machine.specs.declared.request.Request.TheVariants.{ReadList, SetList, ReadAttr}
use Rattle.room_machine.specs.declared.request.Request.TheVariants.{SetOwners, Can}
use Rattle.room_machine.proofs.Replies.{or_reply, reply_of}
use Rattle.room_laws.specs.{Laws.{IsTold, NothingElseTells, SameFullLists}, Outside.SameOutside}
use Rattle.room_laws.specs.{Outside.{Reaches, Barred}, Tidy.IsNumbered}
use Rattle.room_laws.proofs.LikeItems.{deletion_like, found_like, next, ways_like}
use Rattle.room_laws.proofs.{OnePlace.not_itself, Passing.at_or_not, PlansAlike.IsSeen}
use Rattle.room_laws.proofs.PlansAlike.{caller_same, parent_same, plan_same, sites_same}
use Rattle.room_laws.proofs.{PlansAlike.target_seen, SameReplies.same_replies, Seen.{Both, IsLike}}
use Rattle.room_laws.proofs.Seen.{blank, like_at}

module _ (f : List (List ℕ)) (a b : Content) (user : Option (List ℕ)) (moment later : ℤ)
    (first second : Reply) (after other : Content) (same : SameOutside f a b)
    (one : IsNumbered a) (two : IsNumbered b) where
  abbrev caller : Caller
  caller = caller_in a user

  abbrev fails : List Item → Option Reply
  fails = first_failure caller

  -- the reply in the second room, by the caller of the first
  second_reply : (request : Request) → (t : Step b user later request second other)
      → second ≡ or_reply (fails (plan_of b request)) (effect b caller t.0 request).0
  second_reply request t = grind (arith, nat_tests, caller_same, or_reply, reply_of)

  -- ---- a listing of the front

  listing_told : (s : Step a user moment (ListFolder f) first after)
      → (t : Step b user later (ListFolder f) second other)
      → (first ≡ second) ⊎ IsTold f (ListFolder f) first second
  listing_told s t =
      on (fails (plan_of a (ListFolder f))) (fails (plan_of b (ListFolder f)))
      (plan_same f a b same caller one two (ListFolder f) (not_itself f) (not_itself f) no_remove)
      (site_at (sites_along a f) f) (site_at (sites_along b f) f)
      (target_seen f a b same f (not_itself f))
      (reply_of a user moment (ListFolder f) first after s) (second_reply (ListFolder f) t)
    where
      no_remove : ListFolder f ≡ Remove f → ⊥
      no_remove is = let wrong : ⊥ = cc in wrong

      on : (o p : Option Reply) → o ≡ p → (x y : Option Site) → Both (IsSeen f a b same f) x y
          → first ≡ or_reply o (with_site a x (λ target. (Names (names_at a target.node.id), a))).0
          → second ≡ or_reply p (with_site b y (λ target. (Names (names_at b target.node.id), b))).0
          → (first ≡ second) ⊎ IsTold f (ListFolder f) first second
      on o p equal x y both is_first is_second = grind (arith, nat_tests)

  -- ---- a removal of the front

  -- what comes before the test for children
  abbrev before : Content → List Item
  before content = target_by (sites_along content) f (λ target.
      Refusal f Root (is_empty f)
      ∷ where_found (parent_at (sites_along content f) f) (λ folder. Deletion target folder ∷ []))

  before_same : fails (before a) ≡ fails (before b)
  before_same =
      ways_like caller false (sites_along a f) (sites_along b f) f _ _
      (sites_same f a b same f (not_itself f))
      (found_like caller (IsSeen f a b same f) _ _ _ _ (target_seen f a b same f (not_itself f))
      (λ s t seen.
      next caller refl
      (found_like caller IsLike _ _ _ _
      (parent_same f a b same f f (sites_same f a b same f (not_itself f)))
      (λ p q above. next caller (deletion_like caller s t p q seen.like above) refl))))

  -- one more refusal at the end
  one_more : (items : List Item) (path : List (List ℕ)) (holds : Bool)
      → (fails (items ++ Refusal path NotEmpty holds ∷ []) ≡ fails items)
      ⊎ ((fails items ≡ None)
      × (fails (items ++ Refusal path NotEmpty holds ∷ []) ≡ Some (Refused path NotEmpty)))
  one_more [] path true = inr (refl, refl)
  one_more [] path false = inl refl
  one_more (i ∷ items) path holds = grind (arith, nat_tests, one_more items path holds)

  with_test : (content : Content)
      → (fails (plan_of content (Remove f)) ≡ fails (before content))
      ⊎ ((fails (before content) ≡ None)
      × (fails (plan_of content (Remove f)) ≡ Some (Refused f NotEmpty)))
  with_test content =
      on (site_at (sites_along content f) f) (parent_at (sites_along content f) f)
    where
      on : (x y : Option Site)
          → (fails (way false (sites_along content f) f ++ where_found x (λ target.
          Refusal f Root (is_empty f) ∷ where_found y (λ folder. Deletion target folder
          ∷ Refusal f NotEmpty (not (is_empty (children_of content target.node.id))) ∷ [])))
          ≡ fails (way false (sites_along content f) f ++ where_found x (λ target.
          Refusal f Root (is_empty f) ∷ where_found y (λ folder. Deletion target folder ∷ []))))
          ⊎ ((fails (way false (sites_along content f) f ++ where_found x (λ target.
          Refusal f Root (is_empty f) ∷ where_found y (λ folder. Deletion target folder ∷ [])))
          ≡ None)
          × (fails (way false (sites_along content f) f ++ where_found x (λ target.
          Refusal f Root (is_empty f) ∷ where_found y (λ folder. Deletion target folder
          ∷ Refusal f NotEmpty (not (is_empty (children_of content target.node.id))) ∷ [])))
          ≡ Some (Refused f NotEmpty)))
      on None y = inl refl
      on (Some x) None = inl refl
      on (Some x) (Some y) =
          subst (λ (l : List Item).
          (fails l ≡ fails (way false (sites_along content f) f
          ++ Refusal f Root (is_empty f) ∷ Deletion x y ∷ []))
          ⊎ ((fails (way false (sites_along content f) f
          ++ Refusal f Root (is_empty f) ∷ Deletion x y ∷ []) ≡ None)
          × (fails l ≡ Some (Refused f NotEmpty))))
          (append_assoc (way false (sites_along content f) f)
          (Refusal f Root (is_empty f) ∷ Deletion x y ∷ [])
          (Refusal f NotEmpty (not (is_empty (children_of content x.node.id))) ∷ []))
          (search (one_more))

  always : (content : Content) (i : ℕ) → (effect content caller i (Remove f)).0 ≡ Done
  always content i = grind (arith, nat_tests)

  -- a reply to a removal, by what comes before the test
  reply_by : (content : Content) (reply : Reply) (i : ℕ)
      → reply ≡ or_reply (fails (plan_of content (Remove f))) (effect content caller i (Remove f)).0
      → ((r : Reply) × (fails (before content) ≡ Some r) × (reply ≡ r))
      ⊎ ((fails (before content) ≡ None) × ((reply ≡ Done) ⊎ (reply ≡ Refused f NotEmpty)))
  reply_by content reply i is = on (fails (before content)) refl (with_test content)
    where
      on : (o : Option Reply) → fails (before content) ≡ o
          → (fails (plan_of content (Remove f)) ≡ fails (before content))
          ⊎ ((fails (before content) ≡ None)
          × (fails (plan_of content (Remove f)) ≡ Some (Refused f NotEmpty)))
          → ((r : Reply) × (fails (before content) ≡ Some r) × (reply ≡ r))
          ⊎ ((fails (before content) ≡ None) × ((reply ≡ Done) ⊎ (reply ≡ Refused f NotEmpty)))
      on (Some r) at (inl equal) = grind (arith, nat_tests, or_reply)
      on (Some r) at (inr (none, some)) = absurd (none-some r (sym none ∙ at))
      on None at (inl equal) =
          inr (
            at,
            inl (cc (is, equal, at, always content i)),
          )
      on None at (inr (none, some)) = grind (arith, nat_tests, or_reply)

  removal_told : (s : Step a user moment (Remove f) first after)
      → (t : Step b user later (Remove f) second other)
      → (first ≡ second) ⊎ IsTold f (Remove f) first second
  removal_told s t =
      on (reply_by a first s.0 (reply_of a user moment (Remove f) first after s))
      (reply_by b second t.0 (second_reply (Remove f) t))
    where
      on : ((r : Reply) × (fails (before a) ≡ Some r) × (first ≡ r))
          ⊎ ((fails (before a) ≡ None) × ((first ≡ Done) ⊎ (first ≡ Refused f NotEmpty)))
          → ((q : Reply) × (fails (before b) ≡ Some q) × (second ≡ q))
          ⊎ ((fails (before b) ≡ None) × ((second ≡ Done) ⊎ (second ≡ Refused f NotEmpty)))
          → (first ≡ second) ⊎ IsTold f (Remove f) first second
      on given other = grind (arith, nat_tests, before_same)

pub nothing_else_tells : NothingElseTells
nothing_else_tells f a b user moment later request first second after other same one two barred s
    t =
    on request barred s t
  where
    on : (request : Request) → (Reaches f request → Barred a user f)
        → Step a user moment request first after → Step b user later request second other
        → (first ≡ second) ⊎ IsTold f request first second
    on (ListFolder path) barred s t = by (at_or_not f path)
      where
        by : (path ≡ f) ⊎ (path ≡ f → ⊥) → (first ≡ second)
            ⊎ IsTold f (ListFolder path) first second
        by (inl is) =
            subst (λ (p : List (List ℕ)). Step a user moment (ListFolder p) first after
            → Step b user later (ListFolder p) second other
            → (first ≡ second) ⊎ IsTold f (ListFolder p) first second) (sym is)
            (listing_told f a b user moment later first second after other same one two) s t
        by (inr isnt) =
            inl (same_replies f a b user moment later
            (ListFolder path) first second after other same
            one two barred (λ e. isnt (list_path path f e))
            (λ e. let wrong : ⊥ = cc in wrong) s t)
          where
            list_path : (p q : List (List ℕ)) → ListFolder p ≡ ListFolder q → p ≡ q
            list_path p q e = cc
    on (Remove path) barred s t = by (at_or_not f path)
      where
        by : (path ≡ f) ⊎ (path ≡ f → ⊥) → (first ≡ second) ⊎ IsTold f (Remove path) first second
        by (inl is) =
            subst (λ (p : List (List ℕ)). Step a user moment (Remove p) first after
            → Step b user later (Remove p) second other
            → (first ≡ second) ⊎ IsTold f (Remove p) first second) (sym is)
            (removal_told f a b user moment later first second after other same one two) s t
        by (inr isnt) =
            inl (same_replies f a b user moment later (Remove path) first second after other same
            one two barred (λ e. let wrong : ⊥ = cc in wrong)
            (λ e. isnt (remove_path path f e)) s t)
          where
            remove_path : (p q : List (List ℕ)) → Remove p ≡ Remove q → p ≡ q
            remove_path p q e = cc
    on (Read path) barred s t =
        inl (same_replies f a b user moment later (Read path) first second after other same one two
        barred (λ e. let wrong : ⊥ = cc in wrong) (λ e. let wrong : ⊥ = cc in wrong) s t)
    on (Put path bytes) barred s t =
        inl (same_replies f a b user moment later (Put path bytes) first second after other same one
        two barred (λ e. let wrong : ⊥ = cc in wrong) (λ e. let wrong : ⊥ = cc in wrong) s t)
    on (Append path bytes) barred s t =
        inl (same_replies f a b user moment later (Append path bytes) first second after other same
        one two barred (λ e. let wrong : ⊥ = cc in wrong) (λ e. let wrong : ⊥ = cc in wrong) s t)
    on (MakeFolder path) barred s t =
        inl (same_replies f a b user moment later
        (MakeFolder path) first second after other same one
        two barred (λ e. let wrong : ⊥ = cc in wrong) (λ e. let wrong : ⊥ = cc in wrong) s t)
    on (Move path to) barred s t =
        inl (same_replies f a b user moment later (Move path to) first second after other same one
        two barred (λ e. let wrong : ⊥ = cc in wrong) (λ e. let wrong : ⊥ = cc in wrong) s t)
    on (ReadList path which) barred s t =
        inl (same_replies f a b user moment later
        (ReadList path which) first second after other same
        one two barred (λ e. let wrong : ⊥ = cc in wrong) (λ e. let wrong : ⊥ = cc in wrong) s t)
    on (SetList path which sent) barred s t =
        inl (same_replies f a b user moment later (SetList path which sent) first second after other
        same one two barred (λ e. let wrong : ⊥ = cc in wrong)
        (λ e. let wrong : ⊥ = cc in wrong) s t)
    on (ReadAttr path) barred s t =
        inl (same_replies f a b user moment later (ReadAttr path) first second after other same one
        two barred (λ e. let wrong : ⊥ = cc in wrong) (λ e. let wrong : ⊥ = cc in wrong) s t)
    on (SetOwners path owners) barred s t =
        inl (same_replies f a b user moment later (SetOwners path owners) first second after other
        same one two barred (λ e. let wrong : ⊥ = cc in wrong)
        (λ e. let wrong : ⊥ = cc in wrong) s t)
    on (Can path mask) barred s t =
        inl (same_replies f a b user moment later (Can path mask) first second after other same one
        two barred (λ e. let wrong : ⊥ = cc in wrong) (λ e. let wrong : ⊥ = cc in wrong) s t)

-- ---- full lists

pub same_full_lists : SameFullLists
same_full_lists f a b same path outside = search (blank, like_at, on, sites_same)
  where
    lists : Site → List Ace × List Ace
    lists site = (full_at Dacl site, full_at Sacl site)

    on : (o p : Option Site) → option_map blank o ≡ option_map blank p
        → option_map lists o ≡ option_map lists p
    on o p same = grind (arith, nat_tests)
