-- A request of one caller leaves two rooms the same outside.
use Rattle.std.proofs.Common.{rules, [], List, ◌∷◌, Bool, cond, ℕ, ℤ, ◌≡◌, ◌⊎◌, inl, inr, false}
use Rattle.std.proofs.Common.{Option, Some, None, refl, sym, ap, ◌∙◌, arith}
use Rattle.std.proofs.lemmas.{Bool.{false≢true, Decides.nat_tests}, Option.none-some}
use Rattle.std.specs.Option.{option_map}
use Rattle.room_entry.specs.declared.parties.Caller.{Caller}
use Rattle.room_eval.specs.declared.{deletion.DeleteVerdict.DeleteVerdict, outcome.Verdict.Verdict}
use Rattle.room_rows.specs.Content.{Content, with_records, is_empty}
use Rattle.room_rows.specs.declared.node.AuditRow.{AuditRow}
use Rattle.room_machine.specs.{Effect.effect, Judge.{of_verdict, of_deletion, failure}}
use Rattle.room_machine.specs.{Judge.{first_failure, records_of_plan}, Laws.first_path, Plan.Item}
use Rattle.room_machine.specs.{Plan.{plan_of, move_items}, Run.Asked, Site.{Site, sites_along}}
use Rattle.room_machine.specs.{Site.parent_at, Step.{Step, caller_in, failure_or}}
use Rattle.room_machine.specs.declared.reply.{Reason.Reason, Reply.{Reply, TheVariants.Refused}}
use Rattle.room_machine.specs.declared.{reply.Reply.TheVariants.Done, request.Request.Request}
use Rattle.room_machine.specs.declared.request.Request.TheVariants.{Remove, Move}
use Rattle.room_machine.proofs.Replies.{or_reply, reply_of}
use Rattle.room_laws.specs.{Laws.{front_done, front_after, is_done, StaysAlike}, Outside.sight}
use Rattle.room_laws.specs.Outside.{view, IsBehind, SameOutside, Barred, Reaches, last_path}
use Rattle.room_laws.specs.{Outside.way_behind, Tidy.{IsTidy, IsNumbered}}
use Rattle.room_laws.proofs.{Barring.{bar_move, plan_barred}, Changed.nodes_found}
use Rattle.room_laws.proofs.Effects.{as_before, both_found, effects_alike}
use Rattle.room_laws.proofs.{NamesSeen.names_from_views, OnePlace.behind_or_not}
use Rattle.room_laws.proofs.{OtherFronts.{SeenAlike, unmoved_alike}, PairsStay.either_members}
use Rattle.room_laws.proofs.{PairsStay.members_stay, Passing.{none_at, move_passed}}
use Rattle.room_laws.proofs.PlansAlike.{IsSeen, caller_same, plan_same, target_seen}
use Rattle.room_laws.proofs.{SameReplies.{bar_same, plan_in}, TidySteps.tidy_stays}

-- records aren't seen
records_unseen : (c : Content) (rows : List AuditRow) (q : List (List ℕ))
    → view (with_records c rows) q ≡ view c q
records_unseen c rows q = ap (option_map (sight c)) (nodes_found c (with_records c rows) refl q)

-- ---- a failure isn't told as done

verdict_undone : (s : Site) (v : Verdict) (r : Reply) → of_verdict s v ≡ Some r
    → is_done r ≡ false
verdict_undone s v r is = grind (arith, nat_tests)

deletion_undone : (s p : Site) (v : DeleteVerdict) (r : Reply) → of_deletion s p v ≡ Some r
    → is_done r ≡ false
deletion_undone s p v r is = grind (arith, nat_tests)

refusal_undone : (path : List (List ℕ)) (why : Reason) (holds : Bool) (r : Reply)
    → cond holds (Some (Refused path why)) None ≡ Some r → is_done r ≡ false
refusal_undone path why holds r is = grind (arith, nat_tests)

item_undone : (caller : Caller) (i : Item) (r : Reply) → failure caller i ≡ Some r
    → is_done r ≡ false
item_undone caller i r is =
    grind (arith, nat_tests, deletion_undone, refusal_undone, verdict_undone)

failure_undone : (caller : Caller) (items : List Item) (r : Reply)
    → first_failure caller items ≡ Some r → is_done r ≡ false
failure_undone caller [] r is = absurd (none-some r is)
failure_undone caller (i ∷ items) r is =
    grind (arith, nat_tests, item_undone, failure_undone caller items r)

either_way : (t : Bool) (f : List (List ℕ)) → cond t f f ≡ f
either_way t f = grind (arith, nat_tests)

-- where a request is done, the front is where that leaves it
done_front : (f : List (List ℕ)) (content : Content) (caller : Caller) (id : ℕ) (q : Request)
    (reply : Reply) → reply ≡ (effect content caller id q).0 → front_after f q reply
    ≡ front_done f q
done_front f content caller id q reply is = grind (arith, nat_tests, either_way)

removal_done : (f : List (List ℕ)) (content : Content) (caller : Caller) (id : ℕ) (q : Request)
    → q ≡ Remove f → (effect content caller id q).0 ≡ Done
removal_done f content caller id q is = grind (arith, nat_tests)

-- ---- one step

module _ (f : List (List ℕ)) (a b : Content) (user : Option (List ℕ)) (moment later : ℤ)
    (request : Request) (first second : Reply) (after other : Content) (same : SameOutside f a b)
    (content_a : IsTidy a) (content_b : IsTidy b) (one : IsNumbered a) (two : IsNumbered b)
    (removes : request ≡ Remove f → first ≡ second)
    (barred : Reaches f request → Barred a user f)
    (s : Step a user moment request first after) (t : Step b user later request second other) where
  abbrev caller : Caller
  caller = caller_in a user

  abbrev plan_a : Option Reply
  plan_a = first_failure caller (plan_of a request)

  abbrev plan_b : Option Reply
  plan_b = first_failure caller (plan_of b request)

  first_is : first ≡ or_reply plan_a (effect a caller s.0 request).0
  first_is = reply_of a user moment request first after s

  second_is : second ≡ or_reply plan_b (effect b caller t.0 request).0
  second_is = grind (arith, nat_tests, caller_same, or_reply, reply_of)

  bar_there : (r : Reply) → first_failure caller (way_behind a f) ≡ Some r
      → first_failure caller (way_behind b f) ≡ Some r
  bar_there r bar = grind (arith, nat_tests, bar_same, caller_same)

  -- a move to what is behind that doesn't fail has no object
  in_alike : (r : Reply) → first_failure caller (way_behind a f) ≡ Some r → (q : Request)
      → (IsBehind f (first_path q) → ⊥) → IsBehind f (last_path q)
      → first_failure caller (plan_of a q) ≡ None
      → SeenAlike (front_done f q) (effect a caller s.0 q).1 (effect b caller t.0 q).1
  in_alike r bar (Move path to) outside is passes =
      both_found f a b same content_a content_b one two (front_done f (Move path to))
      (IsSeen f a b same path) _ _ _ _ (target_seen f a b same path outside)
      (search (none_at, unmoved_alike))
      (λ x y at_x at_y seen. absurd (impossible x (move_passed caller a path to x at_x passes)))
    where
      impossible : (x : Site) → (is_empty path ≡ false) × ((d : Site)
          × (parent_at (sites_along a path) path ≡ Some d)
          × (first_failure caller (move_items (sites_along a) a to x d) ≡ None)) → ⊥
      impossible x (full, (d, at_d, none)) =
          none-some r (sym none ∙ bar_move caller a r f bar to is x d)
  in_alike r bar _ outside is passes = absurd (outside is)

  -- where one plan passes and the other fails, the front isn't removed
  not_removed : (r : Reply) → ((plan_a ≡ None) × (plan_b ≡ Some r))
      ⊎ ((plan_a ≡ Some r) × (plan_b ≡ None)) → request ≡ Remove f → ⊥
  not_removed r (inl (none, some)) is =
      false≢true (
      cc (
        failure_undone caller (plan_of b request) r some,
        some,
        second_is,
        removes is,
        first_is,
        none,
        removal_done f a caller s.0 request is,
      ))
  not_removed r (inr (some, none)) is =
      false≢true (
      cc (
        failure_undone caller (plan_of a request) r some,
        some,
        first_is,
        removes is,
        second_is,
        none,
        removal_done f b caller t.0 request is,
      ))

  abbrev next_front : List (List ℕ)
  next_front = front_after f request first

  by : ((request ≡ Remove f → ⊥) → plan_a ≡ plan_b)
      → (plan_a ≡ None → plan_b ≡ None → SeenAlike (front_done f request)
      (effect a caller s.0 request).1 (effect b caller t.0 request).1)
      → (o p : Option Reply) → plan_a ≡ o → plan_b ≡ p → SeenAlike next_front
      (failure_or o a (effect a caller s.0 request)).1
      (failure_or p b (effect b caller t.0 request)).1
  by equal done None None at_a at_b = grind (arith, nat_tests, done_front, first_is, or_reply)
  by equal done None (Some q) at_a at_b =
      absurd (none-some q (sym at_a ∙ equal (not_removed q (inl (at_a, at_b))) ∙ at_b))
  by equal done (Some r) None at_a at_b =
      absurd (none-some r (sym at_b ∙ sym (equal (not_removed r (inr (at_a, at_b)))) ∙ at_a))
  by equal done (Some r) (Some q) at_a at_b =
      grind (arith, nat_tests, as_before, failure_undone, first_is, or_reply)

  alike : SeenAlike next_front (failure_or plan_a a (effect a caller s.0 request)).1
      (failure_or plan_b b (effect b caller t.0 request)).1
  alike = on (behind_or_not f (first_path request)) (behind_or_not f (last_path request))
    where
      on : IsBehind f (first_path request) ⊎ (IsBehind f (first_path request) → ⊥)
          → IsBehind f (last_path request) ⊎ (IsBehind f (last_path request) → ⊥)
          → SeenAlike next_front (failure_or plan_a a (effect a caller s.0 request)).1
          (failure_or plan_b b (effect b caller t.0 request)).1
      on (inl is) last =
          let bar = barred (inl is) in
          let at_a = plan_barred caller a bar.0 f bar.1 request is in
          let at_b = plan_barred caller b bar.0 f (bar_there bar.0 bar.1) request is in
          grind (arith, nat_tests, by)
      on (inr outside) (inl is) =
          let bar = barred (inr is) in
          search (bar_there, by, in_alike, plan_in)
      on (inr outside) (inr last) = search (by, effects_alike, plan_same)

  after_is : after ≡ with_records (failure_or plan_a a (effect a caller s.0 request)).1
      (records_of_plan caller moment (plan_of a request))
  after_is = sym (ap (λ (d : Reply × Content). d.1) s.2)

  other_is : other ≡ with_records
      (failure_or plan_b b (effect b caller t.0 request)).1
      (records_of_plan (caller_in b user) later (plan_of b request))
  other_is = grind (arith, nat_tests, caller_same)

  views_stay : (q : List (List ℕ)) → (IsBehind next_front q → ⊥) → view after q ≡ view other q
  views_stay q outside = grind (arith, nat_tests, after_is, alike, other_is, records_unseen)

  pub outside_stays : IsTidy after → IsTidy other
      → SameOutside (front_after f request first) after other
  outside_stays content_after content_other = record {
    members = grind (arith, nat_tests, after_is, either_members, members_stay, other_is);
    views = views_stay;
    names = search (rules, names_from_views, content_after.names, content_other.names, views_stay);
  }

pub stays_alike : StaysAlike
stays_alike f a b user moment later request first second after other same content_a content_b one
    two removes barred s t =
    outside_stays f a b user moment later request first second after other same content_a content_b
    one two removes barred s t
    (tidy_stays a (Asked user moment request first) after one content_a s)
    (tidy_stays b (Asked user later request second) other two content_b t)
