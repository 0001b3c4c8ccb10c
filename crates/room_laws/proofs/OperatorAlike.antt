-- What the operator does in two rooms leaves them the same outside.
use Rattle.std.proofs.Common.{rules, ℕ, ◌≡◌, Bool, List, [], ◌∷◌, ◌++◌, Option, Some, None, refl}
use Rattle.std.proofs.{Common.{sym, ap, map, filter, arith}, lemmas.Option.none-some}
use Rattle.std.{proofs.lemmas.Bool.Decides.nat_tests, specs.Option.option_map}
use Rattle.room_entry.specs.{Rights.write_acl, Valid.first_bad_entry, declared.object.Which.Which}
use Rattle.room_entry.specs.declared.parties.Caller.{Caller}
use Rattle.room_ace.specs.Sent.{Sent}
use Rattle.room_rows.specs.Content.{Content, with_members}
use Rattle.room_machine.specs.{Effect.effect, Judge.first_failure, Plan.{plan_of, Item, Check, way}}
use Rattle.room_machine.specs.{Plan.{where_found, bad_list}, Site.Site, Step.{Reset, failure_or}}
use Rattle.room_machine.specs.{Step.is_refusal, declared.reply.Reply.Reply}
use Rattle.room_machine.specs.declared.request.Request.TheVariants.{List as ListFolder, SetList}
use Rattle.room_laws.specs.{Outside.{sight, view, IsBehind, SameOutside}, Tidy.{IsTidy, IsNumbered}}
use Rattle.room_laws.proofs.{Changed.nodes_found, Effects.{SameViews, as_before, both_act}}
use Rattle.room_laws.proofs.{Effects.list_alike, LikeItems.{empty_like, folder_like, next}}
use Rattle.room_laws.proofs.{LikeItems.{path_like, refused}, NamesSeen.names_from_views}
use Rattle.room_laws.proofs.{OnePlace.{head_same, not_empty, tail_same}, PairsStay.either_members}
use Rattle.room_laws.proofs.{PairsStay.members_stay, PlansAlike.{IsSeen, parent_same, sites_same}}
use Rattle.room_laws.proofs.{PlansAlike.target_seen, SameReplies.done_same, Seen.{Both, IsLike}}
use Rattle.room_laws.proofs.Seen.{blank}

-- pairs that are replaced in both
pub replaced_alike : (f : List (List ℕ)) (a b c d : Content) (pairs : List (List ℕ × List ℕ))
    → SameOutside f a b → c ≡ with_members a pairs → d ≡ with_members b pairs → IsTidy c
    → IsTidy d → SameOutside f c d
replaced_alike f a b c d pairs same is_c is_d content_c content_d = search (rules, is_c, is_d)
  where
    seen : (x : Content) (q : List (List ℕ)) → view (with_members x pairs) q ≡ view x q
    seen x q = ap (option_map (sight x)) (nodes_found x (with_members x pairs) refl q)

    views : (q : List (List ℕ)) → (IsBehind f q → ⊥) → view c q ≡ view d q
    views q outside = grind (arith, nat_tests, seen)

-- ---- a list that the operator sets in both

module _ (f : List (List ℕ)) (a b : Content) (same : SameOutside f a b)
    (content_a : IsTidy a) (content_b : IsTidy b) (one : IsNumbered a) (two : IsNumbered b)
    (path : List (List ℕ)) (which : Which) (sent : Sent) (outside : IsBehind f path → ⊥) where
  abbrev nobody : Caller
  nobody = record { user = None; groups = [] }

  abbrev refusals : List Item → Option Reply
  refusals items = first_failure nobody (filter is_refusal items)

  refusals_like : (lack : Bool) (s t : List Site) (names : List (List ℕ)) (x y : List Item)
      → map blank s ≡ map blank t → refusals x ≡ refusals y
      → refusals (way lack s names ++ x) ≡ refusals (way lack t names ++ y)
  refusals_like lack [] [] names x y like rest = rest
  refusals_like lack [] (t ∷ ts) names x y like rest = absurd (not_empty _ _ like)
  refusals_like lack (s ∷ ss) [] names x y like rest = absurd (not_empty _ _ (sym like))
  refusals_like lack (s ∷ ss) (t ∷ ts) [] x y like rest = rest
  refusals_like lack (s ∷ ss) (t ∷ ts) (name ∷ names) x y like rest =
      let here : IsLike s t = head_same _ _ _ _ like in
      let later : map blank ss ≡ map blank ts = tail_same _ _ _ _ like in
      next nobody (folder_like nobody s t here)
      (next nobody
      (grind (arith, nat_tests, empty_like, path_like, refused))
      (refusals_like lack ss ts names x y later rest))

  abbrev items : Site → List Item
  items target = Check target (write_acl ∷ [])
      ∷ bad_list path (first_bad_entry 1 which target.node.kind sent.entries)

  items_like : (o p : Option Site) → Both (IsSeen f a b same path) o p
      → refusals (where_found o items) ≡ refusals (where_found p items)
  items_like o p both = grind (arith, nat_tests)

  abbrev refused_a : Option Reply
  refused_a = refusals (plan_of a (SetList path which sent))

  abbrev refused_b : Option Reply
  refused_b = refusals (plan_of b (SetList path which sent))

  refusals_same : refused_a ≡ refused_b
  refusals_same = search (items_like, refusals_like, sites_same, target_seen)

  reset_views : SameViews f a b same content_a content_b one two
      (failure_or refused_a a (effect a nobody 0 (SetList path which sent))).1
      (failure_or refused_b b (effect b nobody 0 (SetList path which sent))).1
  reset_views = on refused_a refused_b refusals_same
    where
      on : (o p : Option Reply) → o ≡ p → SameViews f a b same content_a content_b one two
          (failure_or o a (effect a nobody 0 (SetList path which sent))).1
          (failure_or p b (effect b nobody 0 (SetList path which sent))).1
      on None None is =
          both_act f a b same content_a content_b one two (IsSeen f a b same path) _ _ _ _
          (target_seen f a b same path outside)
          (search (list_alike, parent_same, sites_same))
      on None (Some q) is = absurd (none-some q is)
      on (Some r) None is = absurd (none-some r (sym is))
      on (Some r) (Some q) is = as_before f a b same content_a content_b one two

  module _ (first second : Reply) (after other : Content) (s : Reset a path which sent first after)
      (t : Reset b path which sent second other) where
    pub reset_replies : first ≡ second
    reset_replies =
        grind (
          arith,
          nat_tests,
          s,
          on refused_a refused_b refusals_same
              (done_same f a b same nobody 0 0 (SetList path which sent) outside no_list),
          t,
        )
      where
        no_list : SetList path which sent ≡ ListFolder f → ⊥
        no_list is = let wrong : ⊥ = cc in wrong

        on : (o p : Option Reply) → o ≡ p
            → (effect a nobody 0 (SetList path which sent)).0
            ≡ (effect b nobody 0 (SetList path which sent)).0
            → (failure_or o a (effect a nobody 0 (SetList path which sent))).0
            ≡ (failure_or p b (effect b nobody 0 (SetList path which sent))).0
        on o p is done = grind (arith, nat_tests)

    views_after : (q : List (List ℕ)) → (IsBehind f q → ⊥) → view after q ≡ view other q
    views_after q apart = grind (arith, nat_tests, reset_views)

    pub reset_stays : IsTidy after → IsTidy other → SameOutside f after other
    reset_stays content_after content_other = record {
      members =
          grind (
            arith,
            nat_tests,
            s,
            (either_members a refused_a (effect a nobody 0 (SetList path which sent))
                (members_stay a nobody 0 (SetList path which sent))).members,
            same.members,
            (either_members b refused_b (effect b nobody 0 (SetList path which sent))
                (members_stay b nobody 0 (SetList path which sent))).members,
            t,
          );
      views = views_after;
      names = names_from_views f after other content_after.names content_other.names views_after;
    }
