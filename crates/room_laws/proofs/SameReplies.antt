-- Replies that don't show what is behind a folder.
use Rattle.std.proofs.Common.{ℕ, ℤ, ◌≡◌, ◌⊎◌, inl, inr, true, List, [], ◌∷◌, ◌++◌, Option, Some}
use Rattle.std.proofs.Common.{refl, sym, ap, ◌∙◌, append-nil, arith}
use Rattle.std.proofs.lemmas.Bool.Decides.{nat_tests}
use Rattle.room_entry.specs.declared.{object.Which.Which, parties.Caller.Caller}
use Rattle.room_rows.specs.{Content.Content, Held.held_of}
use Rattle.room_machine.specs.{Effect.{effect, rulings, put_bytes}, Judge.first_failure}
use Rattle.room_machine.specs.{Laws.first_path, Plan.plan_of, Site.{Site, full_at}, Step.Step}
use Rattle.room_machine.specs.{Step.caller_in, declared.reply.Reply.{Reply, TheVariants.Lists}}
use Rattle.room_machine.specs.declared.{reply.Reply.TheVariants.Rulings, request.Request.Request}
use Rattle.room_machine.specs.declared.request.Request.TheVariants.{Read, List as ListFolder, Put}
use Rattle.room_machine.specs.declared.request.Request.TheVariants.{Append, MakeFolder, Remove}
use Rattle.room_machine.specs.declared.request.Request.TheVariants.{Move, ReadList, SetList}
use Rattle.room_machine.specs.declared.request.Request.TheVariants.{ReadAttr, SetOwners, Can}
use Rattle.room_machine.proofs.Replies.{reply_of}
use Rattle.room_laws.specs.{Laws.SameReplies, Outside.{IsBehind, SameOutside, way_behind, Barred}}
use Rattle.room_laws.specs.{Outside.{last_path, Reaches}, Tidy.IsNumbered}
use Rattle.room_laws.proofs.{Barring.{bar_move, plan_barred}, LikeItems.{found_like, next}}
use Rattle.room_laws.proofs.{LikeItems.{reply_like, ways_like}, OnePlace.behind_or_not}
use Rattle.room_laws.proofs.{OnePlace.not_itself, PlansAlike.{IsSeen, caller_same, parent_same}}
use Rattle.room_laws.proofs.PlansAlike.{plan_same, sites_same, target_same, target_seen}
use Rattle.room_laws.proofs.Seen.{Both, IsLike}

module _ (f : List (List ℕ)) (a b : Content) (same : SameOutside f a b) where
  module _ (caller : Caller) where
    -- the reply where a plan passes
    pub done_same : (i j : ℕ) (request : Request) → (IsBehind f (first_path request) → ⊥)
        → (request ≡ ListFolder f → ⊥)
        → (effect a caller i request).0 ≡ (effect b caller j request).0
    done_same i j (Read path) outside no_list =
        reply_like a b (IsSeen f a b same path) _ _ _ _ (target_seen f a b same path outside)
        (grind (arith, nat_tests))
    done_same i j (ListFolder path) outside no_list =
        reply_like a b (IsSeen f a b same path) _ _ _ _ (target_seen f a b same path outside)
        (grind (arith, nat_tests))
    done_same i j (Put path bytes) outside no_list =
        search (on, parent_same, sites_same, target_seen)
      where
        on : (o p q r : Option Site) → Both (IsSeen f a b same path) o p → Both IsLike q r
            → (put_bytes a caller i path bytes o q).0 ≡ (put_bytes b caller j path bytes p r).0
        on o p q r both above = grind (arith, nat_tests, reply_like)
    done_same i j (Append path bytes) outside no_list =
        grind (arith, nat_tests, reply_like, target_seen)
    done_same i j (MakeFolder path) outside no_list =
        reply_like a b IsLike _ _ _ _
        (parent_same f a b same path path (sites_same f a b same path outside))
        (λ s t like. refl)
    done_same i j (Remove path) outside no_list = grind (arith, nat_tests, reply_like, target_seen)
    done_same i j (Move path to) outside no_list = grind (arith, nat_tests, reply_like, target_seen)
    done_same i j (ReadList path which) outside no_list =
        reply_like a b (IsSeen f a b same path) _ _ _ _ (target_seen f a b same path outside)
        (grind (arith, nat_tests, on))
      where
        on : (w : Which) (s t : Site) → IsLike s t → Lists (held_of w s.node).flags (full_at w s)
            ≡ Lists (held_of w t.node).flags (full_at w t)
        on w s t like = grind (arith, nat_tests)
    done_same i j (SetList path which sent) outside no_list =
        reply_like a b (IsSeen f a b same path) _ _ _ _ (target_seen f a b same path outside)
        (λ s t seen. refl)
    done_same i j (ReadAttr path) outside no_list =
        reply_like a b (IsSeen f a b same path) _ _ _ _ (target_seen f a b same path outside)
        (grind (arith, nat_tests))
    done_same i j (SetOwners path owners) outside no_list =
        grind (arith, nat_tests, reply_like, target_seen)
    done_same i j (Can path mask) outside no_list =
        reply_like a b (IsSeen f a b same path) _ _ _ _ (target_seen f a b same path outside)
        (λ s t seen.
        ap (λ (x : Site). Rulings (rulings caller mask x)) seen.like)

  -- who is barred in the one is barred in the other, by the same reply
  pub bar_same : (user : Option (List ℕ))
      → first_failure (caller_in a user) (way_behind a f)
      ≡ first_failure (caller_in b user) (way_behind b f)
  bar_same user =
      cc (
        append-nil (way_behind a f),
        ways_like (caller_in a user) true _ _ (f ++ [] ∷ []) [] []
            (sites_same f a b same f (not_itself f)) refl,
        append-nil (way_behind b f),
        caller_same f a b same user,
      )

module _ (f : List (List ℕ)) (a b : Content) (same : SameOutside f a b) (caller : Caller)
    (reply : Reply) (first : first_failure caller (way_behind a f) ≡ Some reply)
    (second : first_failure caller (way_behind b f) ≡ Some reply) where
  -- a move from outside to what is behind
  pub plan_in : (request : Request) → (IsBehind f (first_path request) → ⊥)
      → IsBehind f (last_path request)
      → first_failure caller (plan_of a request) ≡ first_failure caller (plan_of b request)
  plan_in (Move path to) outside is =
      target_same f a b same caller path outside _ _ (λ s t seen.
      next caller refl
      (found_like caller IsLike _ _ _ _
      (parent_same f a b same path path (sites_same f a b same path outside))
      (λ p q above.
      bar_move caller a reply f first to is s p
      ∙ sym (bar_move caller b reply f second to is t q))))
  plan_in _ outside is = absurd (outside is)

module _ (f : List (List ℕ)) (a b : Content) (user : Option (List ℕ)) (moment later : ℤ)
    (request : Request) (first second : Reply) (after other : Content) (same : SameOutside f a b)
    (one : IsNumbered a) (two : IsNumbered b)
    (barred : Reaches f request → Barred a user f)
    (no_list : request ≡ ListFolder f → ⊥) (no_remove : request ≡ Remove f → ⊥)
    (s : Step a user moment request first after) (t : Step b user later request second other) where
  bar_second : (r : Reply) → first_failure (caller_in a user) (way_behind a f) ≡ Some r
      → first_failure (caller_in b user) (way_behind b f) ≡ Some r
  bar_second r bar = sym (bar_same f a b same user) ∙ bar

  bar_there : (r : Reply) → first_failure (caller_in a user) (way_behind a f) ≡ Some r
      → first_failure (caller_in a user) (way_behind b f) ≡ Some r
  bar_there r bar = grind (arith, nat_tests, bar_second, caller_same)

  pub as_planned : first_failure (caller_in a user) (plan_of a request)
      ≡ first_failure (caller_in a user) (plan_of b request)
      → (IsBehind f (first_path request) → ⊥) → first ≡ second
  as_planned plans outside =
      cc (
        reply_of a user moment request first after s,
        plans,
        done_same f a b same (caller_in a user) s.0 t.0 request outside no_list,
        caller_same f a b same user,
        reply_of b user later request second other t,
      )

  pub replies : first ≡ second
  replies = on (behind_or_not f (first_path request)) (behind_or_not f (last_path request))
    where
      on : IsBehind f (first_path request) ⊎ (IsBehind f (first_path request) → ⊥)
          → IsBehind f (last_path request) ⊎ (IsBehind f (last_path request) → ⊥)
          → first ≡ second
      on (inl is) last =
          let bar = barred (inl is) in
          cc (
            reply_of a user moment request first after s,
            plan_barred (caller_in a user) a bar.0 f bar.1 request is,
            plan_barred (caller_in b user) b bar.0 f (bar_second bar.0 bar.1) request is,
            reply_of b user later request second other t,
          )
      on (inr outside) (inl is) =
          let bar = barred (inr is) in
          search (as_planned, bar_there, plan_in)
      on (inr outside) (inr last) = search (as_planned, plan_same)

pub same_replies : SameReplies
same_replies f a b user moment later request first second after other same one two barred no_list
    no_remove s t = search (replies)
