-- Items and replies at objects that are alike.
use Rattle.std.proofs.Common.{ℕ, ◌≡◌, Bool, not, List, [], ◌∷◌, ◌++◌, Option, sym, ap, ◌∙◌, map}
use Rattle.std.proofs.{Common.arith, lemmas.Bool.Decides.nat_tests}
use Rattle.room_entry.specs.{Rights.execute, declared.parties.Caller.Caller}
use Rattle.room_eval.specs.declared.{deletion.DeleteVerdict.DeleteVerdict, outcome.Verdict.Verdict}
use Rattle.room_rows.specs.Content.{Content, is_empty, is_folder}
use Rattle.room_machine.specs.{Effect.with_site, Judge.{entry_at, failure, first_failure}}
use Rattle.room_machine.specs.{Judge.{of_verdict, of_deletion, or_else}, Plan.{Item, Check}}
use Rattle.room_machine.specs.{Plan.{Deletion, Refusal, way, where_found}, Site.Site}
use Rattle.room_machine.specs.declared.reply.{Reason.{Reason, TheVariants.NotFolder}, Reply.Reply}
use Rattle.room_laws.proofs.{OnePlace.{head_same, not_empty, tail_same}, Seen.{Both, IsLike, blank}}

pub path_like : (s t : Site) → IsLike s t → s.path ≡ t.path
path_like s t same = ap (λ (x : Site). x.path) same

entry_blank : (s : Site) (place : Option ℕ) → entry_at s place ≡ entry_at (blank s) place
entry_blank s place = grind (arith, nat_tests)

verdict_blank : (s : Site) (v : Verdict) → of_verdict s v ≡ of_verdict (blank s) v
verdict_blank s v = grind (arith, nat_tests, entry_blank)

deletion_blank : (s p : Site) (v : DeleteVerdict)
    → of_deletion s p v ≡ of_deletion (blank s) (blank p) v
deletion_blank s p v = grind (arith, nat_tests, entry_blank)

module _ (caller : Caller) where
  abbrev pub fails : List Item → Option Reply
  fails = first_failure caller

  pub next : {p q x y : Option Reply} → p ≡ q → x ≡ y → or_else p x ≡ or_else q y
  next {p} {q} {x} {y} one rest = ap (λ o. or_else o x) one ∙ ap (λ o. or_else q o) rest

  pub refused : (p q : List (List ℕ)) (why : Reason) (h k : Bool) → p ≡ q → h ≡ k
      → failure caller (Refusal p why h) ≡ failure caller (Refusal q why k)
  refused p q why h k paths same = grind (arith, nat_tests)

  pub check_like : (s t : Site) (bits : List ℕ) → IsLike s t
      → failure caller (Check s bits) ≡ failure caller (Check t bits)
  check_like s t bits same = grind (arith, nat_tests, verdict_blank)

  pub deletion_like : (s t p q : Site) → IsLike s t → IsLike p q
      → failure caller (Deletion s p) ≡ failure caller (Deletion t q)
  deletion_like s t p q same above = grind (arith, nat_tests, blank, deletion_blank)

  pub folder_like : (s t : Site) → IsLike s t
      → failure caller (Refusal s.path NotFolder (not (is_folder s.node)))
      ≡ failure caller (Refusal t.path NotFolder (not (is_folder t.node)))
  folder_like s t same = grind (arith, nat_tests, path_like, refused)

  pub empty_like : (s t : List Site) → map blank s ≡ map blank t → is_empty s ≡ is_empty t
  empty_like s t same = grind (arith, nat_tests, not_empty)

  pub ways_like : (lack : Bool) (s t : List Site) (names : List (List ℕ)) (x y : List Item)
      → map blank s ≡ map blank t → fails x ≡ fails y
      → fails (way lack s names ++ x) ≡ fails (way lack t names ++ y)
  ways_like lack [] [] names x y same rest = rest
  ways_like lack [] (t ∷ ts) names x y same rest = absurd (not_empty _ _ same)
  ways_like lack (s ∷ ss) [] names x y same rest = absurd (not_empty _ _ (sym same))
  ways_like lack (s ∷ ss) (t ∷ ts) [] x y same rest = rest
  ways_like lack (s ∷ ss) (t ∷ ts) (name ∷ names) x y same rest =
      let here : IsLike s t = head_same _ _ _ _ same in
      let later : map blank ss ≡ map blank ts = tail_same _ _ _ _ same in
      next (folder_like s t here)
      (next (check_like s t (execute ∷ []) here)
      (next
      (grind (arith, nat_tests, empty_like, path_like, refused))
      (ways_like lack ss ts names x y later rest)))

  pub found_like : (R : Site → Site → Type 0) (o p : Option Site) (f g : Site → List Item)
      → Both R o p → ((s t : Site) → R s t → fails (f s) ≡ fails (g t))
      → fails (where_found o f) ≡ fails (where_found p g)
  found_like R o p f g both each = grind (arith, nat_tests)

-- the same reply at objects that are alike
pub reply_like : (a b : Content) (R : Site → Site → Type 0) (o p : Option Site)
    (f g : Site → Reply × Content) → Both R o p
    → ((s t : Site) → R s t → (f s).0 ≡ (g t).0)
    → (with_site a o f).0 ≡ (with_site b p g).0
reply_like a b R o p f g both each = grind (arith, nat_tests)
