-- Requests that were judged by the stored lists.
use Rattle.std.proofs.Common.{◌≡◌, ℕ, Bool, true, false, List, [], ◌∷◌, Option, Some, None, refl}
use Rattle.std.proofs.{Common.{sym, subst, arith}, lemmas.Bool.Decides.nat_tests}
use Rattle.std.specs.Prelude.{if◌then◌else◌}
use Rattle.room_entry.specs.declared.parties.Caller.{Caller}
use Rattle.room_eval.specs.declared.outcome.Verdict.{Verdict, TheVariants.Granted}
use Rattle.room_eval.specs.declared.outcome.Verdict.TheVariants.{Denied as DeniedWith}
use Rattle.room_eval.specs.declared.deletion.DeleteVerdict.{DeleteVerdict}
use Rattle.room_rows.specs.{Content.Content, Keep.with_content, Rows.Rows}
use Rattle.room_machine.specs.declared.reply.{Reply.{Reply, TheVariants.Refused}, Reason.Reason}
use Rattle.room_machine.specs.declared.{reply.Reason.TheVariants.NotEmpty, request.Request.Request}
use Rattle.room_machine.specs.{declared.request.Request.TheVariants.Remove, Site.{Site, site_at}}
use Rattle.room_machine.specs.{Plan.Item, Judge.{failure, first_failure, of_deletion, of_verdict}}
use Rattle.room_machine.specs.{Judge.{or_else, records_of_plan}, Stored.{stored_along, stored_plan}}
use Rattle.room_machine.specs.{Changed.IsChanged, Closed.{IsShown, only_reads, failure_told}}
use Rattle.room_judge.specs.{declared.asker.Asker.Asker, Judged.{IsJudged, with_notes}}
use Rattle.room_judge.specs.Closed.{IsClosed}

-- a reply that is told as a failure
abbrev IsTold : Option Reply → Type 0
IsTold None = Unit {0}
IsTold (Some reply) = failure_told reply ≡ Some reply

verdict_told : (site : Site) (v : Verdict) → IsTold (of_verdict site v)
verdict_told site Granted = tt
verdict_told site (DeniedWith bits place) = refl

deletion_told : (target parent : Site) (v : DeleteVerdict) → IsTold (of_deletion target parent v)
deletion_told target parent v = grind (arith, nat_tests)

refusal_told : (path : List (List ℕ)) (why : Reason) (holds : Bool)
    → IsTold (if holds then Some (Refused path why) else None)
refusal_told path why true = refl
refusal_told path why false = tt

item_told : (caller : Caller) (item : Item) → IsTold (failure caller item)
item_told caller item = grind (arith, nat_tests, deletion_told, refusal_told, verdict_told)

either_told : (a b : Option Reply) → IsTold a → IsTold b → IsTold (or_else a b)
either_told None b first second = second
either_told (Some reply) b first second = first

first_told : (caller : Caller) (items : List Item) → IsTold (first_failure caller items)
first_told caller [] = tt
first_told caller (item ∷ items) = search (either_told, item_told, first_told caller items)

-- what an item answers is a denial or a refusal
pub is_told : (caller : Caller) (items : List Item) (reply : Reply)
    → Some reply ≡ first_failure caller items → failure_told reply ≡ Some reply
is_told caller items reply is = subst IsTold (sym is) (first_told caller items)

module _ (asker : Asker) (request : Request) (old : Rows) (reply : Reply) where
  -- an item fails
  pub closed_failed : (new : Rows)
      → IsJudged asker (stored_plan old.read request) old (Some reply) new
      → IsClosed asker request old reply new
  closed_failed new judged = grind (arith, nat_tests, is_told)

  -- none fails, and a removal is refused for a row that can't be read
  pub closed_more : (new : Rows) (path : List (List ℕ)) (target : Site)
      → IsJudged asker (stored_plan old.read request) old None new → request ≡ Remove path
      → site_at (stored_along old.read path) path ≡ Some target → reply ≡ Refused path NotEmpty
      → (old.unreadable ≡ [] → ⊥) → IsClosed asker request old reply new
  closed_more new path target judged asked found refused unread = grind (arith, nat_tests)

  -- none fails, and nothing but records is changed
  pub closed_asked : (new : Rows) → IsJudged asker (stored_plan old.read request) old None new
      → failure_told reply ≡ None → IsShown old asker.caller request reply
      → IsChanged old asker.caller request old.read → IsClosed asker request old reply new
  closed_asked new judged none shown still = grind (arith, nat_tests)

  -- none fails, and the content becomes this one, with the records of the plan
  pub closed_done : (mid new : Rows)
      → IsJudged asker (stored_plan old.read request) old None mid → only_reads request ≡ false
      → failure_told reply ≡ None → (next : Content) → next.audits ≡ old.read.audits
      → new ≡ with_notes (with_content old next)
      (records_of_plan asker.caller asker.moment (stored_plan old.read request))
      → IsShown old asker.caller request reply → IsChanged old asker.caller request next
      → IsClosed asker request old reply new
  closed_done mid new judged writes none next same becomes shown changes = grind (arith, nat_tests)
