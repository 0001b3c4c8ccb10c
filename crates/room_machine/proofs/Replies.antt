-- What a reply depends on.
use Rattle.std.proofs.Common.{ℕ, ◌≡◌, List, Option, Some, None, ℤ, refl, sym, ap, ◌∙◌, IsTrue}
use Rattle.std.proofs.{Common.arith, lemmas.Bool.{false≢true, Decides.nat_tests}}
use Rattle.std.specs.{Prelude.IfSome, Option.option_map_or}
use Rattle.room_entry.specs.declared.parties.Caller.{Caller}
use Rattle.room_rows.specs.{Content.{Content, groups_for}, Walk.walk_of}
use Rattle.room_machine.specs.declared.request.Request.{Request, TheVariants.Read}
use Rattle.room_machine.specs.declared.request.Request.TheVariants.{List as ListFolder, Put, Append}
use Rattle.room_machine.specs.declared.request.Request.TheVariants.{MakeFolder, Remove, Move}
use Rattle.room_machine.specs.declared.request.Request.TheVariants.{ReadList, SetList, ReadAttr}
use Rattle.room_machine.specs.declared.request.Request.TheVariants.{SetOwners, Can}
use Rattle.room_machine.specs.{declared.reply.Reply.{Reply, TheVariants.Done}, Site.Site}
use Rattle.room_machine.specs.{Site.{sites_of, sites_along, site_at}, Plan.{Item, to_target}}
use Rattle.room_machine.specs.{Plan.plan_of, Judge.first_failure, Effect.{effect, with_site}}
use Rattle.room_machine.specs.{Step.{Step, caller_in, failure_or}, Closed.only_reads}
use Rattle.room_machine.specs.Laws.{first_path, same_target, ReadsOnly}

-- ---- the reply of a step

abbrev pub or_reply : Option Reply → Reply → Reply
or_reply None reply = reply
or_reply (Some failed) reply = failed

answered_reply : (failed : Option Reply) (content : Content) (done : Reply × Content)
    → (failure_or failed content done).0 ≡ or_reply failed done.0
answered_reply None content done = refl
answered_reply (Some reply) content done = refl

pub reply_of : (content : Content) (user : Option (List ℕ)) (moment : ℤ) (request : Request)
    (reply : Reply) (after : Content) → (s : Step content user moment request reply after)
    → reply ≡ or_reply (first_failure (caller_in content user) (plan_of content request))
    (effect content (caller_in content user) s.0 request).0
reply_of content user moment request reply after s = grind (arith, nat_tests, answered_reply)

pub same_caller : (a b : Content) (user : Option (List ℕ)) → groups_for a user ≡ groups_for b user
    → caller_in a user ≡ caller_in b user
same_caller a b user same =
    ap (λ (groups : List (List ℕ)). record { user = user; groups = groups }) same

-- ---- on reading

same_sites : (a b : Content) (path : List (List ℕ)) → walk_of a path ≡ walk_of b path
    → sites_along a path ≡ sites_along b path
same_sites a b path same = ap (λ walk. sites_of walk.chain) same

-- the replies at an object that may be there
same_at : (a b : Content) (f g : Site → Reply × Content) (found : Option Site)
    → IfSome found (λ site. (f site).0 ≡ (g site).0)
    → (option_map_or f found (Done, a)).0 ≡ (option_map_or g found (Done, b)).0
same_at a b f g None same = refl
same_at a b f g (Some site) same = same

if_some : (P Q : Site → Type 0) (found : Option Site) → ((site : Site) → P site → Q site)
    → IfSome found P → IfSome found Q
if_some P Q None next holds = tt
if_some P Q (Some site) next holds = next site holds

any_some : (Q : Site → Type 0) (found : Option Site) → ((site : Site) → Q site) → IfSome found Q
any_some Q None each = tt
any_some Q (Some site) each = each site

module _ (a b : Content) (user : Option (List ℕ))
    (groups : groups_for a user ≡ groups_for b user) where
  abbrev first_caller : Caller
  first_caller = caller_in a user

  abbrev second_caller : Caller
  second_caller = caller_in b user

  -- a plan and a reply that depend on the objects along the path alone
  read_same : (path : List (List ℕ)) (items : Site → List Item) (f g : Site → Reply × Content)
      → walk_of a path ≡ walk_of b path
      → IfSome (site_at (sites_along a path) path) (λ site. (f site).0 ≡ (g site).0)
      → or_reply (first_failure first_caller (to_target a path items))
      (with_site a (site_at (sites_along a path) path) f).0
      ≡ or_reply (first_failure second_caller (to_target b path items))
      (with_site b (site_at (sites_along b path) path) g).0
  read_same path items f g walk same = grind (arith, nat_tests, same_at, same_caller, same_sites)

  read_replies : (i j : ℕ) (request : Request) → IsTrue (only_reads request)
      → walk_of a (first_path request) ≡ walk_of b (first_path request)
      → same_target a b (first_path request) →
      or_reply (first_failure first_caller (plan_of a request)) (effect a first_caller i request).0
      ≡ or_reply (first_failure second_caller (plan_of b request))
      (effect b second_caller j request).0
  read_replies i j (Read path) reads walk target = grind (arith, nat_tests, if_some, read_same)
  read_replies i j (ListFolder path) reads walk target =
      grind (arith, nat_tests, if_some, read_same)
  read_replies i j (ReadList path which) reads walk target =
      grind (arith, nat_tests, any_some, read_same)
  read_replies i j (ReadAttr path) reads walk target = grind (arith, nat_tests, any_some, read_same)
  read_replies i j (Can path mask) reads walk target =
      grind (arith, nat_tests, any_some, read_same, same_caller)
  read_replies i j (Put path bytes) reads walk target = absurd (false≢true reads)
  read_replies i j (Append path bytes) reads walk target = absurd (false≢true reads)
  read_replies i j (MakeFolder path) reads walk target = absurd (false≢true reads)
  read_replies i j (Remove path) reads walk target = absurd (false≢true reads)
  read_replies i j (Move path to) reads walk target = absurd (false≢true reads)
  read_replies i j (SetList path which sent) reads walk target = absurd (false≢true reads)
  read_replies i j (SetOwners path owners) reads walk target = absurd (false≢true reads)

pub reads_only : ReadsOnly
reads_only a b user moment request first second after later reads walk groups target one two =
    reply_of a user moment request first after one
    ∙ read_replies a b user groups one.0 two.0 request reads walk target
    ∙ sym (reply_of b user moment request second later two)
