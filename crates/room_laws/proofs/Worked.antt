-- Worked examples that use the laws over runs: two rooms of four objects that differ behind a
-- folder, in which alice works meanwhile. Eve, who is barred, gets the same replies, and bob keeps
-- his rights.
use Rattle.std.proofs.Common.{ℕ, ℤ, ◌≡◌, ◌⊎◌, inl, inr, List, [], ◌∷◌, ◌++◌, Some, None, refl, sym}
use Rattle.std.proofs.{Common.{ap, ◌∙◌, subst, true, false, codes, arith}, lemmas.Bool.false≢true}
use Rattle.std.{proofs.lemmas.Bool.Decides.nat_tests, specs.{List.AllByRecursion, Prelude.pos}}
use Rattle.room_entry.specs.{Ace.Ace, declared.entry.EntryKind.TheVariants.Allow}
use Rattle.room_entry.specs.declared.entry.Who.TheVariants.{User}
use Rattle.room_entry.specs.{declared.object.ObjKind.TheVariants.{Document, Folder}, Bits.has}
use Rattle.room_entry.specs.{Bits.all_bits, Rights.{write_acl, write_owner}}
use Rattle.room_rows.specs.{Content.{Content, IsContent}, declared.node.Node.Node}
use Rattle.room_machine.specs.{Run.{Event, Asked, Run}, Step.{Step, step}}
use Rattle.room_machine.specs.declared.reply.Reply.{Reply, TheVariants.Denied}
use Rattle.room_machine.specs.declared.request.Request.{Request, TheVariants.Read}
use Rattle.room_machine.specs.declared.request.Request.TheVariants.{List as ListFolder, Put, Remove}
use Rattle.room_machine.{specs.Rights.{rights_at, may_remove_at}, proofs.Worked.Worlds.{none, fd}}
use Rattle.room_machine.proofs.Worked.Worlds.{entry, alice, everything, held, object, root_folder}
use Rattle.room_machine.proofs.Worked.Worlds.{everyone_passes}
use Rattle.room_laws.specs.Laws.{AllBehind, IsTold, TellsNames, front_after, front_done, full_lists}
use Rattle.room_laws.specs.Twins.{front_at_end, AreAlike, InBoth, InFirst, InSecond, Turn}
use Rattle.room_laws.specs.{Twins.{first_events, second_events}, Outside.{Barred, IsBehind}}
use Rattle.room_laws.specs.{Outside.SameOutside, Tidy.IsNumbered, WhoChanged.{Alters, FirstGranted}}
use Rattle.room_laws.{specs.WhoChanged.{IsHarmless, SameRights}, proofs.Behind.same_back}
use Rattle.room_laws.proofs.{Behind.{same_itself, same_on, unseen_behind}, Orphans.content_is_tidy}
use Rattle.room_laws.proofs.{Quiet.stays_behind, SameReplies.bar_same, Gained.nothing_gained}
use Rattle.room_laws.proofs.{Gained.one_of, RightsChanged.rights_changed_in_run, Unseen.unseen}
use Rattle.room_laws.proofs.{Told.{nothing_else_tells, same_full_lists}, OnePlace.head_same}
use Rattle.room_laws.proofs.OnePlace.{tail_same, not_empty}

abbrev pub eve : List ℕ
eve = codes "eve"

abbrev pub bob : List ℕ
bob = codes "bob"

abbrev pub plans : List (List ℕ)
plans = codes "plans" ∷ []

abbrev pub offer : List (List ℕ)
offer = codes "plans" ∷ codes "offer" ∷ []

abbrev pub draft : List (List ℕ)
draft = codes "plans" ∷ codes "draft" ∷ []

abbrev pub memo : List (List ℕ)
memo = codes "memo" ∷ []

abbrev alice_may_all : Ace
alice_may_all = entry Allow fd (User alice) everything

-- the root, which everybody may pass and alice may change
abbrev top : Node
top = record root_folder { dacl = held true false (everyone_passes ∷ alice_may_all ∷ []) [] }

-- eve may list it and remove it, and not pass it
abbrev folder : Node
folder =
    object 2 1 (codes "plans") Folder
    (held true false (entry Allow none (User eve) (0x1 ∷ 0x10000 ∷ []) ∷ alice_may_all ∷ []) [])

-- bob may read it
abbrev document : Node
document =
    object 4 1 (codes "memo") Document
    (held true false (entry Allow none (User bob) (0x1 ∷ []) ∷ []) [])

abbrev bare : Content
bare =
    record {
      nodes = top ∷ folder ∷ document ∷ [];
      bodies = (4, codes "for bob") ∷ [];
      members = [];
      audits = [];
    }

-- alice has put a document behind the folder: in one room an offer, in the other a draft
abbrev pub one : Content
one = (step bare (Some alice) (pos 0) (Put offer (codes "secret")) 3).1

abbrev pub other : Content
other = (step bare (Some alice) (pos 0) (Put draft (codes "nothing")) 3).1

bare_numbered : IsNumbered bare
bare_numbered = refl

pub same_outside : SameOutside plans one other
same_outside =
    let first = stays_behind plans bare (Asked (Some alice) (pos 0) (Put offer (codes "secret")) _)
    one bare_numbered (inl ((codes "offer", [], refl), (codes "offer", [], refl)))
    (3, (omega arith, refl), refl) in
    let second =
    stays_behind plans bare (Asked (Some alice) (pos 0) (Put draft (codes "nothing")) _) other
    bare_numbered (inl ((codes "draft", [], refl), (codes "draft", [], refl)))
    (3, (omega arith, refl), refl) in
    same_on plans one bare other (same_back plans bare one first.0) second.0

pub one_numbered : IsNumbered one
one_numbered = refl

other_numbered : IsNumbered other
other_numbered = refl

one_is_content : IsContent one
one_is_content =
    record {
      numbers = refl;
      one_root = refl;
      parents = refl;
      connected = refl;
      names = refl;
      bodies = refl;
      kept = refl;
      members = refl;
    }

other_is_content : IsContent other
other_is_content =
    record {
      numbers = refl;
      one_root = refl;
      parents = refl;
      connected = refl;
      names = refl;
      bodies = refl;
      kept = refl;
      members = refl;
    }

pub is_behind : IsBehind plans offer
is_behind = (codes "offer", [], refl)

-- whatever happened behind, eve is barred there
pub still_barred : (room : Content) → SameOutside plans one room → Barred room (Some eve) plans
still_barred room same = (
  Denied plans (0x20 ∷ []) None None,
  sym (bar_same plans one room same (Some eve)),
)

-- the front stays where it is by all but a move
pub front_stays : (front : List (List ℕ)) (request : Request) (reply : Reply)
    → front_done front request ≡ front → front_after front request reply ≡ front
front_stays front request reply same = grind (arith, nat_tests)

pub unless_listed : (front : List (List ℕ)) (request : Request) (first second : Reply)
    → (request ≡ ListFolder front → ⊥) → (first ≡ second) ⊎ TellsNames front request first second
    → first ≡ second
unless_listed front request first second isnt given = grind (arith, nat_tests)

-- ---- what is asked

-- In both rooms eve asks for the offer. Then alice reads the offer in the first room and changes
-- it, and lists the folder in the second. Then eve tries in both to put a draft.
module _ (t u v w y z : ℤ) (r s l a b p q : Reply) where
  abbrev reads : Event
  reads = Asked (Some alice) t (Read offer) r

  abbrev changes : Event
  changes = Asked (Some alice) t (Put offer (codes "changed")) s

  abbrev lists : Event
  lists = Asked (Some alice) y (ListFolder plans) l

  abbrev rest : List Turn
  rest =
      InFirst reads ∷ InFirst changes ∷ InSecond lists
      ∷ InBoth (Some eve) w z (Put draft (codes "mine")) p q ∷ []

  abbrev pub turns : List Turn
  turns = InBoth (Some eve) u v (Read offer) a b ∷ rest

  pub alike : (after : Content) (run : Run one (first_events turns) after)
      → AreAlike plans turns one after run
  alike after (m1, h1, (m2, h2, (m3, h3, (m4, h4, is)))) =
      let s1 = stays_behind plans one (Asked (Some eve) u (Read offer) a) m1 one_numbered
      (inr (inl refl)) h1 in
      let s2 = stays_behind plans m1 reads m2 s1.1 (inl (is_behind, is_behind)) h2 in
      let s3 = stays_behind plans m2 changes m3 s2.1 (inl (is_behind, is_behind)) h3 in
      let same = same_on plans one m2 m3 (same_on plans one m1 m2 s1.0 s2.0) s3.0 in
      let later = subst (λ (f : List (List ℕ)). AreAlike f rest m1 after
      (m2, h2, (m3, h3, (m4, h4, is)))) (sym (front_stays plans (Read offer) a refl)) (
        inl (is_behind, is_behind),
        (
          inl (is_behind, is_behind),
          (
            inr (inl refl),
            (((λ no. absurd (let wrong : ⊥ = cc in wrong)), (λ reaches. still_barred m3 same)), tt),
          ),
        ),
      ) in (
        (
          (λ no. absurd (let wrong : ⊥ = cc in wrong)),
          (λ reaches. still_barred one (same_itself plans one)),
        ),
        later,
      )

  pub front_at_the_end : front_at_end plans turns ≡ plans
  front_at_the_end =
      ap (λ (f : List (List ℕ)). front_after f (Put draft (codes "mine")) p)
      (front_stays plans (Read offer) a refl)
      ∙ front_stays plans (Put draft (codes "mine")) p refl

  module _ (c d : Content) (run : Run one (first_events turns) c)
      (beside : Run other (second_events turns) d) where
    eve_gets_the_same : (a ≡ b) × (p ≡ q)
    eve_gets_the_same =
        let answers = (unseen plans turns one other c d same_outside
        (content_is_tidy one one_is_content) (content_is_tidy other other_is_content)
        one_numbered other_numbered run beside (alike c run)).0 in (
          unless_listed plans (Read offer) a b (λ is. let wrong : ⊥ = cc in wrong) answers.0,
          unless_listed (front_after plans (Read offer) a) (Put draft (codes "mine")) p q
              (λ is. let wrong : ⊥ = cc in wrong) answers.1.0,
        )

    the_rooms_stay_alike : SameOutside plans c d
    the_rooms_stay_alike =
        subst (λ (f : List (List ℕ)). SameOutside f c d) front_at_the_end
        (unseen plans turns one other c d same_outside
        (content_is_tidy one one_is_content) (content_is_tidy other other_is_content)
        one_numbered other_numbered run beside (alike c run)).1

-- ---- whose rights stay

-- the owner of the root puts a draft behind the folder, and has every right at the memo
pub uploads_alter_nothing : (moment : ℤ) (bytes : List ℕ) (reply : Reply) (mid : Content)
    → Alters memo one mid (Asked (Some alice) moment (Put draft bytes) reply) → ⊥
uploads_alter_nothing moment bytes reply mid (inl changes) = changes
uploads_alter_nothing moment bytes reply mid (inr (none, makes)) = none refl

pub no_upload_alters : (moment : ℤ) (bytes : List ℕ) (reply : Reply)
    → FirstGranted memo one (Asked (Some alice) moment (Put draft bytes) reply ∷ []) → ⊥
no_upload_alters moment bytes reply (earlier, later, event, mid, is, to, stood, alters) =
    one_of (λ e. (room : Content) → Alters memo one room e → ⊥) earlier later event
    (subst (AllByRecursion (λ e. (room : Content) → Alters memo one room e → ⊥)) is
    (uploads_alter_nothing moment bytes reply, tt)) mid alters

bob_keeps_his_rights : (moment : ℤ) (bytes : List ℕ) (reply : Reply) (after : Content)
    → Run one (Asked (Some alice) moment (Put draft bytes) reply ∷ []) after
    → SameRights memo one after
bob_keeps_his_rights moment bytes reply after run =
    on (rights_changed_in_run memo one (Asked (Some alice) moment (Put draft bytes) reply ∷ [])
    after one_numbered (content_is_tidy one one_is_content) run)
  where
    on : SameRights memo one after
        ⊎ FirstGranted memo one (Asked (Some alice) moment (Put draft bytes) reply ∷ [])
        → SameRights memo one after
    on (inl same) = same
    on (inr first) = absurd (no_upload_alters moment bytes reply first)

-- ---- eve may change nothing at the memo or above it, so that she can't come to

parts : (at rest : List (List ℕ)) → memo ≡ at ++ rest → (at ≡ []) ⊎ (at ≡ memo)
parts [] rest is = inl refl
parts (x ∷ []) rest is = grind (arith, head_same, is)
parts (x ∷ y ∷ at) rest is = grind (arith, not_empty, tail_same, is)

abbrev MayNothing : List (List ℕ) → Type 0
MayNothing at =
    (has (rights_at one (Some eve) at) write_acl ≡ true → ⊥)
    × (has (rights_at one (Some eve) at) write_owner ≡ true → ⊥)
    × (may_remove_at one (Some eve) at ≡ true → ⊥)

at_root : MayNothing []
unfolding all_bits
at_root = (λ is. false≢true is, λ is. false≢true is, λ is. false≢true is)

at_memo : MayNothing memo
unfolding all_bits
at_memo = (λ is. false≢true is, λ is. false≢true is, λ is. false≢true is)

pub eve_is_harmless : (moment : ℤ) (request : Request) (reply : Reply)
    → IsHarmless memo one (Asked (Some eve) moment request reply)
eve_is_harmless moment request reply at (rest, is) = on (parts at rest is)
  where
    on : (at ≡ []) ⊎ (at ≡ memo) → MayNothing at
    on (inl here) = subst MayNothing (sym here) at_root
    on (inr here) = subst MayNothing (sym here) at_memo

eve_gains_nothing : (moment : ℤ) (request : Request) (reply : Reply) (after : Content)
    → Run one (Asked (Some eve) moment request reply ∷ []) after → SameRights memo one after
eve_gains_nothing moment request reply after run =
    (nothing_gained memo one (Asked (Some eve) moment request reply ∷ []) after one_numbered
    (content_is_tidy one one_is_content) refl run (eve_is_harmless moment request reply, tt)).1

-- ---- the laws of one step

the_same_lists_outside : full_lists one memo ≡ full_lists other memo
the_same_lists_outside =
    same_full_lists plans one other same_outside memo
    (λ (name, names, is). absurd (let wrong : ⊥ = cc in wrong))

eve_is_told_nothing_else : (moment : ℤ) (request : Request) (first second : Reply)
    (after later : Content) → (request ≡ ListFolder plans → ⊥) → (request ≡ Remove plans → ⊥)
    → Step one (Some eve) moment request first after
    → Step other (Some eve) moment request second later → first ≡ second
eve_is_told_nothing_else moment request first second after later no_list no_remove s t =
    neither plans request first second no_list no_remove
    (nothing_else_tells plans one other (Some eve) moment moment request first second after later
    same_outside one_numbered other_numbered (λ reaches. still_barred one (same_itself plans one)) s
    t)
  where
    neither : (front : List (List ℕ)) (asked : Request) (x y : Reply)
        → (asked ≡ ListFolder front → ⊥) → (asked ≡ Remove front → ⊥)
        → (x ≡ y) ⊎ IsTold front asked x y → x ≡ y
    neither front asked x y isnt other_one (inl same) = same
    neither front asked x y isnt other_one (inr (inl names)) = absurd (isnt names.0)
    neither front asked x y isnt other_one (inr (inr empty)) = absurd (other_one empty.0)

bare_bars_eve : Barred bare (Some eve) plans
bare_bars_eve = (Denied plans (0x20 ∷ []) None None, refl)

what_happened_behind_is_unseen : (events others : List Event) (a b : Content)
    → AllBehind plans events → AllBehind plans others → Run bare events a → Run bare others b
    → (moment : ℤ) (first second : Reply) (after later : Content)
    → Step a (Some eve) moment (Read offer) first after
    → Step b (Some eve) moment (Read offer) second later → first ≡ second
what_happened_behind_is_unseen events others a b behind beside run runs moment first second after
    later s t =
    unseen_behind plans bare a b events others (Some eve) moment moment (Read offer) first second
    after later bare_numbered behind beside run runs (λ reaches. bare_bars_eve)
    (λ is. let wrong : ⊥ = cc in wrong) (λ is. let wrong : ⊥ = cc in wrong) s t
