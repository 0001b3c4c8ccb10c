-- What a crash leaves after some calls.
use Rattle.std.proofs.Common.{arith, rules, ◌≡◌, ◌⊎◌, List, [], ◌∷◌, Result, Ok, Err, Bool, Option}
use Rattle.std.proofs.Common.{None, Some, IfSome, IsTrue, inl, inr, refl, subst}
use Rattle.std.proofs.lemmas.Bool.{cases_Bool}
use Rattle.sqlite_rules.specs.Lists.{Has}
use Rattle.sqlite.specs.{Effect.Database, Held.Held, State.{State, HasCleanDisk}, Tree.Trees}
use Rattle.room_rows.specs.{Content.Content, Rows.Rows, Sound.AreSound}
use Rattle.room_machine.specs.{declared.reply.Reply.Reply, Run.{Asking, Event, RunsMeet, event_of}}
use Rattle.room_machine.specs.Run.{unanswered}
use Rattle.store_tables.specs.{Shown.IsRoom, Within.LeavesAsBefore}
use Rattle.room_store.specs.{Asks.Asks, Crash.{HoldsRoom, HoldsRoomAfter, IsOneMore, Lasts}}
use Rattle.room_store.specs.Crash.{LeavesAtMost, LeavesWhole, LosesNothing, Outlasts, OutlastsOn}
use Rattle.room_store.specs.{Crash.{Try, all_asked, all_happened, left_by}, Kept.{IsShut, IsSound}}
use Rattle.room_store.specs.{Kept.Keeps, Leads.Leads, Ran.{CommitsAnswer, Ran}}
use Rattle.room_store.{specs.Lasting.{nothing_tried, together}, proofs.Leading.{IsEvent, leading}}
use Rattle.room_store.proofs.{Shutting.{asked_keeps, asked_sound, not_shut}, Versions.same_version}
use Rattle.store_transaction.specs.declared.fault.StoreFault.{StoreFault}

-- what is seen over an open connection, where a crash leaves that and nothing else
pub seen_is_left : (s : State) → IsSound s → IsTrue s.is_open → Lasts s → (room : Content)
    → Keeps s room → (db : Trees) → s.may_leave db → HoldsRoom room db
seen_is_left s sound is_open lasts room keeps db left =
    grind (arith, sound, is_open, lasts, keeps, db, left)

pub nothing_lost : (old new : State) (events : List Event) → Leads old events new → Lasts new
    → LosesNothing old events new
nothing_lost old new events leads lasts now sound is_open room keeps db left =
    let it = leads.run now sound room keeps in
    (it.0, it.1, seen_is_left new (leads.sound now sound) is_open lasts it.0 it.2 db left)

-- ---- the one thing more that may be there

-- a connection that was shut stays so, and a crash leaves what it could leave before
as_before : (old new : State) (before : Option Asking) (room : Content) (db : Trees)
    → (IsShut old → IsShut new) → LeavesAtMost before old room → old.may_leave db
    → HoldsRoom room db
    ⊎ (IsShut new × (happens : Asking) × (before ≡ Some happens) × HoldsRoomAfter room db happens)
as_before old new before room db shut leaves left = search (rules, leaves, db, left, shut)

-- over a connection that was open, what is left is the room itself
only : (s : State) (before : Option Asking) (room : Content) (db : Trees) → IsTrue s.is_open
    → LeavesAtMost before s room → s.may_leave db → HoldsRoom room db
only s before room db is_open leaves left = grind (arith, leaves, db, left, not_shut, s, is_open)

-- what may be there after that
abbrev Left : State → List Asking → State → Option Asking → Content → Type 0
Left old asked new before room =
    (after : Option Asking) × IsOneMore old asked new before after × LeavesAtMost after new room

-- over a connection that was open
left_open : (old new : State) (asked : List Asking) (before after : Option Asking)
    (room : Content) → IsTrue old.is_open → (IsShut new → IfSome after (Has asked))
    → LeavesAtMost after new room → Left old asked new before room
left_open old new asked before after room is_open one leaves = (
  after,
  grind (arith, not_shut, old, is_open, one),
  leaves,
)

-- over one that was shut
left_shut : (old new : State) (asked : List Asking) (before : Option Asking) (room : Content)
    → IsShut old → (IsShut old → IsShut new) → LeavesAtMost before new room
    → Left old asked new before room
left_shut old new asked before room shut stays leaves = (
  before,
  grind (arith, stays, shut, not_shut, old),
  leaves,
)

-- ---- one call

still_shut : (old new : State) → (IsTrue new.is_open → IsTrue old.is_open) → IsShut old → IsShut new
still_shut old new was shut = grind (arith, new.is_open, not_shut, old, was, shut)

-- two databases with the same schema and the same trees are one
same_database : (a b : Database) → a.schema ≡ b.schema → a.trees ≡ b.trees → a ≡ b
same_database a b schema trees = grind (arith, a, schema, b.schema, trees, a.trees)

module _ (old new : State) {X : Type 0} (Blames : Rows → Type 0)
    (Becomes : Rows → X → Rows → Type 0) (asking : Asking) (reply : X → Reply)
    (becomes : (before after : Rows) (x : X) → Becomes before x after → AreSound before
    → IsEvent (asking (reply x)) before after) where
  -- what a commit leaves is one event more
  after_one : (room : Content) → IsSound old → Keeps old room → (db : Trees)
      → CommitsAnswer Becomes old db
      → HoldsRoomAfter room db asking
  after_one room sound keeps db (is_open, commits) =
      grind (arith, sound, is_open, commits, keeps, same_version)

  -- what an answer leaves
  after_answer : (x : X) → Ran old new (Ok x) Blames Becomes → HasCleanDisk new → IsSound old
      → (before : Option Asking) (room : Content) → LeavesAtMost before old room
      → IsSound new → (next : Content) → Keeps new next → Left old [] new before next
  after_answer x ran now sound before room leaves sound' next keeps =
      let is_open = ran.answers now in
      left_open old new [] before None next is_open.0 (λ _. tt) (λ db left.
      let good = sound is_open.0 in
      let good' = sound' is_open.1 in
      let is = (ran.lasts now).only db left in
      let room_at : (it : Database) → IsRoom it → db ≡ it.trees → IsRoom new.now =
      grind (arith, same_database, good'.0.schema, is) in
      let tables : IsRoom new.now =
      elim (ran.crash now db left) [
        | inl was ↦ grind (arith, only, room, is_open.0, leaves, was, room_at)
        | inr c ↦ (let it = c.1 good.0 in room_at it.1.0 it.1.1.room it.1.2)
      ] in grind (arith, tables, sound, good'.1, good'.2, keeps, is_open.1, is))

  -- what a fault leaves
  after_fault : (fault : StoreFault) → Ran {X = X} old new (Err fault) Blames Becomes
      → HasCleanDisk new → IsSound old → (before : Option Asking) (room : Content)
      → Keeps old room → LeavesAtMost before old room → Left old (asking ∷ []) new before room
  after_fault fault ran now sound before room keeps leaves =
      let stays = still_shut old new (ran.leaves.was_open now) in
      elim (cases_Bool old.is_open) [
        | inl was_open ↦
            left_open old new (asking ∷ []) before (Some asking) room was_open (λ _. inl refl)
            (λ db left. elim (cases_Bool new.is_open) [
              | inl is ↦ inl (only old before room db was_open leaves (ran.spared is now db left))
              | inr is ↦ (elim (ran.crash now db left) [
                | inl was ↦ inl (only old before room db was_open leaves was)
                | inr c ↦ inr (is, asking, refl, after_one room sound keeps db c)
              ])
            ])
        | inr shut ↦
            left_shut old new (asking ∷ []) before room shut stays
            (search (rules, ran.crash, now, as_before, room, stays, leaves, not_shut, shut))
      ]

  pub outlasting : (result : Result X StoreFault) → Ran old new result Blames Becomes
      → Outlasts old (unanswered result asking) (event_of result (λ x. asking (reply x))) new
  outlasting (Ok x) ran = record {
    leads = leading old new Blames Becomes (λ x. asking (reply x)) becomes (Ok x) ran;
    leaves = λ now sound room keeps before leaves.
        let leads = leading old new Blames Becomes (λ x. asking (reply x)) becomes (Ok x) ran in
        let it = leads.run now sound room keeps in
        grind (arith, after_answer, ran, leads.sound, it.0, it.2, it.1);
  }
  outlasting (Err fault) ran = record {
    leads = leading old new Blames Becomes (λ x. asking (reply x)) becomes (Err fault) ran;
    leaves = λ now sound room keeps before leaves.
        let leads = leading old new Blames Becomes (λ x. asking (reply x)) becomes (Err fault) ran
        in
        let it = leads.run now sound room keeps in
        let left = after_fault fault ran now sound before room keeps leaves in
        (room, refl, subst (Keeps new) it.1 it.2, left.0, left.1, left.2);
  }

-- a call that commits nothing
after_none : (old new : State) → (IsShut old → IsShut new)
    → ((db : Trees) → new.may_leave db → old.may_leave db) → (before : Option Asking)
    (room : Content) → LeavesAtMost before old room → Left old [] new before room
after_none old new stays crash before room leaves =
    elim (cases_Bool old.is_open) [
      | inl was_open ↦ grind (arith, left_open, old, new, room, was_open, only, leaves, crash)
      | inr shut ↦ search (rules, left_shut, old, new, room, shut, stays, as_before, leaves, crash)
    ]

-- the same, by which nothing happens
pub idle : (old new : State) → Leads old [] new → LeavesAsBefore old new
    → (HasCleanDisk new → IsTrue new.is_open → IsTrue old.is_open) → Outlasts old [] [] new
idle old new leads crash was_open = record {
  leads = leads;
  leaves = λ now sound room keeps before leaves.
      let it = leads.run now sound room keeps in
      let left =
      after_none old new (still_shut old new (was_open now)) (crash now) before room leaves in
      (room, refl, subst (Keeps new) it.1 it.2, left.0, left.1, left.2);
}

-- a test whether the connection is shut
pub asked_outlasts : (old new : State) (result : Result Bool StoreFault) → Asks old new result
    → Outlasts old [] [] new
asked_outlasts old new result asked =
    idle old new (record {
      trusted = asked.leaves.clean;
      sound = asked_sound old new result asked;
      run = λ now sound room keeps. (room, refl, asked_keeps old new result asked now room keeps);
    }) asked.crash asked.leaves.was_open

-- ---- over any list of calls

pub all_outlast : {S : Type 0} (shown : Held S → State) → RunsMeet
    → (first : Held S) (calls : List (Try S)) → OutlastsOn shown first calls
    → Outlasts (shown first) (all_asked calls) (all_happened calls) (shown (left_by first calls))
all_outlast shown meet first [] follows = nothing_tried (shown first)
all_outlast shown meet first (call ∷ calls) follows =
    together meet (shown first) (shown call.1.1) (shown (left_by call.1.1 calls)) call.0
    (all_asked calls) call.1.0 (all_happened calls) follows.0
    (all_outlast shown meet call.1.1 calls follows.1)

pub leaves_whole : (old new : State) (asked : List Asking) (events : List Event)
    → Outlasts old asked events new → LeavesWhole old asked events new
leaves_whole old new asked events outlasts now sound is_open lasts room keeps =
    let it = outlasts.leaves now sound room keeps None (λ db left.
    inl (seen_is_left old sound is_open lasts room keeps db left)) in
    elim (cases_Bool new.is_open) [
      | inl is ↦ (it.0, it.1, (None, tt, λ db left. inl (only new it.3 it.0 db is it.5 left)))
      | inr is ↦ (it.0, it.1, (it.3, it.4.one is_open is, it.5))
    ]
