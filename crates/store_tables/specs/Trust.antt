-- When the answers of a database are those of its rows, and that this is so of each part of a run
-- of calls.
use Rattle.std.specs.Prelude.{◌≡◌, List, [], ◌∷◌, Result, IfOk, IfErr, ◌≤◌, ℕ, IsTrue}
use Rattle.std.proofs.Common.{sym, subst, arith}
use Rattle.sqlite_trees.specs.View.{doubt}
use Rattle.sqlite.specs.State.{State, HasCleanDisk}
use Rattle.sqlite.specs.Effect.{Database}
use Rattle.room_rows.specs.declared.node.AuditRow.{AuditRow}
use Rattle.room_rows.specs.declared.node.Node.{Node}
use Rattle.room_rows.specs.Content.{with_body, with_records}
use Rattle.room_rows.specs.Keep.{Changes, ChangesAll, HasCause, capped, with_content}
use Rattle.room_rows.specs.declared.keep.KeepFault.{KeepFault}
use Rattle.store_tables.specs.Meaning.{rows_of}
use Rattle.store_tables.specs.Seeing.{Nowhere}
use Rattle.store_tables.specs.Shown.{IsRoom, Stays}
use Rattle.store_tables.specs.Within.{within_itself, within_on}

-- the tables were those of a rooms file at first, and the disk has returned what was written up to
-- the last state
pub record IsTrusted (first last : State) : Type 0 where
  pub clean : HasCleanDisk last
  pub is_open : IsTrue last.is_open
  pub now : IsRoom first.now
  pub committed : IsRoom first.committed

-- the object, if it is there, is changed so, and nothing else is
abbrev pub Alters : ℕ → (Node → Node) → Database → Database → Type 0
Alters id change old new = Changes id change (rows_of old) (rows_of new)

-- the same of each of these objects, if all are there
abbrev pub AltersAll : List ℕ → (Node → Node) → Database → Database → Type 0
AltersAll ids change old new = ChangesAll ids change (rows_of old) (rows_of new)

-- a record is added after the others, and nothing else is changed
abbrev pub HasNoted : AuditRow → Database → Database → Type 0
HasNoted row old new =
    rows_of new ≡ with_content (rows_of old) (with_records (rows_of old).read (row ∷ []))

-- the bytes of this number are replaced by these, and nothing else is changed
abbrev pub HasBody : ℕ → List ℕ → Database → Database → Type 0
HasBody id bytes old new =
    rows_of new ≡ with_content (rows_of old) (with_body (rows_of old).read id bytes)

-- A part of a call that writes: what it leaves of the connection and of the count of failures, and,
-- where it answers, of the tables.
pub record Puts {X : Type 0} (old new : State) (before after : ℕ) (result : Result X KeepFault)
    (Becomes : X → Database → Database → Type 0) : Type 0 where
  pub stays : Stays old new
  pub no_less : before ≤ after
  pub unfailed : IfOk result (λ _. after ≡ before)
  pub fault : IfErr result (HasCause (capped before) (capped after) Nowhere)
  pub becomes : IsTrusted old new → IfOk result (λ answer. Becomes answer old.now new.now)

pub stays_itself : (a : State) → Stays a a
stays_itself a = record {
  within = within_itself a;
  room = λ _ _ _ room. room;
  retains = λ _ _ _ _ h. h;
}

clean_before : (a b : State) → doubt a.is_clean ≤ doubt b.is_clean → HasCleanDisk b → HasCleanDisk a
clean_before a b up h = omega arith

-- after a call over a room's tables, what is committed is still a room
committed_room : (a b : State) → Stays a b → HasCleanDisk b → IsTrue b.is_open
    → IsRoom a.committed → IsRoom b.committed
committed_room a b p clean open' committed =
    subst IsRoom (sym (p.within.committed clean open')) committed

pub stays_on : (a b c : State) → Stays a b → Stays b c → Stays a c
stays_on a b c p q =
    let clean_mid : HasCleanDisk c → HasCleanDisk b = clean_before b c q.within.clean in
    record {
      within = within_on a b c p.within q.within;
      room = λ clean open' committed now.
          let open'' = q.within.was_open clean open' in
          q.room clean open' (committed_room a b p (clean_mid clean) open'' committed)
          (p.room (clean_mid clean) open'' committed now);
      retains = λ clean open' committed now h.
          let open'' = q.within.was_open clean open' in
          q.retains clean open' (committed_room a b p (clean_mid clean) open'' committed)
          (p.room (clean_mid clean) open'' committed now)
          (p.retains (clean_mid clean) open'' committed now h);
    }

pub trusted_first : (a b c : State) → Stays a b → Stays b c → IsTrusted a c → IsTrusted a b
trusted_first a b c p q t = record {
  clean = clean_before b c q.within.clean t.clean;
  is_open = q.within.was_open t.clean t.is_open;
  now = t.now;
  committed = t.committed;
}

pub trusted_last : (a b c : State) → Stays a b → Stays b c → IsTrusted a c → IsTrusted b c
trusted_last a b c p q t =
    let clean = clean_before b c q.within.clean t.clean in
    let open' = q.within.was_open t.clean t.is_open in
    record {
      clean = t.clean;
      is_open = t.is_open;
      now = p.room clean open' t.committed t.now;
      committed = committed_room a b p clean open' t.committed;
    }
