-- The records of a check, noted one after the other.
use Rattle.std.proofs.Common.{◌≡◌, ℕ, ◌<◌, ◌≤◌, ◌+◌, Bool, cond, List, []}
use Rattle.std.proofs.Common.{◌∷◌, map, length, take, get_or, sym, ap, ◌∙◌, arith, Result, Ok}
use Rattle.std.proofs.{Common.{Err, IfOk, length-append}, lemmas.List.{take_more, map-append}}
use Rattle.std.proofs.{lemmas.Bool.Decides.nat_tests, Math.Seq.take-length}
use Rattle.room_entry.specs.{Ace.Ace, declared.object.Which.TheVariants.Sacl}
use Rattle.room_entry.specs.declared.parties.{Caller.Caller, Owners.Owners}
use Rattle.room_eval.specs.Events.{events_from, events_of, is_event_of}
use Rattle.room_rows.specs.declared.{keep.KeepFault.KeepFault, node.AuditRow.AuditRow}
use Rattle.room_rows.specs.{Keep.{IsWriteOf, Leaves, Notes as Noted, writes_after}, Rows.Rows}
use Rattle.room_judge.specs.{declared.asker.Asker.Asker, Extent.{OnlyRecords, StaysWithin}}
use Rattle.room_judge.specs.{Judged.{IsDone, with_notes}}
use Rattle.room_machine.specs.{Site.{Site, full_at}, Judge.{record_at, records_of}}
use Rattle.room_judge.proofs.{Judging.{noted_none, noted_more}, Within.written_up_to}

-- ---- places count from 1

later : (t : Bool) (place : ℕ) (rest : List ℕ)
    → ((i : ℕ) → i < length rest → place < get_or rest i 0) → (i : ℕ)
    → i < length (cond t (place ∷ rest) rest) → place ≤ get_or (cond t (place ∷ rest) rest) i 0
later t place rest on i below = grind (arith, nat_tests)

from_place : (place : ℕ) (entries : List Ace) (caller : Caller) (owners : Owners) (asked : List ℕ)
    (granted : Bool) (i : ℕ)
    → i < length (events_from place entries caller owners asked granted)
    → place ≤ get_or (events_from place entries caller owners asked granted) i 0
from_place place [] caller owners asked granted i below = absurd (omega arith)
from_place place (entry ∷ entries) caller owners asked granted i below =
    later (is_event_of entry caller owners asked granted) place
    (events_from (place + 1) entries caller owners asked granted)
    (λ j inside. omega (arith, from_place (place + 1) entries caller owners asked granted j inside))
    i below

pub from_one : (sacl : List Ace) (caller : Caller) (owners : Owners) (asked : List ℕ)
    (granted : Bool) (places : List ℕ) (i : ℕ)
    → places ≡ events_of sacl caller owners asked granted → i < length places
    → 0 < get_or places i 0
from_one sacl caller owners asked granted places i are below = grind (arith, nat_tests, from_place)

-- ---- one record after another

-- the record for one place
abbrev pub record_for : Asker → Bool → Site → List ℕ → ℕ → AuditRow
record_for asker granted site bits place =
    record_at asker.caller asker.moment granted (site, bits) place

-- The records for these places are noted.
abbrev pub Notes : Asker → Bool → Site → List ℕ → List ℕ → Rows → Rows → Type 0
Notes asker granted site bits places old now =
    now ≡ with_notes old (map (record_for asker granted site bits) places)

pub notes_none : (asker : Asker) (granted : Bool) (site : Site) (bits : List ℕ) (places : List ℕ)
    (old now : Rows) → now ≡ old → Notes asker granted site bits (take 0 places) old now
notes_none asker granted site bits places old now same = same ∙ sym (noted_none old)

-- its place is one from 1 on
pub note_placed : (asker : Asker) (granted : Bool) (site : Site) (bits : List ℕ) (places : List ℕ)
    (i : ℕ) (row : AuditRow) → i < length places
    → row ≡ record_for asker granted site bits (get_or places i 0)
    → places ≡ events_of (full_at Sacl site) asker.caller site.node.owners bits granted
    → 0 < row.place
note_placed asker granted site bits places i row below is are = grind (arith, nat_tests, from_one)

pub notes_one : (asker : Asker) (granted : Bool) (site : Site) (bits : List ℕ) (places : List ℕ)
    (i : ℕ) (row : AuditRow) (old now next : Rows) → i < length places
    → row ≡ record_for asker granted site bits (get_or places i 0)
    → Notes asker granted site bits (take i places) old now
    → next ≡ with_notes now (row ∷ [])
    → Notes asker granted site bits (take (i + 1) places) old next
notes_one asker granted site bits places i row old now next below is sofar more =
    cc (
      more,
      sofar,
      noted_more old (map (record_for asker granted site bits) (take i places)) (row ∷ []),
      is,
      map-append (record_for asker granted site bits) (take i places) (get_or places i 0 ∷ []),
      take_more places i 0 below,
    )

pub notes_all : (asker : Asker) (granted : Bool) (site : Site) (bits : List ℕ) (places : List ℕ)
    (i : ℕ) (old now : Rows) → i ≡ length places
    → places ≡ events_of (full_at Sacl site) asker.caller site.node.owners bits granted
    → Notes asker granted site bits (take i places) old now
    → now ≡ with_notes old (records_of asker.caller asker.moment granted (site, bits))
notes_all asker granted site bits places i old now full are all =
    grind (arith, nat_tests, take-length)

-- ---- the call that notes one

-- what a keeper writes to note a record is that record alone
pub of_note : {S : Type 0} {rows : S → Rows} {failures writes : S → ℕ}
    {Follows IsTrusted : S → S → Type 0} {a b : S} {r : Result (Unit {0}) KeepFault}
    {Blames : Rows → ℕ → Type 0} (row : AuditRow) → 0 < row.place
    → IsWriteOf rows failures writes Follows IsTrusted 1 a b r Blames (Leaves (Noted row))
    → IsDone rows failures writes Follows IsTrusted (λ _. OnlyRecords) a b r Blames
    (λ old _ new. new ≡ with_notes old (row ∷ []))
of_note {S = S} {rows = rows} {failures = failures} {writes = writes} {a = a} {b = b} {r = r} row
    placed write = grind (arith, nat_tests, kept, noted)
  where
    noted : (r : Result (Unit {0}) KeepFault)
        → IfOk r (λ _. 0 < row.place → rows b ≡ with_notes (rows a) (row ∷ []))
        → IfOk r (λ _. rows b ≡ with_notes (rows a) (row ∷ []))
    noted (Ok x) is = is placed
    noted (Err e) is = tt

    kept : (r : Result (Unit {0}) KeepFault) → writes b ≡ writes_after 1 r (writes a)
        → IfOk r (λ _. rows b ≡ with_notes (rows a) (row ∷ []))
        → IfOk r (λ _. StaysWithin rows writes OnlyRecords a b)
    kept (Ok x) written is =
        let more : length (rows b).read.audits ≡ length (rows a).read.audits + 1 =
        ap (λ (w : Rows). length w.read.audits) is ∙ length-append (rows a).read.audits (row ∷ [])
        in grind (arith, nat_tests, written_up_to)
    kept (Err e) written is = tt
