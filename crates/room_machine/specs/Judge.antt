-- How the items of a plan are judged, and the records of the checks.
use Rattle.std.specs.Prelude.{ℕ, ℤ, ◌-◌, ◌&&◌, Bool, List, [], ◌∷◌, ◌++◌, map, Option, Some, None}
use Rattle.std.specs.Prelude.{is_none, slice_get, if◌then◌else◌}
use Rattle.std.specs.Option.{option_map_or}
use Rattle.room_entry.specs.Rights.{delete, delete_child, write_data}
use Rattle.room_entry.specs.Ace.{Ace}
use Rattle.room_entry.specs.declared.entry.EntryKind.{EntryKind}
use Rattle.room_entry.specs.declared.entry.EntryKind.TheVariants.{Audit, Alarm}
use Rattle.room_entry.specs.declared.object.Which.TheVariants.{Dacl, Sacl}
use Rattle.room_entry.specs.declared.parties.Caller.{Caller}
use Rattle.room_eval.specs.declared.outcome.Verdict.{Verdict}
use Rattle.room_eval.specs.declared.outcome.Verdict.TheVariants.{Granted, Denied as DeniedWith}
use Rattle.room_eval.specs.declared.deletion.DeleteVerdict.{DeleteVerdict}
use Rattle.room_eval.specs.declared.deletion.DeleteVerdict.TheVariants.{Granted as MayDelete}
use Rattle.room_eval.specs.declared.deletion.DeleteVerdict.TheVariants.{AtTarget, AtParent}
use Rattle.room_eval.specs.Verdict.{ruling_of, verdict, is_silent}
use Rattle.room_eval.specs.Deletion.{deletion}
use Rattle.room_eval.specs.Events.{events_of}
use Rattle.room_rows.specs.Paths.{path_text}
use Rattle.room_rows.specs.declared.node.AuditRow.{AuditRow}
use Rattle.room_rows.specs.declared.node.RecordKind.{RecordKind}
use Rattle.room_rows.specs.declared.node.RecordKind.TheVariants.{Audit as AuditRecord}
use Rattle.room_rows.specs.declared.node.RecordKind.TheVariants.{Alarm as AlarmRecord}
use Rattle.room_machine.specs.declared.reply.Reply.{Reply}
use Rattle.room_machine.specs.declared.reply.Reply.TheVariants.{Denied, Refused}
use Rattle.room_machine.specs.Site.{Site, full_at}
use Rattle.room_machine.specs.Plan.{Item, Check, Deletion, Refusal}

-- the entry at a place of the object's dacl
abbrev pub entry_at : Site → Option ℕ → Option Ace
entry_at site None = None
entry_at site (Some place) = slice_get (full_at Dacl site) (place - 1)

abbrev pub denied_at : Site → List ℕ → Option ℕ → Option Reply
denied_at site bits place = Some (Denied site.path bits place (entry_at site place))

abbrev pub of_verdict : Site → Verdict → Option Reply
of_verdict site Granted = None
of_verdict site (DeniedWith bits place) = denied_at site bits place

abbrev pub of_deletion : Site → Site → DeleteVerdict → Option Reply
of_deletion target parent (MayDelete by_add) = None
of_deletion target parent (AtTarget place) = denied_at target (delete ∷ []) (Some place)
of_deletion target parent (AtParent bits place) = denied_at parent bits place

-- The reply to a caller for whom the item fails.
abbrev pub failure : Caller → Item → Option Reply
failure caller (Check site bits) = of_verdict site
    (verdict (full_at Dacl site) caller site.node.owners bits)
failure caller (Deletion target parent) =
    let above = full_at Dacl parent in
    of_deletion target parent
    (deletion (full_at Dacl target) target.node.owners above parent.node.owners caller)
failure caller (Refusal path why holds) = if holds then Some (Refused path why) else None

abbrev pub passes : Caller → Item → Bool
passes caller item = is_none (failure caller item)

abbrev pub or_else : Option Reply → Option Reply → Option Reply
or_else None other = other
or_else (Some reply) other = Some reply

-- The reply for the first item that fails.
abbrev pub first_failure : Caller → List Item → Option Reply
first_failure caller [] = None
first_failure caller (item ∷ items) = or_else (failure caller item) (first_failure caller items)

-- ---- records

-- ADD_FILE decided a deletion where neither list ruled
abbrev pub is_by_adding : Caller → Site → Site → Bool
is_by_adding caller target parent =
    is_silent (ruling_of (full_at Dacl target) caller target.node.owners delete)
    && is_silent (ruling_of (full_at Dacl parent) caller parent.node.owners delete_child)

-- The checks that an item makes. A deletion makes two.
abbrev pub checks_of : Caller → Item → List (Site × List ℕ)
checks_of caller (Check site bits) = (site, bits) ∷ []
checks_of caller (Deletion target parent) =
    let second = if is_by_adding caller target parent then write_data else delete_child in
    (target, delete ∷ []) ∷ (parent, second ∷ []) ∷ []
checks_of caller (Refusal path why holds) = []

-- a record of an entry of alarm is an alarm, and one of audit an audit
abbrev pub kind_of_record : EntryKind → RecordKind
kind_of_record Alarm = AlarmRecord
kind_of_record Audit = AuditRecord
kind_of_record _ = AuditRecord

abbrev pub kind_at : List Ace → ℕ → RecordKind
kind_at entries place = option_map_or (λ entry. kind_of_record entry.kind)
    (slice_get entries (place - 1)) AuditRecord

-- The record of a check with this outcome that the entry at a place of the object's sacl calls for.
-- It names the object by the text of its path.
abbrev pub record_at : Caller → ℤ → Bool → Site × List ℕ → ℕ → AuditRow
record_at caller moment granted check place = record {
  at = moment;
  user = caller.user;
  path = path_text check.0.path;
  bits = check.1;
  granted = granted;
  place = place;
  kind = kind_at (full_at Sacl check.0) place;
}

-- the records of one check with this outcome, by place
abbrev pub records_of : Caller → ℤ → Bool → Site × List ℕ → List AuditRow
records_of caller moment granted check =
    map (record_at caller moment granted check)
    (events_of (full_at Sacl check.0) caller check.0.node.owners check.1 granted)

abbrev pub records_of_checks : Caller → ℤ → Bool → List (Site × List ℕ) → List AuditRow
records_of_checks caller moment granted [] = []
records_of_checks caller moment granted (check ∷ checks) = records_of caller moment granted check
    ++ records_of_checks caller moment granted checks

-- The records of the items up to and with the first that fails.
abbrev pub records_of_plan : Caller → ℤ → List Item → List AuditRow
records_of_plan caller moment [] = []
records_of_plan caller moment (item ∷ items) =
    records_of_checks caller moment (passes caller item) (checks_of caller item)
    ++ (if passes caller item then records_of_plan caller moment items else [])
