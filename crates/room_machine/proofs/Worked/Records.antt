-- Worked rows: records, alarms, and callers without a name.
use Rattle.std.proofs.Common.{ℕ, ◌≡◌, List, [], ◌∷◌, ◌++◌, Some, None, refl, true, false, Bool}
use Rattle.std.{proofs.Common.codes, specs.Prelude.{pos, if◌then◌else◌}}
use Rattle.room_entry.specs.{Ace.Ace, declared.entry.EntryKind.TheVariants.{Allow, Deny, Audit}}
use Rattle.room_entry.specs.declared.entry.{EntryKind.TheVariants.Alarm, Who.TheVariants.Everyone}
use Rattle.room_entry.specs.declared.entry.Who.TheVariants.{Anonymous, Authenticated, User}
use Rattle.room_entry.specs.declared.object.ObjKind.TheVariants.{Document}
use Rattle.room_rows.specs.declared.node.{Node.Node, AuditRow.AuditRow}
use Rattle.room_rows.specs.declared.node.RecordKind.TheVariants.{Audit as AuditRecord}
use Rattle.room_rows.specs.declared.node.RecordKind.TheVariants.{Alarm as AlarmRecord}
use Rattle.room_rows.specs.Content.{Content}
use Rattle.room_machine.specs.declared.request.Request.TheVariants.{Read, Put, Remove, ReadAttr}
use Rattle.room_machine.specs.declared.reply.Reply.TheVariants.{Bytes, Attr, Made, Done, Denied}
use Rattle.room_machine.{specs.Step.step, proofs.Worked.Worlds.{none, fd, entry, root, alice}}
use Rattle.room_machine.proofs.Worked.Worlds.{by_root, root_may_all, held, plain, object}
use Rattle.room_machine.proofs.Worked.{Worlds.root_folder, Rows.own}

-- ---- records

abbrev f : List (List ℕ)
f = codes "f" ∷ []

-- a document `/f` with this entry in its sacl, and these records
abbrev watched : Ace → List AuditRow → Content
watched watch rows = record {
  nodes =
      root_folder ∷ record {
        id = 2;
        parent = Some 1;
        name = codes "f";
        kind = Document;
        owners = by_root;
        dacl = plain;
        sacl = own (watch ∷ []);
      } ∷ [];
  bodies = (2, codes "hi") ∷ [];
  members = [];
  audits = rows;
}

abbrev failed_reads : Ace
failed_reads = entry Audit (record none { failed_access = true }) Everyone (0x1 ∷ [])

no_record_of_success : step (watched failed_reads []) (Some root) (pos 1000) (Read f) 9
    ≡ (Bytes (codes "hi"), watched failed_reads [])
no_record_of_success = refl

a_record_of_failure : step (watched failed_reads []) (Some alice) (pos 1000) (Read f) 9
    ≡ (
      Denied f (0x1 ∷ []) None None,
      watched failed_reads
          (record {
            at = pos 1000;
            user = Some alice;
            path = codes "/f";
            bits = 0x1 ∷ [];
            granted = false;
            place = 1;
            kind = AuditRecord;
          } ∷ []),
    )
a_record_of_failure = refl

no_flag_no_record : step (watched (entry Audit none Everyone (0x1 ∷ [])) []) (Some alice) (pos 1000)
    (Read f) 9 ≡ (Denied f (0x1 ∷ []) None None, watched (entry Audit none Everyone (0x1 ∷ [])) [])
no_flag_no_record = refl

-- a root folder whose sacl is passed down, a document, and these records
abbrev watched_below : Bool → List AuditRow → Content
watched_below there rows = record {
  nodes =
      record root_folder {
        sacl = own
            (entry Audit (record fd { successful_access = true }) (User root)
            (0x2 ∷ 0x40 ∷ 0x10000 ∷ [])
            ∷ []);
      } ∷ (if there then object 2 1 (codes "f") Document plain ∷ [] else []);
  bodies = if there then (2, codes "hi") ∷ [] else [];
  members = [];
  audits = rows;
}

a_deletion_is_two_checks : step (watched_below true []) (Some root) (pos 7) (Remove f) 9
    ≡ (
      Done,
      watched_below false
          (record {
            at = pos 7;
            user = Some root;
            path = codes "/f";
            bits = 0x10000 ∷ [];
            granted = true;
            place = 1;
            kind = AuditRecord;
          }
          ∷ record {
            at = pos 7;
            user = Some root;
            path = codes "/";
            bits = 0x40 ∷ [];
            granted = true;
            place = 1;
            kind = AuditRecord;
          } ∷ []),
    )
a_deletion_is_two_checks = refl

-- ---- alarms and callers without a name

-- a document `/f` that is denied to the anonymous and may be read by all others, with alarm and
-- audit entries, and these records
abbrev alarmed : List AuditRow → Content
alarmed rows = record {
  nodes = root_folder ∷ record {
    id = 2;
    parent = Some 1;
    name = codes "f";
    kind = Document;
    owners = by_root;
    dacl =
        own (entry Deny none Anonymous (0x1 ∷ []) ∷ entry Allow none Authenticated (0x1 ∷ []) ∷ []);
    sacl =
        own (entry Alarm (record none { failed_access = true }) Anonymous (0x1 ∷ [])
        ∷ entry Audit (record none { successful_access = true; failed_access = true }) Everyone
        (0x1 ∷ []) ∷ []);
  } ∷ [];
  bodies = (2, codes "hi") ∷ [];
  members = [];
  audits = rows;
}

-- a read that is denied, which is an alarm and an audit, and a read that is served
abbrev of_denied_read : List AuditRow
of_denied_read =
    record {
      at = pos 2000;
      user = None;
      path = codes "/f";
      bits = 0x1 ∷ [];
      granted = false;
      place = 1;
      kind = AlarmRecord;
    }
    ∷ record {
      at = pos 2000;
      user = None;
      path = codes "/f";
      bits = 0x1 ∷ [];
      granted = false;
      place = 2;
      kind = AuditRecord;
    } ∷ []

abbrev of_read : List AuditRow
of_read =
    record {
      at = pos 2001;
      user = Some alice;
      path = codes "/f";
      bits = 0x1 ∷ [];
      granted = true;
      place = 2;
      kind = AuditRecord;
    } ∷ []

the_anonymous_raise_an_alarm : step (alarmed []) None (pos 2000) (Read f) 9
    ≡ (
      Denied f (0x1 ∷ []) (Some 1) (Some (entry Deny none Anonymous (0x1 ∷ []))),
      alarmed of_denied_read,
    )
the_anonymous_raise_an_alarm = refl

alice_raises_none : step (alarmed of_denied_read) (Some alice) (pos 2001) (Read f) 9
    ≡ (Bytes (codes "hi"), alarmed (of_denied_read ++ of_read))
alice_raises_none = refl

-- a root folder that everyone passes and adds to, and these objects
abbrev shared : List Node → List (ℕ × List ℕ) → Content
shared nodes bodies =
    record {
      nodes =
          record root_folder {
            dacl = held true false
                (entry Allow none Everyone (0x2 ∷ 0x20 ∷ []) ∷ root_may_all ∷ []) [];
          } ∷ nodes;
      bodies =
          bodies;
      members = [];
      audits = [];
    }

abbrev document_g : Node
document_g = object 2 1 (codes "g") Document plain

the_anonymous_create : step (shared [] []) None (pos 0) (Put (codes "g" ∷ []) (codes "hi")) 2
    ≡ (Made, shared (document_g ∷ []) ((2, codes "hi") ∷ []))
the_anonymous_create = refl

the_parents_owner_owns_it : step (shared (document_g ∷ []) ((2, codes "hi") ∷ [])) (Some root)
    (pos 0) (ReadAttr (codes "g" ∷ [])) 9
    ≡ (Attr Document by_root, shared (document_g ∷ []) ((2, codes "hi") ∷ []))
the_parents_owner_owns_it = refl

the_anonymous_are_in_no_group : step
    (record (watched (entry Audit none Everyone (0x1 ∷ [])) []) {
      members = (codes "staff", [])
          ∷ [];
    }) None (pos 0) (Read f) 9
    ≡ (
      Denied f (0x1 ∷ []) None None,
      record (watched (entry Audit none Everyone (0x1 ∷ [])) []) {
        members = (codes "staff", [])
            ∷ [];
      },
    )
the_anonymous_are_in_no_group = refl
