-- What the calls that carry out a request answer, and what they leave.
use Rattle.std.specs.Prelude.{◌≡◌, ℕ, ℤ, suc, ◌+◌, ◌-◌, Bool, true, false, not, List, [], ◌∷◌}
use Rattle.std.specs.Prelude.{◌++◌, length, Option, Some, None, is_none, slice_index_or, Result, Ok}
use Rattle.std.specs.Prelude.{Err, IfOk, IfErr, take, if◌then◌else◌}
use Rattle.room_entry.specs.Rights.{delete_child, execute, write_data}
use Rattle.room_entry.specs.declared.object.ObjKind.{ObjKind}
use Rattle.room_entry.specs.declared.object.ObjKind.TheVariants.{Document, Folder}
use Rattle.room_ace.specs.Sent.{Sent}
use Rattle.room_entry.specs.Valid.{is_document}
use Rattle.room_entry.specs.declared.object.Which.{Which}
use Rattle.room_eval.specs.declared.outcome.Verdict.{Verdict}
use Rattle.room_eval.specs.declared.outcome.Verdict.TheVariants.{Granted, Denied as DeniedWith}
use Rattle.room_eval.specs.declared.deletion.DeleteVerdict.{DeleteVerdict}
use Rattle.room_eval.specs.declared.deletion.DeleteVerdict.TheVariants.{Granted as MayDelete}
use Rattle.room_eval.specs.declared.deletion.DeleteVerdict.TheVariants.{AtTarget, AtParent}
use Rattle.room_rows.specs.declared.keep.Keep.{Ghosts}
use Rattle.room_rows.specs.declared.keep.KeepFault.{KeepFault}
use Rattle.room_rows.specs.declared.node.AuditRow.{AuditRow}
use Rattle.room_rows.specs.declared.node.Node.{Node}
use Rattle.room_rows.specs.Content.{child_of, is_folder, root_of, with_records}
use Rattle.room_rows.specs.Keep.{HasCause, IsUnreadable, with_content}
use Rattle.room_rows.specs.Meaning.{meaning}
use Rattle.room_rows.specs.Rows.{Rows}
use Rattle.room_rows.specs.Sound.{AreSound}
use Rattle.room_rows.specs.Walk.{walk_of}
use Rattle.room_judge.specs.declared.arrival.Found.{Found}
use Rattle.room_judge.specs.declared.asker.Asker.{Asker}
use Rattle.room_machine.specs.declared.reply.Reply.{Reply}
use Rattle.room_machine.specs.declared.reply.Reply.TheVariants.{Refused}
use Rattle.room_machine.specs.declared.reply.Reason.TheVariants.{NotFolder, NoSuch}
use Rattle.room_machine.specs.declared.request.Request.{Request}
use Rattle.room_machine.specs.Closed.{IsResetClosed}
use Rattle.room_machine.specs.Site.{Site, site_at}
use Rattle.room_machine.specs.Plan.{Item, Check, Refusal, no_folder, no_document}
use Rattle.room_machine.specs.Judge.{first_failure, records_of_plan}
use Rattle.room_machine.specs.Stored.{stored_site, stored_along, to_stored}
use Rattle.room_judge.specs.Extent.{Extent, OnlyRecords, UpTo, StaysWithin}
use Rattle.room_judge.specs.Stored.{found_site}
use Rattle.room_machine.specs.Step.{Step, caller_in, Reset}

-- ---- several calls of a keeper

module _ {S : Type 0} (rows : S → Rows) (failures writes : S → ℕ)
    (Follows IsTrusted : S → S → Type 0) where
  -- As long as the keeper answers by its rows, an answer says what became of them, and how much was
  -- written. A fault has the cause that those of the keeper have, and what it blames is what
  -- the relation allows.
  pub record IsDone {X : Type 0} (extent : X → Extent) (old new : S) (result : Result X KeepFault)
      (Blames : Rows → ℕ → Type 0) (Becomes : Rows → X → Rows → Type 0) : Type 0 where
    pub follows : Follows old new
    pub becomes : IsTrusted old new → IfOk result (λ answer. Becomes (rows old) answer (rows new))
    pub few : IsTrusted old new
        → IfOk result (λ answer. StaysWithin rows writes (extent answer) old new)
    pub fault : IfErr result (HasCause (failures old) (failures new)
        (λ row. IsTrusted old new → Blames (rows old) row))

-- The same with the keeper named once. Calls that write within the extent of their answer, that
-- write only records, and to which so many writes more suffice.
module _ {S : Type 0} (k : Ghosts S) {X : Type 0} (old new : S) (result : Result X KeepFault) where
  abbrev pub DoesWithin : (X → Extent) → (Rows → ℕ → Type 0) → (Rows → X → Rows → Type 0)
      → Type 0
  DoesWithin extent Blames Becomes =
      IsDone k.rows k.failures k.writes k.Follows k.IsTrusted extent old new result Blames Becomes

  abbrev pub Does : (Rows → ℕ → Type 0) → (Rows → X → Rows → Type 0) → Type 0
  Does Blames Becomes = DoesWithin (λ answer. OnlyRecords) Blames Becomes

  abbrev pub DoesUpTo : (Rows → Rows → ℕ → Type 0) → (Rows → ℕ → Type 0)
      → (Rows → X → Rows → Type 0) → Type 0
  DoesUpTo Suffices Blames Becomes = DoesWithin (λ answer. UpTo Suffices) Blames Becomes

-- sound rows have no such row
abbrev pub NotSound : Rows → ℕ → Type 0
NotSound rows row = AreSound rows → ⊥

-- ---- items that are judged as they come

-- the rows with these records after the others
abbrev pub with_notes : Rows → List AuditRow → Rows
with_notes rows records = with_content rows (with_records rows.read records)

-- The answer is the reply for the first item that fails. The records of the items up to it come
-- after the others.
pub record IsJudged (asker : Asker) (items : List Item) (old : Rows) (answer : Option Reply)
    (new : Rows) : Type 0 where
  pub answers : answer ≡ first_failure asker.caller items
  pub notes : new ≡ with_notes old (records_of_plan asker.caller asker.moment items)

-- ---- verdicts

-- all that was asked is granted
abbrev pub is_grant : Verdict → Bool
is_grant Granted = true
is_grant (DeniedWith bits place) = false

abbrev pub is_deletable : DeleteVerdict → Bool
is_deletable (MayDelete by_add) = true
is_deletable (AtTarget place) = false
is_deletable (AtParent bits place) = false

-- The right that the second check of a deletion asks of the parent: the one by which adding or the
-- parent decided, or else DELETE_CHILD.
abbrev pub second_right : DeleteVerdict → List ℕ
second_right (MayDelete by_add) = (if by_add then write_data else delete_child) ∷ []
second_right (AtTarget place) = delete_child ∷ []
second_right (AtParent bits place) = bits

-- ---- the way

-- An outcome is an answer or a refusal.
abbrev pub refusal_of : {X : Type 0} → Result X Reply → Option Reply
refusal_of (Ok x) = None
refusal_of (Err reply) = Some reply

-- the name of a path that comes after n others
abbrev pub name_after : List (List ℕ) → ℕ → List ℕ
name_after path depth = slice_index_or path depth []

-- the object is a folder, and grants EXECUTE
abbrev pub through : Site → List Item
through site =
    Refusal site.path NotFolder (not (is_folder site.node)) ∷ Check site (execute ∷ []) ∷ []

-- the child of the next name of the path
abbrev pub child_below : List (List ℕ) → Found → Rows → Option Node
child_below path from rows = child_of rows.read from.node.id (name_after path from.depth)

abbrev pub no_such : List (List ℕ) → Found → Reply
no_such path from = Refused (take (from.depth + 1) path) NoSuch

-- what one step down the way judges
abbrev pub step_items : List (List ℕ) → Found → Rows → List Item
step_items path from rows = let site = found_site path from in
    through site
    ++ Refusal (site.path ++ name_after path from.depth ∷ []) NoSuch
    (is_none (child_below path from rows)) ∷ []

-- the child of the next name, or the refusal where there is none
pub record FindsNext (path : List (List ℕ)) (from : Found) (old : Rows)
    (outcome : Result Node Reply) (new : Rows) : Type 0 where
  pub same : new ≡ old
  pub answers : refusal_of outcome
      ≡ (if is_none (child_below path from old) then Some (no_such path from) else None)
  pub found : IfOk outcome (λ next. child_below path from old ≡ Some next)

-- One step down the way: it passes through the object, and finds the child of the next name.
pub record IsStepDown (asker : Asker) (path : List (List ℕ)) (from : Found) (old : Rows)
    (outcome : Result Node Reply) (new : Rows) : Type 0 where
  pub judged : IsJudged asker (step_items path from old) old (refusal_of outcome) new
  pub found : IfOk outcome (λ next. child_below path from old ≡ Some next)

-- The way to the target of a path and the items at it, and then the target itself.
pub record IsReached (asker : Asker) (path : List (List ℕ)) (items : Site → List Item) (old : Rows)
    (outcome : Result Node Reply) (new : Rows) : Type 0 where
  pub judged : IsJudged asker (to_stored old.read path items) old (refusal_of outcome) new
  pub found : IfOk outcome
      (λ target. site_at (stored_along old.read path) path ≡ Some (stored_site path target))

-- the relation holds where the node that was read before is the root
abbrev pub FromRoot : {X : Type 0} → Node → (Rows → X → Rows → Type 0) → Rows → X → Rows → Type 0
FromRoot root Becomes old x new = root_of old.read ≡ Some root → Becomes old x new

abbrev pub IsUnreadableFrom : Node → Rows → ℕ → Type 0
IsUnreadableFrom root rows row = root_of rows.read ≡ Some root → IsUnreadable rows row

-- the object isn't of the wanted kind
abbrev pub is_other : ObjKind → ObjKind → Bool
is_other kind Document = not (is_document kind)
is_other kind Folder = is_document kind

-- the refusal of an object of another kind
abbrev pub of_kind : ObjKind → Site → Item
of_kind Document site = no_folder site
of_kind Folder site = no_document site

-- ---- a request

-- the asker has the groups of the rows
abbrev pub IsKnown : Asker → Rows → Type 0
IsKnown asker rows = asker.caller ≡ caller_in rows.read asker.caller.user

-- From sound rows, a step of the machine leads from what they mean to what the new ones mean, and
-- these are sound.
pub record IsStepOfRows (user : Option (List ℕ)) (moment : ℤ) (request : Request) (old : Rows)
    (reply : Reply) (new : Rows) : Type 0 where
  pub step : Step (meaning old.read) user moment request reply (meaning new.read)
  pub sound : AreSound new

abbrev pub CarriesOut : Asker → Request → Rows → Reply → Rows → Type 0
CarriesOut asker request old reply new = IsKnown asker old → AreSound old
    → IsStepOfRows asker.caller.user asker.moment request old reply new

-- From sound rows the operator's reset is that step, and the rows are sound again.
pub record IsResetOfRows (path : List (List ℕ)) (which : Which) (sent : Sent) (old : Rows)
    (reply : Reply) (new : Rows) : Type 0 where
  pub reset : Reset (meaning old.read) path which sent reply (meaning new.read)
  pub sound : AreSound new

abbrev pub ResetsSound : List (List ℕ) → Which → Sent → Rows → Reply → Rows → Type 0
ResetsSound path which sent old reply new =
    AreSound old → IsResetOfRows path which sent old reply new

-- why a walk ended before its last name: at a document, or at a name that isn't there
abbrev pub ended_at : List (List ℕ) → ObjKind → ℕ → Reply
ended_at path Document rest = Refused (take (length path - rest) path) NotFolder
ended_at path Folder rest = Refused (take (length path - (rest - 1)) path) NoSuch

-- A walk along the path that ends before its last name is refused for what it ended at.
abbrev pub RefusesEnd : List (List ℕ) → Rows → Reply → Type 0
RefusesEnd path rows reply = (front : List Node) (last : Node) (rest : ℕ)
    → walk_of rows.read path ≡ record { chain = front ++ last ∷ []; rest = suc rest }
    → reply ≡ ended_at path last.kind (suc rest)

-- What `reset` promises: from sound rows a step of the operator, and on any rows that the list is
-- set, or refused, and why, where the path leads nowhere.
pub record Resets (path : List (List ℕ)) (which : Which) (sent : Sent) (old : Rows)
    (reply : Reply) (new : Rows) : Type 0 where
  pub step : ResetsSound path which sent old reply new
  pub closed : IsResetClosed path which sent old reply new
  pub ended : RefusesEnd path old reply
