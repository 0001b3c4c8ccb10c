-- The operator's move of an object.
use Rattle.std.specs.Prelude.{◌≡◌, ℕ, zero, List, [], ◌∷◌, ◌++◌, None, filter}
use Rattle.room_entry.specs.declared.parties.Caller.{Caller}
use Rattle.room_rows.specs.declared.node.Node.{Node}
use Rattle.room_rows.specs.Content.{Content}
use Rattle.room_rows.specs.Keep.{IsDamaged}
use Rattle.room_rows.specs.Meaning.{meaning}
use Rattle.room_rows.specs.Rows.{Rows, AreRows}
use Rattle.room_rows.specs.Sound.{AreSound}
use Rattle.room_rows.specs.Walk.{walk_of}
use Rattle.room_machine.specs.declared.reply.Reply.{Reply}
use Rattle.room_machine.specs.declared.request.Request.TheVariants.{Move}
use Rattle.room_machine.specs.Effect.{effect}
use Rattle.room_machine.specs.Judge.{first_failure}
use Rattle.room_machine.specs.Plan.{plan_of}
use Rattle.room_machine.specs.Site.{front}
use Rattle.room_machine.specs.Step.{failure_or, is_refusal}

-- An object is moved as by a request, with the refusals of its plan alone. No rights are checked,
-- and no record is left.
abbrev pub relocate : Content → List (List ℕ) → List (List ℕ) → Reply × Content
relocate content path to =
    let caller : Caller = record { user = None; groups = [] } in
    failure_or (first_failure caller (filter is_refusal (plan_of content (Move path to))))
    content (effect content caller 0 (Move path to))

-- From sound rows the operator's move is that step, and the rows are sound again.
pub record IsRelocated (path to : List (List ℕ)) (old : Rows) (reply : Reply) (new : Rows)
    : Type 0 where
  pub step : relocate (meaning old.read) path to ≡ (reply, meaning new.read)
  pub sound : AreSound new

-- What `place` promises.
abbrev pub Relocates : List (List ℕ) → List (List ℕ) → Rows → Reply → Rows → Type 0
Relocates path to old reply new = AreSound old → IsRelocated path to old reply new

-- ---- once the ways have been walked

-- a walk along the path ends at this object, with so many names left over
abbrev pub EndsAt : List (List ℕ) → Node → ℕ → Rows → Type 0
EndsAt path last rest rows = (before : List Node)
    × (walk_of rows.read path ≡ record { chain = before ++ last ∷ []; rest = rest })

-- the whole move, where the walk to the object ended so
abbrev pub RelocatesFrom : List (List ℕ) → List (List ℕ) → Node → ℕ → Rows → Reply → Rows → Type 0
RelocatesFrom path to last rest old reply new =
    AreRows old → EndsAt path last rest old → Relocates path to old reply new

abbrev pub FailsFrom : List (List ℕ) → Node → ℕ → Rows → ℕ → Type 0
FailsFrom path last rest rows row = AreRows rows → EndsAt path last rest rows → IsDamaged rows row

-- the same, where the walk to the new folder ended so too
abbrev pub RelocatesInto : List (List ℕ) → List (List ℕ) → Node → Node → ℕ → Rows → Reply → Rows
    → Type 0
RelocatesInto path to target folder rest old reply new =
    EndsAt (front to) folder rest old → RelocatesFrom path to target zero old reply new

abbrev pub FailsInto : List (List ℕ) → List (List ℕ) → Node → Node → ℕ → Rows → ℕ → Type 0
FailsInto path to target folder rest rows row =
    EndsAt (front to) folder rest rows → FailsFrom path target zero rows row
