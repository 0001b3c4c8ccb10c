-- Why the schema's number isn't read in a room's tables.
use Rattle.std.proofs.Common.{◌≡◌, ℕ, ℤ, [], Result, Err, Option, IsSome, inl, inr, ◌⊎◌, refl, sym}
use Rattle.std.proofs.Common.{◌∙◌, true, false, lit≤}
use Rattle.sqlite.specs.declared.error.Error.{Error, TheVariants.SqliteFailure}
use Rattle.sqlite.specs.{declared.error.ErrorCode.TheVariants.OutOfMemory, Effect.Database}
use Rattle.sqlite.specs.{Effect.RefusesToRead, Listing.understood, State.{State, FailsToQuery}}
use Rattle.sqlite.specs.State.{HasCleanDisk, IsTooLate}
use Rattle.sqlite_tied.specs.Compute.{everything}
use Rattle.store_tables.specs.{Seeing.wants_memory, Tables.room_schema}
use Rattle.store_tables.proofs.Failing.{IsAsked, why_failed}
use Rattle.store_schema.specs.Opening.{FailsToRead, number_text, open_fault_of}
use Rattle.store_schema.specs.declared.fault.OpenFault.{OpenFault, TheVariants.{Db, Memory}}
use Rattle.store_schema.proofs.Texts.{asked_is, asks_value}

asked_number : IsAsked number_text 0 (understood room_schema number_text)
unfolding understood everything
asked_number = (lit≤ tt, refl, refl, refl)

refused_number : (limit : Option ℕ) (db : Database) (e : Error)
    → RefusesToRead limit asks_value (record db { schema = room_schema }) [] e → IsSome limit
unfolding everything
refused_number limit db e (inl (told, untyped)) =
    absurd (let x : true ≡ false = untyped in cc)
refused_number limit db e (inr (inl (told, inl grouped))) = absurd grouped
refused_number limit db e (inr (inl (told, inr folded))) = absurd folded.4
refused_number limit db e (inr (inr (told, limited))) = limited

never_memory : (e : Error) → wants_memory e ≡ true → open_fault_of e ≡ Db → ⊥
never_memory (SqliteFailure OutOfMemory) wants is = absurd (let e : Memory ≡ Db = is in cc)
never_memory _ wants is = absurd (let e : false ≡ true = wants in cc)

same_fault : (f : OpenFault) → ◌≡◌ {A = Result (Option ℤ) OpenFault} (Err f) (Err Db) → f ≡ Db
same_fault f e = cc

-- the query fails only where the database did
pub asks_fails : (old new : State) (e : Error) (fault : OpenFault) → fault ≡ open_fault_of e
    → (HasCleanDisk new → FailsToQuery number_text [] old new e
    ⊎ IsTooLate number_text [] old new e)
    → FailsToRead {X = Option ℤ} old new (Err fault)
asks_fails old new e fault is err now is_open has told =
    elim (why_failed number_text [] asks_value asked_number asked_is.0 asked_is.1 refused_number
    old new has is_open e (err now)) [
      | inl wants ↦ absurd (never_memory e wants (sym is ∙ same_fault fault told))
      | inr failed ↦ failed
    ]
