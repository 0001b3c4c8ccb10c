-- What a test says of a connection that a fault may have shut.
use Rattle.std.proofs.Common.{◌≡◌, ◌⊎◌, ℕ, Bool, true, false, List, [], Result, Ok, IfOk, IsTrue}
use Rattle.std.proofs.Common.{inl, inr, refl, sym, ap, subst, ◌∙◌, true≢false, arith}
use Rattle.sqlite.specs.{Order.Row, declared.error.Error.Error, State.{State, HasCleanDisk}}
use Rattle.sqlite.specs.State.{HasCause, IsNoStatement, IsNotRun, IsRolledBack, IsUnchanged}
use Rattle.sqlite.specs.State.{store_error}
use Rattle.sqlite_trees.specs.{View.doubt, declared.error.StoreError.StoreError}
use Rattle.sqlite_trees.specs.declared.error.StoreError.TheVariants.{OutOfMemory, Io, Corrupt, Full}
use Rattle.sqlite_trees.specs.declared.error.StoreError.TheVariants.{Broken, Unstorable}
use Rattle.room_machine.specs.Desk.{Agrees}
use Rattle.room_store.specs.{Asks.{Asks, says_shut, told_by, told_if}, Kept.{IsShut, IsSound}}
use Rattle.room_store.specs.{Kept.{Keeps, Stores}, Ran.Ran}
use Rattle.store_transaction.{specs.declared.fault.StoreFault.StoreFault, proofs.Testing.same_rows}
use Rattle.store_transaction.proofs.Testing.{was}
use Rattle.room_rows.specs.{Content.Content, Rows.Rows}
use Rattle.store_tables.proofs.Within.{CommitsNothing, as_before}

-- what holds of a clean disk holds of any, where a disk that isn't clean shows as shut
clean_or_not : (clean is_open : Bool) → (clean ≡ false → is_open ≡ false)
    → (doubt clean ≡ 0 → is_open ≡ false) → is_open ≡ false
unfolding doubt
clean_or_not true is_open dirty known = known refl
clean_or_not false is_open dirty known = dirty refl

-- what was shut isn't opened
stays_shut : (before after : Bool) → (IsTrue after → IsTrue before) → before ≡ false
    → after ≡ false
stays_shut before true opens is = absurd (true≢false (sym (opens refl) ∙ is))
stays_shut before false opens is = refl

other_error : (why other : Error) → why ≡ other → says_shut other ≡ false
    → says_shut why ≡ true → ⊥
other_error why other is else_is says = true≢false (sym says ∙ (ap says_shut is ∙ else_is))

-- of the causes of a failure only one is told as that of a shut connection
shut_before : (old new : State) (why : Error) (cause : StoreError) → why ≡ store_error cause
    → says_shut why ≡ true → HasCause old new ⊥ cause → old.is_open ≡ false
shut_before old new why OutOfMemory is says has = absurd (other_error why _ is refl says)
shut_before old new why Io is says has = absurd (other_error why _ is refl says)
shut_before old new why Corrupt is says has = absurd (other_error why _ is refl says)
shut_before old new why Full is says has = absurd (other_error why _ is refl says)
shut_before old new why Broken is says has = has
shut_before old new why Unstorable is says has = absurd (other_error why _ is refl says)

-- a text that is no statement is refused otherwise
no_statement : (s : State) (sql : List ℕ) (params : Row) (why : Error)
    → IsNoStatement s sql params why → says_shut why ≡ true → ⊥
no_statement s sql params why (inl h) says = other_error why _ h.2 refl says
no_statement s sql params why (inr (c, is, inl h)) says = other_error why _ h.1 refl says
no_statement s sql params why (inr (c, is, inr (inl h))) says = other_error why _ h.1 refl says
no_statement s sql params why (inr (c, is, inr (inr h))) says = other_error why _ h.1 refl says

module _ (old new : State) where
  refused : (sql : List ℕ) (params : Row) (why : Error) → IsNotRun old new sql params why
      → says_shut why ≡ true → IsShut new
  unfolding IsNotRun
  refused sql params why (inl h) says = absurd (no_statement old sql params why h.0 says)
  refused sql params why (inr (cause, is, has, rolled, told)) says =
      stays_shut old.is_open new.is_open rolled.was_open
      (shut_before old new why cause is says has)

  -- the error of a shut connection says that it is shut
  pub is_shut : (sql : List ℕ) (why : Error) → (new.is_clean ≡ false → new.is_open ≡ false)
      → (HasCleanDisk new → (params : Row) → IsNotRun old new sql params why)
      → says_shut why ≡ true → IsShut new
  is_shut sql why dirty err says =
      clean_or_not new.is_clean new.is_open dirty (λ now. refused sql _ why (err now []) says)

  -- what an error tells is so
  pub tells_by : (sql : List ℕ) (why : Error) → (new.is_clean ≡ false → new.is_open ≡ false)
      → (HasCleanDisk new → (params : Row) → IsNotRun old new sql params why)
      → (told : Result Bool StoreFault) → told ≡ told_by why
      → IfOk told (Agrees (HasCleanDisk new) (IsShut new))
  tells_by sql why dirty err told is =
      subst (λ (r : Result Bool StoreFault). IfOk r (Agrees (HasCleanDisk new) (IsShut new)))
      (sym is) (tells_if (says_shut why) why (λ says. is_shut sql why dirty err says))
    where
      tells_if : (says : Bool) (why : Error) → (says ≡ true → IsShut new)
          → IfOk (told_if says why) (Agrees (HasCleanDisk new) (IsShut new))
      tells_if true why shut = shut refl
      tells_if false why shut = tt

  -- a connection that was shut stays so
  pub stays : (new.is_clean ≡ false → new.is_open ≡ false)
      → (HasCleanDisk new → IsTrue new.is_open → IsTrue old.is_open) → IsShut old → IsShut new
  stays dirty was_open is = grind (arith, clean_or_not, dirty, stays_shut, was_open, is)

  -- what the test leaves, and what it tells
  pub asks : (result : Result Bool StoreFault)
      → (old.in_transaction ≡ false → new.in_transaction ≡ false)
      → CommitsNothing old new
      → (IsTrue old.is_open → old.now ≡ old.committed)
      → (HasCleanDisk new → IsUnchanged old new ⊎ IsRolledBack old new)
      → IfOk result (Agrees (HasCleanDisk new) (IsShut new)) → Asks old new result
  asks result ended quiet settled left told = record {
    leaves = grind (arith, ended, quiet.clean, was, old, new, left);
    same = λ now. same_rows old new settled (left now);
    told = told;
    crash = as_before old new quiet;
  }

-- an open connection isn't shut
pub not_shut : (s : State) → IsTrue s.is_open → ¬ IsShut s
not_shut s is_open shut = true≢false (sym is_open ∙ shut)

module _ (old new : State) (result : Result Bool StoreFault) (asked : Asks old new result)
    (now : HasCleanDisk new) where
  -- what is kept is still kept
  pub asked_keeps : (room : Content) → Keeps old room → Keeps new room
  asked_keeps room keeps is_open = grind (arith, is_open, keeps)

  -- and is still sound
  pub asked_sound : IsSound old → IsSound new
  asked_sound sound is_open = grind (arith, is_open, sound)

  -- and so are the rows, sound or not
  pub asked_stored : (rows : Rows) → Stores old rows → Stores new rows
  asked_stored rows stored is_open = grind (arith, rows, is_open, stored)

-- a call of a store that was shut gives no answer
pub shut_answers : {X : Type 0} (old new : State) (x : X) (Blames : Rows → Type 0)
    (Becomes : Rows → X → Rows → Type 0) → Ran old new (Ok x) Blames Becomes → IsShut old
    → HasCleanDisk new → ⊥
shut_answers old new x Blames Becomes ran shut now = not_shut old (ran.answers now).0 shut
