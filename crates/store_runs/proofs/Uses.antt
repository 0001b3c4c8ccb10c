-- Worked examples of what the calls of a store promise: of lists, of opening again, of a damaged
-- room, of what making and upgrading a room leave, of the numbers of records, and of pairs.
use Rattle.std.proofs.Common.{◌≡◌, ℕ, [], Ok, Err, IsTrue, refl, sym, ap, subst, ◌∙◌, List, ◌∷◌, codes}
use Rattle.std.proofs.Common.{All, append-nil, false, filter, true, ◌++◌}
use Rattle.std.proofs.lemmas.{Bool.false≢true, List.Elements.recursion_from_All}
use Rattle.std.specs.{List.list_all, Option.is_some}
use Rattle.sqlite.specs.{Effect.Database, Held.Held, State.{State, HasCleanDisk}, Tree.Trees}
use Rattle.room_entry.specs.declared.object.{Which.Which, ObjKind.TheVariants.{Document, Folder}}
use Rattle.room_entry.specs.declared.parties.Owners.{Owners}
use Rattle.room_rows.specs.{Content.Content, Meaning.meaning, Rows.Rows}
use Rattle.room_inherit.specs.Spread.{IsOwnAncestor}
use Rattle.sqlite.specs.Order.{Row}
use Rattle.store_tables.specs.{Meaning.{IsRecord, audit_in, rows_of}, Within.LeavesOnly}
use Rattle.store_tables.specs.Counters.{AreCounted}
use Rattle.store_tables.specs.Trees as tree
use Rattle.store_schema.specs.{Making.Founds, Migrating.{Migrates, RetainsOthers}}
use Rattle.store_schema.specs.NewRoom.{rows_of_root}
use Rattle.store_admin.specs.Numbers.{HasNumbers, is_last, is_spent}
use Rattle.store_admin.specs.Operating.{ChangesPairsAlone, HasUnreadRecord}
use Rattle.store_schema.specs.declared.fault.OpenFault.{OpenFault}
use Rattle.room_dump.specs.{Fetching.IsRefusal, declared.fetching.Fetched.TheVariants.NoSuch}
use Rattle.room_dump.specs.declared.fetching.Fetched.TheVariants.{NotFolder, WrongKind}
use Rattle.room_store.specs.{Crash.{IsRoomOf, Lasts}, FromRoot.{RoomsAreFromRoot, computed_lists}}
use Rattle.room_store.specs.{FromRoot.stored_lists, Kept.{IsSound, Keeps}, Premise.StorePremise}
use Rattle.room_store.specs.Opens.{CrashLeavesARoom, Creates, Opens, RoomsCanBeOpened}
use Rattle.room_store.specs.{Ran.{Looked, Ran}, Tests.IsTested}
use Rattle.room_store.specs.declared.verifying.Tested.{Tested}
use Rattle.store_transaction.specs.declared.fault.StoreFault.TheVariants.{Damaged}

-- ---- a sound room

module _ (law : RoomsAreFromRoot) (room : Content) (it : Database) (is : IsRoomOf room it) where
  no_row_is_unread : (rows_of it).unreadable ≡ []
  no_row_is_unread = (law room it is).all_read

  nothing_is_above_itself : (id : ℕ) → IsOwnAncestor (rows_of it).read id → ⊥
  nothing_is_above_itself id = (law room it is).no_loop id

  lists_are_computed : (which : Which)
      → stored_lists (rows_of it).read which ≡ computed_lists room which
  lists_are_computed which = (law room it is).lists which

-- ---- it is found again

module _ {S : Type 0} (shown : Held S → State) (old new : Held S)
    (opens : Opens (shown old) (shown new) (Err OpenFault.NotRooms))
    (clean : HasCleanDisk (shown new)) where
  nobody_finds_none : RoomsCanBeOpened shown → (room : Content) → IsRoomOf room (shown old).now → ⊥
  nobody_finds_none law room is =
      law room (shown old).now is old new (Err OpenFault.NotRooms) refl opens clean

-- nor in what a crash left, which is that of some database
module _ {S : Type 0} (shown : Held S → State) (before after : State)
    (law : CrashLeavesARoom shown before after) where
  nobody_finds_none_left : HasCleanDisk after → IsSound before → IsTrue before.is_open
      → Lasts before → (db : Trees) → after.may_leave db
      → (it : Database) × (db ≡ it.trees) × ((old new : Held S) → (shown old).now ≡ it
      → Opens (shown old) (shown new) (Err OpenFault.NotRooms) → HasCleanDisk (shown new) → ⊥)
  nobody_finds_none_left fresh sound is_open lasts db left =
      let it = law fresh sound is_open lasts db left in (
        it.0,
        it.2,
        λ old new found opens clean. it.1 old new (Err OpenFault.NotRooms) found opens clean,
      )

-- ---- a damaged room

module _ {X : Type 0} (old new : State) (premise : StorePremise old new)
    (is_open : IsTrue new.is_open) where
  a_change_blames_rows : (Blames : Rows → Type 0) (Becomes : Rows → X → Rows → Type 0)
      → Ran old new (Err Damaged) Blames Becomes → Blames (rows_of old.now)
  a_change_blames_rows Blames Becomes ran = ran.damaged premise is_open refl

  a_look_blames_rows : (Blames : Database → Type 0) (Answers : Database → X → Type 0)
      → Looked old new (Err Damaged) Blames Answers → Blames old.now
  a_look_blames_rows Blames Answers looked = looked.damaged premise is_open refl

-- ---- a room that is made or upgraded

module _ (old new : State) (clean : HasCleanDisk new) where
  a_new_room_outlasts_a_crash : (owners : Owners) → Founds owners old new (Ok tt)
      → LeavesOnly new new.now
  a_new_room_outlasts_a_crash owners founds = founds.lasts clean

  so_does_an_upgrade : Migrates old new (Ok tt) → LeavesOnly new new.now
  so_does_an_upgrade migrates = migrates.lasts clean

  an_upgrade_leaves_it_open : Migrates old new (Ok tt) → IsTrue old.is_open × IsTrue new.is_open
  an_upgrade_leaves_it_open migrates = migrates.answers clean

  a_new_room_is_sound : (owners : Owners) → Creates owners old new (Ok tt) → IsSound new
  a_new_room_is_sound owners creates = (creates.opens clean).0

  it_has_its_root_alone : (owners : Owners) → Creates owners old new (Ok tt)
      → Keeps new (meaning (rows_of_root owners).read)
  it_has_its_root_alone owners creates = (creates.opens clean).1

-- an upgrade that adds no record leaves the counter, and one that it adds can be read
module _ (db next : Trees) (kept : RetainsOthers db next) where
  without_a_record_the_counter_stays : kept.more ≡ []
      → (next tree.audits ≡ db tree.audits) × (next tree.counters ≡ db tree.counters)
  without_a_record_the_counter_stays is = (
    kept.audits ∙ ap (λ (rows : List Row). db tree.audits ++ rows) is
        ∙ append-nil (db tree.audits),
    subst (λ (rows : List Row). AreCounted (db tree.counters) (db tree.audits) rows
        (next tree.counters)) is kept.counters,
  )

  a_record_can_be_read : (row : Row) → kept.more ≡ row ∷ [] → IsRecord row
  a_record_can_be_read row is =
      (recursion_from_All IsRecord (row ∷ [])
      (subst (λ (rows : List Row). All IsRecord rows) is kept.records)).0

-- ---- the numbers of records and objects

module _ (db : Database) (tested : Tested) (is : IsTested db tested) where
  a_number_that_is_told_is_left : tested.has_numbers ≡ true → HasNumbers db
  a_number_that_is_told_is_left = is.left

  where_none_is_told_none_is_left : tested.has_numbers ≡ false → HasNumbers db → ⊥
  where_none_is_told_none_is_left none has = false≢true (sym none ∙ is.spent has)

-- ---- pairs that are replaced

module _ (old new : Database) (alone : ChangesPairsAlone old new) where
  a_number_stays_left : HasNumbers old → HasNumbers new
  a_number_stays_left has = record {
    records = subst (λ (rows : List Row). filter is_spent rows ≡ []) (sym alone.counters)
        has.records;
    objects = subst (λ (rows : List Row). filter is_last rows ≡ []) (sym alone.nodes) has.objects;
  }

  a_record_stays_unread : HasUnreadRecord old → HasUnreadRecord new
  a_record_stays_unread =
      subst (λ (rows : List Row). list_all (λ r. is_some (audit_in r)) rows ≡ false)
      (sym alone.audits)

-- ---- why `get` finds no document

abbrev path : List (List ℕ)
path = codes "memo" ∷ codes "old" ∷ []

below_a_document_it_names_that : (at : List (List ℕ)) → IsRefusal path Document 1 (NotFolder at)
    → at ≡ codes "memo" ∷ []
below_a_document_it_names_that at is = is.2

a_missing_name_ends_the_path : (at : List (List ℕ)) → IsRefusal path Folder 1 (NoSuch at)
    → at ≡ path
a_missing_name_ends_the_path at is = is.2

a_folder_is_named_whole : (at : List (List ℕ)) → IsRefusal path Folder 0 (WrongKind at)
    → at ≡ path
a_folder_is_named_whole at is = is.2
