-- Worked examples of what a store promises where a room is opened, made or tested, and where some
-- pairs are changed.
use Rattle.std.proofs.Common.{◌≡◌, ◌∙◌, ℕ, List, [], ◌∷◌, Ok, Err, IsTrue, codes, filter, refl}
use Rattle.std.proofs.Common.{◌-◌, ap, sym, length}
use Rattle.sqlite.specs.{Effect.Database, Order.Row, State.{State, HasCleanDisk}}
use Rattle.room_entry.specs.declared.parties.Owners.{Owners}
use Rattle.room_rows.specs.{Content.set_of, Meaning.meaning, Rows.Rows}
use Rattle.store_tables.specs.{Failing.HasRisen, Paired.Pair, Tables.room_schema}
use Rattle.store_tables.specs.Trees as tree
use Rattle.store_schema.specs.{NewRoom.rows_of_root, declared.fault.OpenFault.TheVariants.Db}
use Rattle.store_admin.specs.{Numbers.{HasNumbers, is_last}, Changing.{ChangesMembers, changed, staying}}
use Rattle.store_admin.specs.declared.changing.Changed.{Changed}
use Rattle.room_store.specs.{Kept.{IsSound, Keeps}, Opens.{Creates, Opens}, Tests.IsTested}
use Rattle.room_store.specs.declared.verifying.Tested.{Tested}

-- ---- a room is opened, or made

module _ (old new : State) where
  a_file_with_other_tables_is_not_opened : (old.now.schema ≡ room_schema → ⊥)
      → Opens old new (Ok tt) → ⊥
  a_file_with_other_tables_is_not_opened other opens = other opens.tables

  a_room_is_called_damaged_only_by_its_disk : Opens old new (Err Db) → HasCleanDisk new
      → IsTrue new.is_open → old.now.schema ≡ room_schema → HasRisen old.faults new.faults
  a_room_is_called_damaged_only_by_its_disk opens now is_open has = opens.fails now is_open has refl

  a_new_room_is_sound : (owners : Owners) → Creates owners old new (Ok tt) → HasCleanDisk new
      → IsSound new
  a_new_room_is_sound owners creates now = (creates.opens now).0

  a_new_room_has_its_root_alone : (owners : Owners) → Creates owners old new (Ok tt)
      → HasCleanDisk new → Keeps new (meaning (rows_of_root owners).read)
  a_new_room_has_its_root_alone owners creates now = (creates.opens now).1

-- ---- a room is tested

module _ (db : Database) (tested : Tested) (is : IsTested db tested) where
  an_object_of_the_largest_number_is_told : (r : Row)
      → filter is_last (db.trees tree.nodes) ≡ r ∷ [] → IsTrue tested.has_numbers → ⊥
  an_object_of_the_largest_number_is_told r last says =
      let none = sym last ∙ (is.left says).objects in cc

  where_numbers_are_left_nothing_is_told : HasNumbers db → IsTrue tested.has_numbers
  where_numbers_are_left_nothing_is_told has = is.spent has

-- ---- bob leaves sales, and carol joins ops

abbrev alice : Pair
alice = (codes "sales", codes "alice")

abbrev bob : Pair
bob = (codes "sales", codes "bob")

abbrev carol : Pair
carol = (codes "ops", codes "carol")

abbrev before : List Pair
before = alice ∷ bob ∷ []

alice_stays : changed (carol ∷ []) (bob ∷ []) before ≡ alice ∷ carol ∷ []
alice_stays = refl

who_leaves_and_joins_is_there : changed (bob ∷ []) (bob ∷ []) before ≡ alice ∷ bob ∷ []
who_leaves_and_joins_is_there = refl

who_is_not_there_leaves_all_as_it_is : changed [] (carol ∷ []) before ≡ before
who_is_not_there_leaves_all_as_it_is = refl

module _ (old new : Rows) (answer : Changed) (there : old.read.members ≡ before)
    (did : ChangesMembers (carol ∷ []) (bob ∷ []) old answer new) where
  two_are_there : new.read.members ≡ carol ∷ alice ∷ []
  two_are_there =
      ap (λ (rows : Rows). rows.read.members) did.replaces
      ∙ ap (λ l. set_of (changed (carol ∷ []) (bob ∷ []) l)) there

  they_are_answered : answer.pairs.items ≡ carol ∷ alice ∷ []
  they_are_answered = did.pairs ∙ two_are_there

  one_left : answer.left ≡ 1
  one_left = did.left ∙ ap (λ l. length l - length (staying (bob ∷ []) l)) there

  one_joined : answer.joined ≡ 1
  one_joined =
      did.joined
      ∙ ap (λ l. length l - length (staying (bob ∷ []) old.read.members)) two_are_there
      ∙ ap (λ l. 2 - length (staying (bob ∷ []) l)) there
