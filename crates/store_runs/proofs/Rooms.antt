-- What the laws over runs ask of a content holds of the room in the tables of a store.
use Rattle.std.proofs.Common.{refl, subst}
use Rattle.sqlite.specs.{Effect.Database, State.State}
use Rattle.room_rows.specs.{Content.{Content, IsContent}, Meaning.kept_node}
use Rattle.room_rows.proofs.InPlace.{keeps_places, rises-with_each}
use Rattle.room_inherit.specs.Laws.{SoundIsContent}
use Rattle.room_laws.specs.Tidy.{ContentIsTidy, IsNumbered, IsTidy}
use Rattle.store_tables.specs.{Meaning.rows_of, RoomRows.room_rows, Shown.tables_of}
use Rattle.room_store.specs.{Crash.IsRoomOf, Kept.{IsSound, Keeps}}

pub numbered : (room : Content) (it : Database) → IsRoomOf room it → IsNumbered room
numbered room it is =
    let rows = (rows_of it).read in
    subst (λ (c : Content). IsNumbered c) is.means
    (rises-with_each rows (kept_node rows)
    (keeps_places rows (kept_node rows) (λ n. record { number = refl; parent = refl; name = refl }))
    (room_rows it is.tables).numbers)

pub tidy : ContentIsTidy → SoundIsContent → (room : Content) (it : Database) → IsRoomOf room it
    → IsTidy room
tidy tidies contents room it is =
    tidies room
    (subst (λ (c : Content). IsContent c) is.means
    (contents (rows_of it) (room_rows it is.tables) is.sound))

pub sound : (room : Content) (s : State) → IsRoomOf room s.now → IsSound s
sound room s is = λ is_open. (tables_of is.tables, is.sound, is.version)

pub keeps : (room : Content) (s : State) → IsRoomOf room s.now → Keeps s room
keeps room s is = λ is_open. is.means
