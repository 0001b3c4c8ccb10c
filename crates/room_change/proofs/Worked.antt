-- Worked examples of what is told of a change.
use Rattle.std.proofs.Common.{◌≡◌, ℕ, ℤ, Bool, true, false, List, [], ◌∷◌, Option, Some, None, refl}
use Rattle.std.specs.Prelude.{codes}
use Rattle.room_entry.specs.Rights.{read_data, write_data}
use Rattle.room_entry.specs.declared.{object.ObjKind.TheVariants.Folder, parties.Caller.Caller}
use Rattle.room_rows.specs.{declared.node.Node.Node, Content.Content}
use Rattle.room_machine.specs.declared.reply.Reply.TheVariants.{Made}
use Rattle.room_machine.specs.{declared.request.Request.TheVariants.MakeFolder, Effect.new_node}
use Rattle.room_machine.specs.{Site.{Site, parent_at, sites_along}, Step.{IsFree, Step, caller_in}}
use Rattle.room_change.specs.Changes.{Change, Comes, Moves, Turn, came_from, changed, grant_at}
use Rattle.room_change.{specs.Changes.{path_before, rows_down}, proofs.Requested.after_the_making}

-- `/a` is moved to `/b/c`
abbrev moves : Change
moves = Moves (codes "a" ∷ []) (codes "b" ∷ codes "c" ∷ [])

-- what is in it stood in it before, and its neighbour stays
inside : path_before moves (codes "b" ∷ codes "c" ∷ codes "d" ∷ [])
    ≡ Some (codes "a" ∷ codes "d" ∷ [])
inside = refl

beside : path_before moves (codes "b" ∷ codes "d" ∷ []) ≡ Some (codes "b" ∷ codes "d" ∷ [])
beside = refl

-- moved twice
twice : came_from (moves ∷ Moves (codes "b" ∷ []) (codes "e" ∷ []) ∷ [])
    (codes "e" ∷ codes "c" ∷ [])
    ≡ Some (codes "a" ∷ [])
twice = refl

-- ---- rows

abbrev turn : List ℕ × Bool → List ℕ × Bool → Turn
turn had has = record { had = had; has = has }

-- who may then read a folder may then read what is in it: one row
repeated : rows_down (turn ([], false) (read_data ∷ [], false))
    (turn ([], false) (read_data ∷ [], false) ∷ [])
    ≡ None ∷ []
repeated = refl

-- a row where removal alone differs
removal : rows_down (turn (read_data ∷ [], false) (read_data ∷ [], false))
    (turn (read_data ∷ [], false) (read_data ∷ [], true) ∷ [])
    ≡ Some (turn (read_data ∷ [], false) (read_data ∷ [], true)) ∷ []
removal = refl

-- a row where nothing changes below an object where something does; other rights that don't change
-- need none
unchanged : rows_down (turn ([], false) (read_data ∷ [], false))
    (turn ([], false) ([], false) ∷ turn (write_data ∷ [], true) (write_data ∷ [], true) ∷ [])
    ≡ Some (turn ([], false) ([], false)) ∷ None ∷ []
unchanged = refl

-- ---- a folder that was made

abbrev a : List (List ℕ)
a = codes "a" ∷ []

-- it came to its folder, as a new one of whoever made it
made : (room : Content) (user : Option (List ℕ)) (moment : ℤ) (after : Content)
    → Step room user moment (MakeFolder a) Made after
    → (folder : Site) × (parent_at (sites_along room a) a ≡ Some folder)
    × ((id : ℕ) × IsFree room id × ((caller : Caller) (at : List (List ℕ))
    → grant_at after caller at
    ≡ grant_at (changed room (Comes a
    (new_node id (caller_in room user) Folder folder (codes "a")))) caller at))
made room user moment after step =
    after_the_making room user moment (MakeFolder a) a Folder after refl step

-- and wasn't anywhere before
new_there : (node : Node) → path_before (Comes a node) a ≡ None
new_there node = refl
