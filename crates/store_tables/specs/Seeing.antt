-- What rows are read as, and what a call answers for them.
use Rattle.std.specs.List.{filter_map}
use Rattle.std.specs.Prelude.{◌≡◌, ℕ, option_map, List, [], ◌∷◌, ◌++◌, Option, Some, None, Result}
use Rattle.std.specs.Prelude.{Ok, Err, Bool, true, false, ◌==◌, if◌then◌else◌}
use Rattle.sqlite.specs.declared.error.Error.{Error}
use Rattle.sqlite.specs.declared.error.Error.TheVariants.{SqliteFailure}
use Rattle.sqlite.specs.declared.error.ErrorCode.TheVariants.{OutOfMemory}
use Rattle.sqlite.specs.declared.types.Value.{Value}
use Rattle.sqlite.specs.Order.{Row, column}
use Rattle.room_rows.specs.declared.keep.KeepFault.{KeepFault}
use Rattle.room_rows.specs.declared.keep.KeepFault.TheVariants.{Memory, Store, NoRoot, Damaged}
use Rattle.room_rows.specs.declared.node.Node.{Node}
use Rattle.room_rows.specs.Keep.{HasCause}
use Rattle.store_tables.specs.declared.seen.Seen.{Seen}
use Rattle.store_tables.specs.declared.seen.Seen.TheVariants.{Foreign, Unread, Found}
use Rattle.store_tables.specs.Meaning.{bytes_in, name_in, number_in, node_in}

-- ---- a row

abbrev pub unread_as : {X : Type 0} → Option ℕ → Seen X
unread_as None = Foreign
unread_as (Some id) = Unread id

-- by what it is read as, and its number
abbrev pub seen_as : {X : Type 0} → Option X → Option ℕ → Seen X
seen_as (Some x) number = Found x
seen_as None number = unread_as number

-- of a row whose number comes first
abbrev pub seen_in : {X : Type 0} → (Row → Option X) → Row → Seen X
seen_in f r = seen_as (f r) (number_in (column r 0))

-- ---- several rows

-- the object in the rows that were found, which have to be one at most
abbrev pub seen_only : List Row → Seen (Option Node)
seen_only [] = Found None
seen_only (r ∷ []) = seen_as (option_map Some (node_in r)) (number_in (column r 0))
seen_only (r ∷ other ∷ more) = Foreign

abbrev pub seen_then : {X : Type 0} → Seen X → (List X → Seen (List X)) → List X → Seen (List X)
seen_then Foreign more before = Foreign
seen_then (Unread id) more before = Unread id
seen_then (Found x) more before = more (before ++ x ∷ [])

-- all rows, or the first that can't be read
abbrev pub seen_behind : {X : Type 0} → (Row → Option X) → List X → List Row → Seen (List X)
seen_behind f before [] = Found before
seen_behind f before (r ∷ rows) = seen_then (seen_in f r) (λ more. seen_behind f more rows) before

abbrev pub bytes_as : Value → Seen (Option (List ℕ))
bytes_as value = seen_as (option_map Some (bytes_in value)) None

-- the bytes in the row that was found, if there is one
abbrev pub bytes_seen : List Row → Seen (Option (List ℕ))
bytes_seen [] = Found None
bytes_seen (r ∷ []) = bytes_as (column r 0)
bytes_seen (r ∷ other ∷ more) = Foreign

-- the numbers in the first column
abbrev pub numbers_seen : List Row → List ℕ
numbers_seen rows = filter_map (λ r. number_in (column r 0)) rows

-- the names in the first column, without values that aren't names
abbrev pub names_seen : List Row → List (List ℕ)
names_seen rows = filter_map (λ r. name_in (column r 0)) rows

-- ---- answers

-- memory for the database's own work ran out
abbrev pub wants_memory : Error → Bool
wants_memory (SqliteFailure OutOfMemory) = true
wants_memory other = false

-- a keeper's fault for an error of the database
abbrev pub fault_for : Error → KeepFault
fault_for why = if wants_memory why then Memory else Store

-- the answer of a statement that has to change so many rows
abbrev pub all_changed : ℕ → Result ℕ Error → Result (Unit {0}) KeepFault
all_changed wanted (Ok count) = if count == wanted then Ok tt else Err Store
all_changed wanted (Err why) = Err (fault_for why)

abbrev pub result_of_seen : {X : Type 0} → Seen X → Result X KeepFault
result_of_seen Foreign = Err Store
result_of_seen (Unread id) = Err (Damaged id)
result_of_seen (Found x) = Ok x

abbrev pub root_found : Option Node → Result Node KeepFault
root_found None = Err NoRoot
root_found (Some node) = Ok node

-- where the root is asked for
abbrev pub top_of : Seen (Option Node) → Result Node KeepFault
top_of Foreign = Err Store
top_of (Unread id) = Err (Damaged id)
top_of (Found found) = root_found found

-- a failure of the keeper itself is counted, and nothing else is
abbrev pub counted_by : {X : Type 0} → Result X KeepFault → ℕ → ℕ → Type 0
counted_by (Ok x) before after = after ≡ before
counted_by (Err fault) before after = HasCause before after (λ id. Unit {0}) fault

-- no row is blamed
abbrev pub Nowhere : ℕ → Type 0
Nowhere row = ⊥
