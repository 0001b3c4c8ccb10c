-- What the row of a new root is read as.
use Rattle.std.proofs.Common.{rules, ◌≡◌, ℕ, pos, List, [], ◌∷◌, ◌++◌, codes, Some, inl, inr, refl}
use Rattle.std.proofs.{Common.{sym, subst, arith}, lemmas.Bool.Decides.nat_tests}
use Rattle.std.specs.Prelude.{IsTrue}
use Rattle.room_entry.specs.{declared.parties.Owners.Owners, Bits.all_bits, Names.is_name}
use Rattle.room_entry.specs.Utf8.{is_utf8}
use Rattle.sqlite.specs.{Effect.Database, declared.types.Value.TheVariants.{Null, Int, Text}}
use Rattle.sqlite.specs.Order.{Row, column}
use Rattle.room_ace.specs.Column.{entries_of}
use Rattle.sqlite_rules.specs.Lists.{Has}
use Rattle.store_tables.specs.{Meaning.{node_in, rows_of}, Shown.shown_node, Printed.ArePrinted}
use Rattle.store_tables.{specs.Printed.{HoldsPrinted, IsPrinted}, proofs.Printed.by_cell}
use Rattle.store_schema.specs.NewRoom.{owner_entry, rows_of_root, new_root}

abbrev pub owner_line : List ℕ
owner_line = codes "A:fd:OWNER@:rwanNxDtThHdcCoy" ++ 10 ∷ []

pub owner_line_is : entries_of owner_line ≡ Some (owner_entry ∷ [])
unfolding all_bits Rattle.room_entry.specs.Letters.mask_letters
owner_line_is = refl

pub no_line_is : entries_of [] ≡ Some []
no_line_is = refl

abbrev pub root_row : List ℕ → List ℕ → Row
root_row owner group =
    Int (pos 1) ∷ Null ∷ Null ∷ Text [] ∷ Int (pos 1) ∷ Text owner ∷ Text group ∷ Int (pos 1)
    ∷ Int (pos 1) ∷ Text owner_line ∷ Text [] ∷ Text [] ∷ Text [] ∷ []

-- its lists are printed as they are read
owner_printed : IsPrinted (owner_entry ∷ []) owner_line
unfolding all_bits Rattle.room_entry.specs.Letters.mask_letters
owner_printed = (refl, owner_line_is)

none_printed : HoldsPrinted (Text [])
none_printed = ([], refl, ([], (refl, no_line_is)))

alone : (x : Row) (P : Row → Type 0) → P x → (r : Row) → Has (x ∷ []) r → P r
alone x P here r (inl e) = subst P (sym e) here
alone x P here r (inr none) = absurd none

pub root_printed : (owner group : List ℕ) → ArePrinted (root_row owner group ∷ [])
root_printed owner group = by_cell (λ place. (r : Row) → Has (root_row owner group ∷ []) r
    → HoldsPrinted (column r place))
    (alone (root_row owner group) (λ r. HoldsPrinted (column r 9))
    (owner_line, refl, (owner_entry ∷ [], owner_printed)))
    (alone (root_row owner group) (λ r. HoldsPrinted (column r 10)) none_printed)
    (alone (root_row owner group) (λ r. HoldsPrinted (column r 11)) none_printed)
    (alone (root_row owner group) (λ r. HoldsPrinted (column r 12)) none_printed)

pub root_read : (owners : Owners) → IsTrue (is_name owners.owner) → IsTrue (is_name owners.group)
    → IsTrue (is_utf8 owners.owner) → IsTrue (is_utf8 owners.group)
    → node_in (shown_node (root_row owners.owner owners.group)) ≡ Some (new_root owners)
root_read owners one two three four = search (rules, one, three, two, four, owner_line_is)

pub room_read : (db : Database) (owners : Owners) → IsTrue (is_name owners.owner)
    → IsTrue (is_name owners.group) → IsTrue (is_utf8 owners.owner) → IsTrue (is_utf8 owners.group)
    → db.trees 0 ≡ root_row owners.owner owners.group ∷ [] → db.trees 2 ≡ [] → db.trees 3 ≡ []
    → db.trees 7 ≡ [] → rows_of db ≡ rows_of_root owners
room_read db owners one two three four nodes bodies members audits =
    grind (arith, nat_tests, root_read)
