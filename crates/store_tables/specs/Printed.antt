-- The texts of lists, as they are written.
use Rattle.std.specs.Prelude.{◌≡◌, ◌⊎◌, ℕ, List, [], ◌∷◌, Some}
use Rattle.room_entry.specs.Ace.{Ace}
use Rattle.room_ace.specs.Column.{entries_of}
use Rattle.room_ace.specs.Lists.{entry_lines}
use Rattle.sqlite.specs.declared.types.Value.{Value}
use Rattle.sqlite.specs.declared.types.Value.TheVariants.{Text}
use Rattle.sqlite.specs.Order.{Row, column}
use Rattle.sqlite.specs.Tree.{rowid}
use Rattle.sqlite_rules.specs.Lists.{Has}
use Rattle.store_tables.specs.NodeCells as cell

-- The text is the printed form of these entries, a line for each, and is read back as them.
abbrev pub IsPrinted : List Ace → List ℕ → Type 0
IsPrinted entries text = (text ≡ entry_lines entries) × (entries_of text ≡ Some entries)

-- the printed form of some entries
abbrev pub IsCanonical : List ℕ → Type 0
IsCanonical text = (entries : List Ace) × IsPrinted entries text

abbrev pub HoldsPrinted : Value → Type 0
HoldsPrinted value = (text : List ℕ) × (value ≡ Text text) × IsCanonical text

abbrev pub list_cells : List ℕ
list_cells = cell.dacl_own ∷ cell.dacl_inh ∷ cell.sacl_own ∷ cell.sacl_inh ∷ []

-- each list column of each row holds printed entries
abbrev pub ArePrinted : List Row → Type 0
ArePrinted rows = (place : ℕ) → Has list_cells place → (r : Row) → Has rows r
    → HoldsPrinted (column r place)

-- a row of the same number held the same in this column
abbrev pub HeldBefore : List Row → ℕ → Row → Type 0
HeldBefore old place r = (before : Row) × Has old before × (rowid before ≡ rowid r)
    × (column before place ≡ column r place)

-- Each list column of each row holds printed entries, or what it held in the row of this number.
abbrev pub KeepsPrinted : List Row → List Row → Type 0
KeepsPrinted old new = (place : ℕ) → Has list_cells place → (r : Row) → Has new r
    → HoldsPrinted (column r place) ⊎ HeldBefore old place r
