-- What a change of `nodes` leaves of the list columns: what they held, or printed entries.
use Rattle.std.proofs.Common.{rules, ◌≡◌, ℕ, ℤ, ◌+◌, List, [], ◌∷◌, drop, find, Bool, true, false}
use Rattle.std.proofs.Common.{map, Some, inl, inr, ◌⊎◌, refl, sym, ap, subst, ◌∙◌, if◌then◌else◌}
use Rattle.std.proofs.{Common.arith, lemmas.Bool.{cases_Bool, cond-true, Decides.nat_tests}}
use Rattle.std.{proofs.lemmas.Grind.get_or_after_one, specs.{Prelude.◌==◌, Ordering.match_ordering}}
use Rattle.std.specs.declared.cmp.Ordering.{Ordering}
use Rattle.sqlite.specs.{declared.types.Value.{Value, TheVariants.{Null, Text}}, Cast.cast}
use Rattle.sqlite.specs.{Order.{Row, column, value_cmp}, Tree.{rowid, has_rowid, without_rowid}}
use Rattle.sqlite.specs.{Tree.put_row, Effect.Database}
use Rattle.sqlite_rules.specs.{Lists.Has, Edit.id_in, Cast.cast_all}
use Rattle.sqlite_rules.proofs.{ListLemmas.{has_filtered, has_found}, ProbeLemmas.has_mapped}
use Rattle.sqlite_rules.proofs.TableLemmas.{int_is}
use Rattle.sqlite_schema.specs.{Rules.{are_typed, is_of}, declared.schema.Column.Column}
use Rattle.sqlite_sql.specs.Ops.{is_null}
use Rattle.room_entry.specs.declared.object.Which.{Which, TheVariants.{Dacl, Sacl}}
use Rattle.store_tables.specs.Printed.{ArePrinted, HeldBefore, HoldsPrinted, IsCanonical}
use Rattle.store_tables.specs.{Printed.{KeepsPrinted, list_cells}, Shown.{IsRoom, is_in_range}}
use Rattle.store_tables.specs.Shown.{recast_in, sets_held, sets_inh, sets_owners, sets_place}
use Rattle.store_tables.specs.{Shown.stored_node, Tables.{column_of, nodes}}
use Rattle.store_tables.proofs.{Rowids.{of_each, rowid_is}, Typed.row_typed}
use Rattle.sqlite.specs.Kind.TheVariants as kind
use Rattle.store_tables.specs.NodeCells as cell

-- ---- calls one after the other

-- rows that are as they were
pub keeps_itself : (rows : List Row) → KeepsPrinted rows rows
keeps_itself rows place list r there = inr (r, there, refl, refl)

pub keeps_same : (old new : List Row) → new ≡ old → KeepsPrinted old new
keeps_same old new same = subst (KeepsPrinted old) (sym same) (keeps_itself old)

pub keeps_on : (a b c : List Row) → KeepsPrinted a b → KeepsPrinted b c → KeepsPrinted a c
keeps_on a b c p q place list r there = elim (q place list r there) [
  | inl printed ↦ inl printed
  | inr was ↦ elim (p place list was.0 was.1) [
    | inl printed ↦ inl (subst HoldsPrinted was.3 printed)
    | inr first ↦ inr (first.0, first.1, first.2 ∙ was.2, first.3 ∙ was.3)
  ]
]

-- what is printed stays so
pub stays_printed : (old new : List Row) → KeepsPrinted old new → ArePrinted old → ArePrinted new
stays_printed old new keeps are place list r there = elim (keeps place list r there) [
  | inl printed ↦ printed
  | inr was ↦ subst HoldsPrinted was.3 (are place list was.0 was.1)
]

-- ---- a row of a room holds texts in its list columns

abbrev pub IsText : Value → Type 0
IsText v = cast kind.Text v ≡ v

text_of : (v : Value) → is_of kind.Text v ≡ true → IsText v
text_of v e = grind (arith, nat_tests)

next_typed : (at : ℕ) (cs : List Column) (vs : Row) → are_typed (Some 0) at cs vs ≡ true
    → are_typed (Some 0) (at + 1) (drop 1 cs) (drop 1 vs) ≡ true
next_typed at cs vs h = grind (arith, nat_tests)

typed_alone : (b : Bool) (v : Value) → b ≡ false
    → (if b then is_null v else is_of kind.Text v) ≡ true → is_of kind.Text v ≡ true
typed_alone true v e h = absurd (cc)
typed_alone false v e h = h

head_typed : (index : ℕ) (name : List ℕ) (cs : List Column) (vs : Row) → (0 == index) ≡ false
    → are_typed (Some 0) index (column_of name kind.Text true ∷ cs) vs ≡ true → IsText (column vs 0)
head_typed index name cs [] other h = refl
head_typed index name cs (v ∷ vs) other h = grind (arith, nat_tests, text_of, typed_alone)

pub record HasTexts (r : Row) : Type 0 where
  pub dacl_own : IsText (column r cell.dacl_own)
  pub dacl_inh : IsText (column r cell.dacl_inh)
  pub sacl_own : IsText (column r cell.sacl_own)
  pub sacl_inh : IsText (column r cell.sacl_inh)

-- the cell of a row that stands first after so many
cell_at : (r : Row) (n : ℕ) → column (drop 1 r) n ≡ column r (1 + n)
cell_at r n = get_or_after_one r n Null

has_texts : (r : Row) → are_typed (Some 0) 0 nodes.columns (drop 1 r) ≡ true → HasTexts r
has_texts r h0 =
    let r1 = drop 1 r in
    let r2 = drop 1 r1 in
    let r3 = drop 1 r2 in
    let r4 = drop 1 r3 in
    let r5 = drop 1 r4 in
    let r6 = drop 1 r5 in
    let r7 = drop 1 r6 in
    let r8 = drop 1 r7 in
    let r9 = drop 1 r8 in
    let r10 = drop 1 r9 in
    let r11 = drop 1 r10 in
    let r12 = drop 1 r11 in
    let c0 = nodes.columns in
    let c1 = drop 1 c0 in
    let c2 = drop 1 c1 in
    let c3 = drop 1 c2 in
    let c4 = drop 1 c3 in
    let c5 = drop 1 c4 in
    let c6 = drop 1 c5 in
    let c7 = drop 1 c6 in
    let c8 = drop 1 c7 in
    let c9 = drop 1 c8 in
    let c10 = drop 1 c9 in
    let c11 = drop 1 c10 in
    let h1 = next_typed 0 c0 r1 h0 in
    let h2 = next_typed 1 c1 r2 h1 in
    let h3 = next_typed 2 c2 r3 h2 in
    let h4 = next_typed 3 c3 r4 h3 in
    let h5 = next_typed 4 c4 r5 h4 in
    let h6 = next_typed 5 c5 r6 h5 in
    let h7 = next_typed 6 c6 r7 h6 in
    let h8 = next_typed 7 c7 r8 h7 in
    let h9 = next_typed 8 c8 r9 h8 in
    let h10 = next_typed 9 c9 r10 h9 in
    let h11 = next_typed 10 c10 r11 h10 in
    let at9 : column r9 0 ≡ column r 9 = cell_at r8 0 ∙ cell_at r7 1 ∙ cell_at r6 2 ∙ cell_at r5 3
    ∙ cell_at r4 4 ∙ cell_at r3 5 ∙ cell_at r2 6 ∙ cell_at r1 7 ∙ cell_at r 8 in
    let at10 : column r10 0 ≡ column r 10 = search (cell_at) in
    let at11 : column r11 0 ≡ column r 11 = search (cell_at) in
    let at12 : column r12 0 ≡ column r 12 = search (cell_at) in
    record {
      dacl_own = search (rules, at9, head_typed, r9, h8);
      dacl_inh = search (rules, at10, head_typed, r10, h9);
      sacl_own = search (rules, at11, head_typed, r11, h10);
      sacl_inh = search (rules, at12, head_typed, r12, h11);
    }

room_texts : (db : Database) → IsRoom db → (r : Row) → Has (db.trees 0) r → HasTexts r
room_texts db room r there = has_texts r (row_typed db room r there)

-- ---- a row that is written

-- which cell, of those that hold lists
pub by_cell : (P : ℕ → Type 0) → P cell.dacl_own → P cell.dacl_inh → P cell.sacl_own → P cell.sacl_inh
    → (place : ℕ) → Has list_cells place → P place
by_cell P a b c d place given = grind (arith, nat_tests)

-- a cell of a row that is written over another one: printed entries, or what stood there
abbrev pub WritesCell : Row → Row → ℕ → Type 0
WritesCell before r place = HoldsPrinted (column r place)
    ⊎ (column before place ≡ column r place)

-- what is written over a row of a room, as the columns make it
abbrev pub WritesPrinted : (Row → Row) → Type 0
WritesPrinted change = (id : ℤ) (r : Row) → HasTexts r → (place : ℕ) → Has list_cells place
    → WritesCell r (stored_node id (cast_all (drop 1 nodes.columns) (change r))) place

pub printed_text : (text : List ℕ) → IsCanonical text → HoldsPrinted (Text text)
printed_text text printed = (text, refl, printed)

pub inheriting_printed : (which : Which) (text : List ℕ) → IsCanonical text
    → WritesPrinted (sets_inh which text)
inheriting_printed Dacl text printed id r texts = grind (arith, nat_tests, by_cell, printed_text)
inheriting_printed Sacl text printed id r texts = grind (arith, nat_tests, by_cell, printed_text)

pub holding_printed : (which : Which) (flags : ℤ) (own inh : List ℕ) → IsCanonical own
    → IsCanonical inh → WritesPrinted (sets_held which flags own inh)
holding_printed Dacl flags own inh first second id r texts =
    grind (arith, nat_tests, by_cell, printed_text)
holding_printed Sacl flags own inh first second id r texts =
    grind (arith, nat_tests, by_cell, printed_text)

pub owning_printed : (owner group : List ℕ) → WritesPrinted (sets_owners owner group)
owning_printed owner group id r texts = grind (arith, nat_tests, by_cell)

pub lying_printed : (parent : ℤ) (name : List ℕ) → WritesPrinted (sets_place parent name)
lying_printed parent name id r texts = grind (arith, nat_tests, by_cell)

-- ---- the rows of a table

has_put : (x : Row) (rows : List Row) (r : Row) → Has (put_row x rows) r → (r ≡ x) ⊎ Has rows r
has_put x [] r (inl e) = inl e
has_put x [] r (inr none) = absurd none
has_put x (y ∷ rows) r there =
    by (value_cmp (rowid y) (rowid x)) there (λ later. has_put x rows r later)
  where
    by : (o : Ordering) → Has (match_ordering o (y ∷ put_row x rows) (x ∷ rows) (x ∷ y ∷ rows)) r
        → (Has (put_row x rows) r → (r ≡ x) ⊎ Has rows r) → (r ≡ x) ⊎ Has (y ∷ rows) r
    by o given more = grind (arith, nat_tests)

-- where rows are taken out
pub keeps_fewer : (id : ℤ) (rows : List Row) → KeepsPrinted rows (without_rowid id rows)
keeps_fewer id rows place list r there = grind (arith, nat_tests, has_filtered, keeps_itself)

-- where one is put in
pub keeps_more : (x : Row) (old rows : List Row) → KeepsPrinted old rows
    → ((place : ℕ) → Has list_cells place
    → HoldsPrinted (column x place) ⊎ HeldBefore old place x)
    → KeepsPrinted old (put_row x rows)
keeps_more x old rows keeps new place list r there = elim (has_put x rows r there) [
  | inl e ↦ search (rules, e, new, list)
  | inr before ↦ keeps place list r before
]

-- where one is written over
pub keeps_over : (db : Database) → IsRoom db → (id : ℤ) (change : Row → Row)
    → WritesPrinted change → (r : Row) → find (has_rowid id) (db.trees 0) ≡ Some r
    → KeepsPrinted (db.trees 0)
    (put_row (stored_node id (cast_all (drop 1 nodes.columns) (change r)))
    (without_rowid id (db.trees 0)))
keeps_over db room id change writes r found =
    let there = has_found (has_rowid id) (db.trees 0) r found in
    let is = rowid_is id r (of_each _ (db.trees 0) room.nodes.1 r there.0) there.1 in
    keeps_more (stored_node id (cast_all (drop 1 nodes.columns) (change r))) (db.trees 0)
    (without_rowid id (db.trees 0)) (keeps_fewer id (db.trees 0))
    (λ place list. elim (writes id r (room_texts db room r there.0) place list) [
      | inl printed ↦ inl printed
      | inr same ↦ inr (r, there.0, is, same)
    ])

-- where those of a range are written over
pub keeps_each : (db : Database) → IsRoom db → (change : Row → Row) → WritesPrinted change
    → (first last : ℤ) → KeepsPrinted (db.trees 0) (map (recast_in change first last) (db.trees 0))
keeps_each db room change writes first last place list x there =
    let from = has_mapped (recast_in change first last) (db.trees 0) x there in
    let r = from.0 in
    let written = rowid r ∷ Null ∷ cast_all (drop 1 nodes.columns) (change r) in
    elim (cases_Bool (is_in_range first last r)) [
      | inl within ↦
          let number = int_is (rowid r) (of_each _ (db.trees 0) room.nodes.1 r from.1) in
          let is = from.2 ∙ cond-true (is_in_range first last r) written r within
          ∙ ap (λ v. v ∷ Null ∷ cast_all (drop 1 nodes.columns) (change r)) number in
          elim (writes (id_in (rowid r)) r (room_texts db room r from.1) place list) [
            | inl printed ↦ search (rules, place, is, printed)
            | inr same ↦ grind (arith, nat_tests)
          ]
      | inr isnt ↦ grind (arith, nat_tests)
    ]
