-- What reading the rows of one parent and one name answers.
use Rattle.std.proofs.Common.{rules, ◌≡◌, ◌<◌, ℕ, ℤ, pos, List, [], ◌∷◌, map, filter, find, None}
use Rattle.std.proofs.Common.{Some, Option, Result, refl, sym, ap, subst, ◌∙◌, true, false, Bool}
use Rattle.std.proofs.{Common.{cond, not, ◌&&◌, arith}, lemmas.List.Sorted.IsPermutation-sym}
use Rattle.std.proofs.lemmas.{Map.Text.is_eq-slice_cmp, Bool.Decides.nat_tests}
use Rattle.std.{proofs.Math.Bool.and-true, specs.Prelude.{option_and_then, option_map, is_none}}
use Rattle.std.specs.{Prelude.{is_some, if◌then◌else◌, ◌==◌}, List.{filter_map, cons_option}}
use Rattle.std.specs.{List.Sorted.IsPermutation, Option.option_map_or, Ordering.{is_eq, is_lt}}
use Rattle.std.specs.declared.cmp.Ordering.TheVariants.{Less, Equal, Greater}
use Rattle.sqlite.specs.{declared.types.Value.{Value, TheVariants.{Int, Text}}, Order.Row}
use Rattle.sqlite.specs.{Order.value_cmp, Tree.rowid, Effect.Database}
use Rattle.sqlite.proofs.Callers.{one_permutation}
use Rattle.sqlite_rules.specs.Lists.{Has}
use Rattle.sqlite_value.proofs.OrderLemmas.{value_cmp-Null, value_cmp-Text, value_cmp-Int}
use Rattle.room_entry.specs.Pieces.{same_text}
use Rattle.room_rows.specs.{declared.node.Node.Node, Content.has_parent, Keep.IsChildOf}
use Rattle.room_rows.{specs.Keep.IsUnreadable, proofs.Lookups.{find_yes, find_no}}
use Rattle.store_tables.specs.{Shown.{IsRoom, shown_node, is_child_named}, Meaning.number_in}
use Rattle.store_tables.specs.Meaning.{parent_in, text_in, node_in, unread_in, unread_with, rows_of}
use Rattle.store_tables.specs.{Keyed.same_number, Filed.{number_is, node_parts, unread_at_row}}
use Rattle.store_tables.specs.{RoomRows.row_found, Seeing.{result_of_seen, seen_only, seen_as}}
use Rattle.store_tables.proofs.{Nodes.Tells, Rowids.{alone_in, has_found, only_one}}

pub no_map : {A B : Type 0} (f : A → B) (xs : List A) → map f xs ≡ [] → xs ≡ []
no_map f [] h = refl
no_map f (x ∷ xs) h = absurd (cc)

one_of_map : {A B : Type 0} (f : A → B) (xs : List A) (y : B) → map f xs ≡ y ∷ [] → (x : A)
    × (xs ≡ x ∷ []) × (f x ≡ y)
one_of_map f [] y h = absurd (cc)
one_of_map f (x ∷ []) y h = (x, refl, cc)
one_of_map f (x ∷ z ∷ more) y h = absurd (cc)

-- ---- rows that pass a test, and what they are read as

abbrev filter_map_step : {X : Type 0} → Option X → Bool → List X → List X
filter_map_step o true kept = cons_option o kept
filter_map_step o false kept = kept

module _ {X : Type 0} (f : Row → Option X) (q : X → Bool) (p : Row → Bool)
    (same : (r : Row) (x : X) → f r ≡ Some x → q x ≡ p r) where
  none_step : (r : Row) (rest : List X) (o : Option X) → f r ≡ o → p r ≡ false → find q rest ≡ None
      → find q (cons_option o rest) ≡ None
  none_step r rest None is fails none = none
  none_step r rest (Some x) is fails none = find_no q x rest (same r x is ∙ fails) ∙ none

  skip_step : (r : Row) (rest : List X) (x : X) (o : Option X) → f r ≡ o → p r ≡ false
      → find q rest ≡ Some x → find q (cons_option o rest) ≡ Some x
  skip_step r rest x None is fails found = found
  skip_step r rest x (Some y) is fails found = find_no q y rest (same r y is ∙ fails) ∙ found

  pub none_read : (rows : List Row) → filter p rows ≡ [] → find q (filter_map f rows) ≡ None
  none_read [] none = refl
  none_read (r ∷ rows) none = grind (arith, nat_tests, none_step, none_read rows)

  pub first_read : (rows : List Row) (r : Row) (later : List Row) (x : X)
      → filter p rows ≡ r ∷ later → f r ≡ Some x → find q (filter_map f rows) ≡ Some x
  first_read [] r later x one is = absurd (cc)
  first_read (y ∷ rows) r later x one is =
      grind (arith, nat_tests, find_yes, skip_step, first_read rows r later x)

  read_step : (r : Row) (o : Option X) (b : Bool) (kept rest : List X) → f r ≡ o → p r ≡ b
      → filter q rest ≡ kept → filter q (cons_option o rest) ≡ filter_map_step o b kept
  read_step r o b kept rest is has more = grind (arith, nat_tests)

  -- to be read and to pass can change places
  pub filter_read : (rows : List Row) → filter q (filter_map f rows) ≡ filter_map f (filter p rows)
  filter_read [] = refl
  filter_read (r ∷ rows) = grind (arith, nat_tests, read_step, filter_read rows)

-- ---- the test of SQL is that of the objects

at_least_by : (b c : Bool) → b ≡ false → not (is_lt (cond b Less (cond c Greater Equal))) ≡ true
at_least_by b c e = grind (arith, nat_tests)

pub at_least_one : (k : ℕ) → 0 < k → not (is_lt (value_cmp (Int (pos k)) (Int (pos 1)))) ≡ true
at_least_one k low = grind (arith, nat_tests, at_least_by, value_cmp-Int)

pub mapped : (o : Option ℕ) (p : Option ℕ) → option_map Some o ≡ Some p → (id : ℕ) × (o ≡ Some id)
    × (p ≡ Some id)
mapped None p is = absurd (cc)
mapped (Some id) p is = (id, refl, cc)

number_agrees : (parent : ℕ) (z : ℤ) (p : Option ℕ) → (id : ℕ) × (number_in (Int z) ≡ Some id)
    × (p ≡ Some id) → option_map_or (λ id. id == parent) p false
    ≡ is_eq (value_cmp (Int z) (Int (pos parent)))
number_agrees parent z p (id, number, is) =
    cc (is, same_number id parent, (number_is (Int z) id number).0)

pub parent_agrees : (parent : ℕ) (v : Value) (p : Option ℕ) → parent_in v ≡ Some p
    → option_map_or (λ id. id == parent) p false ≡ is_eq (value_cmp v (Int (pos parent)))
parent_agrees parent v p is = grind (arith, nat_tests, mapped, number_agrees, value_cmp-Null)

pub utf8_is : (s t : List ℕ) (b : Bool) → (if b then Some s else None) ≡ Some t → s ≡ t
utf8_is s t true is = cc
utf8_is s t false is = absurd (cc)

text_agrees : (name : List ℕ) (v : Value) (t : List ℕ) → text_in v ≡ Some t
    → same_text t name ≡ is_eq (value_cmp v (Text name))
text_agrees name v t is = grind (arith, nat_tests, is_eq-slice_cmp, utf8_is, value_cmp-Text)

child_agrees : (parent : ℕ) (name : List ℕ) (r : Row) (n : Node) → node_in (shown_node r) ≡ Some n
    → (has_parent parent n && same_text n.name name) ≡ is_child_named (pos parent) name r
child_agrees parent name r n is =
    let parts = node_parts (shown_node r) n is in
    search (rules, r, n.id, parts.number, and-true, at_least_one, parent_agrees, text_agrees)

-- a row that is there and isn't read as an object is one that can't be read
pub unread_row : (db : Database) → IsRoom db → (r : Row) (id : ℕ) → Has (db.trees 0) r
    → node_in (shown_node r) ≡ None → number_in (rowid r) ≡ Some id → IsUnreadable (rows_of db) id
unread_row db room r id there seen number =
    unread_at_row db id room.nodes.0
    ∙ ap (λ o. is_some (option_and_then unread_in o))
    (row_found (db.trees 0) r id room.nodes.0 there (number_is (rowid r) id number).0)
    ∙ ap (λ o. is_some (if is_none o then option_map (unread_with r) (number_in (rowid r))
    else None)) seen
    ∙ ap (λ m. is_some (option_map (unread_with r) m)) number

module _ (db : Database) (room : IsRoom db) (parent : ℕ) (name : List ℕ) where
  abbrev test : Row → Bool
  test = is_child_named (pos parent) name

  abbrev told : Result (Option Node) Rattle.room_rows.specs.declared.keep.KeepFault.KeepFault
      → Type 0
  told = Tells IsUnreadable (IsChildOf parent name) (rows_of db)

  something : (r : Row) → filter test (db.trees 0) ≡ r ∷ [] → (o : Option Node)
      → node_in (shown_node r) ≡ o → (m : Option ℕ) → number_in (rowid r) ≡ m
      → told (result_of_seen (seen_as (option_map Some o) m))
  something r one (Some n) seen m number =
      sym (search (child_agrees, first_read))
  something r one None seen None number = tt
  something r one None seen (Some id) number =
      unread_row db room r id
      (has_found test (db.trees 0) r (only_one test (db.trees 0) r one).0) seen number

  -- what the rows that were found by their parent and their name answer
  pub tells_child : (rows : List Row)
      → IsPermutation (map shown_node (filter test (db.trees 0))) rows
      → told (result_of_seen (seen_only rows))
  tells_child [] perm =
      sym (none_read (λ r. node_in (shown_node r))
      (λ (n : Node). has_parent parent n && same_text n.name name) test (child_agrees parent name)
      (db.trees 0) (no_map shown_node _ (alone_in _ (IsPermutation-sym _ [] perm))))
  tells_child (x ∷ []) perm =
      let shown = one_permutation x _ (IsPermutation-sym _ (x ∷ []) perm) in
      let one = one_of_map shown_node (filter test (db.trees 0)) x shown in
      subst (λ y. told (result_of_seen (seen_only (y ∷ [])))) one.2
      (something one.0 one.1 (node_in (shown_node one.0)) refl (number_in (rowid one.0)) refl)
  tells_child (x ∷ y ∷ more) perm = tt
