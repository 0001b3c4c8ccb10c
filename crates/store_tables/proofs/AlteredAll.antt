-- What the rows mean once the rows of a range of numbers are written.
use Rattle.std.proofs.Common.{rules, ◌≡◌, ◌<◌, ◌≤◌, ◌+◌, ℕ, suc, zero, ℤ, pos, List, [], ◌∷◌, map}
use Rattle.std.proofs.Common.{find, not, None, Some, Option, refl, sym, ap, subst, ◌∙◌, Bool, true}
use Rattle.std.proofs.{Common.{false, cond, inl, inr, ◌⊎◌, arith, unwrap_or}, lemmas.Bool.and_parts}
use Rattle.std.proofs.lemmas.Bool.{cond-false, cond-true, eqb-false, ne_eqb, Decides.nat_tests}
use Rattle.std.specs.Prelude.{◌==◌, ◌&&◌, ◌||◌, is_some, nat_lt, option_and_then}
use Rattle.std.specs.{List.{cons_option, filter_map, list_any, range_with_len}, Option.option_map}
use Rattle.std.specs.{Ordering.{is_gt, is_lt}, declared.cmp.Ordering.TheVariants.{Equal, Greater}}
use Rattle.std.specs.declared.cmp.Ordering.TheVariants.{Less}
use Rattle.sqlite.specs.{declared.types.Value.TheVariants.{Int, Null, Text}, Effect.Database}
use Rattle.sqlite.specs.{Order.Row, Tree.{has_rowid, rowid}}
use Rattle.sqlite_rules.{specs.{Edit.id_in, Lists.Has}, proofs.PlaceLemmas.row_at_is}
use Rattle.sqlite_rules.proofs.TableLemmas.{int_is}
use Rattle.sqlite_value.proofs.OrderLemmas.{value_cmp-Int}
use Rattle.room_entry.specs.{Ace.Ace, declared.object.Which.Which}
use Rattle.room_rows.specs.{declared.node.Node.Node, Content.{Content, node_at}, Keep.are_there}
use Rattle.room_rows.{specs.Keep.with_inh, proofs.Many.changed_among}
use Rattle.store_tables.specs.{Filed.{node_at_row, node_keyed}, Meaning.{audit_in, bodies_of}}
use Rattle.store_tables.specs.Meaning.{entries_in, node_in, nodes_of, number_in, pairs_of, rows_of}
use Rattle.store_tables.specs.{Meaning.{unread_in, unread_of}, RoomRows.number_in-low, Shown.IsRoom}
use Rattle.store_tables.specs.Shown.{RecastsAll, is_in_range, recast_in, sets_inh, shown_node}
use Rattle.store_tables.{specs.Trust.AltersAll, proofs.{Altered.inherits_back, Recast.recast}}
use Rattle.store_tables.proofs.{Removed.same_rows, Rowids.{has_itself, of_each}}

-- ---- numbers that follow one another

later_on : (first n : ℕ) → first ≤ n → (first == n) ≡ false → first + 1 ≤ n
later_on first n low isnt = omega (arith, low, eqb-false first n isnt)

in_run : (first count n : ℕ) → first ≤ n → n < first + count
    → list_any (λ (id : ℕ). id == n) (range_with_len first count) ≡ true
in_run first zero n low high = absurd (omega (arith, low, high))
in_run first (suc more) n low high =
    by (first == n) refl
    (λ isnt. in_run (first + 1) more n (later_on first n low isnt) (omega (arith, high)))
  where
    by : (b : Bool) → (first == n) ≡ b
        → ((first == n) ≡ false
        → list_any (λ (id : ℕ). id == n) (range_with_len (first + 1) more) ≡ true)
        → ((first == n) || list_any (λ (id : ℕ). id == n) (range_with_len (first + 1) more)) ≡ true
    by b is later = grind (arith, nat_tests)

past_run : (first count n : ℕ) → (n < first) ⊎ (first + count ≤ n)
    → list_any (λ (id : ℕ). id == n) (range_with_len first count) ≡ false
past_run first zero n out = refl
past_run first (suc more) n (inl low) =
    search (rules, ne_eqb, past_run (first + 1) more n (inl (omega (arith, low))))
past_run first (suc more) n (inr high) =
    search (rules, ne_eqb, past_run (first + 1) more n (inr (omega (arith, high))))

there_in_run : (content : Content) (first count n : ℕ)
    → are_there (range_with_len first count) content ≡ true → first ≤ n → n < first + count
    → is_some (node_at content n) ≡ true
there_in_run content first zero n there low high = absurd (omega (arith, low, high))
there_in_run content first (suc more) n there low high =
    let parts = and_parts (is_some (node_at content first))
    (are_there (range_with_len (first + 1) more) content) there in
    by (first == n) refl parts.0
    (λ isnt. there_in_run content (first + 1) more n parts.1 (later_on first n low isnt)
    (omega (arith, high)))
  where
    by : (b : Bool) → (first == n) ≡ b → is_some (node_at content first) ≡ true
        → ((first == n) ≡ false → is_some (node_at content n) ≡ true)
        → is_some (node_at content n) ≡ true
    by b is here later = grind (arith, nat_tests)

-- ---- rowids between two numbers

less_test : (b c : Bool) → is_lt (cond b Less (cond c Greater Equal)) ≡ b
less_test b c = grind (arith, nat_tests)

more_test : (b c : Bool) → is_gt (cond b Less (cond c Greater Equal)) ≡ (not b && c)
more_test b c = grind (arith, nat_tests)

test_of : (r : Row) (m first last : ℕ) → rowid r ≡ Int (pos m)
    → is_in_range (pos first) (pos last) r
    ≡ (not (nat_lt m first) && not (not (nat_lt m last) && nat_lt last m))
test_of r m first last is = grind (arith, nat_tests, less_test, more_test, value_cmp-Int)

between : (m first last : ℕ)
    → (not (nat_lt m first) && not (not (nat_lt m last) && nat_lt last m)) ≡ true
    → (first ≤ m) × (m ≤ last)
between m first last = grind (arith, nat_tests)

outside : (m first last : ℕ)
    → (not (nat_lt m first) && not (not (nat_lt m last) && nat_lt last m)) ≡ false
    → (m < first) ⊎ (last < m)
outside m first last = grind (arith, nat_tests)

below_none : (b : Bool) (x : Bool) → b ≡ true → (not b && x) ≡ true → ⊥
below_none b x is e = absurd (cc)

-- a row whose number is between two numbers has such a number
number_between : (r : Row) (first last : ℕ) (z : ℤ) → rowid r ≡ Int z
    → is_in_range (pos first) (pos last) r ≡ true
    → (m : ℕ) × (rowid r ≡ Int (pos m)) × (first ≤ m) × (m ≤ last)
number_between r first last z is within =
    grind (arith, nat_tests, below_none, between, test_of, value_cmp-Int)

-- ---- the objects are changed

abbrev see : Row → Option Node
see r = node_in (shown_node r)

one_of_some : {A : Type 0} (o : Option A) → is_some o ≡ true → (a : A) × (o ≡ Some a)
one_of_some None is = absurd (cc)
one_of_some (Some a) is = (a, refl)

same_pos : (m n : ℕ) → Int (pos m) ≡ Int (pos n) → m ≡ n
same_pos m n e = cc

module _ (db next : Database) (room : IsRoom db) (which : Which) (text : List ℕ)
    (entries : List Ace) (back : entries_in (Text text) ≡ Some entries) (first more : ℕ) (low : 0 < first)
    (there : are_there (range_with_len first (more + 1)) (rows_of db).read ≡ true) where
  abbrev run : List ℕ
  run = range_with_len first (more + 1)

  abbrev change : Node → Node
  change = with_inh which entries

  abbrev cells : Row → Row
  cells = sets_inh which text

  abbrev to_row : Row → Row
  to_row = recast_in cells (pos first) (pos (first + more))

  -- the object that is there was read of this row
  seen : (r : Row) (m : ℕ) → Has (db.trees 0) r → rowid r ≡ Int (pos m) → first ≤ m
      → m ≤ first + more → is_some (see r) ≡ true
  seen r m has is low' high =
      by (find (has_rowid (pos m)) (db.trees 0)) refl
      (search (rules, row_at_is, pos, r, has, is, has_itself))
      (sym (ap is_some (node_at_row db m room.nodes.0))
      ∙ there_in_run (rows_of db).read first (more + 1) m there low' (omega (arith, high)))
    where
      by : (o : Option Row) → find (has_rowid (pos m)) (db.trees 0) ≡ o
          → unwrap_or (find (has_rowid (pos m)) (db.trees 0)) [] ≡ r
          → is_some (option_and_then see (find (has_rowid (pos m)) (db.trees 0))) ≡ true
          → is_some (see r) ≡ true
      by None found same some = grind (arith, nat_tests)
      by (Some y) found same some =
          let it : y ≡ r = sym (ap (λ o. unwrap_or o []) found) ∙ same in
          subst (λ (x : Row). is_some (see x) ≡ true) it
          (sym (ap (λ o. is_some (option_and_then see o)) found) ∙ some)

  -- a row of the range, as it is read before and after
  within_seen : (r : Row) → Has (db.trees 0) r
      → is_in_range (pos first) (pos (first + more)) r ≡ true → (n : Node) × (see r ≡ Some n) × (see (to_row r) ≡ Some (changed_among run change n))
  within_seen r has within =
      let is = int_is (rowid r) (of_each _ (db.trees 0) room.nodes.1 r has) in
      let at = number_between r first (first + more) (id_in (rowid r)) is within in
      let one = one_of_some (see r) (seen r at.0 has at.1 at.2 at.3) in
      let same : at.0 ≡ one.0.id =
      same_pos at.0 one.0.id (sym at.1 ∙ node_keyed r one.0 one.1) in
      let number : number_in (Int (pos at.0)) ≡ Some one.0.id =
      number_in-low at.0 (omega (arith, low, at.2)) ∙ ap Some same in
      let new : to_row r ≡ Int (pos at.0) ∷ Null ∷ recast (cells r) =
      search (rules, cond-true, recast, within, at, at.1) in (
        one.0,
        one.1,
        ap see new ∙ inherits_back at.0 r one.0 number one.1 which text entries back
            ∙ ap Some (sym (cond-true _ (change one.0) one.0
            (ap (λ (n : ℕ). list_any (λ (id : ℕ). id == n) run) (sym same)
            ∙ in_run first (more + 1) at.0 at.2 (omega (arith, at.3))))),
      )

  stays : (r : Row) → is_in_range (pos first) (pos (first + more)) r ≡ false → to_row r ≡ r
  stays r isnt = grind (arith, nat_tests, recast)

  out_seen : (r : Row) → is_in_range (pos first) (pos (first + more)) r ≡ false → (o : Option Node)
      → see r ≡ o → o ≡ option_map (changed_among run change) o
  out_seen r isnt None is = refl
  out_seen r isnt (Some n) is =
      cc (cond-false _ (change n) n
      (past_run first (more + 1) n.id
      (on (outside n.id first (first + more)
      (sym (test_of r n.id first (first + more) (node_keyed r n is)) ∙ isnt)))))
    where
      on : (n.id < first) ⊎ (first + more < n.id) → (n.id < first) ⊎ (first + (more + 1) ≤ n.id)
      on (inl l) = inl l
      on (inr h) = inr (omega (arith, h))

  -- each row is read as the changed object, if it is read as one
  read_so : (r : Row) → Has (db.trees 0) r
      → (see (to_row r) ≡ option_map (changed_among run change) (see r))
      × (unread_in (to_row r) ≡ unread_in r)
  read_so r has = by (is_in_range (pos first) (pos (first + more)) r) refl
    where
      by : (b : Bool) → is_in_range (pos first) (pos (first + more)) r ≡ b
          → (see (to_row r) ≡ option_map (changed_among run change) (see r))
          × (unread_in (to_row r) ≡ unread_in r)
      by true within = grind (arith, nat_tests, changed_among, within_seen)
      by false isnt = search (out_seen, stays)

  nodes_so : (rows : List Row) → ((r : Row) → Has rows r → Has (db.trees 0) r)
      → nodes_of (map to_row rows) ≡ map (changed_among run change) (nodes_of rows)
  nodes_so [] has = refl
  nodes_so (r ∷ rows) has =
      cc ((read_so r (has r (inl refl))).0, nodes_so rows (λ x h. has x (inr h)), on (see r))
    where
      on : (o : Option Node)
          → cons_option (option_map (changed_among run change) o)
          (map (changed_among run change) (nodes_of rows))
          ≡ map (changed_among run change) (cons_option o (nodes_of rows))
      on None = refl
      on (Some n) = refl

  unread_so : (rows : List Row) → ((r : Row) → Has rows r → Has (db.trees 0) r)
      → unread_of (map to_row rows) ≡ unread_of rows
  unread_so [] has = refl
  unread_so (r ∷ rows) has =
      cc ((read_so r (has r (inl refl))).1, unread_so rows (λ x h. has x (inr h)))

-- the rows of a range are written, and so are the objects
pub inherited_range : (db next : Database) → IsRoom db → (which : Which) (text : List ℕ)
    (entries : List Ace) → entries_in (Text text) ≡ Some entries → (first more : ℕ) → 0 < first
    → RecastsAll (sets_inh which text) (pos first) (pos (first + more)) db.trees next.trees
    → AltersAll (range_with_len first (more + 1)) (with_inh which entries) db next
inherited_range db next room which text entries back first more low put there =
    same_rows
    (ap nodes_of put.nodes
    ∙ nodes_so db next room which text entries back first more low there (db.trees 0) (λ r h. h))
    (search (rules, put.nodes, unread_so, db, next, room, which, back, low, there, db.trees))
    (ap bodies_of put.bodies) (ap pairs_of put.members) (ap (filter_map audit_in) put.audits)
