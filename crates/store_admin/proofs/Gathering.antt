-- What one more pair makes of the pairs that are there.
use Rattle.std.proofs.Common.{◌≡◌, ◌||◌, ◌&&◌, is_some, ◌<◌, ◌+◌, ◌-◌, ℕ, ℤ, suc, List, [], ◌∷◌}
use Rattle.std.proofs.Common.{◌++◌, ◌↔◌, get_or, length, take, map, Bor, arith, Some, None, Option}
use Rattle.std.proofs.Common.{refl, sym, ap, subst, ◌∙◌, true, false, Bool, Ordering, Less, Equal}
use Rattle.std.proofs.{Common.{Greater, is_eq, IsPermutation, rules}, Math.Seq.take-suc}
use Rattle.std.proofs.lemmas.{Bool.or_right, Cmp.tied_itself, List.get_or-map}
use Rattle.std.{proofs.lemmas.List.Folds.list_any-append, specs.List.{cons_option, filter_map}}
use Rattle.std.specs.Ordering.{match_ordering}
use Rattle.sqlite.specs.{declared.types.Value.TheVariants.Text, Effect.Database, Order.Row}
use Rattle.sqlite.specs.{Order.value_cmp, Tree.{put_row, rowid}, Edit.is_taken}
use Rattle.room_rows.specs.Content.{set_of}
use Rattle.store_tables.specs.Meaning.{audit_in, bodies_of, nodes_of, pair_in, pairs_of, name_in}
use Rattle.store_tables.specs.{Meaning.unread_of, Paired.{Pair, pair_cmp, total}}
use Rattle.store_tables.{specs.RoomRows.set_sorted, proofs.{Removed.same_rows, Rowids.is_equal}}
use Rattle.store_tables.proofs.Grouped.{equal_pairs}
use Rattle.store_admin.specs.Operating.{Exchanges, ExchangesMembers, HoldsPairs, IsAgain, are_pairs}
use Rattle.store_admin.{specs.Operating.stored_pair, proofs.{Members.reads, Sets.{has, has_first}}}
use Rattle.store_admin.proofs.Sets.{has_set, is_at, or_swap, same_sets, set_moved}

has_cons : (x : Pair) (o : Option Pair) (l : List Pair)
    → has x (cons_option o l) ≡ reads x o || has x l
has_cons x None l = refl
has_cons x (Some p) l = refl

-- a row of a number that none had is one more
has_put : (x : Pair) (new : Row) (rows : List Row) → is_taken rows new ≡ false
    → has x (filter_map pair_in (put_row new rows))
    ≡ reads x (pair_in new) || has x (filter_map pair_in rows)
has_put x new [] free = has_cons x (pair_in new) []
has_put x new (r ∷ rows) free = step (value_cmp (rowid r) (rowid new)) (has_put x new rows) free
  where
    left : Bool
    left = has x (filter_map pair_in rows)

    step : (o : Ordering)
        → (is_taken rows new ≡ false
        → has x (filter_map pair_in (put_row new rows)) ≡ reads x (pair_in new) || left)
        → is_eq o || is_taken rows new ≡ false
        → has x (filter_map pair_in
        (match_ordering o (r ∷ put_row new rows) (new ∷ rows) (new ∷ r ∷ rows)))
        ≡ reads x (pair_in new) || has x (filter_map pair_in (r ∷ rows))
    step Less more free' =
        has_cons x (pair_in r) (filter_map pair_in (put_row new rows))
        ∙ ap (λ b. reads x (pair_in r) || b) (more free')
        ∙ or_swap (reads x (pair_in r)) (reads x (pair_in new)) left
        ∙ ap (λ b. reads x (pair_in new) || b)
        (sym (has_cons x (pair_in r) (filter_map pair_in rows)))
    step Equal more free' = absurd (let e = free' in cc)
    step Greater more free' = has_cons x (pair_in new) (filter_map pair_in (r ∷ rows))

parts : (a b : Bool) → a && b ≡ true → (a ≡ true) × (b ≡ true)
parts true b is = (refl, is)
parts false b is = absurd (cc)

both : (a b : Bool) → a ≡ true → b ≡ true → a && b ≡ true
both a b one two = ap (λ c. c && b) one ∙ two

-- one more row that is a pair
pub pairs_put : (new : Row) (rows : List Row) → is_some (pair_in new) ≡ true
    → are_pairs rows ≡ true → are_pairs (put_row new rows) ≡ true
pairs_put new [] is all = both (is_some (pair_in new)) true is refl
pairs_put new (r ∷ rows) is all =
    let known = parts (is_some (pair_in r)) (are_pairs rows) all in
    step known (value_cmp (rowid r) (rowid new)) (pairs_put new rows is known.1)
  where
    step : (is_some (pair_in r) ≡ true) × (are_pairs rows ≡ true) → (o : Ordering)
        → are_pairs (put_row new rows) ≡ true
        → are_pairs (match_ordering o (r ∷ put_row new rows) (new ∷ rows) (new ∷ r ∷ rows)) ≡ true
    step known' Less more = both (is_some (pair_in r)) (are_pairs (put_row new rows)) known'.0 more
    step known' Equal more = both (is_some (pair_in new)) (are_pairs rows) is known'.1
    step known' Greater more = both (is_some (pair_in new)) (are_pairs (r ∷ rows)) is all

or_last : (a h : Bool) → a || h ≡ h || (a || false)
or_last true true = refl
or_last true false = refl
or_last false true = refl
or_last false false = refl

or_none : (h : Bool) → h ≡ h || false
or_none true = refl
or_none false = refl

-- one more pair is put in
pub one_more : (pair : Pair) (done : List Pair) (new : Row) (rows : List Row)
    → pair_in new ≡ Some pair → is_taken rows new ≡ false → pairs_of rows ≡ set_of done
    → pairs_of (put_row new rows) ≡ set_of (done ++ pair ∷ [])
one_more pair done new rows is free held =
    same_sets (pairs_of (put_row new rows)) (set_of (done ++ pair ∷ []))
    (set_sorted (filter_map pair_in (put_row new rows))) (set_sorted (done ++ pair ∷ [])) (λ x.
    search (rules, has_set, has_put, reads, has, is_at, or_last, list_any-append, is, free, held))

-- a pair that is there makes no more
pub none_more : (pair : Pair) (done : List Pair) → has pair done ≡ true
    → set_of done ≡ set_of (done ++ pair ∷ [])
none_more pair done there =
    same_sets (set_of done) (set_of (done ++ pair ∷ [])) (set_sorted done)
    (set_sorted (done ++ pair ∷ [])) (λ x.
    has_set x done ∙ by x (pair_cmp pair x) refl
    ∙ sym (list_any-append (is_at x) done (pair ∷ [])) ∙ sym (has_set x (done ++ pair ∷ [])))
  where
    other : (x : Pair) (c : Ordering) → pair_cmp pair x ≡ c → is_eq c ≡ false
        → has x done ≡ has x done || (is_at x pair || false)
    other x c is isnt =
        or_none (has x done)
        ∙ ap (λ b. has x done || (b || false)) (sym (ap is_eq is ∙ isnt))

    by : (x : Pair) (c : Ordering) → pair_cmp pair x ≡ c
        → has x done ≡ has x done || (is_at x pair || false)
    by x Less is = other x Less is refl
    by x Greater is = other x Greater is refl
    by x Equal is =
        let also : has x done ≡ true =
        subst (λ z. has z done ≡ true) (equal_pairs x pair is) there in
        also ∙ sym (ap (λ b. b || (is_at x pair || false)) also)

-- the last of some pairs is among them
pub has_last : (pairs : List Pair) (k : ℕ) (d : Pair) → k < length pairs
    → has (get_or pairs k d) (take (suc k) pairs) ≡ true
has_last pairs k d low =
    let p = get_or pairs k d in
    ap (has p) (take-suc pairs k d low) ∙ list_any-append (is_at p) (take k pairs) (p ∷ [])
    ∙ or_right (has p (take k pairs)) (is_at p p || false) (has_first p [])

-- ---- the pair at a place of a list of references

abbrev all_of : List (Bor Pair) → List Pair
all_of order = map (λ p. p.now) order

pub at_now : (order : List (Bor Pair)) (index : ℕ) (p : Bor Pair) (d : Pair) → index < length order
    → p ≡ get_or order index p → get_or (all_of order) index d ≡ p.now
at_now order index p d low is =
    get_or-map (λ (p : Bor Pair). p.now) order index p d low ∙ ap (λ (p : Bor Pair). p.now) (sym is)

all_length : (order : List (Bor Pair)) → length (all_of order) ≡ length order
all_length [] = refl
all_length (p ∷ order) = ap suc (all_length order)

-- up to a place and with it
pub so_far : (order : List (Bor Pair)) (index : ℕ) (p : Bor Pair) → index < length order
    → p ≡ get_or order index p
    → take (index + 1) (all_of order) ≡ take index (all_of order) ++ p.now ∷ []
so_far order index p low is =
    let more : index + 1 ≡ suc index = omega arith in
    let low' = subst (λ n. index < n) (sym (all_length order)) low in
    ap (λ n. take n (all_of order)) more ∙ take-suc (all_of order) index p.now low'
    ∙ ap (λ x. take index (all_of order) ++ x ∷ []) (at_now order index p p.now low is)

-- the same pair stands right before
pub is_again_by : (order : List (Bor Pair)) (index : ℕ) (p q : Bor Pair) → 0 < index
    → index < length order
    → p ≡ get_or order index p → q ≡ get_or order (index - 1) q
    → (is_eq (pair_cmp q.now p.now) ≡ true) ↔ IsAgain (all_of order) index
is_again_by order index p q up low is before = (
  λ same. (
    index - 1,
    omega (arith, up),
    λ d. at_now order index p d low is
        ∙ sym (equal_pairs p.now q.now (is_equal (pair_cmp q.now p.now) same))
        ∙ sym (at_now order (index - 1) q d (omega (arith, low)) before),
  ),
  λ again'.
      let k : again'.0 ≡ index - 1 = omega (arith, again'.1) in
      let both : q.now ≡ p.now =
      sym (at_now order (index - 1) q p.now (omega (arith, low)) before)
      ∙ ap (λ n. get_or (all_of order) n p.now) (sym k) ∙ sym (again'.2 p.now)
      ∙ at_now order index p p.now low is in
      ap (λ x. is_eq (pair_cmp x p.now)) both ∙ ap is_eq (tied_itself total p.now),
)

-- so it is there already
pub again : (order : List (Bor Pair)) (index : ℕ) → index < length order
    → IsAgain (all_of order) index
    → set_of (take index (all_of order)) ≡ set_of (take (index + 1) (all_of order))
again order index low (k, next, same) =
    let pairs = all_of order in
    let none : Pair = ([], []) in
    let low' : index < length pairs = subst (λ n. index < n) (sym (all_length order)) low in
    let behind : suc k ≡ index = omega (arith, next) in
    let more : index + 1 ≡ suc index = omega arith in
    let there : has (get_or pairs index none) (take index pairs) ≡ true =
    grind (arith, has, has_last, none, low', behind) in
    none_more (get_or pairs index none) (take index pairs) there
    ∙ ap set_of (sym (ap (λ n. take n pairs) more ∙ take-suc pairs index none low'))

-- a row of a pair of names is read as the pair
pub read_pair : (id : ℤ) (group user : List ℕ) → name_in (Text group) ≡ Some group
    → name_in (Text user) ≡ Some user → pair_in (stored_pair id group user) ≡ Some (group, user)
read_pair id group user a b = rw (a, b) refl

-- all pairs are taken out, and then these are put in, in any order
pub replaced : (pairs order : List Pair) (old mid new : Database) → IsPermutation pairs order
    → Exchanges [] old.trees mid.trees → HoldsPairs order mid.trees new.trees
    → ExchangesMembers pairs old tt new
replaced pairs order old mid new moved gone held = (
  same_rows (ap nodes_of (held.nodes ∙ gone.nodes)) (ap unread_of (held.nodes ∙ gone.nodes))
      (ap bodies_of (held.bodies ∙ gone.bodies)) (held.members ∙ sym (set_moved pairs order moved))
      (ap (filter_map audit_in) (held.audits ∙ gone.audits)),
  record {
    pairs = held.only (subst (λ rows. are_pairs rows ≡ true) (sym gone.members) refl);
    nodes = held.nodes ∙ gone.nodes;
    bodies = held.bodies ∙ gone.bodies;
    meta = held.meta ∙ gone.meta;
    audits = held.audits ∙ gone.audits;
    counters = held.counters ∙ gone.counters;
  },
)
