-- The set of groups that came before, as pairs are counted.
use Rattle.std.proofs.Common.{ℕ, ◌≡◌, ◌+◌, ◌∷◌, ◌++◌, Bool, true, false, cond, length, List, []}
use Rattle.std.proofs.Common.{sym, ap, subst, ◌∙◌, ◌<◌, ◌≤◌, Ordering, get_or, drop, drop-cons}
use Rattle.std.proofs.{Common.{add-one, arith, rules}, lemmas.Bool.{cond-true, cond-false}}
use Rattle.std.proofs.lemmas.List.{drop_all, length-append, Folds.list_any-append}
use Rattle.std.{proofs.lemmas.Map.Text.is_eq-slice_cmp, specs.Prelude.{not, if◌then◌else◌}}
use Rattle.std.specs.{Bool.OnFalse, Borrow.Bor, List.list_any, Ordering.{is_eq, nat_cmp}}
use Rattle.std.specs.{Cmp.Lexicographic.slice_cmp, BTreeSet.{BTreeSet, contains}}
use Rattle.room_entry.{specs.Pieces.same_text, proofs.Facts.Booleans.one_more}
use Rattle.cli_answer.specs.Counting.{groups_after, distinct_groups, with_group}

-- names in the order of their bytes
abbrev pub name_order : Bor (List ℕ) → Bor (List ℕ) → Ordering
name_order a b = slice_cmp nat_cmp a.now b.now

-- the set has these texts, no others, and this many
pub record HasSeen (seen : BTreeSet (Bor (List ℕ))) (groups : List (List ℕ)) : Type 0 where
  pub has : (key : Bor (List ℕ))
      → contains name_order seen key ≡ list_any (same_text key.now) groups
  pub len : length seen.keys ≡ length groups

-- two keys compare as equal where their texts are the same
key_equal : (x y : Bor (List ℕ))
    → is_eq (name_order x y) ≡ same_text y.now x.now
key_equal x y =
    search (rules, is_eq-slice_cmp)

seen_more : (seen more : BTreeSet (Bor (List ℕ))) (groups : List (List ℕ)) (key : Bor (List ℕ))
    → ((other : Bor (List ℕ))
    → contains name_order seen other ≡ list_any (same_text other.now) groups)
    → ((other : Bor (List ℕ))
    → contains name_order more other
    ≡ cond (is_eq (name_order key other)) true (contains name_order seen other))
    → (other : Bor (List ℕ))
    → contains name_order more other
    ≡ list_any (same_text other.now) (groups ++ key.now ∷ [])
seen_more seen more groups key has adds other =
    grind (arith, key_equal, one_more, list_any-append, has, adds)

seen_by : (seen more : BTreeSet (Bor (List ℕ))) (groups : List (List ℕ)) (key : Bor (List ℕ))
    (is added : Bool)
    → HasSeen seen groups → list_any (same_text key.now) groups ≡ is → added ≡ not is
    → ((other : Bor (List ℕ))
    → contains name_order more other
    ≡ cond (is_eq (name_order key other)) true (contains name_order seen other))
    → OnFalse added (more.keys ≡ seen.keys)
    → length more.keys ≡ length seen.keys + (if added then 1 else 0)
    → HasSeen more (with_group groups key.now)
seen_by seen more groups key true added seen_so e was adds same len =
    grind (arith, cond-true, seen_so, e, was, same, len, seen_so.has, seen_so.len)
seen_by seen more groups key false added seen_so e was adds same len =
    let P : List (List ℕ) → Type 0 = λ all. HasSeen more all in
    let one : (if added then 1 else 0) ≡ 1 = ap (λ (b : Bool). if b then 1 else 0) was in
    subst P (sym (cond-false _ _ _ e)) (record {
      has = seen_more seen more groups key seen_so.has adds;
      len =
          len ∙ ap (λ n. length seen.keys + n) one ∙ ap (λ n. n + 1) seen_so.len
          ∙ sym (length-append groups (key.now ∷ []));
    })

-- a group of the next pair is new, or came before
pub seen_next : (seen more : BTreeSet (Bor (List ℕ))) (groups : List (List ℕ))
    (key : Bor (List ℕ)) (name : List ℕ) (added : Bool)
    → HasSeen seen groups → key.now ≡ name → added ≡ not (contains name_order seen key)
    → ((other : Bor (List ℕ))
    → contains name_order more other
    ≡ cond (is_eq (name_order key other)) true (contains name_order seen other))
    → OnFalse added (more.keys ≡ seen.keys)
    → length more.keys ≡ length seen.keys + (if added then 1 else 0)
    → HasSeen more (with_group groups name)
seen_next seen more groups key name added seen_so bytes was adds same len =
    let P : List ℕ → Type 0 = λ text. HasSeen more (with_group groups text) in
    subst P bytes (search (rules, seen_by, seen_so, was, adds, same, len, seen_so.has))

-- the set that is empty
pub seen_none : (seen : BTreeSet (Bor (List ℕ))) → seen.keys ≡ [] → HasSeen seen []
seen_none seen e = grind (arith, e)

-- the groups so far and those of the pairs that are left are all
pub after_next : (groups : List (List ℕ)) (pairs : List (List ℕ × List ℕ)) (i : ℕ)
    (pair default : List ℕ × List ℕ)
    → i < length pairs → pair ≡ get_or pairs i default
    → groups_after groups (drop i pairs) ≡ distinct_groups pairs
    → groups_after (with_group groups pair.0) (drop (i + 1) pairs) ≡ distinct_groups pairs
after_next groups pairs i pair default h is e =
    rw (is, add-one)
    (sym (ap (λ (xs : List (List ℕ × List ℕ)). groups_after groups xs)
    (drop-cons pairs i default h)) ∙ e)

pub after_all : (groups : List (List ℕ)) (pairs : List (List ℕ × List ℕ)) (i : ℕ) → length pairs ≤ i
    → groups_after groups (drop i pairs) ≡ distinct_groups pairs → groups ≡ distinct_groups pairs
after_all groups pairs i h e =
    sym (ap (λ (xs : List (List ℕ × List ℕ)). groups_after groups xs) (drop_all i pairs h)) ∙ e
