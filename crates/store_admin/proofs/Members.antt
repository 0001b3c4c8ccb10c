-- What the query of all pairs shows, and what it is read as.
use Rattle.std.proofs.Common.{◌≡◌, ℕ, List, [], ◌∷◌, map, codes, None, Some, Option, refl, sym, ap}
use Rattle.std.proofs.Common.{subst, ◌∙◌, true, false, Bool, ◌⊎◌, inl, inr, lit≤, Result, IfErr}
use Rattle.std.proofs.{Common.{IsSome, Vec, Global, arith}, lemmas.List.Sorted.IsPermutation-map}
use Rattle.std.proofs.lemmas.List.Sorted.{IsPermutation-sym, list_any-IsPermutation}
use Rattle.std.specs.{Prelude.◌||◌, List.{cons_option, filter_map, list_any}}
use Rattle.std.specs.{List.Sorted.IsStrictlySortedBy, Option.option_map_or}
use Rattle.sqlite.specs.declared.{types.Value.TheVariants.Null, error.Error.Error}
use Rattle.sqlite.specs.{Effect.{Database, RefusesToRead}, Order.Row, Listing.understood}
use Rattle.sqlite.specs.{Listing.reads_listing, Program.overlay, Query.Query, State.State}
use Rattle.sqlite.specs.{State.{FailsToQuery, HasCleanDisk, IsTooLate, Shown}, Term.{Term, col}}
use Rattle.sqlite.proofs.Callers.{IsPlain, command_of, reads_as}
use Rattle.sqlite_resolve.specs.Compile.{first, returning}
use Rattle.store_tables.proofs.{Bare.LacksReturning, Ordered.HasNoTies, Failing.IsAsked}
use Rattle.store_tables.proofs.{Failing.fails_sql, Texts.{ascending_by, query_of, selects}}
use Rattle.store_tables.specs.{Meaning.pair_in, Failing.FailsSql, Paired.{Pair, pair_cmp}}
use Rattle.store_tables.specs.{RoomRows.set_sorted, Shown.IsRoom, Tables.room_schema}
use Rattle.sqlite_keyed.{specs.Lists.sort_by, proofs.SortLemmas.IsPermutation-sort_by}
use Rattle.sqlite_tied.specs.Compute.{everything}
use Rattle.room_rows.specs.Content.{set_of}
use Rattle.store_admin.specs.Operating.{ShowsMembers, by_pair, pair_seen, pairs_seen, shown_pair}
use Rattle.store_admin.proofs.InOrder.{in_pairs, pair_total, pairs_apart, pairs_in_order}
use Rattle.store_admin.proofs.Sets.{has, has_set, is_at, same_sets}
use Rattle.room_entry.proofs.Facts.Lists.{filter_all}

abbrev pub members_text : List ℕ
members_text = codes "SELECT grp, user FROM members ORDER BY grp, user"

abbrev columns : List Term
columns = col 1 1 ∷ col 1 2 ∷ []

abbrev names : List (List ℕ)
names = codes "grp" ∷ codes "user" ∷ []

abbrev asked : Query
asked = query_of 3 [] columns (ascending_by 1 ∷ ascending_by 2 ∷ [])

members_is : (command_of (understood room_schema members_text) ≡ selects asked names)
    × (reads_listing room_schema members_text ≡ false)
unfolding understood everything
members_is = (refl, refl)

plain_members : IsPlain (understood room_schema members_text)
unfolding understood everything
plain_members = (refl, refl)

pub bare_members : LacksReturning members_text
unfolding first returning everything
bare_members = λ schema base. refl

asked_members : IsAsked members_text 0 (understood room_schema members_text)
unfolding understood everything
asked_members = (lit≤ tt, refl, refl, refl)

refused_members : (limit : Option ℕ) (db : Database) (e : Error)
    → RefusesToRead limit
    (selects (query_of 3 [] columns (ascending_by 1 ∷ ascending_by 2 ∷ [])) names)
    (record db { schema = room_schema }) [] e
    → IsSome limit
unfolding everything
refused_members limit db e (inl (told, untyped)) =
    absurd (let x : true ≡ false = untyped in cc)
refused_members limit db e (inr (inl (told, inl grouped))) = absurd grouped
refused_members limit db e (inr (inl (told, inr folded))) = absurd folded.4
refused_members limit db e (inr (inr (told, limited))) = limited

pub fails_members : (old new : State) (r : Result (Vec Row Global) Error)
    → (HasCleanDisk new → IfErr r (λ e. FailsToQuery members_text [] old new e
    ⊎ IsTooLate members_text [] old new e)) → FailsSql old new r
fails_members old new r err =
    fails_sql members_text [] (selects asked names) asked_members members_is.0 members_is.1
    refused_members old new r err

pub shows_members : (old new : State) (rows : List Row) → IsRoom old.now
    → Shown members_text [] old new rows → ShowsMembers old.now.trees rows
shows_members old new rows room h =
    let read = reads_as members_text [] old new room_schema room.schema
    (selects asked names) members_is.0 plain_members members_is.1 rows h in
    let all = filter_all (old.now.trees 3) in
    in_pairs columns (overlay old.now.trees []) [] rows (read.answer Null)
    (subst (HasNoTies by_pair) (sym all) (pairs_apart old.now room))
    ∙ ap (λ l. map shown_pair (sort_by by_pair l)) all

-- ---- as pairs

abbrev pub reads : Pair → Option Pair → Bool
reads x o = option_map_or (is_at x) o false

has_read : (x : Pair) (rows : List Row)
    → has x (pairs_seen rows) ≡ list_any (λ r. reads x (pair_seen r)) rows
has_read x [] = refl
has_read x (r ∷ rows) = by (pair_seen r) (has_read x rows)
  where
    by : (o : Option Pair) → has x (pairs_seen rows) ≡ list_any (λ q. reads x (pair_seen q)) rows
        → has x (cons_option o (pairs_seen rows)) ≡ reads x o
        || list_any (λ q. reads x (pair_seen q)) rows
    by None more = more
    by (Some p) more = ap (λ b. is_at x p || b) more

pairs_shown : (rows : List Row) → pairs_seen (map shown_pair rows) ≡ filter_map pair_in rows
pairs_shown [] = refl
pairs_shown (r ∷ rows) = ap (cons_option (pair_in r)) (pairs_shown rows)

pub tells_members : (table rows : List Row) → HasNoTies by_pair table
    → rows ≡ map shown_pair (sort_by by_pair table)
    → pairs_seen rows ≡ set_of (filter_map pair_in table)
tells_members table rows apart is =
    let order = sort_by by_pair table in
    let all = pairs_seen (map shown_pair table) in
    let found = pairs_seen (map shown_pair order) in
    let moved = IsPermutation-map shown_pair table order
    (IsPermutation-sym order table (IsPermutation-sort_by by_pair pair_total table)) in
    ap pairs_seen is
    ∙ same_sets found (set_of all)
    (subst (IsStrictlySortedBy pair_cmp) (sym (pairs_shown order)) (pairs_in_order table apart))
    (set_sorted all)
    (grind (arith, has_read, list_any-IsPermutation, has_set))
    ∙ ap set_of (pairs_shown table)
