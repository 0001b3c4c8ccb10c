-- What each query of the keeper shows of the tables.
use Rattle.std.proofs.Common.{arith, ◌≡◌, ℕ, ℤ, pos, negsuc, List, [], ◌∷◌, map, take, codes, ap}
use Rattle.std.proofs.Common.{subst, sym, ◌∙◌, Less, IsPermutation}
use Rattle.sqlite.specs.{declared.types.Value.TheVariants.{Null, Int, Text}, Order.{Row, value_cmp}}
use Rattle.sqlite.specs.{Program.overlay, State.{State, Shown}, Term.{col, lit}, Tree.rowid}
use Rattle.sqlite.proofs.Callers.{reads_as}
use Rattle.sqlite_keyed.{specs.Lists.sort_by, proofs.ListLemmas.ascending-filter}
use Rattle.store_tables.specs.Shown.{IsRoom, is_child, is_user_row, shown_node}
use Rattle.store_tables.specs.Statements.{HasBytes, HasChild, HasGroups, HasNames, HasNode}
use Rattle.store_tables.specs.Statements.{HasNumbers, HasSome, HasTop, HasUnder, by_column}
use Rattle.store_tables.specs.Statements.{shown_bytes, shown_group, shown_name, shown_number}
use Rattle.store_tables.{specs.Tables.room_schema, proofs.{Answers.passes, Calls.selects_rows}}
use Rattle.store_tables.proofs.{Ordered.{HasNoTies, as_stored, cut, in_order}, Apart.children_apart}
use Rattle.store_tables.proofs.{Apart.members_apart, Tests.{passes_child, passes_child_named}}
use Rattle.store_tables.proofs.Tests.{passes_id, passes_numbered, passes_top, passes_user}
use Rattle.store_tables.proofs.Texts.{all_columns, body_is, body_text, child_is, child_text}
use Rattle.store_tables.proofs.Texts.{children_is, children_query, children_text, groups_is}
use Rattle.store_tables.proofs.Texts.{groups_query, groups_text, ids_is, ids_query, ids_text}
use Rattle.store_tables.proofs.Texts.{is_kept, matches_parameter, name_columns, name_query, names}
use Rattle.store_tables.proofs.Texts.{names_are, names_text, node_is, node_text, plain_names}
use Rattle.store_tables.proofs.Texts.{plain_some, plain_texts, root_is, root_query, root_text}
use Rattle.store_tables.proofs.Texts.{selects, some_is, some_query, some_text, top_tests}
use Rattle.room_entry.proofs.Facts.Lists.{filter_same}

module _ (old new : State) (rows : List Row) (room : IsRoom old.now) where
  pub shows_node : (id : ℤ) → Shown node_text (Int id ∷ []) old new rows
      → HasNode id old.now.trees rows
  shows_node id h =
      subst (λ l. IsPermutation (map shown_node l) rows)
      (filter_same _ _ (passes_id id) (old.now.trees 0))
      (selects_rows node_text (Int id ∷ []) old new 0 (matches_parameter 0 0 ∷ []) all_columns
      [] names node_is plain_texts.0 room.schema rows h)

  pub shows_child : (parent : ℤ) (name : List ℕ)
      → Shown child_text (Int parent ∷ Text name ∷ []) old new rows
      → HasChild parent name old.now.trees rows
  shows_child parent name h =
      subst (λ l. IsPermutation (map shown_node l) rows)
      (filter_same _ _ (passes_child_named parent name) (old.now.trees 0))
      (selects_rows child_text (Int parent ∷ Text name ∷ []) old new 0
      (matches_parameter 2 0 ∷ matches_parameter 3 1 ∷ is_kept ∷ []) all_columns
      [] names child_is plain_texts.1 room.schema rows h)

  pub shows_bytes : (id : ℤ) → Shown body_text (Int id ∷ []) old new rows
      → HasBytes id old.now.trees rows
  shows_bytes id h =
      subst (λ l. IsPermutation (map shown_bytes l) rows)
      (filter_same _ _ (passes_id id) (old.now.trees 2))
      (selects_rows body_text (Int id ∷ []) old new 2 (matches_parameter 0 0 ∷ []) (col 1 2 ∷ []) []
      (codes "bytes" ∷ []) body_is plain_texts.5 room.schema rows h)

  pub shows_some : (parent : ℤ) → Shown some_text (Int parent ∷ []) old new rows
      → HasSome parent old.now.trees rows
  shows_some parent h =
      let read = reads_as some_text (Int parent ∷ []) old new room_schema room.schema
      (selects some_query (codes "id" ∷ [])) some_is.0 plain_some some_is.1 rows h in
      let it = cut 0 (matches_parameter 2 0 ∷ is_kept ∷ []) (col 1 0 ∷ []) [] (lit (Int (pos 1)))
      (overlay old.now.trees []) (Int parent ∷ []) rows (read.answer Null) in (
        it.0,
        grind (arith, it.0, filter_same, passes_child, it.1),
        it.2,
      )

  pub shows_top : Shown root_text [] old new rows → HasTop old.now.trees rows
  shows_top h =
      let read = reads_as root_text [] old new room_schema room.schema
      (selects root_query names) root_is.0 plain_texts.3 root_is.1 rows h in
      let up = ascending-filter (λ a b. value_cmp (rowid a) (rowid b) ≡ Less) (passes top_tests [])
      (old.now.trees 0) room.nodes.0 in
      as_stored 0 0 top_tests all_columns (lit (Int (pos 1))) (overlay old.now.trees []) [] rows
      (read.answer Null) up
      ∙ ap (λ l. take 1 (map shown_node l)) (filter_same _ _ passes_top (old.now.trees 0))

  pub shows_numbers : Shown ids_text [] old new rows → HasNumbers old.now.trees rows
  shows_numbers h =
      let read = reads_as ids_text [] old new room_schema room.schema
      (selects ids_query (codes "id" ∷ [])) ids_is.0 plain_texts.4 ids_is.1 rows h in
      let up = ascending-filter (λ a b. value_cmp (rowid a) (rowid b) ≡ Less)
      (passes (is_kept ∷ []) []) (old.now.trees 0) room.nodes.0 in
      as_stored 0 0 (is_kept ∷ []) (col 1 0 ∷ []) (lit (Int (negsuc 0))) (overlay old.now.trees [])
      [] rows (read.answer Null) up
      ∙ ap (λ l. map shown_number l) (filter_same _ _ passes_numbered (old.now.trees 0))

  pub shows_under : (parent : ℤ) → Shown children_text (Int parent ∷ []) old new rows
      → HasUnder parent old.now.trees rows
  shows_under parent h =
      let tests = matches_parameter 2 0 ∷ is_kept ∷ [] in
      let params = Int parent ∷ [] in
      let read = reads_as children_text params old new room_schema room.schema
      (selects children_query names) children_is.0 plain_texts.2 children_is.1 rows h in
      let same = filter_same (passes tests params) (is_child parent) (passes_child parent)
      (old.now.trees 0) in
      in_order 0 3 tests all_columns (lit (Int (negsuc 0))) (overlay old.now.trees []) params rows
      (read.answer Null) (grind (arith, children_apart, room))
      ∙ ap (λ l. map shown_node (sort_by (by_column 3) l)) same

  pub shows_names : (parent : ℤ) → Shown names_text (Int parent ∷ []) old new rows
      → HasNames parent old.now.trees rows
  shows_names parent h =
      let tests = matches_parameter 2 0 ∷ is_kept ∷ [] in
      let params = Int parent ∷ [] in
      let read = reads_as names_text params old new room_schema room.schema
      (selects name_query (codes "id" ∷ codes "name" ∷ codes "kind" ∷ [])) names_are.0
      plain_names names_are.1 rows h in
      let same = filter_same (passes tests params) (is_child parent) (passes_child parent)
      (old.now.trees 0) in
      in_order 0 3 tests name_columns (lit (Int (negsuc 0))) (overlay old.now.trees []) params rows
      (read.answer Null) (grind (arith, children_apart, room))
      ∙ ap (λ l. map shown_name (sort_by (by_column 3) l)) same

  pub shows_groups : (user : List ℕ) → Shown groups_text (Text user ∷ []) old new rows
      → HasGroups user old.now.trees rows
  shows_groups user h =
      let tests = matches_parameter 2 0 ∷ [] in
      let params = Text user ∷ [] in
      let read = reads_as groups_text params old new room_schema room.schema
      (selects groups_query (codes "grp" ∷ [])) groups_is.0 plain_texts.6 groups_is.1 rows h in
      let same = filter_same (passes tests params) (is_user_row user) (passes_user user)
      (old.now.trees 3) in
      in_order 3 1 tests (col 1 1 ∷ []) (lit (Int (negsuc 0)))
      (overlay old.now.trees []) params rows (read.answer Null)
      (subst (HasNoTies (by_column 1)) (sym same) (members_apart old.now room user))
      ∙ ap (λ l. map shown_group (sort_by (by_column 1) l)) same
