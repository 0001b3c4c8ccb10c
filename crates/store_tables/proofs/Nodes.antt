-- What reading a row by its number answers.
use Rattle.std.proofs.Common.{rules, ◌≡◌, ◌<◌, ℕ, pos, List, [], ◌∷◌, map, filter, find, None, Some}
use Rattle.std.proofs.Common.{Option, Result, Ok, Err, inl, inr, ◌⊎◌, refl, sym, ap, subst, ◌∙◌}
use Rattle.std.proofs.{Common.{Bool, arith}, lemmas.Bool.Decides.nat_tests}
use Rattle.std.specs.Prelude.{option_and_then, option_map, is_none, is_some, if◌then◌else◌, IfOk}
use Rattle.std.specs.{Prelude.IfErr, List.Sorted.IsPermutation}
use Rattle.sqlite.specs.{declared.types.Value.TheVariants.Int, Order.Row, Tree.{rowid, has_rowid}}
use Rattle.sqlite.{specs.Effect.Database, proofs.Callers.one_permutation}
use Rattle.room_rows.specs.declared.keep.KeepFault.{KeepFault, TheVariants.{Memory, Store, NoRoot}}
use Rattle.room_rows.specs.declared.{keep.KeepFault.TheVariants.Damaged, node.Node.Node}
use Rattle.room_rows.specs.{Rows.Rows, Keep.{IsNodeAt, IsRead, IsUnreadableAt, HasCause, IfSeen}}
use Rattle.store_tables.specs.{Shown.{IsRoom, shown_node}, Meaning.{number_in, node_in, unread_in}}
use Rattle.store_tables.specs.{Meaning.{unread_with, rows_of}, Filed.{node_at_row, unread_at_row}}
use Rattle.store_tables.specs.{RoomRows.number_in-low, Seeing.{result_of_seen, seen_only, seen_as}}
use Rattle.store_tables.{specs.Seeing.counted_by, proofs.Rowids.{alone_in, at_most_one, only_one}}
use Rattle.store_tables.proofs.Rowids.{has_found, rowid_is, of_each}

-- an answer, or a row that is blamed
abbrev pub Tells : {X : Type 0} → (Rows → ℕ → Type 0) → (Rows → X → Type 0) → Rows
    → Result X KeepFault → Type 0
Tells Blames Answers rows (Ok x) = Answers rows x
Tells Blames Answers rows (Err Memory) = Unit {0}
Tells Blames Answers rows (Err Store) = Unit {0}
Tells Blames Answers rows (Err NoRoot) = Blames rows 0
Tells Blames Answers rows (Err (Damaged at)) = Blames rows at

told_answers : {X : Type 0} (Blames : Rows → ℕ → Type 0) (Answers : Rows → X → Type 0)
    (rows : Rows) (r : Result X KeepFault) → Tells Blames Answers rows r → IfOk r (Answers rows)
told_answers Blames Answers rows (Ok x) t = t
told_answers Blames Answers rows (Err e) t = tt

told_cause : {X Trusted : Type 0} (Blames : Rows → ℕ → Type 0) (Answers : Rows → X → Type 0)
    (rows : Rows) (r : Result X KeepFault) (before after : ℕ) → counted_by r before after
    → (Trusted → Tells Blames Answers rows r)
    → IfErr r (HasCause before after (λ at. Trusted → Blames rows at))
told_cause Blames Answers rows (Ok x) before after counted t = tt
told_cause Blames Answers rows (Err Memory) before after counted t = tt
told_cause Blames Answers rows (Err Store) before after counted t = counted
told_cause Blames Answers rows (Err NoRoot) before after counted t = t
told_cause Blames Answers rows (Err (Damaged at)) before after counted t = t

told_unfailed : {X : Type 0} (r : Result X KeepFault) (before after : ℕ)
    → counted_by r before after → IfOk r (λ _. after ≡ before)
told_unfailed (Ok x) before after counted = counted
told_unfailed (Err e) before after counted = tt

if_seen : {X : Type 0} (r : Result X KeepFault) (P : Type 0) → P → IfSeen r P
if_seen (Ok x) P p = p
if_seen (Err Memory) P p = tt
if_seen (Err Store) P p = tt
if_seen (Err NoRoot) P p = p
if_seen (Err (Damaged id)) P p = p

-- a call that reads, by what it tells, where what came before its end counted no failure
pub reads : {K X : Type 0} (rows : K → Rows) (failures writes : K → ℕ)
    (Follows Trusted : K → K → Type 0) (Blames : Rows → ℕ → Type 0) (Answers : Rows → X → Type 0)
    (old new : K) (r : Result X KeepFault) (mid : ℕ) → Follows old new → writes new ≡ writes old
    → (Trusted old new → rows new ≡ rows old) → mid ≡ failures old
    → counted_by r mid (failures new) → (Trusted old new → Tells Blames Answers (rows old) r)
    → IsRead rows failures writes Follows Trusted old new r Blames Answers
reads rows failures writes Follows Trusted Blames Answers old new r mid follows unwritten same
    unfailed counts tells =
    let counted = subst (λ n. counted_by r n (failures new)) unfailed counts in
    record {
      follows = follows;
      unwritten = unwritten;
      same = λ trust. if_seen r _ (same trust);
      answers = λ trust. told_answers Blames Answers (rows old) r (tells trust);
      unfailed = told_unfailed r _ _ counted;
      fault = told_cause Blames Answers (rows old) r _ _ counted tells;
    }

pub none_passes : {A : Type 0} (p : A → Bool) (xs : List A) → filter p xs ≡ [] → find p xs ≡ None
none_passes p [] none = refl
none_passes p (x ∷ xs) none = grind (arith, nat_tests, none_passes p xs)

module _ (db : Database) (room : IsRoom db) (id : ℕ) (low : 0 < id) where
  nothing : find (has_rowid (pos id)) (db.trees 0) ≡ None → IsNodeAt id (rows_of db) None
  nothing none = (
    sym (node_at_row db id room.nodes.0
        ∙ ap (option_and_then (λ r. node_in (shown_node r))) none),
    unread_at_row db id room.nodes.0
        ∙ ap (λ o. is_some (option_and_then unread_in o)) none,
  )

  something : (r : Row) → find (has_rowid (pos id)) (db.trees 0) ≡ Some r → rowid r ≡ Int (pos id)
      → (o : Option Node) → node_in (shown_node r) ≡ o
      → Tells (IsUnreadableAt id) (IsNodeAt id) (rows_of db)
      (result_of_seen (seen_as (option_map Some o) (number_in (rowid r))))
  something r found is (Some n) seen = (
    sym (node_at_row db id room.nodes.0 ∙ ap (option_and_then (λ r. node_in (shown_node r))) found
        ∙ seen),
    unread_at_row db id room.nodes.0
        ∙ ap (λ o. is_some (option_and_then unread_in o)) found
        ∙ ap (λ o. is_some (if is_none o then option_map (unread_with r) (number_in (rowid r))
        else None)) seen,
  )
  something r found is None seen =
      let number : number_in (rowid r) ≡ Some id = ap number_in is ∙ number_in-low id low in
      let bad = unread_at_row db id room.nodes.0
      ∙ ap (λ o. is_some (option_and_then unread_in o)) found
      ∙ ap (λ o. is_some (if is_none o then option_map (unread_with r) (number_in (rowid r))
      else None)) seen
      ∙ ap (λ m. is_some (option_map (unread_with r) m)) number in search (rules, number, bad)

  -- what the rows that were found by this number answer
  pub tells_node : (rows : List Row)
      → IsPermutation (map shown_node (filter (has_rowid (pos id)) (db.trees 0))) rows
      → Tells (IsUnreadableAt id) (IsNodeAt id) (rows_of db) (result_of_seen (seen_only rows))
  tells_node rows perm = by (at_most_one (pos id) (db.trees 0) room.nodes.0)
    where
      by : ((filter (has_rowid (pos id)) (db.trees 0) ≡ [])
          ⊎ ((r : Row) × (filter (has_rowid (pos id)) (db.trees 0) ≡ r ∷ [])))
          → Tells (IsUnreadableAt id) (IsNodeAt id) (rows_of db) (result_of_seen (seen_only rows))
      by (inl none) =
          let empty = alone_in rows
          (subst (λ l. IsPermutation (map shown_node l) rows) none perm) in
          subst (λ l. Tells (IsUnreadableAt id) (IsNodeAt id) (rows_of db)
          (result_of_seen (seen_only l))) (sym empty)
          (nothing (none_passes (has_rowid (pos id)) (db.trees 0) none))
      by (inr (r, one)) =
          let there = only_one (has_rowid (pos id)) (db.trees 0) r one in
          let is = rowid_is (pos id) r
          (of_each _ (db.trees 0) room.nodes.1 r
          (has_found (has_rowid (pos id)) (db.trees 0) r there.0)) there.1 in
          let alone = one_permutation (shown_node r) rows
          (subst (λ l. IsPermutation (map shown_node l) rows) one perm) in
          search (rules, alone, something, there.0, is)
