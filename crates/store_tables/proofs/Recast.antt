-- What is left where some cells of a row are written by its number, and the others as they are.
use Rattle.std.proofs.Common.{rules, ◌≡◌, ℕ, ℤ, List, [], ◌∷◌, length, map, filter, find, drop, Ok}
use Rattle.std.proofs.Common.{None, Some, IsTrue, inl, inr, ◌⊎◌, refl, sym, ap, subst, ◌∙◌, not}
use Rattle.std.proofs.{Common.{if◌then◌else◌, arith}, lemmas.Option.same_Some}
use Rattle.std.{proofs.lemmas.Bool.Decides.nat_tests, specs.List.Sorted.IsPermutation}
use Rattle.sqlite.specs.{declared.types.Value.TheVariants.{Null, Int}, Order.Row, Program.overlay}
use Rattle.sqlite.specs.{Cast.cast_row, Term.Term, Tree.{Trees, rowid, has_rowid}, Does.Does}
use Rattle.sqlite.specs.{Rows.Edited, Effect.{Database, IsDatabase}, Listing.understood}
use Rattle.sqlite.{specs.State.{State, mode_of, Executes, Shows}, proofs.Callers.IsPlain}
use Rattle.sqlite.proofs.Callers.{command_of, runs_as, statement_of, one_permutation}
use Rattle.sqlite_rules.specs.Cast.{cast_all}
use Rattle.sqlite_schema.specs.declared.schema.Keys.TheVariants.{Enforced}
use Rattle.sqlite_trees.{specs.View.IsShaped, proofs.TreeLemmas.{IsShaped-filter, IsShaped-put_row}}
use Rattle.store_tables.specs.{Tables.{nodes, room_schema}, Shown.{IsRoom, KeepsAll, Recasts}}
use Rattle.store_tables.specs.{Shown.{Replaces, stored_node}, Printed.KeepsPrinted}
use Rattle.store_tables.proofs.Texts.{matches_parameter, updates_nodes, updates_where}
use Rattle.store_tables.proofs.{Answers.{passes, shows, selected}, Tests.passes_id, Writes.went}
use Rattle.store_tables.proofs.{Writes.{same_value, nodes_table}, Printed.WritesPrinted}
use Rattle.store_tables.proofs.{Printed.{keeps_over, keeps_same}, Calls.retains_by}
use Rattle.store_tables.proofs.{Executed.WritesRoom, Rowids.{at_most_one, only_one, has_found}}
use Rattle.store_tables.proofs.{Rowids.{cells_of, alone_in, rowid_is, of_each}, Actions.ends}
use Rattle.store_tables.proofs.{Actions.sets_off_none, Updates.{cast_int, cast_null, keeps_number}}
use Rattle.store_tables.proofs.Updates.{update_edit}
use Rattle.room_entry.proofs.Facts.Lists.{filter_same}
use Rattle.sqlite_trees.specs.declared.store.Shape.TheVariants as Shape

-- what the columns after the number make of cells
abbrev pub recast : Row → Row
recast cells = cast_all (drop 1 nodes.columns) cells

-- a row that is given its number and such cells
pub cast_head : (id : ℤ) (cells : Row)
    → cast_row nodes_table (Int id ∷ Null ∷ cells) ≡ stored_node id (recast cells)
cast_head id cells = rw (cast_int id, cast_null) refl

-- which rows are found, and what the edit then leaves
pub record Rewritten (tests terms : List Term) (params : Row) (old new : State)
    (count : ℕ) : Type 0 where
  pub rows : List Row
  pub found : IsPermutation
      (map (shows terms params) (filter (passes tests params) (old.now.trees 0))) rows
  pub next : Trees
  pub edited : Edited room_schema Enforced old.now.trees (update_edit old.now.trees rows) (Ok next)
  pub now : new.now ≡ record { schema = room_schema; trees = next }
  pub counted : count ≡ length (update_edit old.now.trees rows).news
  pub sound : IsDatabase new.now
  pub shown : Shows old new new.now
      (if old.in_transaction then old.committed else new.now) old.in_transaction

pub rewritten : (text : List ℕ) (tests terms : List Term)
    → command_of (understood room_schema text) ≡ updates_where tests terms
    → IsPlain (understood room_schema text) → (params : Row) (old new : State) (count : ℕ)
    → old.now.schema ≡ room_schema → Executes text params old new (Ok count)
    → Rewritten tests terms params old new count
rewritten sql tests terms is plain params old new count has h =
    let command = updates_where tests terms in
    let w = runs_as sql params old new room_schema has command is plain count h in
    let text = statement_of sql (understood room_schema sql) in
    let done = went
    (subst (λ s. Does old.step_limit (mode_of old) params
    (record old.now { schema = s }) text None command (Ok (w.tally, new.now))) has w.changed) in
    let asked = went done.1 in
    let did = went asked.2 in
    let last = same_value (went (went done.2).2).2 in
    let wrote : done.0 ≡ record {
      trees = did.0;
      rows = (update_edit old.now.trees asked.0).news;
      last = None;
    } = search (rules, same_value, did.2) in
    record {
      rows = asked.0;
      found =
          selected Null 0 tests terms [] (overlay old.now.trees []) params asked.0
          (asked.1.answer Null);
      next = did.0;
      edited = did.1;
      now = grind (arith, nat_tests, last, wrote);
      sound = w.sound;
      shown = w.shown;
      counted = grind (arith, nat_tests, w.counted, last, wrote);
    }

module _ (id : ℤ) (db next : Trees) (rows : List Row) where
  one_recast : (cells old : Row) → rows ≡ (Int id ∷ Int id ∷ Null ∷ cells) ∷ []
      → find (has_rowid id) (db 0) ≡ Some (Int id ∷ old)
      → Edited room_schema Enforced db (update_edit db rows) (Ok next)
      → Replaces id (recast cells) db next
  one_recast cells old one there (inl refused) = absurd (cc)
  one_recast cells old one there (inr (inl big)) = absurd (cc)
  one_recast cells old one there (inr (inr went)) =
      grind (arith, nat_tests, cast_head, ends, keeps_number, update_edit, went)

  none_recast : rows ≡ [] → Edited room_schema Enforced db (update_edit db rows) (Ok next)
      → KeepsAll db next
  none_recast none (inl refused) = absurd (cc)
  none_recast none (inr (inl big)) = absurd (cc)
  none_recast none (inr (inr went)) =
      grind (arith, nat_tests, ends, sets_off_none, update_edit, went)

-- the terms keep the number, and give the other cells so
abbrev pub Gives : List Term → ℤ → Row → (Row → Row) → Type 0
Gives terms id given change = (r : Row)
    → shows terms (Int id ∷ given) r ≡ rowid r ∷ rowid r ∷ Null ∷ change r

-- no row was found, or this one was written
abbrev pub Did : ℤ → (Row → Row) → ℕ → Trees → Trees → Type 0
Did id change count db next = ((count ≡ 0) × KeepsAll db next)
    ⊎ ((r : Row) × (find (has_rowid id) (db 0) ≡ Some r) × Replaces id (recast (change r)) db next)

pub did : (terms : List Term) (id : ℤ) (given : Row) (change : Row → Row)
    → Gives terms id given change → (old new : State) (count : ℕ) → IsRoom old.now
    → Rewritten (matches_parameter 0 0 ∷ []) terms (Int id ∷ given) old new count
    → Did id change count old.now.trees new.now.trees
did terms id given change gives old new count room d =
    go (at_most_one id (old.now.trees 0) room.nodes.0)
  where
    now : new.now.trees ≡ d.next
    now = ap (λ (db : Database). db.trees) d.now

    found : IsPermutation
        (map (shows terms (Int id ∷ given)) (filter (has_rowid id) (old.now.trees 0))) d.rows
    found =
        subst (λ l. IsPermutation (map (shows terms (Int id ∷ given)) l) d.rows)
        (filter_same _ _ (passes_id id) (old.now.trees 0)) d.found

    go : ((filter (has_rowid id) (old.now.trees 0) ≡ [])
        ⊎ ((r : Row) × (filter (has_rowid id) (old.now.trees 0) ≡ r ∷ [])))
        → Did id change count old.now.trees new.now.trees
    go (inl none) =
        let rows = alone_in d.rows
        (subst (λ l. IsPermutation (map (shows terms (Int id ∷ given)) l) d.rows) none found)
        in
        let same = none_recast id old.now.trees d.next d.rows rows d.edited in
        inl (search (rules, d.counted, old.now.trees, rows, now, same))
    go (inr (r, one)) =
        let there = only_one (has_rowid id) (old.now.trees 0) r one in
        let is = rowid_is id r
        (of_each _ (old.now.trees 0) room.nodes.1 r
        (has_found (has_rowid id) (old.now.trees 0) r there.0)) there.1 in
        let rows = one_permutation _ d.rows
        (subst (λ l. IsPermutation (map (shows terms (Int id ∷ given)) l) d.rows) one found)
        in
        let rows' : d.rows ≡ (Int id ∷ Int id ∷ Null ∷ change r) ∷ [] = rows
        ∙ ap (λ l. l ∷ []) (gives r) ∙ ap (λ v. (v ∷ v ∷ Null ∷ change r) ∷ []) is in
        let done = one_recast id old.now.trees d.next d.rows (change r) (drop 1 r) rows'
        (there.0 ∙ ap Some (cells_of id r is)) d.edited in
        inr (r, there.0, subst (Replaces id (recast (change r)) old.now.trees) (sym now) done)

module _ (text : List ℕ) (terms : List Term)
    (is : command_of (understood room_schema text) ≡ updates_nodes terms)
    (plain : IsPlain (understood room_schema text)) (id : ℤ) (given : Row) (change : Row → Row)
    (gives : Gives terms id given change) where
  pub recast_room : WritesPrinted change → (old new : State) → IsTrue old.in_transaction
      → (count : ℕ) → Executes text (Int id ∷ given) old new (Ok count) → IsRoom old.now
      → WritesRoom old new
  recast_room printed old new inside count h room =
      let d = rewritten text (matches_parameter 0 0 ∷ []) terms is plain (Int id ∷ given) old new
      count room.schema h in (
        d.shown.committed_is ∙ ap (λ b. if b then old.committed else new.now) inside,
        elim (did terms id given change gives old new count room d) [
          | inl same ↦ record {
            schema = ap (λ (db : Database). db.schema) d.now;
            sound = d.sound;
            nodes = subst (IsShaped Shape.Table) (sym same.1.nodes) room.nodes;
            bodies = subst (IsShaped Shape.Table) (sym same.1.bodies) room.bodies;
            members = subst (IsShaped Shape.Table) (sym same.1.members) room.members;
            audits = subst (IsShaped Shape.Table) (sym same.1.audits) room.audits;
          }
          | inr put ↦ record {
            schema = ap (λ (db : Database). db.schema) d.now;
            sound = d.sound;
            members = subst (IsShaped Shape.Table) (sym put.2.members) room.members;
            audits = subst (IsShaped Shape.Table) (sym put.2.audits) room.audits;
            nodes =
                subst (IsShaped Shape.Table) (sym put.2.nodes)
                (IsShaped-put_row (stored_node id (recast (change put.0))) _ refl
                (IsShaped-filter Shape.Table (λ r. not (has_rowid id r)) _ room.nodes));
            bodies = subst (IsShaped Shape.Table) (sym put.2.bodies) room.bodies;
          }
        ],
        d.shown.mode ∙ inside,
        elim (did terms id given change gives old new count room d) [
          | inl same ↦ retains_by _ _ same.1.meta same.1.audits same.1.counters (keeps_same _ _ same.1.nodes)
          | inr put ↦
              retains_by _ _ put.2.meta put.2.audits put.2.counters
              (subst (KeepsPrinted (old.now.trees 0)) (sym put.2.nodes)
              (keeps_over old.now room id change printed put.0 put.1))
        ],
      )

  pub recast_one : (old new : State) (count : ℕ) → IsRoom old.now
      → Executes text (Int id ∷ given) old new (Ok count) → count ≡ 1
      → Recasts change id old.now.trees new.now.trees
  recast_one old new count room h one =
      elim (did terms id given change gives old new count room
      (search (rules, rewritten, old, new, room.schema, h))) [
        | inl same ↦ absurd (let e : 0 ≡ 1 = sym same.0 ∙ one in omega (arith, e))
        | inr put ↦ search (rules, old.now.trees, new.now.trees, same_Some, put.0, put.1, put.2)
      ]
