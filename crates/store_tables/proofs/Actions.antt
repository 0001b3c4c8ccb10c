-- What the deletion of an object sets off: no child may be left, and its bytes go.
use Rattle.std.proofs.Common.{rules, ◌≡◌, ℕ, zero, suc, ℤ, List, [], ◌∷◌, length, filter, Result}
use Rattle.std.proofs.Common.{Ok, Err, Some, IsTrue, inl, inr, ◌⊎◌, refl, sym, ap, subst, ◌∙◌, true}
use Rattle.std.proofs.Common.{false, Bool, codes, not, IfOk, if◌then◌else◌, drop, find, unwrap_or}
use Rattle.std.proofs.{Common.{◌<ℤ◌, subst₂, arith, length-append}, lemmas.Cmp.tied_itself}
use Rattle.std.{proofs.lemmas.{Cmp.int_cmp_total, Bool.Decides.nat_tests}, specs.Ordering.is_eq}
use Rattle.std.specs.List.{list_any, AllByRecursion}
use Rattle.sqlite.specs.{declared.{types.Value.TheVariants.Int, error.Error.Error}, Order.Row}
use Rattle.sqlite.specs.{Tree.{Trees, rowid, has_rowid, without_rowid}, State.{State, Executes}}
use Rattle.sqlite.specs.{Effect.Database, Edit.{taken_by, edited}, Rows.Edited}
use Rattle.sqlite.proofs.Callers.{one_permutation}
use Rattle.sqlite_schema.specs.declared.schema.{Keys.TheVariants.Enforced, Table.Table}
use Rattle.sqlite_schema.specs.declared.schema.{Reference.Reference, Action.TheVariants.NoAction}
use Rattle.sqlite_schema.specs.declared.schema.Action.TheVariants.{Restrict, Cascade}
use Rattle.sqlite_value.specs.{Keys.plain, Order.value_cmp}
use Rattle.sqlite_rules.specs.{declared.action.Deed.TheVariants.{Refuse, Delete}, Action.Work}
use Rattle.sqlite_rules.specs.Action.{works, is_child_of, action_edit, AreChildren, Leads, ActsOn}
use Rattle.sqlite_rules.specs.{Action.Acts, InPlace.Rise, Lists.Has}
use Rattle.sqlite_tied.specs.Compute.{everything}
use Rattle.sqlite_sql.specs.Ops.{binary}
use Rattle.store_tables.specs.{Tables.{bodies, room_schema}, Shown.{IsRoom, RemovesRow, KeepsAll}}
use Rattle.store_tables.{specs.Printed.KeepsPrinted, proofs.Writes.{nodes_table, delete_edit}}
use Rattle.store_tables.proofs.{Writes.{Deleted, deleted}, Answers.shows, Texts.delete_text}
use Rattle.store_tables.proofs.{Printed.{keeps_fewer, keeps_same}, Calls.retains_by}
use Rattle.store_tables.proofs.{Executed.WritesRoom, Rowids.{at_most_one, only_one, has_found}}
use Rattle.store_tables.proofs.Rowids.{cells_of, alone_in, has_itself, same_int, rowid_is}
use Rattle.store_tables.proofs.Rowids.{none_taken, each_of, of_each, pop_one, pop_two}
use Rattle.sqlite_trees.{proofs.TreeLemmas.IsShaped-filter, specs.View.{is_int, IsShaped}}
use Rattle.sqlite_trees.specs.declared.store.Shape.TheVariants as Shape

abbrev pub bodies_table : Table
bodies_table = record bodies { tree = 2 }

abbrev pub to_parent : Reference
to_parent =
    record {
      columns = 2 ∷ [];
      parent = codes "nodes";
      parent_columns = [];
      on_delete = Restrict;
      on_update = Restrict;
      is_deferred = false;
    }

abbrev pub to_node : Reference
to_node =
    record {
      columns = 0 ∷ [];
      parent = codes "nodes";
      parent_columns = [];
      on_delete = Cascade;
      on_update = NoAction;
      is_deferred = false;
    }

abbrev pub spare_children : Row → Work
spare_children r =
    record {
      depth = 0;
      child = nodes_table;
      ref = to_parent;
      places = 0 ∷ [];
      order = plain;
      deed = Refuse;
      moves = (r, []) ∷ [];
    }

abbrev pub take_bytes : Row → Work
take_bytes r =
    record {
      depth = 0;
      child = bodies_table;
      ref = to_node;
      places = 0 ∷ [];
      order = plain;
      deed = Delete;
      moves = (r, []) ∷ [];
    }

pub sets_off : (id : ℤ) (cells : Row)
    → works room_schema Enforced 0 0 ((Int id ∷ cells) ∷ []) [] ≡ spare_children (Int id ∷ cells)
    ∷ take_bytes (Int id ∷ cells) ∷ []
unfolding everything binary
sets_off id cells = let same = has_itself id in rw same refl

pub sets_off_none : works room_schema Enforced 0 0 [] [] ≡ []
unfolding everything
sets_off_none = refl

pub sets_off_nothing : (olds : List Row) → works room_schema Enforced 1 2 olds [] ≡ []
unfolding everything
sets_off_nothing olds = refl

-- what the actions leave of the tables
pub record Follows (id : ℤ) (first next : Trees) : Type 0 where
  pub nodes : next 0 ≡ first 0
  pub bodies : next 2 ≡ without_rowid id (first 2)
  pub members : next 3 ≡ first 3
  pub meta : next 5 ≡ first 5
  pub audits : next 7 ≡ first 7
  pub counters : next 8 ≡ first 8

-- the row is the parent's, so it is a child of the row that is taken out
is_of : (id : ℤ) (cells : Row) (b : Row) → rowid b ≡ Int id
    → list_any (is_child_of (take_bytes (Int id ∷ cells)) b) ((Int id ∷ cells, []) ∷ []) ≡ true
unfolding everything binary
is_of id cells b is = let same = has_itself id in rw (same, is, same) refl

not_of : (id index : ℤ) (cells : Row) (b : Row) → rowid b ≡ Int index
    → is_eq (value_cmp (Int index) (Int id)) ≡ false
    → list_any (is_child_of (take_bytes (Int id ∷ cells)) b) ((Int id ∷ cells, []) ∷ []) ≡ false
unfolding everything binary
not_of id at cells b is apart = let same = has_itself id in rw (same, is, apart) refl

of_is : (id index : ℤ) (cells : Row) (b : Row) → rowid b ≡ Int index
    → list_any (is_child_of (take_bytes (Int id ∷ cells)) b) ((Int id ∷ cells, []) ∷ []) ≡ true
    → index ≡ id
of_is id index cells b is h = go (is_eq (value_cmp (Int index) (Int id))) refl
  where
    go : (t : Bool) → is_eq (value_cmp (Int index) (Int id)) ≡ t → index ≡ id
    go true e = same_int index id e
    go false e = absurd (let no' = sym (not_of id index cells b is e) ∙ h in cc)

-- the children of the row, all of one number, are at most one
not_below_itself : (id : ℤ) → id <ℤ id → ⊥
not_below_itself id h = search (rules, tied_itself, int_cmp_total, h)

all_one : (id : ℤ) (ids : List ℤ) → Rise ids → ((x : ℤ) → Has ids x → x ≡ id) → (ids ≡ [])
    ⊎ (ids ≡ id ∷ [])
all_one id [] up all = inl refl
all_one id (a ∷ []) up all = inr (ap (λ x. x ∷ []) (all a (inl refl)))
all_one id (a ∷ b ∷ more) up all =
    absurd
    (not_below_itself id
    (subst (λ x. x <ℤ id) (all a (inl refl)) (subst (λ x. a <ℤ x) (all b (inr (inl refl))) up.0)))

-- nothing waits
pub ends : (n : ℕ) (now next : Trees) → Leads room_schema Enforced n now [] (Ok next) → now ≡ next
ends zero now next h = cc
ends (suc n) now next h =
    absurd (let e = ap length h.2 in omega (arith, length-append h.0 (h.1 ∷ []), e))

module _ (id : ℤ) (cells : Row) (first : Trees)
    (ints : AllByRecursion (λ r. IsTrue (is_int (rowid r))) (first 2)) where
  abbrev row : Row
  row = Int id ∷ cells

  spared : (n : ℕ) (now next : Trees)
      → Acts room_schema Enforced (Leads room_schema Enforced n) now (spare_children row) []
      (Ok next) → now ≡ next
  spared n now next ([], are, h) = ends n now next h
  spared n now next (x ∷ ids, are, h) = absurd (cc)

  left : (n : ℕ) (now next : Trees)
      → Leads room_schema Enforced n now (spare_children row ∷ []) (Ok next) → now ≡ next
  left zero now next h = absurd (cc)
  left (suc n) now next h =
      let last = pop_one _ h.0 h.1 h.2 in
      spared n now next (search (rules, now, next, last.0, last.1, h.3))

  not_there : AreChildren first (take_bytes row) [] → (b : Row) → Has (first 2) b → (t : Bool)
      → has_rowid id b ≡ t → t ≡ false
  not_there are b there false is = refl
  not_there are b there true is =
      let rowid' = rowid_is id b (of_each _ (first 2) ints b there) is in
      absurd (are.complete b id there (is_of id cells b rowid') rowid')

  nothing_there : AreChildren first (take_bytes row) [] → without_rowid id (first 2) ≡ first 2
  nothing_there are = grind (arith, nat_tests, each_of, none_taken, not_there)

  only_child : (x : ℤ) (ids : List ℤ) → AreChildren first (take_bytes row) (x ∷ ids)
      → x ∷ ids ≡ id ∷ []
  only_child x ids are =
      go (all_one id (x ∷ ids) are.rise
      (λ y has. let it = are.sound y has in of_is id y cells it.0 it.3 it.2))
    where
      go : ((x ∷ ids ≡ []) ⊎ (x ∷ ids ≡ id ∷ [])) → x ∷ ids ≡ id ∷ []
      go (inl e) = absurd (let e' = e in cc)
      go (inr e) = e

  taken : (n : ℕ) (next : Trees) (ids : List ℤ) → AreChildren first (take_bytes row) ids
      → ActsOn room_schema Enforced (Leads room_schema Enforced n) first (take_bytes row)
      (spare_children row ∷ []) (Ok next) ids
      → Follows id first next
  taken n next [] are h =
      search (rules, left, nothing_there, h)
  taken n next (x ∷ ids) are (inl refused) = absurd (cc)
  taken n next (x ∷ ids) are (inr (inl big)) = absurd (cc)
  taken n next (x ∷ ids) are (inr (inr went)) =
      let same = left n went.0 next
      (subst (λ more. Leads room_schema Enforced n went.0 (spare_children row ∷ more) (Ok next))
      (sets_off_nothing (taken_by first (action_edit first (take_bytes row) (x ∷ ids)))) went.2)
      in
      search (rules, only_child, are, same)

  pub follows : (n : ℕ) (next : Trees)
      → Leads room_schema Enforced n first (spare_children row ∷ take_bytes row ∷ []) (Ok next)
      → Follows id first next
  follows zero next h = absurd (cc)
  follows (suc n) next h =
      let last = pop_two _ _ h.0 h.1 h.2 in
      let acts = subst₂ (λ below w. Acts room_schema Enforced
      (Leads room_schema Enforced n) first w below (Ok next)) last.0 last.1 h.3 in
      taken n next acts.0 acts.1 acts.2

-- the steps of an edit that takes out rows and puts in none
module _ (id : ℤ) (db next : Trees) (rows : List Row) (bodies : IsShaped Shape.Table (db 2)) where
  -- one row is taken out, with its bytes
  one_removed : (cells : Row) → rows ≡ (Int id ∷ []) ∷ []
      → find (has_rowid id) (db 0) ≡ Some (Int id ∷ cells)
      → Edited room_schema Enforced db (delete_edit db rows) (Ok next) → RemovesRow id db next
  one_removed cells one there (inl refused) = absurd (cc)
  one_removed cells one there (inr (inl big)) = absurd (cc)
  one_removed cells one there (inr (inr went)) =
      let first = went.0 in
      let other = went.1.tables in
      let same : first 2 ≡ db 2 = other.1.0 (λ e. let e' : 2 ≡ 0 = e in omega (arith, e')) in
      let olds : taken_by db (delete_edit db rows) ≡ (Int id ∷ cells) ∷ [] = ap
      (λ l. taken_by db (delete_edit db l)) one ∙ ap (λ o. unwrap_or o [] ∷ []) there in
      let work = ap (λ l. works room_schema Enforced 0 0 l []) olds ∙ sets_off id cells in
      let led = subst (λ stack. Leads room_schema Enforced went.2.0 first stack (Ok next)) work
      went.2.1 in
      let done = follows id cells first
      (subst (AllByRecursion (λ r. IsTrue (is_int (rowid r)))) (sym same) bodies.1) went.2.0
      next led in
      record {
        nodes = done.nodes ∙ went.1.rows ∙ ap (λ l. edited db (delete_edit db l)) one;
        bodies = done.bodies ∙ ap (without_rowid id) same;
        members = done.members ∙ other.1.1.0 (λ e. let e' : 3 ≡ 0 = e in omega (arith, e'));
        meta = done.meta ∙ other.1.1.1.0 (λ e. let e' : 5 ≡ 0 = e in omega (arith, e'));
        audits = done.audits ∙ other.1.1.1.1.0 (λ e. let e' : 7 ≡ 0 = e in omega (arith, e'));
        counters = done.counters ∙ other.1.1.1.1.1.0 (λ e. let e' : 8 ≡ 0 = e in omega (arith, e'));
      }

  -- there was no row to take out
  none_removed : rows ≡ [] → Edited room_schema Enforced db (delete_edit db rows) (Ok next)
      → KeepsAll db next
  none_removed none (inl refused) = absurd (cc)
  none_removed none (inr (inl big)) = absurd (cc)
  none_removed none (inr (inr went)) = grind (arith, nat_tests, delete_edit, ends)

-- what a deletion by number does
pub deletes : (id : ℤ) (old new : State) (count : ℕ) → IsRoom old.now → Deleted id old new count
    → ((count ≡ 0) × KeepsAll old.now.trees new.now.trees)
    ⊎ RemovesRow id old.now.trees new.now.trees
deletes id old new count room d = go (at_most_one id (old.now.trees 0) room.nodes.0)
  where
    now : new.now.trees ≡ d.next
    now = ap (λ (db : Database). db.trees) d.now

    go : ((filter (has_rowid id) (old.now.trees 0) ≡ [])
        ⊎ ((r : Row) × (filter (has_rowid id) (old.now.trees 0) ≡ r ∷ [])))
        → ((count ≡ 0) × KeepsAll old.now.trees new.now.trees)
        ⊎ RemovesRow id old.now.trees new.now.trees
    go (inl none) =
        let rows = alone_in d.rows (search (rules, shows, d.rows, d.found)) in
        let same = none_removed id old.now.trees d.next d.rows room.bodies rows d.edited in
        inl (d.counted ∙ ap length rows, subst (KeepsAll old.now.trees) (sym now) same)
    go (inr (r, one)) =
        let there = only_one (has_rowid id) (old.now.trees 0) r one in
        let is = rowid_is id r
        (of_each _ (old.now.trees 0) room.nodes.1 r
        (has_found (has_rowid id) (old.now.trees 0) r there.0)) there.1 in
        let rows = one_permutation _ d.rows (search (rules, shows, d.rows, d.found)) in
        let rows' : d.rows ≡ (Int id ∷ []) ∷ [] = rows ∙ ap (λ v. (v ∷ []) ∷ []) is in
        let done = one_removed id old.now.trees d.next d.rows room.bodies (drop 1 r) rows'
        (there.0 ∙ ap Some (cells_of id r is)) d.edited in
        inr (subst (RemovesRow id old.now.trees) (sym now) done)

-- the tables are still rooms tables, and nothing is committed
pub delete_room : (id : ℤ) (old new : State) → IsTrue old.in_transaction → (count : ℕ)
    → Executes delete_text (Int id ∷ []) old new (Ok count) → IsRoom old.now → WritesRoom old new
delete_room id old new inside count h room =
    let d = deleted id old new count room.schema h in (
      d.shown.committed_is ∙ ap (λ b. if b then old.committed else new.now) inside,
      elim (deletes id old new count room d) [
        | inl same ↦ record {
          schema = ap (λ (db : Database). db.schema) d.now;
          sound = d.sound;
          nodes = subst (IsShaped Shape.Table) (sym same.1.nodes) room.nodes;
          bodies = subst (IsShaped Shape.Table) (sym same.1.bodies) room.bodies;
          members = subst (IsShaped Shape.Table) (sym same.1.members) room.members;
          audits = subst (IsShaped Shape.Table) (sym same.1.audits) room.audits;
        }
        | inr gone ↦ record {
          schema = ap (λ (db : Database). db.schema) d.now;
          sound = d.sound;
          members = subst (IsShaped Shape.Table) (sym gone.members) room.members;
          audits = subst (IsShaped Shape.Table) (sym gone.audits) room.audits;
          nodes =
              subst (IsShaped Shape.Table) (sym gone.nodes)
              (IsShaped-filter Shape.Table (λ r. not (has_rowid id r)) _ room.nodes);
          bodies =
              subst (IsShaped Shape.Table) (sym gone.bodies)
              (IsShaped-filter Shape.Table (λ r. not (has_rowid id r)) _ room.bodies);
        }
      ],
      d.shown.mode ∙ inside,
      elim (deletes id old new count room d) [
        | inl same ↦ retains_by _ _ same.1.meta same.1.audits same.1.counters (keeps_same _ _ same.1.nodes)
        | inr gone ↦
            retains_by _ _ gone.meta gone.audits gone.counters
            (subst (KeepsPrinted (old.now.trees 0)) (sym gone.nodes)
            (keeps_fewer id (old.now.trees 0)))
      ],
    )

-- one row was deleted
pub delete_one : (id : ℤ) (old new : State) (r : Result ℕ Error) → IsRoom old.now
    → Executes delete_text (Int id ∷ []) old new r
    → IfOk r (λ count. count ≡ 1 → RemovesRow id old.now.trees new.now.trees)
delete_one id old new (Err e) room h = tt
delete_one id old new (Ok count) room h =
    λ one. elim (deletes id old new count room (deleted id old new count room.schema h))
    [ inl same ↦ absurd (let e : 0 ≡ 1 = sym same.0 ∙ one in omega (arith, e)) | inr gone ↦ gone ]
