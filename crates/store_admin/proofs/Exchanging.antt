-- What is left of the rows of members once all are taken out, and once one is put in.
use Rattle.std.proofs.Common.{◌≡◌, ◌||◌, ℕ, ℤ, List, [], ◌∷◌, map, codes, Ok, None, IsTrue, inl}
use Rattle.std.proofs.Common.{inr, refl, sym, ap, subst, ◌∙◌, true, false, Bool, if◌then◌else◌}
use Rattle.std.proofs.Common.{arith, IsPermutation, rules}
use Rattle.std.proofs.lemmas.{List.Sorted.list_any-IsPermutation, Bool.Decides.nat_tests}
use Rattle.std.specs.List.{AllByRecursion, list_any}
use Rattle.sqlite.specs.{declared.types.Value.TheVariants.{Null, Text}, Cast.cast_row}
use Rattle.sqlite.specs.{Command.TheVariants.{Insert, Delete}, Does.{Tally, Does}, Edit.Edit}
use Rattle.sqlite.specs.Edit.{are_fresh, edit_of, is_taken, next_rowid, numbered, put_all, taken_by}
use Rattle.sqlite.specs.{Edit.without_all, Effect.{Database, IsDatabase}, Listing.understood}
use Rattle.sqlite.specs.{Order.Row, Program.overlay, Rowids.TheVariants.{Chosen, Given}}
use Rattle.sqlite.specs.{Rows.Written, Source.TheVariants.Values, State.{State, mode_of, Executes}}
use Rattle.sqlite.specs.{State.Shows, Term.{Term, col, lit}, Tree.{Trees, rowid, has_rowid}}
use Rattle.sqlite.{specs.Tree.{put_row, without_rowid}, proofs.Callers.{IsPlain, command_of}}
use Rattle.sqlite.proofs.Callers.{one_step, runs_as, statement_of}
use Rattle.sqlite_rules.specs.{Action.works, Calls.ids_of, Edit.id_in, Lists.Has}
use Rattle.sqlite_schema.specs.declared.schema.{Keys.TheVariants.Enforced, Table.Table}
use Rattle.sqlite_tied.specs.Compute.{everything}
use Rattle.sqlite_trees.{specs.View.{IsShaped, is_int}, proofs.TreeLemmas.IsShaped-put_row}
use Rattle.store_admin.specs.Operating.{Exchanges, stored_pair}
use Rattle.store_tables.{specs.{Shown.IsRoom, Tables.{members, room_schema}}, proofs.Answers.shows}
use Rattle.store_tables.proofs.{Answers.selected, Calls.retains_by, Printed.keeps_same}
use Rattle.store_tables.proofs.{Executed.WritesRoom, Inserts.fresh_alone, Rowids.each_of}
use Rattle.store_tables.proofs.{Rowids.{has_itself, of_each}, Texts.query_of, Updates.cast_null}
use Rattle.store_tables.proofs.Writes.{same_value, went}
use Rattle.room_entry.proofs.Facts.Lists.{filter_all}
use Rattle.sqlite_trees.specs.declared.store.Shape.TheVariants as Shape

abbrev members_table : Table
members_table = record members { tree = 3 }

abbrev pub empty_text : List ℕ
empty_text = codes "DELETE FROM members"

empty_is : command_of (understood room_schema empty_text)
    ≡ Delete 2 (record { lets = []; body = query_of 3 [] (col 1 0 ∷ []) [] })
unfolding understood everything
empty_is = refl

plain_empty : IsPlain (understood room_schema empty_text)
unfolding understood everything
plain_empty = (refl, refl)

abbrev pub join_text : List ℕ
join_text = codes "INSERT INTO members (grp, user) VALUES (?1, ?2)"

abbrev join_terms : List Term
join_terms = lit Null ∷ col 0 0 ∷ col 0 1 ∷ []

join_is : command_of (understood room_schema join_text) ≡ Insert 2 (Values join_terms 3)
unfolding understood everything
join_is = refl

plain_join : IsPlain (understood room_schema join_text)
unfolding understood everything
plain_join = (refl, refl)

-- nothing refers to pairs
none_off : (olds : List Row) → works room_schema Enforced 0 3 olds [] ≡ []
unfolding everything
none_off olds = refl

one_off : (olds : List Row) (r : Row) → works room_schema Enforced 0 3 olds (r ∷ []) ≡ []
unfolding everything
one_off olds r = refl

-- ---- all rows are taken out

abbrev is_among : List ℤ → Row → Bool
is_among ids r = list_any (λ id. has_rowid id r) ids

left_among : (id : ℤ) (ids : List ℤ) (rows : List Row)
    → AllByRecursion (λ r. is_among (id ∷ ids) r ≡ true) rows
    → AllByRecursion (λ r. is_among ids r ≡ true) (without_rowid id rows)
left_among id ids [] all = tt
left_among id ids (r ∷ rows) all = grind (arith, nat_tests, left_among id ids rows all.1)

none_left : (ids : List ℤ) (rows : List Row) → AllByRecursion (λ r. is_among ids r ≡ true) rows
    → without_all rows ids ≡ []
none_left [] [] all = refl
none_left [] (r ∷ rows) all = absurd (cc)
none_left (id ∷ ids) rows all = none_left ids (without_rowid id rows) (left_among id ids rows all)

any_map : {A B : Type 0} (f : A → B) (p : B → Bool) (l : List A)
    → list_any p (map f l) ≡ list_any (λ x. p (f x)) l
any_map f p [] = refl
any_map f p (x ∷ l) = ap (λ b. p (f x) || b) (any_map f p l)

or_more : (a : Bool) → a || true ≡ true
or_more true = refl
or_more false = refl

any_has : {A : Type 0} (p : A → Bool) (l : List A) (x : A) → Has l x → p x ≡ true
    → list_any p l ≡ true
any_has p [] x there is = absurd there
any_has p (y ∷ l) x (inl e) is = ap (λ b. b || list_any p l) (ap p (sym e) ∙ is)
any_has p (y ∷ l) x (inr there) is = ap (λ b. p y || b) (any_has p l x there is) ∙ or_more (p y)

at_itself : (r : Row) → IsTrue (is_int (rowid r)) → has_rowid (id_in (rowid r)) r ≡ true
at_itself r int = grind (arith, nat_tests, has_itself)

all_among : (table rows : List Row) → AllByRecursion (λ r. IsTrue (is_int (rowid r))) table
    → IsPermutation (map (shows (col 1 0 ∷ []) []) table) rows
    → AllByRecursion (λ r. is_among (ids_of rows) r ≡ true) table
all_among table rows ints moved = each_of (λ r. is_among (ids_of rows) r ≡ true) table (λ r there.
    any_map (λ q. id_in (rowid q)) (λ id. has_rowid id r) rows
    ∙ sym (search (rules, list_any-IsPermutation, moved))
    ∙ any_map (shows (col 1 0 ∷ []) []) (λ q. has_rowid (id_in (rowid q)) r) table
    ∙ any_has (λ q. has_rowid (id_in (rowid q)) r) table r there
    (at_itself r (of_each _ table ints r there)))

abbrev empty_edit : Trees → List Row → Edit
empty_edit db rows = edit_of db members_table (ids_of rows) Given 0 []

pub record Exchanged (rows : List Row) (old new : State) : Type 0 where
  pub schema : new.now.schema ≡ room_schema
  pub sound : IsDatabase new.now
  pub puts : Exchanges rows old.now.trees new.now.trees
  pub shown : Shows old new new.now
      (if old.in_transaction then old.committed else new.now) old.in_transaction

pub emptied : (old new : State) (count : ℕ) → IsRoom old.now
    → Executes empty_text [] old new (Ok count) → Exchanged [] old new
emptied old new count room h =
    let db = old.now.trees in
    let command = Delete 2 (record { lets = []; body = query_of 3 [] (col 1 0 ∷ []) [] }) in
    let w = runs_as empty_text
    [] old new room_schema room.schema command empty_is plain_empty count h in
    let text = statement_of empty_text (understood room_schema empty_text) in
    let done = went
    (subst (λ s. Does old.step_limit (mode_of old) []
    (record old.now { schema = s }) text None command (Ok (w.tally, new.now))) room.schema
    w.changed) in
    let asked = went done.1 in
    let did = went asked.2 in
    let last = same_value (went (went done.2).2).2 in
    let wrote : done.0 ≡ record {
      trees = did.0;
      rows = taken_by db (empty_edit db asked.0);
      last = None;
    } =
    same_value did.2 in
    let found = selected Null 3 [] (col 1 0 ∷ []) [] (overlay db []) [] asked.0
    (asked.1.answer Null) in
    let all = subst (λ l. IsPermutation (map (shows (col 1 0 ∷ []) []) l) asked.0)
    (filter_all (db 3)) found in
    let applies = one_step room_schema Enforced db did.0 (empty_edit db asked.0)
    (none_off (taken_by db (empty_edit db asked.0))) did.1 in
    let now = ap (λ (p : Tally × Database). p.1) last in
    let at : (tree : ℕ) → new.now.trees tree ≡ did.0 tree = grind (arith, nat_tests, wrote) in
    record {
      schema = ap (λ (d : Database). d.schema) now;
      sound = w.sound;
      puts = record {
        nodes = at 0 ∙ applies.tables.0 (λ e. let e' : 0 ≡ 3 = e in omega (arith, e'));
        bodies = at 2 ∙ applies.tables.1.0 (λ e. let e' : 2 ≡ 3 = e in omega (arith, e'));
        members =
            at 3 ∙ applies.rows ∙ none_left (ids_of asked.0) (db 3)
            (all_among (db 3) asked.0 room.members.1 all);
        meta = at 5 ∙ applies.tables.1.1.1.0 (λ e. let e' : 5 ≡ 3 = e in omega (arith, e'));
        audits = at 7 ∙ applies.tables.1.1.1.1.0 (λ e. let e' : 7 ≡ 3 = e in omega (arith, e'));
        counters =
            at 8 ∙ applies.tables.1.1.1.1.1.0 (λ e. let e' : 8 ≡ 3 = e in omega (arith, e'));
      };
      shown = w.shown;
    }

-- ---- one row is put in

abbrev join_edit : Trees → List Row → Edit
join_edit db rows = edit_of db members_table [] Chosen 0 rows

abbrev new_pair : Trees → List ℕ → List ℕ → Row
new_pair db group user = stored_pair (next_rowid (db 3)) group user

cast_pair : (group user : List ℕ)
    → cast_row members_table (Null ∷ Text group ∷ Text user ∷ []) ≡ Null ∷ Text group ∷ Text user
    ∷ []
cast_pair group user = rw cast_null refl

pub record Joined (group user : List ℕ) (old new : State) : Type 0 where
  pub fresh : is_taken (old.now.trees 3) (new_pair old.now.trees group user) ≡ false
  pub exchanged : Exchanged (put_row (new_pair old.now.trees group user) (old.now.trees 3)) old new

pub joined : (group user : List ℕ) (old new : State) (count : ℕ) → old.now.schema ≡ room_schema
    → Executes join_text (Text group ∷ Text user ∷ []) old new (Ok count)
    → Joined group user old new
joined group user old new count has h =
    let params = Text group ∷ Text user ∷ [] in
    let db = old.now.trees in
    let command = Insert 2 (Values join_terms 3) in
    let w = runs_as join_text params old new room_schema has command join_is plain_join count h in
    let text = statement_of join_text (understood room_schema join_text) in
    let done = went
    (subst (λ s. Does old.step_limit (mode_of old) params
    (record old.now { schema = s }) text None command (Ok (w.tally, new.now))) has w.changed) in
    let concluded = same_value (went (went done.2).2).2 in
    let now = ap (λ (p : Tally × Database). p.1) concluded in
    let given = went done.1 in
    let counter = went given.2 in
    let written = went counter.2 in
    let counted = went written.2 in
    let wrote = same_value counted.2 in
    let trees : done.0.trees ≡ written.0 = ap (λ (it : Written). it.trees) wrote
    ∙ same_value counted.1 in
    let source : given.0 ≡ (Null ∷ Text group ∷ Text user ∷ []) ∷ [] = given.1.1 in
    let news : (join_edit db given.0).news ≡ new_pair db group user ∷ [] =
    ap (λ l. (join_edit db l).news) source
    ∙ ap (λ r. numbered Chosen (db 3) (r ∷ [])) (cast_pair group user) in
    let none = ap (works room_schema Enforced 0 3 []) news ∙ one_off [] (new_pair db group user) in
    let applies = one_step room_schema Enforced db written.0
    (join_edit db given.0) none written.1 in
    let at : (tree : ℕ) → new.now.trees tree ≡ written.0 tree = λ tree. ap
    (λ (d : Database). d.trees tree) now ∙ ap (λ (t : Trees). t tree) trees in
    record {
      fresh =
          fresh_alone (db 3) (new_pair db group user)
          (subst (λ l. are_fresh (db 3) l ≡ true) news applies.fresh);
      exchanged = record {
        schema = ap (λ (d : Database). d.schema) now;
        sound = w.sound;
        puts = record {
          nodes = at 0 ∙ applies.tables.0 (λ e. let e' : 0 ≡ 3 = e in omega (arith, e'));
          bodies = at 2 ∙ applies.tables.1.0 (λ e. let e' : 2 ≡ 3 = e in omega (arith, e'));
          members = at 3 ∙ applies.rows ∙ ap (put_all (db 3)) news;
          meta = at 5 ∙ applies.tables.1.1.1.0 (λ e. let e' : 5 ≡ 3 = e in omega (arith, e'));
          audits = at 7 ∙ applies.tables.1.1.1.1.0 (λ e. let e' : 7 ≡ 3 = e in omega (arith, e'));
          counters =
              at 8 ∙ applies.tables.1.1.1.1.1.0 (λ e. let e' : 8 ≡ 3 = e in omega (arith, e'));
        };
        shown = w.shown;
      };
    }

-- ---- the tables are still a room's

pub still_room : (rows : List Row) (old new : State) → IsTrue old.in_transaction → IsRoom old.now
    → IsShaped Shape.Table rows → Exchanged rows old new → WritesRoom old new
still_room rows old new inside room shaped d = grind (arith, nat_tests, keeps_same, retains_by)

pub empty_room : (old new : State) → IsTrue old.in_transaction → (count : ℕ)
    → Executes empty_text [] old new (Ok count) → IsRoom old.now → WritesRoom old new
empty_room old new inside count h room =
    still_room [] old new inside room (tt, tt) (emptied old new count room h)

pub join_room : (group user : List ℕ) (old new : State) → IsTrue old.in_transaction → (count : ℕ)
    → Executes join_text (Text group ∷ Text user ∷ []) old new (Ok count) → IsRoom old.now
    → WritesRoom old new
join_room group user old new inside count h room =
    let d = joined group user old new count room.schema h in
    still_room _ old new inside room
    (IsShaped-put_row (new_pair old.now.trees group user) _ refl room.members) d.exchanged
