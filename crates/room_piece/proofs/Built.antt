-- A piece of which the objects have come one by one.
use Rattle.std.proofs.Common.{◌≡◌, ℕ, ◌+◌, ◌==◌, Bool, true, false, not, List, [], ◌∷◌, ◌++◌}
use Rattle.std.proofs.Common.{length, cond, None, Result, Ok, Err, IfOk, append_assoc, refl, sym}
use Rattle.std.proofs.{Common.{ap, subst, ◌∙◌, arith, length-append}, lemmas.Bool.and_parts}
use Rattle.std.proofs.lemmas.List.{append-nil}
use Rattle.room_entry.specs.{Valid.is_document, declared.failure.Failure.Failure}
use Rattle.room_rows.specs.{Content.{set_of, with_members}, Keep.with_content, Rows.{AreRows, Rows}}
use Rattle.room_rows.specs.Sound.{AreSound}
use Rattle.room_inherit.proofs.Migrated.{folder_is}
use Rattle.room_desk.proofs.Moves.MovingSteps.{empty_path}
use Rattle.room_memory.specs.{Memory.{root_alone, root_node, rows_in}, Objects.greatest}
use Rattle.room_memory.specs.declared.memory.MemKeep.{MemKeep}
use Rattle.room_question.specs.declared.question.{Object.Object, Question.Question}
use Rattle.room_piece.specs.Building.{AllStand, IsPiece, IsRooted, IsStarted, JoinsAll, Stands}
use Rattle.room_piece.specs.Building.{CannotBuild, CannotGoOn, GoesOn as goes_so, is_top}
use Rattle.room_piece.specs.{Building.{numbers_of, root_rows}, declared.refusal.Refusal.Refusal}
use Rattle.room_piece.specs.{declared.piece.Piece.Piece, Coming.{HasCome, IsAt, next_number}}
use Rattle.room_piece.specs.{Holding.IsWell, InTurn.InTurn, Marking.{is_unread, with_mark}}
use Rattle.room_piece.specs.{Owning.{is_each, owners_of}, Storing.{IsWithin, root_list}}
use Rattle.room_piece.{specs.Storing.{root_misfit, silent}, proofs.Standing.{after, after_is}}
use Rattle.room_piece.proofs.Standing.{all_and, all_still, it_stands, next_then, one_more}
use Rattle.room_piece.proofs.{Fitting.root_list_sound, Rooted.root_sound}

-- the numbers of those of which a test is true, with one more at the end
numbers_and : (test : Object → Bool) (id : ℕ) (objects : List Object) (one : Object)
    → numbers_of test id (objects ++ one ∷ [])
    ≡ with_mark (test one) (id + length objects) (numbers_of test id objects)
numbers_and test id [] one =
    ap (λ (n : ℕ). with_mark (test one) n []) (let same : id ≡ id + 0 = omega arith in same)
numbers_and test id (x ∷ objects) one =
    let rest = numbers_and test (id + 1) objects one in
    let next : id + 1 + length objects ≡ id + length (x ∷ objects) = omega arith in
    let there = rest
    ∙ ap (λ (n : ℕ). with_mark (test one) n (numbers_of test (id + 1) objects)) next in
    on (test x) there
  where
    on : (t : Bool)
        → numbers_of test (id + 1) (objects ++ one ∷ [])
        ≡ with_mark (test one) (id + length (x ∷ objects)) (numbers_of test (id + 1) objects)
        → cond t (id ∷ numbers_of test (id + 1) (objects ++ one ∷ []))
        (numbers_of test (id + 1) (objects ++ one ∷ []))
        ≡ with_mark (test one) (id + length (x ∷ objects))
        (cond t (id ∷ numbers_of test (id + 1) objects) (numbers_of test (id + 1) objects))
    on true same = ap (λ l. id ∷ l) same ∙ apart (test one)
      where
        apart : (u : Bool)
            → id ∷ with_mark u (id + length (x ∷ objects)) (numbers_of test (id + 1) objects)
            ≡ with_mark u (id + length (x ∷ objects)) (id ∷ numbers_of test (id + 1) objects)
        apart true = refl
        apart false = refl
    on false same = same

-- the first objects of a question stand, and nothing else
pub record IsSoFar (unread : List ℕ) (pairs : List (List ℕ × List ℕ)) (objects : List Object)
    (piece : Piece) : Type 0 where
  pub well : IsWell piece.keep
  pub stand : AllStand unread (rows_in piece.keep) 1 objects
  pub count : length (rows_in piece.keep).read.nodes ≡ length objects
  pub greatest_is : greatest (rows_in piece.keep).read.nodes ≡ length objects
  pub members : (rows_in piece.keep).read.members ≡ set_of pairs
  pub each : piece.each ≡ numbers_of (λ object. is_each object.owner) 1 objects
  pub unknown : piece.unknown ≡ numbers_of (λ object. is_unread object.list) 1 objects

module _ (unread : List ℕ) (pairs : List (List ℕ × List ℕ)) where
  one_comes : (objects : List Object) (one : Object) (old new : Piece)
      → IsSoFar unread pairs objects old → HasCome unread one old new
      → IsSoFar unread pairs (objects ++ one ∷ []) new
  one_comes objects one old new sofar comes =
      let rows = rows_in old.keep in
      let are = sofar.well.rows in
      let were = sofar.well.sound in
      let folder = comes.folder in
      let place = comes.place in
      let named = comes.named in
      let then : Rows = with_content rows (after unread one rows are were folder place named) in
      let is : rows_in new.keep ≡ then = comes.becomes ∙ ap (λ content. with_content rows content)
      (after_is unread one rows are were folder place named) in
      let more : length (objects ++ one ∷ []) ≡ length objects + 1 =
      length-append objects (one ∷ []) in
      let next : next_number rows ≡ 1 + length objects = omega (arith, sofar.greatest_is) in
      record {
        well = comes.well;
        stand = subst (λ (r : Rows). AllStand unread r 1 (objects ++ one ∷ [])) (sym is)
            (all_and unread then 1 objects one
            (all_still unread one rows are were folder place named 1 objects sofar.stand)
            (subst (λ (n : ℕ). Stands unread then n one) next
            (it_stands unread one rows are were folder place named)));
        count =
            ap (λ (r : Rows). length r.read.nodes) is
            ∙ one_more unread one rows are were folder place named
            ∙ ap (λ (n : ℕ). n + 1) sofar.count ∙ sym more;
        greatest_is =
            ap (λ (r : Rows). greatest r.read.nodes) is
            ∙ next_then unread one rows are were folder place named
            ∙ ap (λ (n : ℕ). n + 1) sofar.greatest_is ∙ sym more;
        members = ap (λ (r : Rows). r.read.members) is ∙ sofar.members;
        each =
            comes.marked.each
            ∙ ap (λ (n : ℕ). with_mark (is_each one.owner) n old.each) next
            ∙ ap (λ numbers. with_mark (is_each one.owner) (1 + length objects) numbers) sofar.each
            ∙ sym (numbers_and (λ object. is_each object.owner) 1 objects one);
        unknown =
            comes.marked.unknown
            ∙ ap (λ (n : ℕ). with_mark (is_unread one.list) n old.unknown) next
            ∙ ap (λ numbers. with_mark (is_unread one.list) (1 + length objects) numbers)
            sofar.unknown
            ∙ sym (numbers_and (λ object. is_unread object.list) 1 objects one);
      }

  all_come : (more objects : List Object) (old new : Piece) → IsSoFar unread pairs objects old
      → InTurn (HasCome unread) more old new → IsSoFar unread pairs (objects ++ more) new
  all_come [] objects old new sofar same =
      subst (λ (l : List Object). IsSoFar unread pairs l new)
      (sym (append-nil objects))
      (subst (λ (p : Piece). IsSoFar unread pairs objects p) (sym same) sofar)
  all_come (one ∷ more) objects old new sofar turns =
      subst (λ (l : List Object). IsSoFar unread pairs l new)
      (append_assoc objects (one ∷ []) more)
      (all_come more (objects ++ one ∷ []) turns.0 new
      (one_comes objects one old turns.0 sofar turns.1) turns.2)

-- the root stands alone
root_first : (unread : List ℕ) (root : Object) (pairs : List (List ℕ × List ℕ)) (start : Piece)
    → is_top root ≡ true → IsStarted unread root pairs start
    → IsSoFar unread pairs (root ∷ []) start
root_first unread root pairs start top started =
    let is = started.rows in
    let parts = and_parts (length root.path == 0) (not (is_document root.kind)) top in
    let path : root.path ≡ [] = empty_path root.path (length root.path == 0) refl parts.0 in
    record {
      well = started.well;
      stand = subst (λ (r : Rows). AllStand unread r 1 (root ∷ [])) (sym is) (
        record {
          node = root_node (owners_of unread root) (root_list root.list) silent;
          numbered = refl;
          at = subst (λ (p : List (List ℕ)). IsAt p
              (root_node (owners_of unread root) (root_list root.list) silent)
              (root_rows unread root pairs)) (sym path) refl;
          kind = sym (folder_is root.kind parts.1);
          owners = refl;
          list = refl;
        },
        tt,
      );
      count = ap (λ (r : Rows). length r.read.nodes) is;
      greatest_is = ap (λ (r : Rows). greatest r.read.nodes) is;
      members = ap (λ (r : Rows). r.read.members) is;
      each = started.each;
      unknown = started.unknown;
    }

-- ---- the root alone

pub started_so : (unread : List ℕ) (root : Object) (pairs : List (List ℕ × List ℕ))
    (first keep : MemKeep) (piece : Piece)
    → rows_in first ≡ root_alone (owners_of unread root) (root_list root.list) silent
    → AreRows (rows_in first) → IsWithin root.list → root_misfit root ≡ None
    → JoinsAll pairs first keep → IsRooted root keep piece → IsStarted unread root pairs piece
started_so unread root pairs first keep piece is are within fits joins rooted =
    let joined = joins are (ap (λ (r : Rows). r.read.members) is) in
    let rows : rows_in piece.keep ≡ root_rows unread root pairs =
    ap (λ (k : MemKeep). rows_in k) rooted.keeps ∙ joined.0
    ∙ ap (λ (r : Rows). with_content r (with_members r.read pairs)) is in
    record {
      rows = rows;
      well = record {
        rows = subst (λ (k : MemKeep). AreRows (rows_in k)) (sym rooted.keeps) joined.1;
        sound = subst (λ (r : Rows). AreSound r) (sym rows)
            (root_sound (owners_of unread root) (root_list root.list) silent (set_of pairs)
            (root_list_sound root.list within fits) refl);
      };
      fits = fits;
      each = rooted.each;
      unknown = rooted.unknown;
    }

pub built_so : (unread : List ℕ) (question : Question) (root : Object) (objects : List Object)
    (start piece : Piece) → question.objects ≡ root ∷ objects
    → is_top root ≡ true
    → IsStarted unread root question.members start
    → InTurn (HasCome unread) objects start piece → IsPiece unread question piece
built_so unread question root objects start piece all top started turns =
    let whole = all_come unread question.members objects (root ∷ []) start piece
    (root_first unread root question.members start top started) turns in
    let same : root ∷ objects ≡ question.objects = sym all in
    record {
      well = whole.well;
      objects = subst (λ (l : List Object). AllStand unread (rows_in piece.keep) 1 l) same
          whole.stand;
      no_others = whole.count ∙ ap (λ (l : List Object). length l) same;
      members = whole.members;
      each = whole.each
          ∙ ap (λ (l : List Object). numbers_of (λ object. is_each object.owner) 1 l) same;
      unknown = whole.unknown
          ∙ ap (λ (l : List Object). numbers_of (λ object. is_unread object.list) 1 l) same;
    }

-- ---- in terms of calls

module _ (unread : List ℕ) (root : Object) (pairs : List (List ℕ × List ℕ)) (objects : List Object)
  where
    -- a piece to which the objects have come, from one that was started
    abbrev pub GoesOn : Piece → Type 0
    GoesOn piece = (start : Piece) × IsStarted unread root pairs start
        × InTurn (HasCome unread) objects start piece

    pub goes_on : (r : Result Piece (Failure Refusal)) (start : Piece)
        → IsStarted unread root pairs start
        → IfOk r (λ piece. IsWell start.keep → InTurn (HasCome unread) objects start piece)
        → IfOk r GoesOn
    goes_on (Ok piece) start is turns = (start, is, turns is.well)
    goes_on (Err failure) start is turns = tt

    module _ (question : Question) (all : question.objects ≡ root ∷ objects)
        (paired : question.members ≡ pairs) where
      pub is_built : (r : Result Piece (Failure Refusal)) → is_top root ≡ true → IfOk r GoesOn
          → IfOk r (IsPiece unread question)
      is_built (Ok piece) top turns =
          built_so unread question root objects turns.0 piece all top
          (subst (λ (l : List (List ℕ × List ℕ)). IsStarted unread root l turns.0) (sym paired)
          turns.1) turns.2
      is_built (Err failure) top turns = tt

      pub is_stopped : (refusal : Refusal) → CannotGoOn unread root pairs objects refusal
          → CannotBuild unread question refusal
      is_stopped refusal stops =
          goes_so root objects all
          (subst (λ (l : List (List ℕ × List ℕ)). CannotGoOn unread root l objects refusal)
          (sym paired) stops)
