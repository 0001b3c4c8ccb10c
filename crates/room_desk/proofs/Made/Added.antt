-- Rows to which an object is added whose number wasn't in use.
use Rattle.std.proofs.Common.{rules, ◌≡◌, ℕ, zero, suc, ◌==◌, Bool, true, false, cond, List, []}
use Rattle.std.proofs.Common.{◌∷◌, ◌++◌, filter, length, Option, Some, None, nat_lt, refl, ap}
use Rattle.std.proofs.{Common.{arith, length-append}, lemmas.Bool.{false≢true, Decides.nat_tests}}
use Rattle.std.{proofs.lemmas.List.Elements.filter-append, specs.List.list_all}
use Rattle.std.specs.{List.AllByRecursion as Each, Option.option_map_or}
use Rattle.room_rows.specs.{declared.node.Node.Node, Content.{Content, node_at, parent_of}}
use Rattle.room_rows.specs.{Content.{put_node, has_folder_above, reaches_root}, Finding.find_id}
use Rattle.room_rows.{specs.Rows.{Rows, AreRows}, proofs.Lookups.{find-put_same, find-put_other}}
use Rattle.room_entry.proofs.Facts.Members.{each_append, each_front, each_back, all_each}
use Rattle.room_inherit.proofs.Children.{each_there, apart_rising}

-- ---- where it is put

-- It stands between those before it and those after it.
pub record Between (new : Node) (nodes : List Node) : Type 0 where
  pub front : List Node
  pub back : List Node
  pub before : nodes ≡ front ++ back
  pub after : put_node new nodes ≡ front ++ new ∷ back

pub between : (new : Node) (nodes : List Node) → find_id new.id nodes ≡ None → Between new nodes
between new [] unused = record { front = []; back = []; before = refl; after = refl }
between new (x ∷ xs) unused =
    on (nat_lt x.id new.id) (x.id == new.id) refl refl (between new xs) unused
  where
    on : (t u : Bool) → nat_lt x.id new.id ≡ t → (x.id == new.id) ≡ u
        → (find_id new.id xs ≡ None → Between new xs) → cond u (Some x) (find_id new.id xs) ≡ None
        → Between new (x ∷ xs)
    on t true less same rest none = absurd (let wrong : ⊥ = cc in wrong)
    on true false less same rest none =
        let below = rest none in
        record {
          front = x ∷ below.front;
          back = below.back;
          before = ap (λ l. x ∷ l) below.before;
          after = cc (less, below.after);
        }
    on false false less same rest none = grind (arith, nat_tests)

pub each_put : (P : Node → Type 0) (new : Node) (nodes : List Node) → find_id new.id nodes ≡ None
    → Each P nodes → P new → Each P (put_node new nodes)
each_put P new nodes unused all here =
    let b = between new nodes unused in
    search (rules, b.front, b.back, b.before, each_append, each_back, each_front)

pub length_put : (new : Node) (nodes : List Node) → find_id new.id nodes ≡ None
    → length (put_node new nodes) ≡ suc (length nodes)
length_put new nodes unused =
    let b = between new nodes unused in
    search (rules, new, b.front, b.back, b.after, length-append, b.before)

pub filter_put : (p : Node → Bool) (new : Node) (nodes : List Node) → find_id new.id nodes ≡ None
    → p new ≡ false → filter p (put_node new nodes) ≡ filter p nodes
filter_put p new nodes unused fails =
    let b = between new nodes unused in
    grind (arith, nat_tests, filter-append)

-- ---- what is found then

module _ (old : Rows) (are : AreRows old) (new : Node) (bodies : List (ℕ × List ℕ))
    (unused : node_at old.read new.id ≡ None) where
  -- with the object, and with these bytes
  abbrev pub after : Content
  after = record old.read { nodes = put_node new old.read.nodes; bodies = bodies }

  pub stays : (id : ℕ) (n : Node) → node_at old.read id ≡ Some n → node_at after id ≡ Some n
  stays id n found = grind (arith, nat_tests, find-put_other)

  pub comes : node_at after new.id ≡ Some new
  comes = find-put_same new old.read.nodes

  -- what holds of each object that was there, and of the new one, holds of all
  pub each_after : (P : Node → Type 0) → ((n : Node) → node_at old.read n.id ≡ Some n → P n) → P new
      → Each P after.nodes
  each_after P all here = search (apart_rising, each_put, each_there)

  pub all_after : (test : Node → Bool)
      → ((n : Node) → node_at old.read n.id ≡ Some n → test n ≡ true) → test new ≡ true
      → list_all test after.nodes ≡ true
  all_after test all here = all_each test after.nodes (each_after (λ n. test n ≡ true) all here)

  -- each has its parent as before
  pub same_above : (n : Node) → has_folder_above old.read n ≡ true
      → parent_of after n ≡ parent_of old.read n
  same_above n above = grind (arith, nat_tests, stays)

  -- the parents lead to the root as before
  pub reaches_still : (k : ℕ) (parent : Option ℕ) → reaches_root k old.read parent ≡ true
      → reaches_root k after parent ≡ true
  reaches_still k None is = refl
  reaches_still zero (Some id) is = absurd (false≢true is)
  reaches_still (suc k) (Some id) is =
      on (node_at old.read id) refl (λ q. reaches_still k q.parent) is
    where
      on : (o : Option Node) → node_at old.read id ≡ o
          → ((q : Node) → reaches_root k old.read q.parent ≡ true
          → reaches_root k after q.parent ≡ true)
          → option_map_or (λ q. reaches_root k old.read q.parent) o false ≡ true
          → option_map_or (λ q. reaches_root k after q.parent) (node_at after id) false ≡ true
      on o found rest is = grind (arith, nat_tests, stays)

-- in one step more, too
pub reaches_more : (content : Content) (k : ℕ) (parent : Option ℕ)
    → reaches_root k content parent ≡ true → reaches_root (suc k) content parent ≡ true
reaches_more content k None is = refl
reaches_more content zero (Some id) is = absurd (false≢true is)
reaches_more content (suc k) (Some id) is =
    on (node_at content id) (λ q. reaches_more content k q.parent) is
  where
    on : (o : Option Node)
        → ((q : Node) → reaches_root k content q.parent ≡ true
        → reaches_root (suc k) content q.parent ≡ true)
        → option_map_or (λ q. reaches_root k content q.parent) o false ≡ true
        → option_map_or (λ q. reaches_root (suc k) content q.parent) o false ≡ true
    on None rest is = absurd (false≢true is)
    on (Some q) rest is = rest q is
