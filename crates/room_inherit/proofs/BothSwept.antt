-- One list carried down after the other.
use Rattle.std.proofs.Common.{◌≡◌, ℕ, ◌+◌, Bool, true, cond, ◌||◌, List, [], ◌∷◌, map, Option, Some}
use Rattle.std.proofs.Common.{None, Ok, Err, refl, sym, ap, ◌∙◌, arith}
use Rattle.std.{proofs.lemmas.Bool.Decides.nat_tests, specs.Prelude.{is_none, option_and_then}}
use Rattle.std.specs.{List.{list_all, find}, Option.{option_map, option_map_or}}
use Rattle.room_entry.specs.{Ace.Ace, declared.object.Which.{Which, TheVariants.{Dacl, Sacl}}}
use Rattle.room_entry.proofs.Facts.Members.{count-is, count_length, count_map}
use Rattle.room_rows.specs.{declared.{keep.Keep.Ghosts, node.Node.Node}, Content.{Content, node_at}}
use Rattle.room_rows.specs.{Content.{parent_of, is_linked_in}, Held.{held_of, is_linked}}
use Rattle.room_rows.specs.{Keep.{HasNoRoot, capped, with_content, KeepLaws}, Rows.Rows}
use Rattle.room_rows.specs.{Law.{AllAgree, agrees, agrees_with}, Sound.reaches}
use Rattle.room_rows.proofs.{SamePlace.IsSamePlace, Steps.later_cause}
use Rattle.room_inherit.specs.Spread.{ChangedAgree, stores_as_before, with_lists}
use Rattle.room_inherit.specs.SpreadAll.{IsSpreadAll, IsSwept, IsTree, SpreadsAll, Sweeps}
use Rattle.room_inherit.specs.declared.outcome.{Spread.Spread, SpreadFault.SpreadFault}
use Rattle.room_inherit.proofs.{Kinship.same_parent, Renewing.map_map, Frontier.{set, find_set}}
use Rattle.room_inherit.proofs.{Folders.folders_stay, Calls.capped_add, NoFault.checked_is_tree}
use Rattle.room_inherit.proofs.Unmoved.{all_map, reach_all}

-- the parent of an object is found with its other list
parent_set : (which : Which) (f : Node → List Ace) (old : Content) (n : Node)
    → parent_of (with_lists which f old) (set which f n)
    ≡ option_map (set which f) (parent_of old n)
parent_set which f old n = search (on, same_parent)
  where
    on : (o : Option ℕ) → option_and_then (node_at (with_lists which f old)) o
        ≡ option_map (set which f) (option_and_then (node_at old) o)
    on None = refl
    on (Some p) = find_set which f p old.nodes

-- ---- dacls first

module _ (f : Node → List Ace) (old : Content) where
  abbrev mid : Content
  mid = with_lists Dacl f old

  linked_mid : (n : Node) → is_linked_in mid Sacl (set Dacl f n) ≡ is_linked_in old Sacl n
  linked_mid n = search (on, parent_set)
    where
      on : (o : Option Node)
          → is_linked (held_of Sacl n) (option_map (held_of Sacl) (option_map (set Dacl f) o))
          ≡ is_linked (held_of Sacl n) (option_map (held_of Sacl) o)
      on o = grind (arith, nat_tests)

  there_mid : (n : Node) → node_at old n.id ≡ Some n
      → node_at mid (set Dacl f n).id ≡ Some (set Dacl f n)
  there_mid n there = find_set Dacl f n.id old.nodes ∙ ap (option_map (set Dacl f)) there

  place : (n : Node) → IsSamePlace (set Dacl f n) n
  place n = record { number = refl; parent = refl; name = refl }

  tree_mid : IsTree old → IsTree mid
  tree_mid tree = record {
    one_root = grind (arith, nat_tests, count_length, count_map, set);
    folders = folders_stay Dacl f old tree.folders;
    connected =
        all_map (reaches mid) (reaches old) (set Dacl f)
        (reach_all old (set Dacl f) place) old.nodes ∙ tree.connected;
  }

  root_mid : (nodes : List Node)
      → find (λ node. is_none node.parent) (map (set Dacl f) nodes) ≡ None
      → find (λ node. is_none node.parent) nodes ≡ None
  root_mid [] none = refl
  root_mid (x ∷ xs) none = on (is_none x.parent) none (λ rest. root_mid xs rest)
    where
      on : (t : Bool) → cond t (Some (set Dacl f x))
          (find (λ node. is_none node.parent) (map (set Dacl f) xs)) ≡ None
          → (find (λ node. is_none node.parent) (map (set Dacl f) xs) ≡ None
          → find (λ node. is_none node.parent) xs ≡ None)
          → cond t (Some x) (find (λ node. is_none node.parent) xs) ≡ None
      on t is rest = grind (arith, nat_tests)

  agrees_still : (g : Node → List Ace) (content : Content) (n : Node)
      → agrees (with_lists Sacl g content) Dacl (set Sacl g n) ≡ agrees content Dacl n
  agrees_still g content n = search (on, parent_set, set)
    where
      on : (o : Option Node)
          → option_map_or (agrees_with Dacl (set Sacl g n)) (option_map (set Sacl g) o) true
          ≡ option_map_or (agrees_with Dacl n) o true
      on o = grind (arith, nat_tests)

  -- the law of dacls doesn't depend on sacls
  law_stays : (g : Node → List Ace) (content : Content) → AllAgree content Dacl
      → AllAgree (with_lists Sacl g content) Dacl
  law_stays g content law =
      all_map (agrees (with_lists Sacl g content) Dacl) (agrees content Dacl) (set Sacl g)
      (agrees_still g content) content.nodes ∙ law

  dacls_agree : (g : Node → List Ace) (content : Content) → ChangedAgree Dacl old content
      → ChangedAgree Dacl old (with_lists Sacl g content)
  dacls_agree g content agree =
      all_map (λ n. stores_as_before old Dacl n || agrees (with_lists Sacl g content) Dacl n)
      (λ n. stores_as_before old Dacl n || agrees content Dacl n) (set Sacl g)
      (λ n. ap (λ t. stores_as_before old Dacl n || t) (agrees_still g content n)) content.nodes
      ∙ agree

  sacls_agree : (new : Content) → ChangedAgree Sacl mid new → ChangedAgree Sacl old new
  sacls_agree new agree = (λ i. list_all (λ n. stored n i || agrees new Sacl n) new.nodes) ∙ agree
    where
      stored : (n : Node) → stores_as_before old Sacl n ≡ stores_as_before mid Sacl n
      stored n = grind (arith, nat_tests, find_set, set)

-- ---- rows

pub both_swept : (old mid new : Rows) (d s : ℕ) → IsSwept Dacl old mid d → IsSwept Sacl mid new s
    → IsSpreadAll old new (capped (d + s))
both_swept old middle new d s first last =
    let f = first.lists in
    let next : IsSwept Sacl (with_content old (mid f old.read)) new s = grind (arith, nat_tests) in
    let g = next.lists in
    let sacls : Node → List Ace = λ n. g (set Dacl f n) in
    let both : IsTree old.read → (which : Which) → AllAgree new.read which =
    grind (arith, nat_tests, law_stays, on, tree_mid) in
    record {
      dacls = f;
      sacls = sacls;
      becomes = grind (arith, nat_tests, map_map, set);
      linked_dacls = first.linked;
      linked_sacls =
          λ n there changed. sym (linked_mid f old.read n)
          ∙ next.linked (set Dacl f n) (there_mid f old.read n there) changed;
      counted = grind (arith, nat_tests, count-is, count_map, set);
      agree =
          λ which. agreeing which
          (grind (arith, nat_tests, dacls_agree))
          (sacls_agree f old.read new.read next.agree);
      law = λ none. both (checked_is_tree old none);
      in_tree = both;
    }
  where
    agreeing : (which : Which) → ChangedAgree Dacl old.read new.read
        → ChangedAgree Sacl old.read new.read → ChangedAgree which old.read new.read
    agreeing which dacl sacl = grind (arith, nat_tests)

    on : (which : Which) → IsTree old.read → (IsTree old.read → AllAgree new.read Dacl)
        → (IsTree old.read → AllAgree new.read Sacl) → AllAgree new.read which
    on which tree dacl sacl = grind (arith, nat_tests)

no_root_before : (old mid : Rows) (d row : ℕ) → IsSwept Dacl old mid d → HasNoRoot mid row
    → HasNoRoot old row
no_root_before old middle d row first given = grind (arith, nat_tests, root_mid)

-- ---- calls

module _ {S : Type 0} (k : Ghosts S) where
  pub first_fails : (a b : S) (e : SpreadFault) → Sweeps k a b Dacl (Err e)
      → SpreadsAll k a b (Err e)
  first_fails a b e sweep =
      record { follows = sweep.follows; written = tt; becomes = λ t. tt; fault = sweep.fault }

  module _ (laws : KeepLaws k.rows k.failures k.writes k.Follows k.IsTrusted) (a b c : S)
      (d : Spread) (first : Sweeps k a b Dacl (Ok d)) where
    pub second_fails : (e : SpreadFault) → Sweeps k b c Sacl (Err e) → SpreadsAll k a c (Err e)
    second_fails e sweep = grind (arith, nat_tests, later_cause, no_root_before)

    pub both_done : (s : Spread) → Sweeps k b c Sacl (Ok s)
        → SpreadsAll k a c (Ok (record { changed = capped (d.changed + s.changed) }))
    both_done s sweep = grind (arith, nat_tests, both_swept, capped_add)
