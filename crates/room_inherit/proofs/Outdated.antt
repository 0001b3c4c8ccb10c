-- The children of an object that store something else than they inherit, and all lists once these
-- are renewed.
use Rattle.std.proofs.Common.{◌≡◌, ℕ, ◌+◌, ◌==◌, Bool, true, false, cond, not, ◌&&◌, ◌||◌, List, []}
use Rattle.std.proofs.Common.{◌∷◌, ◌++◌, filter, length, Option, Some, refl, sym, ap, ◌∙◌, arith}
use Rattle.std.proofs.lemmas.{Bool.{cond-true, cond-false, Decides.nat_tests}, List.length-map}
use Rattle.std.proofs.{lemmas.List.Folds.list_any-append, Math.Bool.or-false}
use Rattle.std.specs.{Prelude.option_and_then, Option.option_map, List.AllByRecursion as Each}
use Rattle.room_entry.specs.{Ace.Ace, Same.same_entries, declared.object.Which.Which}
use Rattle.room_entry.proofs.{Same.entries_equal, Alike.equal_entries, Facts.Members.count}
use Rattle.room_entry.proofs.Facts.Members.{count_length, count_map, count_agree, count_either}
use Rattle.room_rows.specs.{declared.node.Node.Node, Content.{Content, node_at, parent_of}}
use Rattle.room_rows.specs.{Content.{has_parent, children_of, with_each}, Held.{held_of, is_linked}}
use Rattle.room_rows.{specs.Keep.with_inh, proofs.Frames.parent_is}
use Rattle.room_inherit.specs.{Spread.{with_lists, is_changed}, Turn.{is_linked_to, is_outdated}}
use Rattle.room_inherit.specs.Turn.{renewed_node, renewals, renewed_below}
use Rattle.room_inherit.proofs.{Kinship.{same_kind, with_last}, Children.{has_id, Apart}}
use Rattle.room_inherit.proofs.Children.{each_there, apart_map, count_children}
use Rattle.room_inherit.proofs.{Renewing.{map_agree, map_map, one_object}, Frontier.{set, set_id}}
use Rattle.room_inherit.proofs.Frontier.{set_parent, set_held, links, passes}

-- ---- parents

pub same_above : (a b : ℕ) (node : Node) → has_parent a node ≡ true → has_parent b node ≡ true
    → a ≡ b
same_above a b node has has' = grind (arith, nat_tests, parent_is)

pub parent_found : (content : Content) (parent node : Node)
    → node_at content parent.id ≡ Some parent → has_parent parent.id node ≡ true
    → parent_of content node ≡ Some parent
parent_found content parent node there has =
    ap (option_and_then (node_at content)) (parent_is parent.id node has) ∙ there

-- ---- lists without a number twice

pub has_either : (id : ℕ) (xs ys : List Node)
    → has_id id (xs ++ ys) ≡ (has_id id xs || has_id id ys)
has_either id xs ys = list_any-append (λ (n : Node). n.id == id) xs ys

pub apart_join : (xs ys : List Node) → Apart xs → Apart ys → Each (λ x. has_id x.id ys ≡ false) xs
    → Apart (xs ++ ys)
apart_join [] ys apart apart' none = apart'
apart_join (x ∷ xs) ys apart apart' none =
    grind (arith, nat_tests, has_either, has_id, apart_join xs ys apart.1 apart' none.1)

pub apart_front : (xs ys : List Node) → Apart (xs ++ ys) → Apart xs
apart_front [] ys apart = tt
apart_front (x ∷ xs) ys apart =
    grind (arith, nat_tests, has_either, has_id, apart_front xs ys apart.1)

pub apart_last : (xs : List Node) (y : Node) → Apart (xs ++ y ∷ []) → has_id y.id xs ≡ false
apart_last [] y apart = refl
apart_last (x ∷ xs) y apart = grind (arith, nat_tests, has_either, has_id, apart_last xs y apart.1)

pub has_last : (xs : List Node) (y : Node) → has_id y.id (xs ++ y ∷ []) ≡ true
has_last xs y = grind (arith, nat_tests, has_either, has_id)

pub base_of : (which : Which) (f : Node → List Ace) (m : Node) (o : Option Node)
    → option_map (set which f) o ≡ Some m → (n : Node) × (o ≡ Some n) × (m ≡ set which f n)
base_of which f m o e = grind (arith, nat_tests, set)

-- ---- the children of an object that waits, and what it is without its list

module _ (which : Which) (f : Node → List Ace) (w w0 : Node) where
  abbrev pub stale : Node → Bool
  stale n =
      has_parent w.id n && (links which w0 n && not (same_entries (f n) (passes which f w0 n)))

  -- the lists afterwards
  abbrev pub after : Node → List Ace
  after n = cond (stale n) (passes which f w0 n) (f n)

  abbrev pub StaleParts : Node → Type 0
  StaleParts n = (has_parent w.id n ≡ true) × (links which w0 n ≡ true)
      × (same_entries (f n) (passes which f w0 n) ≡ false)

  pub stale_parts : (n : Node) → stale n ≡ true → StaleParts n
  stale_parts n is = grind (arith, nat_tests, links, passes)

  pub keeps : (n : Node) → stale n ≡ false → after n ≡ f n
  keeps n isnt = cond-false (stale n) (passes which f w0 n) (f n) isnt

  pub takes : (n : Node) → stale n ≡ true → after n ≡ passes which f w0 n
  takes n is = cond-true (stale n) (passes which f w0 n) (f n) is

  -- a child of the object agrees with it afterwards
  pub child_agrees : (old : Content) → node_at old w0.id ≡ Some w0 → w.id ≡ w0.id → stale w0 ≡ false
      → (n p : Node) → node_at old p.id ≡ Some p
      → has_parent p.id n ≡ true → links which p n ≡ true → p.id ≡ w.id
      → after n ≡ passes which after p n
  child_agrees old there w_id fresh0 n p there' has link is =
      grind (arith, nat_tests, entries_equal, keeps, links, one_object, passes, takes)

  module _ (is : w ≡ set which f w0) where
    w_held : held_of which w ≡ record (held_of which w0) { inh = f w0 }
    w_held = ap (held_of which) is ∙ set_held which f w0

    pub stale_is : (n : Node)
        → (has_parent w.id (set which f n) && is_outdated which w (set which f n)) ≡ stale n
    stale_is n = grind (arith, nat_tests, same_kind, set_held, set_parent, w_held)

    pub linked_is : (n : Node) → is_linked_to which w (set which f n) ≡ links which w0 n
    linked_is n = λ i. is_linked (set_held which f n i) (Some (w_held i))

    pub renewed_is : (n : Node)
        → renewed_node which w (set which f n) ≡ with_inh which (passes which f w0 n) n
    renewed_is n = grind (arith, nat_tests, passes, same_kind, set, w_held, with_last)

    after_is : (n : Node) → renewed_below which w (set which f n) ≡ set which after n
    after_is n = grind (arith, nat_tests, passes, renewed_is, set, stale_is)

    pub rows_renewed : (old : Content)
        → with_each (with_lists which f old) (renewed_below which w) ≡ with_lists which after old
    rows_renewed old = grind (arith, nat_tests, after_is, map_agree, map_map, set)

  -- where its children store what they did at first
  module _ (old : Content)
      (unchanged : (n : Node) → node_at old n.id ≡ Some n → has_parent w.id n ≡ true
      → is_changed which f n ≡ false) where
    pub changed_stale : (n : Node) → node_at old n.id ≡ Some n → stale n ≡ true
        → is_changed which after n ≡ true
    changed_stale n there is =
        grind (arith, nat_tests, entries_equal, equal_entries, passes, stale_parts, takes)

    pub changed_is : (n : Node) → node_at old n.id ≡ Some n
        → is_changed which after n ≡ (is_changed which f n || stale n)
    changed_is n there = grind (arith, nat_tests, changed_stale, keeps, or-false)

    pub count_renewed : w ≡ set which f w0 → Apart old.nodes
        → count (is_changed which after) old.nodes
        ≡ count (is_changed which f) old.nodes + length
        (renewals which w (children_of (with_lists which f old) w.id))
    count_renewed is apart =
        count_either (is_changed which f) stale (is_changed which after) old.nodes
        (grind (arith, nat_tests, changed_is, each_there, stale_parts))
        ∙ ap (λ k. count (is_changed which f) old.nodes + k) (sym number)
      where
        every : (xs : List Node)
            → Each (λ n. (has_parent w.id (set which f n) && is_outdated which w (set which f n))
            ≡ stale n) xs
        every [] = tt
        every (x ∷ xs) = (stale_is is x, every xs)

        number : length (renewals which w (children_of (with_lists which f old) w.id))
            ≡ count stale old.nodes
        number =
            length-map (filter (is_outdated which w) (children_of (with_lists which f old) w.id))
            (renewed_node which w) ∙ count_length (is_outdated which w)
            (children_of (with_lists which f old) w.id)
            ∙ count_children (with_lists which f old)
            (apart_map (set which f) (set_id which f) old.nodes apart) (is_outdated which w) w.id
            ∙ count_map (λ m. has_parent w.id m && is_outdated which w m) (set which f) old.nodes
            ∙ count_agree (λ n. has_parent w.id (set which f n)
            && is_outdated which w (set which f n)) stale old.nodes (every old.nodes)
