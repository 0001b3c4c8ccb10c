-- Where going through the tree begins, and where it ends.
use Rattle.std.proofs.Common.{rules, ◌≡◌, ℕ, zero, suc, ◌+◌, ◌≤◌, ◌==◌, Bool, true, false, cond}
use Rattle.std.proofs.Common.{List, [], ◌∷◌, length, Option, Some, None, refl, sym, ◌∙◌, arith}
use Rattle.std.{proofs.lemmas.Bool.{false≢true, Decides.nat_tests}, specs.Prelude.is_none}
use Rattle.std.specs.{List.{find, AllByRecursion as Each}, Option.option_map_or}
use Rattle.room_entry.{specs.{Ace.Ace, declared.object.Which.Which}, proofs.Facts.Members.one_if}
use Rattle.room_entry.proofs.Facts.Members.{count, count_length}
use Rattle.room_rows.specs.{declared.node.Node.Node, Content.{Content, node_at, root_of}}
use Rattle.room_rows.specs.Content.{has_folder_above, has_parent, is_folder, is_rising}
use Rattle.room_rows.specs.{Content.reaches_root, Held.is_linked, HeldList.Held, Finding.find_id}
use Rattle.room_rows.{specs.Law.AllAgree, proofs.Lookups.{found_number, found_passes}}
use Rattle.room_inherit.specs.{Spread.{ChangedAgree, with_lists}, SpreadAll.IsTree}
use Rattle.room_inherit.proofs.{Kinship.with_own, Children.{ids_of, each_found, each_there}}
use Rattle.room_inherit.proofs.{Children.apart_rising, Renewing.one_object, Ends.own_lists}
use Rattle.room_inherit.proofs.Ends.{own_unchanged, law_at_end, changed_agree, each_all}
use Rattle.room_inherit.proofs.{Outdated.parent_found, Folders.in_folder_is, Sweeping.Sweep}

-- what holds of each object holds of the one that is found
each_find : (P : Node → Type 0) (test : Node → Bool) (nodes : List Node) (node : Node)
    → Each P nodes → find test nodes ≡ Some node → P node
each_find P test [] node all found = absurd (let wrong : ⊥ = cc in wrong)
each_find P test (x ∷ xs) node all found = on (test x) found (λ f. each_find P test xs node all.1 f)
  where
    on : (t : Bool) → cond t (Some x) (find test xs) ≡ Some node
        → (find test xs ≡ Some node → P node) → P node
    on t is rest = grind (arith, nat_tests)

-- ---- one that passes, alone

pub count_has : (p : Node → Bool) (id : ℕ) (nodes : List Node) (n : Node)
    → find_id id nodes ≡ Some n → p n ≡ true → 1 ≤ count p nodes
count_has p id [] n found is = absurd (let wrong : ⊥ = cc in wrong)
count_has p id (x ∷ xs) n found is = on (x.id == id) found (λ f. count_has p id xs n f is)
  where
    on : (t : Bool) → cond t (Some x) (find_id id xs) ≡ Some n
        → (find_id id xs ≡ Some n → 1 ≤ count p xs) → 1 ≤ one_if (p x) + count p xs
    on t here rest = grind (arith, nat_tests, one_if)

only_one : (p : Node → Bool) (nodes : List Node) (r n : Node) → count p nodes ≡ 1
    → find p nodes ≡ Some r → find_id n.id nodes ≡ Some n → p n ≡ true → n ≡ r
only_one p [] r n one found there is = absurd (let wrong : ⊥ = cc in wrong)
only_one p (x ∷ xs) r n one found there is =
    on (p x) refl one found (x.id == n.id) there (λ o f t. only_one p xs r n o f t is)
  where
    on : (s : Bool) → p x ≡ s → one_if s + count p xs ≡ 1 → cond s (Some x) (find p xs) ≡ Some r
        → (t : Bool) → cond t (Some x) (find_id n.id xs) ≡ Some n
        → (count p xs ≡ 1 → find p xs ≡ Some r → find_id n.id xs ≡ Some n → n ≡ r) → n ≡ r
    on s px c f t h rest = grind (arith, nat_tests, count_has)

module _ (which : Which) (old : Content) (rises : is_rising (0 ∷ ids_of old.nodes) ≡ true)
    (root : Node) (root_is : root_of old ≡ Some root) where
  pub root_there : node_at old root.id ≡ Some root
  root_there =
      each_find (λ n. node_at old n.id ≡ Some n) (λ n. is_none n.parent) old.nodes root
      (search (apart_rising, each_there)) root_is

  pub root_top : root.parent ≡ None
  root_top = grind (arith, nat_tests, found_passes)

  -- ---- the beginning

  abbrev pub seen_first : Node → Bool
  seen_first n = n.id == root.id

  pub sweep_first : Sweep which old root (own_lists which) seen_first (root ∷ [])
  sweep_first = grind (arith, nat_tests, one_object, own_unchanged, root_there, with_own)

  -- ---- the end

  module _ (f : Node → List Ace) (seen : Node → Bool) (front : Sweep which old root f seen []) where
    pub changed_swept : ChangedAgree which old (with_lists which f old)
    changed_swept = changed_agree which 0 old rises f (search (rules, parent_found, root_top))
      where
        none_above : (h : Held) → is_linked h None ≡ false
        none_above h = refl

        true_from_ne_false : (t : Bool) → (t ≡ false → ⊥) → t ≡ true
        true_from_ne_false t isnt = grind (arith, nat_tests)

  module _ (f : Node → List Ace) (seen : Node → Bool) (front : Sweep which old root f seen [])
      (tree : IsTree old) where
    -- a parent is a folder
    folder_is : (n p : Node) → node_at old n.id ≡ Some n → node_at old p.id ≡ Some p
        → has_parent p.id n ≡ true → is_folder p ≡ true
    folder_is n p there there' has =
        sym (in_folder_is old n p there' has)
        ∙ each_found (λ m. has_folder_above old m ≡ true) n.id old.nodes n
        (each_all (has_folder_above old) old.nodes tree.folders) there

    seen_up : (k : ℕ) (n : Node) → node_at old n.id ≡ Some n → (o : Option ℕ) → n.parent ≡ o
        → reaches_root k old o ≡ true → seen n ≡ true
    seen_up k n there None up reaches = grind (arith, nat_tests, count_length, only_one)
    seen_up zero n there (Some p) up reaches = absurd (false≢true reaches)
    seen_up (suc k) n there (Some p) up reaches =
        on (node_at old p) refl reaches (λ q t r. seen_up k q t q.parent refl r)
      where
        on : (o : Option Node) → node_at old p ≡ o
            → option_map_or (λ (q : Node). reaches_root k old q.parent) o false ≡ true
            → ((q : Node) → node_at old q.id ≡ Some q → reaches_root k old q.parent ≡ true
            → seen q ≡ true) → seen n ≡ true
        on o found r before = grind (arith, nat_tests, folder_is, found_number)

    all_seen : (n : Node) → node_at old n.id ≡ Some n → seen n ≡ true
    all_seen n there =
        seen_up (length old.nodes) n there n.parent refl
        (each_found (λ m. reaches_root (length old.nodes) old m.parent ≡ true) n.id old.nodes n
        (each_all (λ m. reaches_root (length old.nodes) old m.parent) old.nodes tree.connected)
        there)

    pub law_swept : AllAgree (with_lists which f old) which
    law_swept =
        law_at_end which 0 old rises f
        (grind (arith, nat_tests, all_seen, folder_is))
