-- Whom a question doesn't name as a user is known nowhere in its room, nor after its changes.
use Rattle.std.proofs.Common.{◌≡◌, ℕ, zero, suc, ◌+◌, ◌<◌, ◌≤◌, ◌==◌, ◌&&◌, ◌||◌, Bool, true, false}
use Rattle.std.proofs.Common.{cond, not, List, [], ◌∷◌, ◌++◌, map, length, Option, Some, None, refl}
use Rattle.std.proofs.{Common.{sym, ap, subst, ◌∙◌, arith}, lemmas.Bool.{and_parts, false≢true}}
use Rattle.std.proofs.lemmas.Bool.{ltb-true, or_from, or_parts, true≢false, eq-eqb, eqb-true}
use Rattle.std.proofs.lemmas.{Bool.{ne_eqb, Decides.nat_tests}, Option.{none-some, same_Some}}
use Rattle.std.{proofs.lemmas.List.Folds.list_any-append, specs.List.AllByRecursion as Each}
use Rattle.std.specs.{List.{cons_option, find, flat_map, list_all, list_any}, Option.option_map}
use Rattle.std.specs.{Option.option_map_or, Prelude.{option_and_then, nat_lt}}
use Rattle.room_entry.specs.{Ace.Ace, Pieces.same_text, declared.flags.EntryFlags.EntryFlags}
use Rattle.room_entry.specs.declared.object.{ObjKind.ObjKind, Which.TheVariants.Dacl}
use Rattle.room_entry.proofs.Facts.Members.{each_map, none_filter, each_weaker}
use Rattle.room_ace.specs.Sent.{Sent, inherited_of, own_of}
use Rattle.room_rows.specs.{declared.node.Node.Node, Content.{Content, child_of, node_at}}
use Rattle.room_rows.specs.Content.{parent_of, has_parent, is_rising, put_node, reaches_root}
use Rattle.room_rows.specs.{Content.{root_of, with_each, with_node, is_linked_in}, Finding.find_id}
use Rattle.room_rows.specs.{Held.full_of, HeldList.Held, Meaning.{kept_held, kept_node, meaning}}
use Rattle.room_rows.specs.{Pass.{pass, passed_flags}, Rows.Rows, Sound.reaches}
use Rattle.room_dump.proofs.Counting.{each_found}
use Rattle.room_machine.specs.Site.{Site}
use Rattle.room_memory.specs.Memory.{rows_in}
use Rattle.room_sound.proofs.SoundParts.{passes_test, sound_parts}
use Rattle.room_laws.proofs.OnePlace.{found_there}
use Rattle.room_question.specs.declared.question.Listed.{Listed, TheVariants.{Follows, Text}}
use Rattle.room_question.specs.declared.question.{Listed.TheVariants.Unread, Object.Object}
use Rattle.room_question.specs.declared.question.{Owner.Owner as By, Question.Question}
use Rattle.room_piece.specs.{Building.{AllStand, IsPiece, Stands, list_in}, Owning.owner_of}
use Rattle.room_piece.specs.Storing.{listed, root_list, passing, whole}
use Rattle.room_piece.{specs.declared.piece.Piece.Piece, proofs.Followed.stored_found}
use Rattle.room_review.{specs.{Laws.is_known_to, Users.{is_listed, user_in}}, proofs.Others.new_to}
use Rattle.room_would.specs.Names.{owner_in, users_in, users_listed, users_of_object}
use Rattle.room_would.proofs.Numbers.{any_flat}
use Rattle.room_rows.proofs.Lookups as lookups
use Rattle.room_question.specs.declared.question.Owner.TheVariants as owner

one_up : (a k l n : ℕ) → a ≡ k + 1 → n ≤ a + l → n ≤ k + suc l
one_up a k l n is below = omega (arith, is, below)

module _ (name : List ℕ) where
  -- ---- entries that don't name it

  abbrev says : Ace → Bool
  says entry = is_listed name (user_in entry.who)

  abbrev pub New : List Ace → Type 0
  New entries = list_any says entries ≡ false

  pub new_in : (entries : List Ace) → is_listed name (users_in entries) ≡ false → New entries
  new_in entries none =
      sym (any_flat (λ other. same_text other name) (λ (entry : Ace). user_in entry.who) entries)
      ∙ none

  pub new_both : (xs ys : List Ace) → New xs → New ys → New (xs ++ ys)
  new_both xs ys one two =
      list_any-append says xs ys ∙ (λ i. one i || list_any says ys) ∙ two

  pub new_parts : (xs ys : List Ace) → New (xs ++ ys) → New xs × New ys
  new_parts xs ys none =
      or_parts (list_any says xs) (list_any says ys) (sym (list_any-append says xs ys) ∙ none)

  pub new_passed : (kind : ObjKind) (entries : List Ace) → New entries → New (pass kind entries)
  new_passed kind [] none = refl
  new_passed kind (entry ∷ entries) none =
      let parts = or_parts (says entry) (list_any says entries) none in
      on (passed_flags kind entry.flags) parts.0 (new_passed kind entries parts.1)
    where
      on : (o : Option EntryFlags) → says entry ≡ false → New (pass kind entries)
          → New (cons_option
          (option_map (λ (flags : EntryFlags). record entry { flags = flags }) o)
          (pass kind entries))
      on None here rest = rest
      on (Some flags) here rest = λ i. here i || rest i

  -- a list that is sent
  pub sent_parts : (sent : Sent) → New sent.entries → New (own_of sent.entries)
      × New (inherited_of sent.entries)
  sent_parts sent none = (
    none_filter says (λ (entry : Ace). not entry.flags.inherited) sent.entries none,
    none_filter says (λ (entry : Ace). entry.flags.inherited) sent.entries none,
  )

  pub new_kept : (linked : Bool) (held : Held) → New (full_of held) → New (full_of (kept_held linked held))
  new_kept false held none = none
  new_kept true held none = new_both held.own [] (new_parts held.own held.inh none).0 refl

  -- ---- objects that don't name it

  pub record IsNewTo (node : Node) : Type 0 where
    pub owner : same_text node.owners.owner name ≡ false
    pub list : New (full_of node.dacl)

  pub unknown_to : (node : Node) → IsNewTo node → is_known_to name node ≡ false
  unknown_to node new =
      new_to name node
      (or_from (same_text node.owners.owner name)
      (is_listed name (flat_map (λ (entry : Ace). user_in entry.who) (full_of node.dacl))) new.owner
      (any_flat (λ other. same_text other name) (λ (entry : Ace). user_in entry.who)
      (full_of node.dacl) ∙ new.list))

  abbrev pub AllNew : Content → Type 0
  AllNew content = Each IsNewTo content.nodes

  pub all_free : (nodes : List Node) → Each IsNewTo nodes
      → list_all (λ node. not (is_known_to name node)) nodes ≡ true
  all_free [] each = refl
  all_free (node ∷ nodes) each =
      (λ i. not (unknown_to node each.0 i) && all_free nodes each.1 i)

  pub new_found : (p : Node → Bool) (nodes : List Node) (node : Node) → Each IsNewTo nodes
      → find p nodes ≡ Some node → IsNewTo node
  new_found p nodes node each found = each_found IsNewTo p nodes node each found

  -- what the rows mean
  pub all_mean : (rows : Content) → AllNew rows → AllNew (meaning rows)
  all_mean rows each =
      each_map IsNewTo (kept_node rows) rows.nodes
      (each_weaker IsNewTo
      (λ (node : Node). IsNewTo (kept_node rows node))
      (λ node new. record {
        owner = new.owner;
        list = new_kept (is_linked_in rows Dacl node) node.dacl new.list;
      }) rows.nodes each)

  -- ---- the lists of a question

  new_passing : New (full_of passing)
  new_passing = refl

  new_whole : (sent : Sent) → is_listed name (users_in sent.entries) ≡ false
      → New (full_of (whole sent))
  new_whole sent none =
      let parts = sent_parts sent (new_in sent.entries none) in
      new_both (own_of sent.entries) (inherited_of sent.entries) parts.0 parts.1

  pub new_listed : (list : Listed) (kind : ObjKind) (above : Held)
      → is_listed name (users_listed list) ≡ false → New (full_of above)
      → New (full_of (listed list kind above))
  new_listed Follows kind above none over = new_passed kind (full_of above) over
  new_listed Unread kind above none over = new_passing
  new_listed (Text sent) kind above none over = new_whole sent none

  new_root : (list : Listed) → is_listed name (users_listed list) ≡ false
      → New (full_of (root_list list))
  new_root Follows none = refl
  new_root Unread none = new_passing
  new_root (Text sent) none = new_whole sent none

  module _ (unread : List ℕ) (not_unread : same_text unread name ≡ false) where
    pub new_owner : (by : By) → is_listed name (owner_in by) ≡ false
        → same_text (owner_of unread by) name ≡ false
    new_owner (owner.User other) none = (or_parts (same_text other name) false none).0
    new_owner owner.Unread none = not_unread
    new_owner owner.Each none = not_unread

    abbrev pub IsNewOne : Object → Type 0
    IsNewOne object = is_listed name (users_of_object object) ≡ false

    pub one_parts : (object : Object) → IsNewOne object
        → (is_listed name (owner_in object.owner) ≡ false)
        × (is_listed name (users_listed object.list) ≡ false)
    one_parts object none =
        or_parts (is_listed name (owner_in object.owner)) (is_listed name (users_listed object.list))
        (sym (list_any-append (λ other. same_text other name) (owner_in object.owner)
        (users_listed object.list)) ∙ none)

    -- ---- the piece before the changes

    -- the numbers of as many objects as there are
    module _ (all : List Node) where
      numbered_to : (k : ℕ) (nodes : List Node)
          → is_rising (k ∷ map (λ (n : Node). n.id) nodes) ≡ true
          → ((i : ℕ) → k < i → i ≤ k + length nodes → find_id i nodes ≡ None → ⊥)
          → Each (λ (n : Node). n.id ≤ k + length nodes) nodes
      numbered_to k [] rises full = tt
      numbered_to k (x ∷ xs) rises full = (
        omega (arith, next),
        each_weaker
            (λ (n : Node). n.id ≤ x.id + length xs) (λ (n : Node). n.id ≤ k + suc (length xs))
            (λ n below. one_up x.id k (length xs) n.id next below) xs
            (numbered_to x.id xs parts.1 (λ i above within none. full i (omega (arith, next, above))
            (omega (arith, next, within))
            (lookups.find_no (λ (n : Node). n.id == i) x xs (other i above) ∙ none))),
      )
        where
          parts : (nat_lt k x.id ≡ true) × (is_rising (x.id ∷ map (λ (n : Node). n.id) xs) ≡ true)
          parts =
              and_parts (nat_lt k x.id) (is_rising (x.id ∷ map (λ (n : Node). n.id) xs)) rises

          other : (i : ℕ) → x.id < i → (x.id == i) ≡ false
          other i above = ne_eqb x.id i (λ same. less same above)
            where
              less : x.id ≡ i → x.id < i → ⊥
              less same above = omega (arith, same, above)

          first : (o : Option Node) → find_id (k + 1) (x ∷ xs) ≡ o → x.id ≡ k + 1
          first None none =
              absurd (full (k + 1) (omega arith) (omega arith) none)
          first (Some n) found = on (x.id == k + 1) refl found
            where
              on : (t : Bool) → (x.id == k + 1) ≡ t
                  → cond t (Some x) (find_id (k + 1) xs) ≡ Some n → x.id ≡ k + 1
              on true same found = eqb-true x.id (k + 1) same
              on false differ found =
                  let above = lookups.found_above x.id xs (k + 1) n parts.1 found in
                  let up = ltb-true k x.id parts.0 in
                  let same = lookups.found_number (k + 1) xs n found in
                  absurd (let wrong : ⊥ = omega (arith, above, up, same) in wrong)

          next : x.id ≡ k + 1
          next = first (find_id (k + 1) (x ∷ xs)) refl

    -- each number of an object is that of an object of the question
    record StandsNew (rows : Rows) (id : ℕ) : Type 0 where
      one : Object
      new : IsNewOne one
      stands : Stands unread rows id one

    stands_new : (rows : Rows) (k : ℕ) (objects : List Object) → AllStand unread rows k objects
        → Each IsNewOne objects → (id : ℕ) → k ≤ id → id < k + length objects → StandsNew rows id
    stands_new rows k [] all new id above below =
        absurd (let wrong : ⊥ = omega (arith, above, below) in wrong)
    stands_new rows k (object ∷ objects) all new id above below =
        on (k == id) refl
        (λ more. stands_new rows (k + 1) objects all.1 new.1 id more (omega (arith, below)))
      where
        on : (t : Bool) → (k == id) ≡ t → (k + 1 ≤ id → StandsNew rows id) → StandsNew rows id
        on true same next =
            let is = eqb-true k id same in
            record {
              one = object;
              new = new.0;
              stands = subst (λ (i : ℕ). Stands unread rows i object) is all.0;
            }
        on false differ next = next (more above (λ same. true≢false
            (sym (eq-eqb k id same) ∙ differ)))
          where
            more : k ≤ id → (k ≡ id → ⊥) → k + 1 ≤ id
            more within isnt = grind (arith, nat_tests)

    module _ (question : Question)
        (piece : Piece) (is : IsPiece unread question piece)
        (new : Each IsNewOne question.objects) where
      abbrev rows : Rows
      rows = rows_in piece.keep

      abbrev content : Content
      content = rows.read

      there : Each (λ (n : Node). node_at content n.id ≡ Some n) content.nodes
      there = lookups.each_found 0 content.nodes is.well.rows.numbers

      by_number : (id : ℕ) → 0 < id → id ≤ length content.nodes → StandsNew rows id
      by_number id above below =
          stands_new rows 1 question.objects is.objects new id (omega (arith, above))
          (up id (length content.nodes) (length question.objects) below is.no_others)
        where
          up : (i m n : ℕ) → i ≤ m → m ≡ n → i < 1 + n
          up i m n below same = omega (arith, below, same)

      abbrev stands_at_number : (id : ℕ) → StandsNew rows id → (n : Node) × (node_at content id ≡ Some n)
      stands_at_number id it = (
        it.stands.node,
        ap (node_at content) (sym it.stands.numbered)
            ∙ found_there content is.well.rows.numbers it.one.path it.stands.node
            (sym (stored_found content it.one.path)
            ∙ ap (option_map (λ (s : Site). s.node)) it.stands.at),
      )

      within : Each (λ (n : Node). n.id ≤ 0 + length content.nodes) content.nodes
      within =
          numbered_to content.nodes 0 content.nodes is.well.rows.numbers
          (λ id above below none.
          let at = stands_at_number id (by_number id above (omega (arith, below))) in
          none-some at.0 (sym none ∙ at.1))

      -- an object of the piece has an object of the question
      of_question : (node : Node) → node_at content node.id ≡ Some node → StandsNew rows node.id
      of_question node at =
          by_number node.id
          (lookups.found_above 0 content.nodes node.id node is.well.rows.numbers at)
          (no_more node.id (length content.nodes)
          (each_found (λ (n : Node). n.id ≤ 0 + length content.nodes) (λ n. n.id == node.id)
          content.nodes node within at))
        where
          no_more : (i m : ℕ) → i ≤ 0 + m → i ≤ m
          no_more i m below = omega (arith, below)

      same_node : (node : Node) → node_at content node.id ≡ Some node
          → (it : StandsNew rows node.id) → it.stands.node ≡ node
      same_node node at it =
          same_Some it.stands.node node (sym (stands_at_number node.id it).1 ∙ at)

      module _ (node : Node) (at : node_at content node.id ≡ Some node) where
        it : StandsNew rows node.id
        it = of_question node at

        new_held : New (full_of (list_in it.one.list it.one.kind (parent_of content node)))
            → IsNewTo node
        new_held none = record {
          owner = ap (λ (n : Node). same_text n.owners.owner name) (sym (same_node node at it))
              ∙ ap (λ o. same_text o name) (ap (λ (w : _). w.owner) it.stands.owners)
              ∙ new_owner it.one.owner (one_parts it.one it.new).0;
          list = subst (λ (held : Held). New (full_of held))
              (sym (sym (ap (λ (n : Node). n.dacl) (same_node node at it)) ∙ it.stands.list
              ∙ ap (λ (n : Node). list_in it.one.list it.one.kind (parent_of content n))
              (same_node node at it))) none;
        }

        below_new : (o : Option Node) → parent_of content node ≡ o
            → ((folder : Node) → o ≡ Some folder → IsNewTo folder) → IsNewTo node
        below_new None none above =
            new_held (subst (λ (p : Option Node).
            New (full_of (list_in it.one.list it.one.kind p))) (sym none)
            (new_root it.one.list (one_parts it.one it.new).1))
        below_new (Some folder) found above =
            new_held (subst (λ (p : Option Node).
            New (full_of (list_in it.one.list it.one.kind p))) (sym found)
            (new_listed it.one.list it.one.kind folder.dacl (one_parts it.one it.new).1
            (above folder refl).list))

      -- an object in one that doesn't know the name, or in none
      by_parent : (node : Node) → node_at content node.id ≡ Some node
          → ((id : ℕ) (folder : Node) → node.parent ≡ Some id → node_at content id ≡ Some folder
          → IsNewTo folder) → IsNewTo node
      by_parent node at above =
          below_new node at (parent_of content node) refl
          (λ folder found. on folder node.parent refl found)
        where
          on : (folder : Node) (p : Option ℕ) → node.parent ≡ p
              → option_and_then (node_at content) p ≡ Some folder → IsNewTo folder
          on folder None is found = absurd (none-some folder found)
          on folder (Some id) is found = above id folder is found

      new_by : (n : ℕ) (node : Node) → node_at content node.id ≡ Some node
          → reaches_root n content node.parent ≡ true → IsNewTo node
      new_by zero node at reached =
          by_parent node at (λ id folder is found. absurd (false≢true
          (sym (ap (reaches_root zero content) is) ∙ reached)))
      new_by (suc m) node at reached =
          by_parent node at (λ id folder is found.
          new_by m folder
          (ap (node_at content) (lookups.found_number id content.nodes folder found) ∙ found)
          (sym (ap (λ (o : Option Node).
          option_map_or (λ parent. reaches_root m content parent.parent) o false) found)
          ∙ sym (ap (reaches_root (suc m) content) is) ∙ reached))

      pub before_new : AllNew content
      before_new =
          each_weaker
          (λ (n : Node). node_at content n.id ≡ Some n) IsNewTo
          (λ node at. new_by (length content.nodes) node at
          (passes_test (reaches content) (λ n. n.id == node.id) content.nodes node
          (sound_parts rows is.well.sound).reached at)) content.nodes there
