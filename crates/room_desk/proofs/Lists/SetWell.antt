-- Where a list is set and carried down, what the rows mean changes likewise, and they stay sound.
use Rattle.std.proofs.Common.{rules, ◌≡◌, ℕ, ◌+◌, Bool, true, false, List, [], ◌∷◌, filter, length}
use Rattle.std.proofs.Common.{Option, Some, None, refl, sym, ap, subst, ◌∙◌, inl, inr, arith}
use Rattle.std.proofs.lemmas.{List.map-id, Option.same_Some, Bool.Decides.nat_tests}
use Rattle.std.specs.{Prelude.nat_le, List.list_all, Option.option_map}
use Rattle.room_entry.specs.{Ace.Ace, declared.object.{ObjKind.ObjKind, Which.Which}}
use Rattle.room_entry.proofs.Facts.Lists.{all_implied}
use Rattle.room_ace.specs.Sent.{Sent, inherited_of, limit_fault, own_of}
use Rattle.room_rows.specs.{HeldList.Held, declared.node.Node.Node, Content.{Content, node_at}}
use Rattle.room_rows.specs.Content.{parent_of, has_parent, is_linked_in, with_each, with_node}
use Rattle.room_rows.specs.{Held.{held_of, full_of, is_linked, with_held}, Keep.with_content}
use Rattle.room_rows.specs.{Rows.{Rows, AreRows}, Law.{AllAgree, agrees}, Pass.pass, Sound.AreSound}
use Rattle.room_rows.{specs.Sound.{keeps_law, reaches}, proofs.InPlace.with_node-there}
use Rattle.room_inherit.specs.{Laws.are_valid, Spread.{IsSpread, with_lists}}
use Rattle.room_inherit.proofs.{Kinship.with_own, NoFault.no_fault}
use Rattle.room_desk.specs.Setting.{IsNewInh, IsSet, IsSetOnly, IsSetWell, Stores, fault_in}
use Rattle.room_desk.specs.{Setting.held_with, Carrying.GoesDown}
use Rattle.room_desk.proofs.Lists.HandedDown.{nothing_handed, only_read, spread_handed}
use Rattle.room_desk.proofs.Lists.{Relisted.{held_relisted, one_agrees, relist}, SetHeld.base}
use Rattle.room_desk.proofs.Lists.SetHeld.{base_here, each_same, ends, ends_is, final, links, mid}
use Rattle.room_desk.proofs.Lists.{SetHeld.{other_links, own_held, set_sound}, SetMeaning.set_means}
use Rattle.room_desk.proofs.Lists.SetSpread.{agree_all, agree_but, not_own_parent}
use Rattle.room_desk.proofs.Lists.{SetSpread.unlinked_unchanged, ValidDown.all_found}
use Rattle.room_desk.proofs.Lists.ValidDown.{are_inherited, are_own, linked_above}
use Rattle.room_machine.specs.Changed.{HandsDown, stored_held}

-- ---- the sent entries

all_filtered : {X : Type 0} (p q : X → Bool) (xs : List X) → list_all p xs ≡ true
    → list_all p (filter q xs) ≡ true
all_filtered p q [] all = refl
all_filtered p q (x ∷ xs) all = grind (arith, all_filtered p q xs)

each_filtered : {X : Type 0} (q : X → Bool) (xs : List X) → list_all q (filter q xs) ≡ true
each_filtered q [] = refl
each_filtered q (x ∷ xs) = grind (arith, each_filtered q xs)

valid_entries : (which : Which) (kind : ObjKind) (place : ℕ) (entries : List Ace)
    → fault_in place which kind entries ≡ None → are_valid which kind entries ≡ true
valid_entries which kind place [] none = refl
valid_entries which kind place (entry ∷ entries) none =
    grind (arith, valid_entries which kind (place + 1) entries)

few_own : (entries : List Ace) → limit_fault entries ≡ None
    → nat_le (length (own_of entries)) 64 ≡ true
few_own entries none = grind (arith, nat_tests)

own_sound : (which : Which) (kind : ObjKind) (entries : List Ace)
    → fault_in 1 which kind entries ≡ None → limit_fault entries ≡ None
    → are_own which kind (own_of entries) ≡ true
own_sound which kind entries valid few =
    search (all_filtered, each_filtered, few_own, valid_entries)

inherited_sound : (which : Which) (kind : ObjKind) (entries : List Ace)
    → fault_in 1 which kind entries ≡ None → are_inherited which kind (inherited_of entries) ≡ true
inherited_sound which kind entries valid = search (all_filtered, each_filtered, valid_entries)

-- what isn't linked keeps the sent entries
unlinked_sent : (which : Which) (sent : Sent) (kind : ObjKind) (o : Option Node)
    → is_linked (stored_held which sent kind o) (option_map (held_of which) o) ≡ false
    → (stored_held which sent kind o).inh ≡ inherited_of sent.entries
unlinked_sent which sent kind o apart = grind arith

-- ---- the rows

module _ (which : Which) (sent : Sent) (node : Node) (old : Rows) (are : AreRows old)
    (there : node_at old.read node.id ≡ Some node) (sound : AreSound old)
    (held : Held) (stored : held ≡ stored_held which sent node.kind (parent_of old.read node)) where
  abbrev rows : Content
  rows = old.read

  law_before : AllAgree rows which
  law_before =
      all_implied (keeps_law rows) (agrees rows which) (one_agrees which rows) rows.nodes
      (no_fault old sound).law

  reaches_before : reaches rows node ≡ true
  reaches_before = all_found (reaches rows) rows node.id node (no_fault old sound).reach there

  apart : has_parent node.id node ≡ false
  apart = not_own_parent rows node (length rows.nodes) there reaches_before

  -- a linked child stores what the object's list passes
  child_law : (n : Node) → node_at rows n.id ≡ Some n → parent_of rows n ≡ Some node
      → is_linked_in rows which n ≡ true
      → (held_of which n).inh ≡ pass n.kind (full_of (held_of which node))
  child_law n found is linked =
      let above = linked_above which rows law_before (no_fault old sound).parents n found linked in
      let same : above.0 ≡ node = same_Some above.0 node (sym above.1 ∙ is) in rw (← same) above.2

  linked_stored : links which rows node held node
      ≡ is_linked (stored_held which sent node.kind (parent_of rows node))
      (option_map (held_of which) (parent_of rows node))
  linked_stored = rw (base_here which rows node held, other_links which rows node held node apart, stored)

  module _ (valid : fault_in 1 which node.kind sent.entries ≡ None)
      (few : limit_fault sent.entries ≡ None) where
    own : are_own which node.kind held.own ≡ true
    own = rw stored (own_sound which node.kind sent.entries valid few)

    inherited : links which rows node held node ≡ false
        → are_inherited which node.kind held.inh ≡ true
    inherited isnt = grind (arith, nat_tests, inherited_sound, linked_stored, unlinked_sent)

    -- with lists below that agree, and that are what they were where nothing is inherited
    set_ends : (lists : Node → List Ace)
        → ((x : Node) → node_at (mid which rows node held) x.id ≡ Some x
        → is_linked_in (mid which rows node held) which x ≡ false → lists x ≡ (held_of which x).inh)
        → AllAgree (with_lists which lists (mid which rows node held)) which
        → IsSetWell which sent node old (with_content old (ends which rows node held lists))
    set_ends lists kept law = search (apart, child_law, inherited, own, set_means, set_sound)

    -- nothing is written where the list is what it was
    pub set_same : (new : Rows) → held ≡ held_of which node → new ≡ old
        → IsSetWell which sent node old new
    set_same new same unwritten =
        grind (arith, nat_tests, as_before, ends_is, law_before, set_ends, stay)
      where
        stay : Node → List Ace
        stay x = (held_of which x).inh

        with_before : (n : Node) → node_at rows n.id ≡ Some n
            → base which rows node held n ≡ held_of which n
        with_before n found = grind (arith, nat_tests, there, same)

        one : (n : Node) → node_at rows n.id ≡ Some n
            → relist which (final which rows node held stay) n ≡ n
        one n found = grind (arith, nat_tests, base, held_relisted, own_held, relist, with_before)

        as_before : ends which rows node held stay ≡ rows
        as_before = each_same rows are.numbers _ (λ n. n) one ∙ simp map-id

    -- the list is written, and passes nothing on
    pub set_still : (new : Rows) → held.flags.auto ≡ false
        → new ≡ with_content old (mid which rows node held) → IsSetWell which sent node old new
    set_still new stops written =
        subst (IsSetWell which sent node old)
        (cc (ends_is which rows node held stay are.numbers there, unmoved, written))
        (set_ends stay (λ x found isnt. refl)
        (subst (λ (c : Content). AllAgree c which) (sym unmoved)
        (agree_all which rows node held are.numbers there sent stored law_before stops)))
      where
        stay : Node → List Ace
        stay x = (held_of which x).inh

        unmoved : with_lists which stay (mid which rows node held) ≡ mid which rows node held
        unmoved = (λ i. with_each (mid which rows node held) (λ n. with_own which n i)) ∙ simp map-id

    -- the list is written, and carried down
    pub set_spread : (mid_rows new : Rows) (changed : ℕ)
        → mid_rows ≡ with_content old (mid which rows node held)
        → IsSpread which node.id mid_rows new changed → IsSetWell which sent node old new
    set_spread mid_rows new changed written carried =
        let spread = rw written at carried in
        let law = rw spread.becomes at
        (spread.law (agree_but which rows node held are.numbers there sent stored law_before)) in
        subst (IsSetWell which sent node old)
        (cc (ends_is which rows node held spread.lists are.numbers there, spread.becomes))
        (set_ends spread.lists
        (unlinked_unchanged which (mid which rows node held) node.id spread.lists spread.below) law)

-- ---- in terms of the calls

module _ (which : Which) (sent : Sent) (node : Node) (inh : List Ace) (old new : Rows)
    (are : AreRows old) (is : IsNewInh which sent node (parent_of old.read node) inh) where
  abbrev held : Held
  held = held_with sent inh

  stored : held ≡ stored_held which sent node.kind (parent_of old.read node)
  stored = ap (held_with sent) is

  -- the content with the list, before anything is handed down
  abbrev listed : Held → Content
  listed list = with_node old.read (with_held which list node)

  hands_down : (list : Held) → held ≡ list → (half : Rows) → half.read ≡ listed held
      → (t : Bool) → GoesDown t which node.id half new
      → HandsDown which node.id (listed list) new.read
  hands_down list same half is true goes =
      rw (← same, ← is) (spread_handed which node.id goes.0 half new goes.1)
  hands_down list same half is false goes = grind (arith, nat_tests, nothing_handed)

  still_unread : (half : Rows) (t : Bool) → GoesDown t which node.id half new
      → new.unreadable ≡ half.unreadable
  still_unread half true goes = ap (λ (r : Rows). r.unreadable) goes.1.becomes
  still_unread half false goes = ap (λ (r : Rows). r.unreadable) goes

  only : Stores which node held old tt new → node_at old.read node.id ≡ Some node
      → IsSetOnly which sent node old new
  only (inl stays) there = (
    hands_down (stored_held which sent node.kind (parent_of old.read node)) stored old
        (cc (with_node-there old.read are.numbers node there, own_held which node, stays.0))
        false stays.1,
    only_read old new (ap (λ (r : Rows). r.unreadable) stays.1),
  )
  only (inr written) there =
      let writes = written.writes node there in
      search (rules, written.goes, there, hands_down, only_read, still_unread, stored)

  well : Stores which node held old tt new → node_at old.read node.id ≡ Some node
      → fault_in 1 which node.kind sent.entries ≡ None → limit_fault sent.entries ≡ None
      → AreSound old → IsSetWell which sent node old new
  well (inl stays) there valid few sound = search (set_same, stored)
  well (inr written) there valid few sound = on sent.flags.auto refl (written.goes there)
    where
      on : (t : Bool) → sent.flags.auto ≡ t → GoesDown t which node.id written.mid new
          → IsSetWell which sent node old new
      on true is goes =
          set_spread which sent node old are there sound held stored valid few written.mid new
          goes.0 (written.writes node there) goes.1
      on false is goes =
          set_still which sent node old are there sound held stored valid few new is
          (goes ∙ written.writes node there)

  pub well_stored : Stores which node held old tt new → IsSet which sent node old new
  well_stored stores = (only stores, well stores)
