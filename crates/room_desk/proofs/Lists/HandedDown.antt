-- Lists that are handed down on rows that needn't be sound.
use Rattle.std.proofs.Common.{◌≡◌, ℕ, zero, suc, ◌==◌, ◌||◌, ◌++◌, Bool, true, false, cond, List}
use Rattle.std.proofs.Common.{Option, Some, None, refl, sym, ap, ◌∙◌, ◌⊎◌, inl, arith}
use Rattle.std.proofs.lemmas.{Bool.{and_parts, false≢true, Decides.nat_tests}, List.map-id}
use Rattle.std.specs.{Prelude.IsTrue, Option.option_map_or}
use Rattle.room_entry.specs.{Ace.Ace, Same.same_entries, declared.object.Which.Which}
use Rattle.room_entry.specs.declared.object.Which.TheVariants.{Dacl, Sacl}
use Rattle.room_entry.proofs.Same.{entries_equal}
use Rattle.room_rows.specs.{declared.node.{AuditRow.AuditRow, Node.Node}, Content.Content}
use Rattle.room_rows.specs.Content.{has_parent, is_linked_in, node_at, parent_of, with_each}
use Rattle.room_rows.specs.{Content.with_node, Held.held_of, Keep.{with_content, with_inh}}
use Rattle.room_rows.specs.{Keep.with_place, Law.agrees, Rows.Rows}
use Rattle.room_rows.proofs.{Frames.{Rises, node_at-number}, InPlace.held_of-with_inh}
use Rattle.room_rows.proofs.{InPlace.with_inh-id, SamePlace.replaced}
use Rattle.room_inherit.specs.Spread.{IsSpread, is_linked_within, stores_as_before}
use Rattle.room_inherit.proofs.Kinship.{with_own}
use Rattle.room_ace.specs.Sent.{Sent}
use Rattle.room_machine.specs.Changed.{Child, Further, HandsDown, IsLinkedUnder, MovesTo, SetsList}
use Rattle.room_machine.specs.Changed.{inh_in, with_one}
use Rattle.room_judge.specs.Judged.{with_notes}
use Rattle.room_desk.specs.{Moving.IsMovedOnly, Setting.IsSetOnly}
use Rattle.room_desk.proofs.Lists.{SetHeld.each_same, ValidDown.all_found}
use Rattle.room_desk.proofs.{Placed.Climbing.node_at-changed, Sound.Anchored.after_is}

-- ---- nothing is handed down

pub nothing_handed : (which : Which) (id : ℕ) (content : Content)
    → HandsDown which id content content
nothing_handed which id content = record {
  lists = stay;
  becomes = sym unmoved;
  each = λ node there. inl refl;
}
  where
    stay : Node → List Ace
    stay n = (held_of which n).inh

    unmoved : with_each content (λ n. with_inh which (stay n) n) ≡ content
    unmoved = search (map-id, with_own)

-- ---- what was carried down

linked_under : (n : ℕ) (rows : Content) (which : Which) (id : ℕ) (node : Node)
    → is_linked_within n rows which id node ≡ true → IsLinkedUnder rows which id node
linked_under zero rows which id node is = absurd (false≢true is)
linked_under (suc n) rows which id node is =
    let parts = and_parts (is_linked_in rows which node)
    (has_parent id node || option_map_or (is_linked_within n rows which id)
    (parent_of rows node) false) is in
    on (λ above is. linked_under n rows which id above is) (has_parent id node)
    (parent_of rows node) refl refl parts.0 parts.1
  where
    on : ((above : Node) → is_linked_within n rows which id above ≡ true
        → IsLinkedUnder rows which id above)
        → (t : Bool) (o : Option Node) → has_parent id node ≡ t → parent_of rows node ≡ o
        → is_linked_in rows which node ≡ true
        → (t || option_map_or (is_linked_within n rows which id) o false) ≡ true
        → IsLinkedUnder rows which id node
    on up true o here above linked rest = Child node linked here
    on up false None isnt none linked rest = absurd (false≢true rest)
    on up false (Some above) isnt is_above linked rest =
        Further node above linked is_above (up above rest)

pub spread_handed : (which : Which) (id changed : ℕ) (old new : Rows)
    → IsSpread which id old new changed → HandsDown which id old.read new.read
spread_handed which id changed old new spread = grind (arith, nat_tests, one, read_is)
  where
    change : Node → Node
    change n = with_inh which (spread.lists n) n

    read_is : new.read ≡ with_each old.read change
    read_is = ap (λ (r : Rows). r.read) spread.becomes

    number : (n : Node) → (change n).id ≡ n.id
    number n = with_inh-id which (spread.lists n) n

    -- what it stores now isn't what it stored
    stores_other : (node : Node) → node_at old.read node.id ≡ Some node
        → same_entries (spread.lists node) (held_of which node).inh ≡ false
        → stores_as_before old.read which (change node) ≡ false
    stores_other node there isnt = grind (arith, nat_tests, change, held_of-with_inh, number)

    now_agrees : (node : Node) → node_at old.read node.id ≡ Some node
        → stores_as_before old.read which (change node) ≡ false
        → agrees new.read which (change node) ≡ true
    now_agrees node there isnt =
        ap (λ t. t || agrees new.read which (change node)) (sym isnt)
        ∙ all_found (λ n. stores_as_before old.read which n || agrees new.read which n) new.read
        node.id (change node) spread.agree
        (cc (read_is, node_at-changed old.read change number node.id, there))

    one : (node : Node) → node_at old.read node.id ≡ Some node → (t : Bool)
        → same_entries (spread.lists node) (held_of which node).inh ≡ t
        → (spread.lists node ≡ (held_of which node).inh)
        ⊎ (IsLinkedUnder old.read which id node × IsTrue (agrees new.read which (change node)))
    one node there true same = grind (arith, nat_tests, entries_equal)
    one node there false isnt = grind (arith, nat_tests, linked_under, now_agrees, stores_other)

-- ---- beside records

under_noted : (rows : Content) (audits : List AuditRow) (which : Which) (id : ℕ) (node : Node)
    → IsLinkedUnder (record rows { audits = audits }) which id node
    → IsLinkedUnder rows which id node
under_noted rows audits which id node (Child _ linked here) = Child node linked here
under_noted rows audits which id node (Further _ above linked is further) =
    Further node above linked is (under_noted rows audits which id above further)

-- records don't matter to what is handed down
pub handed_noted : (which : Which) (id : ℕ) (old new : Content) (audits : List AuditRow)
    → HandsDown which id (record old { audits = audits }) new
    → HandsDown which id old (record new { audits = old.audits })
handed_noted which id old new audits hands = grind (arith, nat_tests, under_noted)

handed_audits : (which : Which) (id : ℕ) (old new : Content) → HandsDown which id old new
    → new.audits ≡ old.audits
handed_audits which id old new hands = ap (λ (c : Content). c.audits) hands.becomes

-- what is left beside the records
abbrev pub beside : Rows → Rows → Content
beside old new = record new.read { audits = old.read.audits }

noted_becomes : (old new : Rows) (records : List AuditRow)
    → new ≡ with_content (with_notes old records) new.read
    → new.read.audits ≡ old.read.audits ++ records
    → new ≡ with_notes (with_content old (beside old new)) records
noted_becomes old new records is same = grind (arith, nat_tests)

-- A list is set after records were added.
pub set_noted : (which : Which) (sent : Sent) (node : Node) (old new : Rows)
    (records : List AuditRow) → IsSetOnly which sent node (with_notes old records) new
    → SetsList old.read which sent node (beside old new)
    × (new ≡ with_notes (with_content old (beside old new)) records)
set_noted which sent node old new records set = search (handed_audits, handed_noted, noted_becomes)

-- An object gets another place after records were added.
pub moved_noted : (target folder : Node) (name : List ℕ) (old new : Rows)
    (records : List AuditRow) → IsMovedOnly target folder name (with_notes old records) new
    → MovesTo folder name target old.read (beside old new)
    × (new ≡ with_notes (with_content old (beside old new)) records)
moved_noted target folder name old new records moved =
    let audits = old.read.audits ++ records in
    let mid = moved.0.0 in
    let still : Content = record mid { audits = old.read.audits } in
    let dacl : Content → Content =
    with_one target.id (with_inh Dacl (inh_in Dacl folder target)) in
    let sacl : Content → Content =
    with_one target.id (with_inh Sacl (inh_in Sacl folder target)) in
    let placed : Content = with_node old.read (with_place folder.id name target) in (
      (
        still,
        handed_noted Dacl target.id (dacl placed) mid audits moved.0.1,
        handed_noted Sacl target.id (sacl still) new.read mid.audits moved.0.2,
      ),
      grind (arith, nat_tests, handed_audits, noted_becomes),
    )

-- ---- one object changed

module _ (content : Content) (rises : Rises content) (id : ℕ) (node : Node)
    (there : node_at content id ≡ Some node) (change : Node → Node) where
  numbered : node.id ≡ id
  numbered = node_at-number content id node there

  found : node_at content node.id ≡ Some node
  found = ap (node_at content) numbered ∙ there

  same_node : (n : Node) → node_at content n.id ≡ Some n → (n.id == id) ≡ true → n ≡ node
  same_node n is same = grind (arith, nat_tests)

  -- it is put in the place of the one that was there
  pub put_one : ((n : Node) → (change n).id ≡ n.id)
      → with_node content (change node) ≡ with_one id change content
  put_one number =
      grind (arith, nat_tests, after_is, each_same, found, numbered, replaced, same_node)

  -- it is changed to what it is
  pub one_stays : change node ≡ node → with_one id change content ≡ content
  one_stays same =
      each_same content rises (λ n. cond (n.id == id) (change n) n) (λ n. n) one
      ∙ ap (λ (nodes : List Node). record content { nodes = nodes }) (map-id content.nodes)
    where
      one : (n : Node) → node_at content n.id ≡ Some n → cond (n.id == id) (change n) n ≡ n
      one n is = grind (arith, nat_tests, same_node)

-- ---- rows that can't be read

-- nothing but the content is changed
pub only_read : (old new : Rows) → new.unreadable ≡ old.unreadable
    → new ≡ with_content old new.read
only_read old new same = λ i. record { read = new.read; unreadable = same i }
