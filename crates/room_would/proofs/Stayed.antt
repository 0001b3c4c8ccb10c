-- A name that nothing in a room knows is known nowhere in it after changes that don't name it.
use Rattle.std.proofs.Common.{◌≡◌, ℕ, ◌==◌, ◌&&◌, Bool, true, false, cond, not, List, [], ◌∷◌}
use Rattle.std.proofs.Common.{length, map, Option, Some, None, refl, sym, ap, subst, ◌∙◌}
use Rattle.std.{proofs.lemmas.Option.{none-some, same_Some}, specs.List.AllByRecursion as Each}
use Rattle.std.specs.{Option.{option_map, option_map_or}, Prelude.{nat_lt, if◌then◌else◌}}
use Rattle.room_entry.specs.{Ace.Ace, Pieces.same_text, declared.object.Which.TheVariants.Dacl}
use Rattle.room_entry.specs.{declared.object.ObjKind.ObjKind, Valid.is_document}
use Rattle.room_entry.proofs.Facts.Members.{each_map, each_weaker}
use Rattle.room_ace.specs.Sent.{Sent, inherited_of, own_of}
use Rattle.room_rows.specs.{declared.node.Node.Node, Content.{Content, child_of, has_parent}}
use Rattle.room_rows.specs.Content.{put_node, root_of, with_body, with_each, with_node}
use Rattle.room_rows.specs.{Held.{full_of, held_of, is_linked, with_held}, HeldList.Held}
use Rattle.room_rows.specs.{Keep.node_of, Meaning.meaning, Pass.pass, Rows.{AreRows, Rows}}
use Rattle.room_rows.specs.{Sound.AreSound, Walk.{behind, walk_from, walk_of}}
use Rattle.room_machine.specs.{Effect.{kept_by_child, moved_node, sent_held, set_list}, Site.Site}
use Rattle.room_machine.specs.Site.{front, full_at, last_name, parent_at, root_site, site_at}
use Rattle.room_machine.specs.Site.{site_below, sites_along, sites_below, sites_of}
use Rattle.room_machine.specs.Stored.{stored_along, stored_site}
use Rattle.room_memory.specs.Memory.{rows_in}
use Rattle.room_sound.proofs.{Filled.site_filled, Sites.{fill, sites_filled}}
use Rattle.room_sound.proofs.SoundParts.{sound_parts}
use Rattle.room_laws.proofs.Behind.{act_on}
use Rattle.room_change.specs.Changes.{Moves as MovesTo, Sets as SetsTo, changed}
use Rattle.room_question.specs.declared.question.Change.{Change, TheVariants.{Comes, Moves, Sets}}
use Rattle.room_piece.specs.{Changing.IsDone, Coming.{meant_in, next_number, object_in, with_comer}}
use Rattle.room_piece.specs.{Holding.IsWell, InTurn.InTurn, Storing.listed}
use Rattle.room_piece.{specs.declared.piece.Piece.Piece, proofs.{Done.done_well, Placing.stands_at}}
use Rattle.room_review.specs.Users.{is_listed}
use Rattle.room_would.{specs.Names.users_of_change, proofs.Missed.{AllNew, IsNewTo, New, new_both}}
use Rattle.room_would.proofs.Missed.{new_found, new_in, new_kept, new_listed, new_owner, new_parts}
use Rattle.room_would.proofs.Missed.{new_passed, one_parts, sent_parts}

module _ (name : List ℕ) where
  -- ---- along a way

  record IsNewAt (site : Site) : Type 0 where
    node : IsNewTo name site.node
    list : New name (full_at Dacl site)

  module _ (content : Content) (each : AllNew name content) where
    walk_new : (names : List (List ℕ)) (node : Node) → IsNewTo name node
        → Each (IsNewTo name) (walk_from content node names).chain
    walk_new [] node here = (here, tt)
    walk_new (next ∷ names) node here =
        on (child_of content node.id next) refl (λ child new. walk_new names child new)
      where
        on : (o : Option Node) → child_of content node.id next ≡ o
            → ((child : Node) → IsNewTo name child
            → Each (IsNewTo name) (walk_from content child names).chain)
            → Each (IsNewTo name)
            (option_map_or (λ child. behind node (walk_from content child names)) o
            (record { chain = node ∷ []; rest = length (next ∷ names) })).chain
        on None at more = (here, tt)
        on (Some child) at more =
            (here, more child (new_found name _ content.nodes child each at))

    walks_new : (path : List (List ℕ)) → Each (IsNewTo name) (walk_of content path).chain
    walks_new path = on (root_of content) refl
      where
        on : (o : Option Node) → root_of content ≡ o
            → Each (IsNewTo name) (option_map_or (λ root. walk_from content root path) o
            (record { chain = []; rest = length path })).chain
        on None at = tt
        on (Some root) at = walk_new path root (new_found name _ content.nodes root each at)

  below_at : (above : Site) (node : Node) → IsNewAt above → IsNewTo name node
      → IsNewAt (site_below above node)
  below_at above node over here = record {
    node = here;
    list = new_both name node.dacl.own _ (new_parts name node.dacl.own node.dacl.inh here.list).0
        (on (is_linked node.dacl (Some above.node.dacl)));
  }
    where
      on : (t : Bool)
          → New name (if t then pass node.kind (full_at Dacl above) else node.dacl.inh)
      on true = new_passed name node.kind (full_at Dacl above) over.list
      on false = (new_parts name node.dacl.own node.dacl.inh here.list).1

  sites_new : (above : Site) (chain : List Node) → IsNewAt above → Each (IsNewTo name) chain
      → Each IsNewAt (sites_below above chain)
  sites_new above [] over each = tt
  sites_new above (node ∷ chain) over each =
      let here = below_at above node over each.0 in
      (here, sites_new (site_below above node) chain here each.1)

  sites_of_new : (chain : List Node) → Each (IsNewTo name) chain → Each IsNewAt (sites_of chain)
  sites_of_new [] each = tt
  sites_of_new (root ∷ chain) each =
      let here : IsNewAt (root_site root) = record { node = each.0; list = each.0.list } in
      (here, sites_new (root_site root) chain here each.1)

  at_new : (sites : List Site) (names : List (List ℕ)) (site : Site) → Each IsNewAt sites
      → site_at sites names ≡ Some site → IsNewAt site
  at_new [] names site each is = absurd (none-some site is)
  at_new (first ∷ sites) [] site each is = subst IsNewAt (same_Some first site is) each.0
  at_new (first ∷ sites) (next ∷ names) site each is = at_new sites names site each.1 is

  along_new : (content : Content) → AllNew name content → (path : List (List ℕ)) (site : Site)
      → site_at (sites_along content path) path ≡ Some site → IsNewAt site
  along_new content each path site is =
      at_new (sites_along content path) path site
      (sites_of_new (walk_of content path).chain (walks_new content each path)) is

  -- ---- an object that is put

  put_new : (new : Node) (nodes : List Node) → IsNewTo name new → Each (IsNewTo name) nodes
      → Each (IsNewTo name) (put_node new nodes)
  put_new new [] here each = (here, tt)
  put_new new (x ∷ xs) here each =
      on (nat_lt x.id new.id) (x.id == new.id) (put_new new xs here each.1)
    where
      on : (t u : Bool) → Each (IsNewTo name) (put_node new xs)
          → Each (IsNewTo name)
          (cond t (x ∷ put_node new xs) (cond u (new ∷ xs) (new ∷ x ∷ xs)))
      on true u rest = (each.0, rest)
      on false true rest = (here, each.1)
      on false false rest = (here, (each.0, each.1))

  -- nothing knows the name, and the pairs are the same
  pub record StaysNew (old new : Content) : Type 0 where
    pub nodes : AllNew name new
    pub members : new.members ≡ old.members

  module _ (content : Content) (each : AllNew name content) where
    as_it_is : StaysNew content content
    as_it_is = record { nodes = each; members = refl }

    -- ---- a list that is set

    new_sent : (above : Option Held) (sent : Sent) → New name sent.entries
        → New name (full_of (sent_held above sent))
    new_sent above sent none =
        on (is_linked (record {
          flags = sent.flags;
          own = own_of sent.entries;
          inh = inherited_of sent.entries;
        }) above)
      where
        parts : New name (own_of sent.entries) × New name (inherited_of sent.entries)
        parts = sent_parts name sent none

        held : Held
        held = record {
          flags = sent.flags;
          own = own_of sent.entries;
          inh = inherited_of sent.entries;
        }

        on : (t : Bool) → New name (full_of (if t then record held { inh = [] } else held))
        on true = new_both name (own_of sent.entries) [] parts.0 refl
        on false = new_both name (own_of sent.entries) (inherited_of sent.entries) parts.0 parts.1

    new_child : (before after : Bool) (kind : ObjKind) (full : List Ace) (held : Held)
        → New name full → New name (full_of held)
        → New name (full_of (kept_by_child before after kind full held))
    new_child before after kind full held above none =
        on held.flags.protect (before && not after) (not before && after)
      where
        own : New name held.own
        own = (new_parts name held.own held.inh none).0

        on : (t u v : Bool) → New name (full_of (if t then held else
            if u then record held { inh = pass kind full } else
            if v then record held { inh = [] } else held))
        on true u v = none
        on false true v = new_both name held.own (pass kind full) own (new_passed name kind full above)
        on false false true = new_both name held.own [] own refl
        on false false false = none

    listed_new : (sent : Sent) → New name sent.entries → (o : Option Site) (s : Site) → IsNewAt s
        → StaysNew content (set_list content Dacl sent o s)
    listed_new sent none o s at = record {
      nodes = put_new (with_held Dacl held s.node) (with_each content child).nodes
          (record {
            owner = at.node.owner;
            list = new_sent (option_map (λ (site : Site). held_of Dacl site.node) o) sent none;
          })
          (each_map (IsNewTo name) child content.nodes
          (each_weaker (IsNewTo name) (λ (n : Node). IsNewTo name (child n)) changes content.nodes
          each));
      members = refl;
    }
      where
        held : Held
        held = sent_held (option_map (λ (site : Site). held_of Dacl site.node) o) sent

        keep : Node → Held
        keep node =
            kept_by_child s.node.dacl.flags.auto held.flags.auto node.kind (full_at Dacl s)
            (held_of Dacl node)

        child : Node → Node
        child node =
            if has_parent s.node.id node then with_held Dacl (keep node) node else node

        changes : (n : Node) → IsNewTo name n → IsNewTo name (child n)
        changes n new = on (has_parent s.node.id n)
          where
            on : (t : Bool)
                → IsNewTo name (if t then with_held Dacl (keep n) n else n)
            on true = record {
              owner = new.owner;
              list = new_child s.node.dacl.flags.auto held.flags.auto n.kind (full_at Dacl s)
                  n.dacl at.list new.list;
            }
            on false = new

    set_stays : (path : List (List ℕ)) (sent : Sent) → New name sent.entries
        → StaysNew content (changed content (SetsTo path sent))
    set_stays path sent none =
        act_on (StaysNew content) content (site_at (sites_along content path) path) _ as_it_is
        (λ s at. listed_new sent none (parent_at (sites_along content path) path) s
        (along_new content each path s at))

    -- ---- an object that is moved

    moved_new : (to : List (List ℕ)) (s folder : Site) → IsNewAt s
        → StaysNew content (with_node content (moved_node s folder (last_name to)))
    moved_new to s folder at = record {
      nodes = put_new (moved_node s folder (last_name to)) content.nodes
          (record {
            owner = at.node.owner;
            list = new_both name s.node.dacl.own _
                (new_parts name s.node.dacl.own s.node.dacl.inh at.node.list).0
                (on (is_linked s.node.dacl (Some folder.node.dacl)));
          }) each;
      members = refl;
    }
      where
        on : (t : Bool) → New name (if t then [] else s.dacl)
        on true = refl
        on false = (new_parts name s.node.dacl.own s.dacl at.list).1

    move_stays : (path to : List (List ℕ)) → StaysNew content (changed content (MovesTo path to))
    move_stays path to =
        act_on (StaysNew content) content (site_at (sites_along content path) path) _ as_it_is
        (λ s at. act_on (StaysNew content) content
        (site_at (sites_along content (front to)) (front to)) _ as_it_is
        (λ folder there. moved_new to s folder (along_new content each path s at)))

    -- ---- an object that comes

    come_stays : (path : List (List ℕ)) (node : Node) → IsNewTo name node
        → StaysNew content (with_comer content path node)
    come_stays path node new = on (is_document node.kind)
      where
        nodes : Each (IsNewTo name) (put_node node content.nodes)
        nodes = put_new node content.nodes new each

        on : (t : Bool) → StaysNew content
            (if t then with_body (with_node content node) node.id [] else with_node content node)
        on true = record { nodes = nodes; members = refl }
        on false = record { nodes = nodes; members = refl }

  -- what the stored list of an object says
  stored_new : (rows : Rows) → AreRows rows → AreSound rows → AllNew name (meaning rows.read)
      → (path : List (List ℕ)) (folder : Node)
      → site_at (stored_along rows.read path) path ≡ Some (stored_site path folder)
      → New name (full_of folder.dacl)
  stored_new rows are sound each path folder is =
      on (site_at sites path) refl
      (sym (site_filled sites path) ∙ ap (λ (l : List Site). site_at l path) filled ∙ is)
    where
      sites : List Site
      sites = sites_along (meaning rows.read) path

      filled : map fill sites ≡ stored_along rows.read path
      filled = sites_filled rows are (sound_parts rows sound) path

      on : (o : Option Site) → site_at sites path ≡ o
          → option_map fill o ≡ Some (stored_site path folder) → New name (full_of folder.dacl)
      on None at same = absurd (none-some (stored_site path folder) same)
      on (Some site) at same =
          subst (λ (s : Site). New name (full_of s.node.dacl))
          (same_Some (fill site) (stored_site path folder) same)
          (along_new (meaning rows.read) each path site at).list

  -- ---- one change, and all

  module _ (unread : List ℕ) (not_unread : same_text unread name ≡ false) where
    abbrev IsNewChange : Change → Type 0
    IsNewChange change = is_listed name (users_of_change change) ≡ false

    abbrev room : Piece → Content
    room piece = meaning (rows_in piece.keep).read

    one_stays : (change : Change) (old new : Piece) → IsWell old.keep
        → IsDone unread change old new → IsNewChange change → AllNew name (room old)
        → StaysNew (room old) (room new)
    one_stays (Sets setting) old new well done none each =
        subst (StaysNew (room old)) (sym done.means)
        (set_stays (room old) each setting.path setting.list
        (new_in name setting.list.entries none))
    one_stays (Moves moving) old new well done none each =
        subst (StaysNew (room old)) (sym done.means)
        (move_stays (room old) each moving.path moving.to)
    one_stays (Comes object) old new well done none each =
        let rows = rows_in old.keep in
        let parts = one_parts name unread not_unread object none in
        let node : Node = meant_in done.folder (node_of (next_number rows)
        (object_in unread object (last_name object.path) done.folder)) in
        subst (StaysNew (room old)) (sym done.means)
        (come_stays (room old) each object.path node (record {
          owner = new_owner name unread not_unread object.owner parts.0;
          list = new_kept name (is_linked (listed object.list object.kind done.folder.dacl)
              (Some done.folder.dacl)) (listed object.list object.kind done.folder.dacl)
              (new_listed name object.list object.kind done.folder.dacl parts.1
              (stored_new rows well.rows well.sound each (front object.path) done.folder
              (stands_at (front object.path) done.folder rows done.place.way.ends)));
        }))

    pub all_stay : (changes : List Change) (old new : Piece) → IsWell old.keep
        → InTurn (IsDone unread) changes old new → Each IsNewChange changes
        → AllNew name (room old) → StaysNew (room old) (room new)
    all_stay [] old new well same none each =
        subst (λ (p : Piece). StaysNew (room old) (room p)) (sym same) (as_it_is (room old) each)
    all_stay (change ∷ changes) old new well (mid, done, turns) none each =
        let first = one_stays change old mid well done none.0 each in
        let rest = all_stay changes mid new (done_well unread change old mid done) turns none.1
        first.nodes in
        record { nodes = rest.nodes; members = rest.members ∙ first.members }
