-- The calls that give an object another place.
use Rattle.std.proofs.Common.{rules, ◌≡◌, ℕ, ◌==◌, true, false, cond, List, Some, refl, sym, ap}
use Rattle.std.proofs.{Common.{subst, ◌∙◌, inl, inr, arith}, lemmas.Bool.Decides.nat_tests}
use Rattle.room_entry.specs.{Ace.Ace, declared.object.Which.{Which, TheVariants.{Dacl, Sacl}}}
use Rattle.room_rows.specs.{declared.node.Node.Node, Content.{Content, node_at, with_node}}
use Rattle.room_rows.specs.{Held.{held_of, full_of, is_linked}, Keep.{Changes, IsUnreadable}}
use Rattle.room_rows.specs.{Keep.{Places, with_content, with_inh, with_place}, Rows.Rows, Pass.pass}
use Rattle.room_rows.proofs.{Frames.Rises, InPlace.{keeps_places, node_at-with_each}}
use Rattle.room_rows.proofs.InPlace.{place-with_inh, rises-with_each, with_inh-id}
use Rattle.room_rows.proofs.SamePlace.{IsSamePlace, same_place}
use Rattle.room_inherit.proofs.Kinship.{with_own}
use Rattle.room_machine.specs.{declared.reply.Reply.TheVariants.Done, Changed.{HandsDown, Relinks}}
use Rattle.room_machine.specs.Changed.{inh_in, with_one}
use Rattle.room_desk.specs.{Carrying.{HasLoop, IsCarriedDown, IsRooted}, Moving.{CanGo, CanPlace}}
use Rattle.room_desk.specs.Moving.{CanRenew, FailsToPlace, FailsToRenew, HasListOf, HasRenewedLists}
use Rattle.room_desk.specs.Moving.{KeepsRoot, PlacesAt, Renews, TakesPassed}
use Rattle.room_desk.proofs.Lists.HandedDown.{nothing_handed, one_stays, only_read, put_one}
use Rattle.room_desk.proofs.{Lists.HandedDown.spread_handed, Sound.Anchored.changed_unread}
use Rattle.room_desk.proofs.Sound.Anchored.{here_after, past_up, rises_after, rooted_changed}
use Rattle.room_desk.proofs.Sound.Anchored.{rooted_spread, still_unread}
use Rattle.room_desk.proofs.Placed.PlacedStates.{can_renew, can_renew_sacl, first_state, is_placed}
use Rattle.room_desk.proofs.Placed.PlacedStates.{mid_is, own_dacl, own_sacl, state}
use Rattle.room_desk.proofs.Placed.Relinked.{not_linked, renewed, stored_already}

-- ---- one list

-- nothing is changed
pub keeps_all : (id : ℕ) (old new : Rows) → new ≡ old → IsRooted id old → KeepsRoot id old new
keeps_all id old new same rooted = grind (arith, nat_tests)

-- the object stores already what it stores in the folder
relinks_still : (which : Which) (target folder : Node) (old new : Rows)
    → HasListOf which target old → new ≡ old
    → inh_in which folder target ≡ (held_of which target).inh
    → Relinks which folder target old.read new.read
relinks_still which target folder old new has same is =
    grind (arith, nat_tests, nothing_handed, one_stays, with_own)

inh_linked : (which : Which) (target folder : Node)
    → is_linked (held_of which target) (Some (held_of which folder)) ≡ true
    → inh_in which folder target ≡ pass target.kind (full_of (held_of which folder))
inh_linked which target folder linked = grind (arith, nat_tests)

pub unlinked_renews : (which : Which) (target folder : Node) (old new : Rows)
    → is_linked (held_of which target) (Some (held_of which folder)) ≡ false → new ≡ old
    → Renews which target folder old tt new
unlinked_renews which target folder old new isnt same = record {
  renewed = search (rules, old, same, not_linked, target, folder, isnt);
  keeps = keeps_all target.id old new same;
  relinks = search (rules, relinks_still, target, folder, old, new, same, isnt);
}

taken : (which : Which) (target folder : Node) (passed : List Ace) (old new : Rows)
    → is_linked (held_of which target) (Some (held_of which folder)) ≡ true
    → passed ≡ pass target.kind (full_of (held_of which folder))
    → TakesPassed which target passed old tt new → Renews which target folder old tt new
taken which target folder passed old new linked is (inl stays) = record {
  renewed = search (rules, old, stays.1, stored_already, target, folder, is, stays.0);
  keeps = keeps_all target.id old new stays.1;
  relinks = λ has. relinks_still which target folder old new has stays.1
      (inh_linked which target folder linked ∙ sym is ∙ stays.0);
}
taken which target folder passed old new linked is (inr takes) = record {
  renewed = search (renewed);
  keeps = λ rooted.
      let first = rooted_changed target.id old takes.0 (with_inh which passed)
      (λ n. (place-with_inh which passed n).number)
      (λ n. (place-with_inh which passed n).parent) takes.1 rooted in
      let second = rooted_spread which target.id target.id takes.2.0 takes.0 new takes.2.1
      (first.rooted rooted) in
      grind (arith, nat_tests);
  relinks = λ has.
      subst (λ (c : Content). HandsDown which target.id c new.read)
      (
      cc (
        takes.1 has.node has.there,
        put_one old.read has.rises target.id has.node has.there (with_inh which passed)
            (with_inh-id which passed),
        is,
        inh_linked which target folder linked,
      ))
      (spread_handed which target.id takes.2.0 takes.0 new takes.2.1);
}

pub passed_unread : (which : Which) (target : Node) (passed : List Ace) (old mid : Rows) (row : ℕ)
    → Changes target.id (with_inh which passed) old mid → HasLoop target.id mid row
    → FailsToRenew target old row
passed_unread which target passed old mid row changes loop rooted =
    changed_unread target.id old mid row (with_inh which passed)
    (λ n. (place-with_inh which passed n).number)
    (λ n. (place-with_inh which passed n).parent) changes loop rooted

pub taken_renews : (which : Which) (target folder : Node) (passed : List Ace) (old mid new : Rows)
    → mid ≡ old → is_linked (held_of which target) (Some (held_of which folder)) ≡ true
    → passed ≡ pass target.kind (full_of (held_of which folder))
    → TakesPassed which target passed mid tt new → Renews which target folder old tt new
taken_renews which target folder passed old mid new same linked is takes =
    grind (arith, nat_tests, taken)

pub taken_as : (which : Which) (target : Node) (entries passed : List Ace) (old mid new : Rows)
    → entries ≡ passed → Changes target.id (with_inh which entries) old mid
    → IsCarriedDown which target.id mid tt new → TakesPassed which target passed old tt new
taken_as which target entries passed old mid new same changes down = grind (arith, nat_tests)

-- a row that can't be read, before anything is written
pub unrenewed : (target : Node) (old mid : Rows) (row : ℕ) → mid ≡ old → IsUnreadable mid row
    → FailsToRenew target old row
unrenewed target old mid row same unread rooted = grind (arith, nat_tests)

pub renewing_before : (target : Node) (old mid : Rows) (row : ℕ) → mid ≡ old
    → FailsToRenew target mid row → FailsToRenew target old row
renewing_before target old mid row same fails = grind (arith, nat_tests)

-- ---- the place, and both lists

module _ (target folder : Node) (name : List ℕ) where
  -- the object is at its place, where its parents lead to the root
  pub record IsStill (old mid : Rows) : Type 0 where
    pub unreadable : mid.unreadable ≡ old.unreadable
    pub rooted : IsRooted target.id mid

  abbrev Stays : Rows → Rows → Type 0
  Stays old mid = CanGo target folder name old → IsStill old mid

  stays_unread : (old mid : Rows) (row : ℕ) → Stays old mid → FailsToRenew target mid row
      → FailsToPlace target folder name old row
  stays_unread old mid row stays fails can = grind (arith, nat_tests, still_unread)

  pub placed_stays : (old mid : Rows) → Places target.id folder.id name old mid → Stays old mid
  placed_stays old mid places can =
      let becomes : mid ≡ with_content old (with_node old.read (with_place folder.id name target)) =
      places (folder, can.folder_there, can.folder_is) can.is_free target can.target_there in
      record {
        unreadable = ap (λ (r : Rows). r.unreadable) becomes;
        rooted = subst (IsRooted target.id) (sym becomes) (record {
          rises = search (rises_after);
          node = with_place folder.id name target;
          there = search (here_after);
          steps = can.steps;
          reaches = search (past_up);
        });
      }

  renewed_stays : (which : Which) (old mid new : Rows) → Stays old mid
      → Renews which target folder mid tt new → Stays old new
  renewed_stays which old mid new stays renews can = grind (arith, nat_tests)

  -- it stands there
  pub is_at : (old mid : Rows) → Places target.id folder.id name old mid
      → CanGo target folder name old
      → mid ≡ with_content old (with_node old.read (with_place folder.id name target))
  is_at old mid places can = grind (arith, nat_tests)

  -- it has both lists at its new place
  pub placed_has : (which : Which) (old mid : Rows) → Places target.id folder.id name old mid
      → CanGo target folder name old → HasListOf which target mid
  placed_has which old mid places can = record {
    rises = (placed_stays old mid places can).rooted.rises;
    node = with_place folder.id name target;
    there = subst (λ (r : Rows). node_at r.read target.id ≡ Some (with_place folder.id name target))
        (sym (is_at old mid places can))
        (search (rules, here_after, old.read, can.are.numbers, can.target_there));
    held = same which;
  }
    where
      same : (w : Which) → held_of w (with_place folder.id name target) ≡ held_of w target
      same Dacl = refl
      same Sacl = refl

  -- the sacl is what it was where the dacl is handed down
  sacl_after : (old new : Content) (rows : Rows) → HasListOf Sacl target rows → rows.read ≡ old
      → Relinks Dacl folder target old new → (after : Rows) → after.read ≡ new
      → HasListOf Sacl target after
  sacl_after old new rows has is hands after now = record {
    rises = subst Rises (sym (now ∙ hands.becomes))
        (rises-with_each one down (keeps_places one down places_down)
        (rises-with_each old single (keeps_places old single places_single)
        (subst Rises is has.rises)));
    node = down (single has.node);
    there =
        cc (
          now,
          hands.becomes,
          node_at-with_each one down (keeps_places one down places_down) target.id,
          node_at-with_each old single (keeps_places old single places_single) target.id,
          is,
          has.there,
        );
    held = single_sacl has.node ∙ has.held;
  }
    where
      first : Node → Node
      first = with_inh Dacl (inh_in Dacl folder target)

      single : Node → Node
      single n = cond (n.id == target.id) (first n) n

      one : Content
      one = with_one target.id first old

      down : Node → Node
      down n = with_inh Dacl (hands.lists n) n

      places_down : (n : Node) → IsSamePlace (down n) n
      places_down n = place-with_inh Dacl (hands.lists n) n

      places_single : (n : Node) → IsSamePlace (single n) n
      places_single n = grind (arith, nat_tests, place-with_inh, same_place)

      single_sacl : (n : Node) → (single n).sacl ≡ n.sacl
      single_sacl n = grind (arith, nat_tests)

  pub unplaced : (old mid : Rows) (row : ℕ) → mid ≡ old → IsUnreadable mid row
      → FailsToPlace target folder name old row
  unplaced old mid row same unread can = subst (λ (r : Rows). IsUnreadable r row) same unread

  -- the object is at its place, and its dacl is handed down
  pub record FirstDone (old mid : Rows) : Type 0 where
    pub renewed : (can : CanPlace target folder name old)
        → HasRenewedLists Dacl
        (state old target folder name can (own_dacl old target folder name can)
        (own_sacl old target folder name can)) mid
    pub stays : Stays old mid
    pub relinks : CanGo target folder name old → Relinks Dacl folder target
        (with_node old.read (with_place folder.id name target)) mid.read
    pub sacl : CanGo target folder name old → HasListOf Sacl target mid

  renews_dacl : (old mid : Rows) → Places target.id folder.id name old mid
      → CanPlace target folder name old → CanRenew Dacl target folder mid
  renews_dacl old mid places can =
      subst (λ (r : Rows). CanRenew Dacl target folder r)
      (sym (first_state old target folder name can mid places))
      (search (rules, can_renew, old, can, own_sacl))
    where
      refl_of : (n : Node) → n.dacl.inh ≡ n.dacl.inh
      refl_of n = refl

  pub first_fails : (old mid : Rows) (row : ℕ) → Places target.id folder.id name old mid
      → FailsToRenew target mid row → FailsToPlace target folder name old row
  first_fails old mid row places fails = search (placed_stays, stays_unread)

  pub first_done : (old mid new : Rows) → Places target.id folder.id name old mid
      → Renews Dacl target folder mid tt new → FirstDone old new
  first_done old mid new places renews = record {
    renewed =
        λ can. subst (λ (r : Rows). HasRenewedLists Dacl r new)
        (first_state old target folder name can mid places)
        (renews.renewed (renews_dacl old mid places can));
    stays = renewed_stays Dacl old mid new (placed_stays old mid places) renews;
    relinks = grind (arith, nat_tests, is_at, placed_has);
    sacl = λ can. sacl_after mid.read new.read mid (placed_has Sacl old mid places can) refl
        (renews.relinks (placed_has Dacl old mid places can)) new refl;
  }

  pub second_fails : (old mid : Rows) (row : ℕ) → FirstDone old mid → FailsToRenew target mid row
      → FailsToPlace target folder name old row
  second_fails old mid row first fails = stays_unread old mid row first.stays fails

  pub second_done : (old mid new : Rows) → FirstDone old mid → Renews Sacl target folder mid tt new
      → PlacesAt target folder name old Done new
  second_done old mid new first renews = (
    refl,
    λ can.
        is_placed old target folder name can mid new (first.renewed can)
        (subst (λ (r : Rows). HasRenewedLists Sacl r new)
        (mid_is old target folder name can mid new (first.renewed can))
        (renews.renewed (can_renew_sacl old target folder name can mid new (first.renewed can)))),
    grind (arith, nat_tests, only_read, renewed_stays),
  )
