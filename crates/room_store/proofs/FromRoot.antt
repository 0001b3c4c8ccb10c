-- What a sound room stores is what is computed from the root.
use Rattle.std.proofs.Common.{arith, ◌≡◌, ℕ, Bool, true, List, [], ◌∷◌, map, Some, refl, sym, subst}
use Rattle.std.proofs.{Common.{◌∙◌, not, inl, inr}, lemmas.Bool.{and_parts, and_from}}
use Rattle.std.specs.List.{AllByRecursion, list_all}
use Rattle.sqlite.specs.{Tree.Trees, State.State}
use Rattle.room_entry.specs.declared.object.Which.{Which, TheVariants.{Dacl, Sacl}}
use Rattle.room_rows.specs.{declared.node.Node.Node, Content.{Content, node_at}, Full.full_in}
use Rattle.room_rows.specs.{Held.{held_of, full_of}, Law.{AllAgree, agrees}, Meaning.kept_node}
use Rattle.room_rows.specs.{Meaning.meaning, Rows.{AreRows, Rows, numbers_of}, Sound.has_bad_list}
use Rattle.room_rows.{specs.Sound.keeps_law, proofs.Lookups.each_found}
use Rattle.room_inherit.specs.{Ancestry.RootedIsNoLoop, Laws.{HasNoFault, SoundIsContent}}
use Rattle.room_inherit.specs.{Laws.{SoundIsNoFault, StoredIsFull}, Spread.IsOwnAncestor}
use Rattle.room_inherit.proofs.{NoFault.{none_fails, unbad}, Stored.all_found}
use Rattle.room_inherit.proofs.Whole.{none_unreadable}
use Rattle.room_machine.specs.Run.{Asking, Event}
use Rattle.store_tables.specs.{Meaning.rows_of, RoomRows.room_rows, Within.TreesOf}
use Rattle.room_store.specs.{Crash.{Lasts, HoldsRoom, LeavesWhole}, Leads.Leads}
use Rattle.room_store.specs.FromRoot.{CrashLeavesFromRoot, RoomsAreFromRoot, StaysFromRoot}
use Rattle.room_store.specs.FromRoot.{AreFromRoot, computed_lists, stored_lists}

-- what passes one test passes the other
all_weaker : (p q : Node → Bool) (nodes : List Node)
    → ((n : Node) → p n ≡ true → q n ≡ true) → list_all p nodes ≡ true → list_all q nodes ≡ true
all_weaker p q [] weaker all = refl
all_weaker p q (x ∷ xs) weaker all =
    let parts = and_parts (p x) (list_all p xs) all in
    and_from (q x) (list_all q xs) (weaker x parts.0) (all_weaker p q xs weaker parts.1)

-- what is the same of each object is the same list of all
each_same : {X : Type 0} (P : Node → Type 0) (f g : Node → X) (kept : Node → Node)
    (nodes : List Node) → AllByRecursion P nodes → ((n : Node) → P n → f n ≡ g (kept n))
    → map f nodes ≡ map g (map kept nodes)
each_same P f g kept [] all same = refl
each_same P f g kept (x ∷ xs) all same =
    λ i. same x all.0 i ∷ each_same P f g kept xs all.1 same i

-- the law of each attribute
law_of : (rows : Content) → list_all (keeps_law rows) rows.nodes ≡ true → (which : Which)
    → AllAgree rows which
law_of rows law Dacl = all_weaker (keeps_law rows) (agrees rows Dacl) rows.nodes
    (λ n both. (and_parts (agrees rows Dacl n) (agrees rows Sacl n) both).0) law
law_of rows law Sacl = all_weaker (keeps_law rows) (agrees rows Sacl) rows.nodes
    (λ n both. (and_parts (agrees rows Dacl n) (agrees rows Sacl n) both).1) law

module _ (stored : StoredIsFull) (rooted : RootedIsNoLoop) (rows : Rows) (none : HasNoFault rows)
  where
    all_lists : AreRows rows → (which : Which)
        → stored_lists rows.read which ≡ computed_lists (meaning rows.read) which
    all_lists are which =
        each_same (λ n. node_at rows.read n.id ≡ Some n)
        (λ node. (node.id, full_of (held_of which node)))
        (λ node. (node.id, full_in (meaning rows.read) which node))
        (kept_node rows.read) rows.read.nodes (each_found 0 rows.read.nodes are.numbers)
        (grind (arith, which, law_of, all_found))

    no_loop : (id : ℕ) → IsOwnAncestor rows.read id → ⊥
    no_loop id loop = grind (arith, loop.0, loop.1, all_found, loop)

    all_read : rows.unreadable ≡ []
    all_read =
        none_unreadable rows
        (sym (unbad rows)
        ∙ none_fails (λ id. not (has_bad_list rows id)) (numbers_of rows) none.lists)

pub rooms_from_root : SoundIsNoFault → SoundIsContent → StoredIsFull → RootedIsNoLoop
    → RoomsAreFromRoot
rooms_from_root faults contents stored rooted room it is =
    let rows = rows_of it in
    let are = room_rows it is.tables in
    let none = (faults rows).0 is.sound in
    subst (λ (r : Content). AreFromRoot r rows) is.means (record {
      means = refl;
      content = contents rows are is.sound;
      all_read = all_read stored rooted rows none;
      lists = all_lists stored rooted rows none are;
      no_loop = no_loop stored rooted rows none;
    })

pub stays_from_root : RoomsAreFromRoot → (old new : State) (events : List Event)
    → Leads old events new → Lasts new → StaysFromRoot old events new
stays_from_root rooms old new events leads lasts now sound is_open room keeps =
    let it = leads.run now sound room keeps in
    let good = leads.sound now sound is_open in (
      it.0,
      it.1,
      rooms it.0 new.now (grind (arith, good.0, lasts, is_open, sound, good.1, good.2, it.2)),
    )

-- the tables that are held by a database with these trees
held_from_root : RoomsAreFromRoot → (room : Content) (db : Trees) → HoldsRoom room db
    → (r : Content) × TreesOf (λ it. AreFromRoot r (rows_of it)) db
held_from_root rooms room db holds = (room, (holds.0, rooms room holds.0 holds.1, holds.2))

pub crash_from_root : RoomsAreFromRoot → (old new : State) (asked : List Asking)
    (events : List Event) → LeavesWhole old asked events new → CrashLeavesFromRoot old new
crash_from_root rooms old new asked events whole now sound is_open lasts db left =
    let it = whole now sound is_open lasts (meaning (rows_of old.now).read) (λ _. refl) in
    elim (it.2.2 db left) [
      | inl holds ↦ held_from_root rooms it.0 db holds
      | inr p ↦ held_from_root rooms p.3.1 db p.3.3
    ]
