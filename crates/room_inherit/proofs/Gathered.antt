-- The children of an object gone through, without a write.
use Rattle.std.proofs.Common.{rules, ◌≡◌, ℕ, ◌+◌, ◌<◌, Bool, true, false, cond, List, [], ◌∷◌, ◌++◌}
use Rattle.std.proofs.Common.{length, drop, get_or, Result, Ok, Err, refl, add-one, drop-cons}
use Rattle.std.proofs.{Common.arith, lemmas.List.{append_assoc, append-nil}}
use Rattle.std.proofs.lemmas.Bool.Decides.{nat_tests}
use Rattle.room_entry.specs.{Valid.is_document, declared.object.{ObjKind.ObjKind, Which.Which}}
use Rattle.room_rows.specs.declared.{keep.{Keep.Ghosts, KeepFault.KeepFault}, node.Node.Node}
use Rattle.room_rows.specs.{Keep.{IsUnreadable, IsRead, HasChildren, KeepLaws}, Rows.Rows}
use Rattle.room_rows.proofs.Steps.{HasRead, answered, gives_up, none_yet, read_on, seen}
use Rattle.room_inherit.specs.declared.{by_kind.ByKind.ByKind, descent.Descent.Descent}
use Rattle.room_inherit.specs.{declared.descent.Reach.Reach, Turn.{Gathers, IsChildless}}
use Rattle.room_inherit.specs.Turn.{IsGathered, LeavesOut, TellsWaiting, brought_up, next_of}
use Rattle.room_inherit.specs.Turn.{of_kind, outdated_of, waits_next}
use Rattle.room_inherit.proofs.Chosen.{chosen_append, none_below, one_chosen}

-- ---- whether a child waits

module _ {S : Type 0} (k : Ghosts S) (a b : S) where
  -- a call that tells whether something may stand below an object
  abbrev MayHave : Node → Result Bool KeepFault → Type 0
  MayHave object result =
      IsRead k.rows k.failures k.writes k.Follows k.IsTrusted a b result IsUnreadable
      (λ rows may. may ≡ false → IsChildless rows.read object)

  abbrev Tells : Reach → Which → Node → Node → Result Bool KeepFault → Type 0
  Tells reach which above child result =
      IsRead k.rows k.failures k.writes k.Follows k.IsTrusted a b result IsUnreadable
      (λ rows waits. TellsWaiting rows.read reach which above child waits)

  -- it was asked whether a document has children
  pub document_asked : (object : Node) (r : Result Bool KeepFault) → is_document object.kind ≡ true
      → IsRead k.rows k.failures k.writes k.Follows k.IsTrusted a b r IsUnreadable
      (HasChildren object.id) → MayHave object r
  document_asked object r document read = grind (arith, nat_tests, none_below)

  -- a child that would wait waits, unless nothing stands below it
  pub told_below : (reach : Reach) (which : Which) (above child : Node) (r : Result Bool KeepFault)
      → true ≡ waits_next reach which above child → MayHave child r
      → Tells reach which above child r
  told_below reach which above child r is read = grind (arith, nat_tests)

-- a child that doesn't wait
pub told_none : {S : Type 0} (k : Ghosts S)
    → KeepLaws k.rows k.failures k.writes k.Follows k.IsTrusted → (a : S) (reach : Reach)
    (which : Which) (above child : Node) → false ≡ waits_next reach which above child
    → IsRead k.rows k.failures k.writes k.Follows k.IsTrusted a a (Ok false) IsUnreadable
    (λ rows waits. TellsWaiting rows.read reach which above child waits)
told_none k laws a reach which above child is = grind (arith, nat_tests)

-- ---- one child

-- it is told whether the child waits next, and its number is added if it is outdated
pub one_gathered : {S : Type 0} (k : Ghosts S) (d : Descent) (above child : Node)
    (before after : List Node) (sofar numbers : ByKind) (a b : S) (waits : Bool)
    → IsRead k.rows k.failures k.writes k.Follows k.IsTrusted a b (Ok waits) IsUnreadable
    (λ rows waits. TellsWaiting rows.read d.reach d.which above child waits)
    → ((kind : ObjKind)
    → of_kind numbers kind
    ≡ of_kind sofar kind ++ outdated_of d.which above kind (child ∷ []))
    → after ≡ before ++ cond waits (brought_up d.which above child ∷ []) []
    → Gathers k a b d above (child ∷ []) before after sofar numbers (Ok tt)
one_gathered k d above child before after sofar numbers a b waits read outdated joined =
    grind (arith, nat_tests, answered, one_chosen, seen)

-- ---- children that are gone through

pub rest_of : (nodes : List Node) (i : ℕ) (node : Node) → i < length nodes
    → node ≡ get_or nodes i node → drop i nodes ≡ node ∷ drop (i + 1) nodes
rest_of nodes i node below is = cc (drop-cons nodes i node below, is, add-one i)

next_cons : (reach : Reach) (which : Which) (above child : Node) (left : List Node)
    → next_of reach which above (child ∷ left) ≡ next_of reach which above (child ∷ [])
    ++ next_of reach which above left
next_cons reach which above child left = grind (arith, nat_tests)

outdated_cons : (which : Which) (above : Node) (kind : ObjKind) (child : Node) (left : List Node)
    → outdated_of which above kind (child ∷ left)
    ≡ outdated_of which above kind (child ∷ []) ++ outdated_of which above kind left
outdated_cons which above kind child left = grind (arith, nat_tests)

module _ {S : Type 0} (k : Ghosts S)
    (laws : KeepLaws k.rows k.failures k.writes k.Follows k.IsTrusted) (d : Descent) (above : Node)
    (all before : List Node) (none : ByKind) where
  -- what was gathered of some of the children, where these are left
  pub record HasGathered (left mid : List Node) (numbers : ByKind) (rows : Rows) : Type 0 where
    pub outdated : (kind : ObjKind)
        → of_kind numbers kind ++ outdated_of d.which above kind left
        ≡ of_kind none kind ++ outdated_of d.which above kind all
    pub waits : (more : List Node)
        → LeavesOut rows.read (next_of d.reach d.which above left) more
        → (next : List Node) × (mid ++ more ≡ before ++ next)
        × LeavesOut rows.read (next_of d.reach d.which above all) next

  -- some of the children are gone through
  pub record Gathering (left mid : List Node) (numbers : ByKind) (a b : S) : Type 0 where
    pub read : HasRead k.rows k.failures k.writes k.Follows k.IsTrusted a b
    pub gathered : k.IsTrusted a b → HasGathered left mid numbers (k.rows a)

  -- at the beginning none is
  pub gathering_begins : (a : S) → Gathering all before none a a
  gathering_begins a = grind (arith, nat_tests, none_yet)

  module _ (child : Node) (left mid after : List Node) (sofar numbers : ByKind) where
    gathered_more : (rows : Rows) → HasGathered (child ∷ left) mid sofar rows
        → IsGathered d above (child ∷ []) mid after sofar numbers rows
        → HasGathered left after numbers rows
    gathered_more rows has one = record {
      outdated = grind (arith, nat_tests, append_assoc, outdated_cons);
      waits = λ more chosen.
          let both = chosen_append rows.read (next_of d.reach d.which above (child ∷ []))
          (next_of d.reach d.which above left) one.next more one.chosen chosen in
          search (rules, has.waits, one.next, next_cons, append_assoc);
    }

    module _ (a b c : S) (has : Gathering (child ∷ left) mid sofar a b) where
      -- one more of them
      pub gathering_on : Gathers k b c d above (child ∷ []) mid after sofar numbers (Ok tt)
          → Gathering left after numbers a c
      gathering_on one = grind (arith, nat_tests, gathered_more, read_on, seen)

      pub gathering_stops : (e : KeepFault)
          → Gathers k b c d above (child ∷ []) mid after sofar numbers (Err e)
          → Gathers k a c d above all before after none numbers (Err e)
      gathering_stops e one = grind (arith, nat_tests, gives_up, read_on)

  -- at the end all are
  pub gathering_ends : (mid : List Node) (numbers : ByKind) (a b : S)
      → Gathering [] mid numbers a b → Gathers k a b d above all before mid none numbers (Ok tt)
  gathering_ends mid numbers a b has =
      answered k.rows k.failures k.writes k.Follows k.IsTrusted a b tt has.read (λ t.
      let found = has.gathered t in
      let (next, joined, chosen) = found.waits [] refl in
      grind (arith, nat_tests, append-nil))
