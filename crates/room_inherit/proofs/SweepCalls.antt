-- The tree gone through, turn after turn.
use Rattle.std.proofs.Common.{rules, ◌≡◌, ℕ, ◌+◌, ◌≤◌, Bool, List, [], ◌∷◌, ◌++◌, length, Some}
use Rattle.std.proofs.Common.{None, Result, Ok, refl, sym, ap, subst, ◌∙◌, arith}
use Rattle.std.proofs.lemmas.{Bool.{false≢true, eq-eqb, Decides.nat_tests}, List.length-append}
use Rattle.room_entry.{specs.{Ace.Ace, declared.object.Which.Which}, proofs.Facts.Members.count}
use Rattle.room_entry.proofs.Facts.Members.{count-is, count_ends}
use Rattle.room_rows.specs.{declared.{keep.Keep.Ghosts, node.Node.Node}, Content.root_of}
use Rattle.room_rows.specs.{Keep.{HasNoRoot, IsRead, IsRootOf, with_content, KeepLaws}, Rows.Rows}
use Rattle.room_rows.specs.{Rows.{AreRows, numbers_of, is_unreadable}, Law.AllAgree}
use Rattle.room_rows.proofs.{InPlace.numbers_of-reading, Steps.later_cause}
use Rattle.room_inherit.specs.{Spread.{ChangedAgree, with_lists, is_changed}, SpreadAll.IsRoot}
use Rattle.room_inherit.specs.{SpreadAll.{IsSwept, Sweeps, SweepsIf}, Turn.{IsVisit, MeetsAgain}}
use Rattle.room_inherit.specs.declared.descent.{Descent.Descent, Reach.TheVariants.All}
use Rattle.room_inherit.specs.declared.outcome.{Spread.Spread, SpreadFault.SpreadFault}
use Rattle.room_inherit.proofs.{Chosen.folders_chosen, Frontier.ids_set, Sweeping.{Sweep, after}}
use Rattle.room_inherit.proofs.Sweeping.{kids, kids_are, rows_after, sweep_after, count_seen}
use Rattle.room_inherit.proofs.{Sweeping.{count_after, not_met_again}, SweepEnds.root_there}
use Rattle.room_inherit.proofs.SweepEnds.{root_top, seen_first, sweep_first, count_has}
use Rattle.room_inherit.proofs.{SweepEnds.{changed_swept, law_swept}, Ends.own_lists}
use Rattle.room_inherit.proofs.{Ends.{with_own_lists, count_own, as_many_numbers}, Turns.Progress}

-- ---- rows

-- after n turns these objects wait, and this many rows are changed
pub record IsSweeping (d : Descent) (turns : ℕ) (waiting : List Node) (changed : ℕ)
    (old now : Rows) : Type 0 where
  pub root : Node
  pub root_is : root_of old.read ≡ Some root
  pub start_is : d.start ≡ root.id
  pub lists : Node → List Ace
  pub seen : Node → Bool
  pub becomes : now ≡ with_content old (with_lists d.which lists old.read)
  pub front : Sweep d.which old.read root lists seen waiting
  pub counted : changed ≡ count (is_changed d.which lists) old.read.nodes
  pub turned : turns + length waiting ≤ count seen old.read.nodes

pub sweeping_first : (d : Descent) (old : Rows) (root : Node) → AreRows old
    → root_of old.read ≡ Some root → d.start ≡ root.id → IsSweeping d 0 (root ∷ []) 0 old old
sweeping_first d old root are is start = record {
  root = root;
  root_is = is;
  start_is = start;
  lists = own_lists d.which;
  seen = seen_first d.which old.read are.numbers root is;
  becomes = ap (with_content old) (sym (with_own_lists d.which old.read));
  front = sweep_first d.which old.read are.numbers root is;
  counted = sym (count_own d.which old.read.nodes);
  turned = let one =
      count_has (seen_first d.which old.read are.numbers root is) root.id old.read.nodes root
      (root_there d.which old.read are.numbers root is) (eq-eqb root.id root.id refl) in
      omega (arith, one);
}

module _ (d : Descent) (reach : d.reach ≡ All) (turns : ℕ) (rest : List Node) (w : Node)
    (changed : ℕ) (old now : Rows) (are : AreRows old)
    (sofar : IsSweeping d turns (rest ++ w ∷ []) changed old now) where
  abbrev f : Node → List Ace
  f = sofar.lists

  top : sofar.root.parent ≡ None
  top = root_top d.which old.read are.numbers sofar.root sofar.root_is

  pub sweeping_no_loop : MeetsAgain d.which d.start w now → ⊥
  sweeping_no_loop met =
      let met' : MeetsAgain d.which sofar.root.id w
      (with_content old (with_lists d.which f old.read)) = grind (arith, nat_tests) in
      search (rules, false≢true, not_met_again, root_there, top, met')

  module _ (new : Rows) (number : ℕ) (next : List Node)
      (visit : IsVisit d w rest next now number new) where
    step : IsVisit d w rest next (with_content old (with_lists d.which f old.read)) number new
    step = subst (λ (r : Rows). IsVisit d w rest next r number new) sofar.becomes visit

    abbrev lists : Node → List Ace
    lists = after d.which old.read are.numbers sofar.root top f sofar.seen rest w sofar.front

    abbrev all : List Node
    all = kids d.which old.read are.numbers sofar.root top f sofar.seen rest w sofar.front

    waits : next ≡ rest ++ all
    waits = grind (arith, nat_tests, folders_chosen, kids_are, step, top)

    pub sweeping_turn : IsSweeping d (turns + 1) next (changed + number) old new
    sweeping_turn =
        grind (
          arith,
          nat_tests,
          count_after,
          count_seen,
          length-append,
          rows_after,
          step,
          sweep_after,
          top,
          waits,
        )

-- what is known after each turn
abbrev pub sweeping : (d : Descent) (start : Node) → start.id ≡ d.start → d.reach ≡ All
    → Progress d start
sweeping d start same reach = record {
  Given = IsRoot start;
  Loops = λ rows. ⊥;
  Done = λ old now changed. IsSwept d.which old now changed;
  After = IsSweeping d;
  first = λ old are is. sweeping_first d old start are is (sym same);
  on =
      λ turns rest w changed number next old now new are sofar visit. sweeping_turn d reach turns
      rest w changed old now are sofar new number next visit;
  few = λ turns waiting changed old now sofar. let m =
      count_ends (is_changed d.which sofar.lists) old.read.nodes in let a = as_many_numbers old in
      let c = sofar.counted in omega (arith, m, a, c);
  ends = λ turns waiting changed old now past sofar. let m = count_ends sofar.seen old.read.nodes in
      let a = as_many_numbers old in let t = sofar.turned in omega (arith, m, a, t, past);
  numbers =
      λ turns waiting changed old now sofar. ap numbers_of sofar.becomes
      ∙ numbers_of-reading old (with_lists d.which sofar.lists old.read)
      (ids_set d.which sofar.lists old.read.nodes);
  unreadable =
      λ turns waiting changed at old now sofar damaged. ap (λ (r : Rows). is_unreadable r at)
      (sym sofar.becomes) ∙ damaged;
  loops =
      λ turns rest w changed old now are sofar met.
      sweeping_no_loop d reach turns rest w changed old now are sofar met;
  done = λ turns changed old now are below sofar. record {
    lists = sofar.lists;
    becomes = sofar.becomes;
    linked = sofar.front.linked;
    counted = sofar.counted ∙ sym (count-is (is_changed d.which sofar.lists) old.read.nodes);
    few = below;
    agree =
        subst (λ (r : Rows). ChangedAgree d.which old.read r.read) (sym sofar.becomes)
        (changed_swept d.which old.read are.numbers sofar.root sofar.root_is sofar.lists sofar.seen
        sofar.front);
    law =
        λ tree. subst (λ (r : Rows). AllAgree r.read d.which) (sym sofar.becomes)
        (law_swept d.which old.read are.numbers sofar.root sofar.root_is sofar.lists sofar.seen
        sofar.front tree);
  };
}

-- ---- calls

module _ {S : Type 0} (k : Ghosts S)
    (laws : KeepLaws k.rows k.failures k.writes k.Follows k.IsTrusted) (which : Which) where
  -- the root was read, and the lists are carried down from there
  pub sweeps_from : (root : Node) (a b c : S) (r : Result Spread SpreadFault)
      → IsRead k.rows k.failures k.writes k.Follows k.IsTrusted a b (Ok root) HasNoRoot IsRootOf
      → SweepsIf k b c (IsRoot root) which r → Sweeps k a c which r
  sweeps_from root a b c r found more = grind (arith, nat_tests, later_cause)
