-- A change carried down, turn after turn.
use Rattle.std.proofs.Common.{◌≡◌, ℕ, suc, ◌+◌, ◌≤◌, List, [], ◌∷◌, ◌++◌, length, Some, None}
use Rattle.std.proofs.Common.{Result, Ok, sym, ap, subst, ◌∙◌, arith, rules}
use Rattle.std.proofs.lemmas.{Bool.{false≢true, Decides.nat_tests}, List.length-append}
use Rattle.room_entry.{specs.{Ace.Ace, declared.object.Which.Which}, proofs.Facts.Members.count}
use Rattle.room_entry.proofs.Facts.Members.{count-is}
use Rattle.room_rows.specs.{declared.{keep.Keep.Ghosts, node.Node.Node}, Content.{Content, node_at}}
use Rattle.room_rows.specs.{Content.children_of, Keep.{IsUnreadableAt, IsNodeAt, IsRead}}
use Rattle.room_rows.specs.{Keep.{with_content, KeepLaws}, Rows.{Rows, AreRows, numbers_of}}
use Rattle.room_rows.{specs.Rows.is_unreadable, proofs.InPlace.numbers_of-reading}
use Rattle.room_rows.proofs.{Steps.later_cause, Lookups.found_number}
use Rattle.room_inherit.specs.Spread.{ChangedAgree, IsSpread, IsOwnAncestor, Holds, Spreads}
use Rattle.room_inherit.specs.{Spread.{SpreadsIf, with_lists, is_changed}, Turn.IsVisit}
use Rattle.room_inherit.specs.Turn.{LeavesOut, MeetsAgain, next_of}
use Rattle.room_inherit.specs.declared.descent.{Descent.Descent, Reach.TheVariants.Renewed}
use Rattle.room_inherit.specs.declared.outcome.{Spread.Spread, SpreadFault.SpreadFault}
use Rattle.room_inherit.proofs.{Frontier.{Frontier, ids_set}, Chosen.{all_chosen, below_lists}}
use Rattle.room_inherit.proofs.Chosen.{chosen_append, chosen_length, chosen_there, frontier_chosen}
use Rattle.room_inherit.proofs.OneTurn.{after, rows_after, frontier_after, as_many, count_after}
use Rattle.room_inherit.proofs.Ends.{own_lists, with_own_lists, own_unchanged, count_own}
use Rattle.room_inherit.proofs.Ends.{frontier_first, law_without, law_at_end, changed_agree}
use Rattle.room_inherit.proofs.{Ends.{loop_found, count_less, as_many_numbers}, Turns.Progress}

-- ---- rows

-- after n turns these objects wait, and this many rows are changed
pub record IsCarrying (which : Which) (start turns : ℕ) (waiting : List Node) (changed : ℕ)
    (old now : Rows) : Type 0 where
  pub lists : Node → List Ace
  pub becomes : now ≡ with_content old (with_lists which lists old.read)
  pub front : Frontier which start old.read lists waiting
  pub counted : changed ≡ count (is_changed which lists) old.read.nodes
  pub turned : turns + length waiting ≤ suc (count (is_changed which lists) old.read.nodes)
  pub first : Node
  pub first_is : node_at old.read start ≡ Some first

-- the first object keeps its list, so fewer are changed than there are
pub fewer : (which : Which) (start : ℕ) (waiting : List Node) (old : Rows) (lists : Node → List Ace)
    (first : Node) → node_at old.read start ≡ Some first
    → Frontier which start old.read lists waiting
    → suc (count (is_changed which lists) old.read.nodes) ≤ length (numbers_of old)
fewer which start waiting old lists first is front =
    grind (arith, nat_tests, as_many_numbers, count_less, found_number)

pub carrying_first : (which : Which) (start : ℕ) (old : Rows) (first : Node) → AreRows old
    → node_at old.read start ≡ Some first → IsCarrying which start 0 (first ∷ []) 0 old old
carrying_first which start old first are is = record {
  lists = own_lists which;
  becomes = ap (with_content old) (sym (with_own_lists which old.read));
  front = frontier_first which start old.read are.numbers first is;
  counted = sym (count_own which old.read.nodes);
  turned = let e = count_own which old.read.nodes in omega (arith, e);
  first = first;
  first_is = is;
}

module _ (d : Descent) (reach : d.reach ≡ Renewed) (turns : ℕ) (rest : List Node) (w : Node)
    (changed number : ℕ) (next : List Node) (old now new : Rows) (are : AreRows old)
    (sofar : IsCarrying d.which d.start turns (rest ++ w ∷ []) changed old now)
    (visit : IsVisit d w rest next now number new) where
  abbrev f : Node → List Ace
  f = sofar.lists

  step : IsVisit d w rest next (with_content old (with_lists d.which f old.read)) number new
  step = subst (λ (r : Rows). IsVisit d w rest next r number new) sofar.becomes visit

  abbrev lists : Node → List Ace
  lists = after d.which d.start old.read are.numbers f rest w sofar.front step.not_met

  abbrev going : List Node
  going = next_of Renewed d.which w (children_of (with_lists d.which f old.read) w.id)

  chosen : LeavesOut old.read going step.next
  chosen = grind (arith, nat_tests, below_lists, chosen_there, step)

  total : changed + number ≡ count (is_changed d.which lists) old.read.nodes
  total = grind (arith, nat_tests, count_after, step)

  pub carrying_turn : IsCarrying d.which d.start (turns + 1) next (changed + number) old new
  carrying_turn = record {
    lists = lists;
    becomes = grind (arith, nat_tests, rows_after, step);
    front =
        subst (λ (l : List Node). Frontier d.which d.start old.read lists l) (sym step.waits)
        (frontier_chosen d.which d.start old.read lists (rest ++ going) (rest ++ step.next)
        (chosen_append old.read rest going rest step.next (all_chosen old.read rest) chosen)
        (frontier_after d.which d.start old.read are.numbers f rest w sofar.front step.not_met));
    counted = total;
    turned = grind (arith, nat_tests, as_many, chosen, chosen_length, length-append, step, total);
    first = sofar.first;
    first_is = sofar.first_is;
  }

pub carrying_done : (which : Which) (start turns changed : ℕ) (old now : Rows) → AreRows old
    → IsCarrying which start turns [] changed old now → IsSpread which start old now changed
carrying_done which start turns changed old now are sofar = record {
  lists = sofar.lists;
  becomes = sofar.becomes;
  below = λ n there is. (sofar.front.came n there is).below;
  counted = sofar.counted ∙ sym (count-is (is_changed which sofar.lists) old.read.nodes);
  agree = subst (λ (r : Rows). ChangedAgree which old.read r.read) (sym sofar.becomes)
      (changed_agree which start old.read are.numbers sofar.lists
      (grind (arith, nat_tests)));
  law =
      search (rules, law_at_end, sofar.becomes, are.numbers, sofar.lists, sofar.front.law);
}

-- where the object isn't there, nothing is carried
nothing_carried : (which : Which) (start : ℕ) (old : Rows) → AreRows old
    → node_at old.read start ≡ None → IsSpread which start old old 0
nothing_carried which start old are none = record {
  lists = own_lists which;
  becomes = ap (with_content old) (sym (with_own_lists which old.read));
  below = λ n there changed. absurd (false≢true (sym (own_unchanged which n) ∙ changed));
  counted = search (count-is, count_own, own_lists);
  agree =
      subst (λ (c : Content). ChangedAgree which old.read c) (with_own_lists which old.read)
      (changed_agree which start old.read are.numbers (own_lists which)
      (λ n there changed. absurd (false≢true (sym (own_unchanged which n) ∙ changed))));
  law = law_without which start old.read are.numbers none;
}

-- what is known after each turn
abbrev pub carrying : (d : Descent) (start : Node) → start.id ≡ d.start → d.reach ≡ Renewed
    → Progress d start
carrying d start same reach = record {
  Given = Holds start;
  Loops = λ rows. IsOwnAncestor rows.read start.id;
  Done = λ old now changed. IsSpread d.which start.id old now changed;
  After = IsCarrying d.which d.start;
  first =
      λ old are is. carrying_first d.which d.start old start are
      (ap (node_at old.read) (sym same) ∙ is);
  on =
      λ turns rest w changed number next old now new are sofar visit. carrying_turn d reach turns
      rest w changed number next old now new are sofar visit;
  few = λ turns waiting changed old now sofar. let m =
      fewer d.which d.start waiting old sofar.lists sofar.first sofar.first_is sofar.front in
      let c =
      sofar.counted in omega (arith, m, c);
  ends = λ turns waiting changed old now past sofar. let m =
      fewer d.which d.start waiting old sofar.lists sofar.first sofar.first_is sofar.front in
      let t =
      sofar.turned in omega (arith, m, past, t);
  numbers =
      λ turns waiting changed old now sofar. ap numbers_of sofar.becomes
      ∙ numbers_of-reading old (with_lists d.which sofar.lists old.read)
      (ids_set d.which sofar.lists old.read.nodes);
  unreadable =
      λ turns waiting changed at old now sofar damaged. ap (λ (r : Rows). is_unreadable r at)
      (sym sofar.becomes) ∙ damaged;
  loops =
      λ turns rest w changed old now are sofar met. subst (λ (i : ℕ). IsOwnAncestor old.read i)
      (sym same)
      (loop_found d.which d.start old.read are.numbers sofar.lists rest w sofar.front
      (subst (λ (r : Rows). MeetsAgain d.which d.start w r) sofar.becomes met));
  done =
      λ turns changed old now are below sofar. subst (λ (i : ℕ). IsSpread d.which i old now changed)
      (sym same) (carrying_done d.which d.start turns changed old now are sofar);
}

-- ---- calls

module _ {S : Type 0} (k : Ghosts S)
    (laws : KeepLaws k.rows k.failures k.writes k.Follows k.IsTrusted) (which : Which) where
  pub spreads_nowhere : (id : ℕ) (a b : S)
      → IsRead k.rows k.failures k.writes k.Follows k.IsTrusted a b (Ok None) (IsUnreadableAt id)
      (IsNodeAt id) → Spreads k a b which id (Ok (record { changed = 0 }))
  spreads_nowhere id a b found = grind (arith, nat_tests, nothing_carried)

  -- the object was read, and the change is carried down from there
  pub spreads_there : (start : Node) (a b c : S) (id : ℕ) (r : Result Spread SpreadFault)
      → IsRead k.rows k.failures k.writes k.Follows k.IsTrusted a b (Ok (Some start))
      (IsUnreadableAt id) (IsNodeAt id)
      → SpreadsIf k b c (Holds start) which start.id r → Spreads k a c which id r
  spreads_there start a b c id r found more = grind (arith, nat_tests, found_number, later_cause)
