use Rattle.std.proofs.Common.{rules, ◌≡◌, ◌<◌, ◌++◌, ◌∙◌, ℕ, List, false, true, sym, ap, subst}
use Rattle.std.{proofs.Common.{arith, take, drop, length, get_or}, specs.List.insert}
use Rattle.room_rows.specs.Content.{is_pair_before, put_pair, set_of}
use Rattle.room_memory.{specs.Pairs.is_same_pair, proofs.Paired.{put_in_place, put_there, put_last}}
use Rattle.room_memory.proofs.Paired.{put_sorted, sorted_set, joined, item_is}
use Rattle.room_memory.proofs.lists.PairSet.join.Goals.{else-place-len-via-then-place-len+else-is_same}
use Rattle.room_memory.proofs.lists.PairSet.join.Goals.{else-place-len-via-else-place-len}
use Rattle.room_memory.proofs.lists.PairSet.join.Goals as goal

pub returns-then-is_same-clause-ok : goal.returns-then-is_same-clause-ok
returns-then-is_same-clause-ok c =
    let l = c.self.inside.items.items in
    let k = c.count_before-place.result in
    let p : List ℕ × List ℕ = (c.args.group.now, c.args.user.now) in
    let splits = subst (λ (m : List (List ℕ × List ℕ)). take k m ++ put_pair p (drop k m)
    ≡ put_pair p m) c.deref.ensures.value c.count_before-place.ensures.splits in
    let stops = subst (λ (m : List (List ℕ × List ℕ)). k < length m
    → is_pair_before (get_or m k p) p ≡ false) c.deref.ensures.value
    c.count_before-place.ensures.stops in
    let below : k < length l = omega (arith, c.if-place-len.true, c.len.ensures) in
    let item : c.index.result.now ≡ get_or l k p =
    item_is l k c.index.result.now p below c.index.ensures in
    let same : is_same_pair p (get_or l k p) ≡ true = ap (is_same_pair p) (sym item)
    ∙ sym c.is_same.ensures ∙ c.if-is_same.true in
    sym c.self.view_is ∙ put_there p l k below splits (stops below) same
    ∙ joined p l c.self.invariant
    ∙ ap (λ (m : List (List ℕ × List ℕ)). put_pair p (set_of m)) c.self.view_is

pub returns-then-is_same-clause-ordered : goal.returns-then-is_same-clause-ordered
returns-then-is_same-clause-ordered c =
    grind (arith, c.self.view_is, sorted_set, c.self.inside.items.items, c.self.invariant)

puts : (c : goal.In_ok-insert)
    → c.insert-2.new.self.items
    ≡ put_pair (c.args.group.now, c.args.user.now) c.self.inside.items.items
puts c =
    let l = c.self.inside.items.items in
    let k = c.count_before-place.result in
    let p : List ℕ × List ℕ = (c.args.group.now, c.args.user.now) in
    let splits = subst (λ (m : List (List ℕ × List ℕ)). take k m ++ put_pair p (drop k m)
    ≡ put_pair p m) c.deref.ensures.value c.count_before-place.ensures.splits in
    let stops = subst (λ (m : List (List ℕ × List ℕ)). k < length m
    → is_pair_before (get_or m k p) p ≡ false) c.deref.ensures.value
    c.count_before-place.ensures.stops in
    let group : c.in_ok-copy.field-0 ≡ c.args.group.now = c.in_ok-copy.ensures in
    let user : c.in_ok-copy-2.field-0 ≡ c.args.user.now = c.in_ok-copy-2.ensures in
    let named : insert l k (c.in_ok-copy.field-0, c.in_ok-copy-2.field-0) ≡ insert l k p = λ i.
    insert l k (group i, user i) in
    c.in_ok-insert.ensures.items ∙ named ∙ elim c.else-place-len.branch [
      | else-place-len-via-then-place-len+else-is_same w ↦
          let below : k < length l = omega (arith, w.if-place-len.true, c.len.ensures) in
          let item : w.index.result.now ≡ get_or l k p =
          item_is l k w.index.result.now p below w.index.ensures in
          let other : is_same_pair p (get_or l k p) ≡ false = ap (is_same_pair p) (sym item)
          ∙ sym w.is_same.ensures ∙ w.if-is_same.false in
          put_in_place p l k below splits (stops below) other
      | else-place-len-via-else-place-len w ↦
          put_last p l k (omega (arith, w.if-place-len.false, c.len.ensures)) splits
    ]

pub invariant_of-self-2 : goal.invariant_of-self-2
invariant_of-self-2 c = search (rules, puts, c, put_sorted, c.self.invariant)

pub returns-clause-ok : goal.returns-clause-ok
returns-clause-ok c =
    grind (arith, puts, c, joined, c.self.inside.items.items, c.self.invariant, c.self.view_is)

pub returns-clause-ordered : goal.returns-clause-ordered
returns-clause-ordered c =
    grind (arith, puts, c, sorted_set, put_sorted, c.self.inside.items.items, c.self.invariant)
