use Rattle.std.proofs.Common.{◌≡◌, ◌≤◌, ◌+◌, ◌++◌, List, [], ◌∷◌, Bool, Bor, ap, sym, ◌∙◌, length}
use Rattle.std.proofs.Common.{map, rules, subst, IsPermutation, get_or, is_lt, arith}
use Rattle.std.proofs.{Math.ListN.drop_of_length-le, lemmas.Fn.always_returns_same}
use Rattle.std.proofs.lemmas.List.{append-nil, get_or-map, length-map, Sorted.IsPermutation-map}
use Rattle.std.{proofs.lemmas.List.Sorted.ranks_by, specs.List.Sorted.IsSortedBy}
use Rattle.store_tables.specs.Paired.{Pair, pair_cmp, total}
use Rattle.store_admin.proofs.putting.in_order.Goals as goal

-- what is in order is so without its references
sorted_now : (less : Pair → Pair → Bool) (order : List (Bor Pair))
    → IsSortedBy (λ (a b : Bor Pair). less a.now b.now) order
    → IsSortedBy less (map (λ p. p.now) order)
sorted_now less [] up k d low far = absurd (omega arith)
sorted_now less (p ∷ order) up k d low far =
    let f : Bor Pair → Pair = λ p. p.now in
    let len : length (map f (p ∷ order)) ≡ length (p ∷ order) = length-map (p ∷ order) f in
    ap (λ x. less x (get_or (map f (p ∷ order)) k d))
    (get_or-map f (p ∷ order) (k + 1) p d (omega (arith, len, far)))
    ∙ ap (less (f (get_or (p ∷ order) (k + 1) p)))
    (get_or-map f (p ∷ order) k p d (omega (arith, len, far)))
    ∙ up k p low (omega (arith, len, far))

pub returns-clause-same : goal.returns-clause-same
returns-clause-same c =
    let pairs = c.args.pairs.now in
    let past : length pairs ≤ c.loop-pair.pair-index = search rules in
    let done = map (λ p. p.now) c.loop-pair.order.items in
    let all = sym (append-nil done) ∙ ap (λ l. done ++ l) (sym (drop_of_length-le pairs past))
    ∙ c.loop-pair.invariant in
    subst (λ l. IsPermutation l (map (λ p. p.now) c.sort_unstable_by.new.self.items)) all
    (IsPermutation-map (λ p. p.now) c.loop-pair.order.items c.sort_unstable_by.new.self.items
    c.sort_unstable_by.ensures.permutation)

pub returns-clause-sorted : goal.returns-clause-sorted
returns-clause-sorted c =
    sorted_now (λ x y. is_lt (pair_cmp x y)) c.sort_unstable_by.new.self.items
    (c.sort_unstable_by.ensures.sorted (λ x y. is_lt (pair_cmp x.now y.now))
    (ranks_by total (λ (p : Bor Pair). p.now))
    (grind (arith, always_returns_same)))
