-- Rulings under their letters, as the members of an object.
use Rattle.std.proofs.Common.{rules, ◌≡◌, ℕ, List, [], ◌∷◌, ◌++◌, Some, Ordering, Less, Equal}
use Rattle.std.proofs.Common.{Greater, nat_cmp, refl, ap, ◌∙◌, arith}
use Rattle.std.proofs.lemmas.{Cmp.nat_list_cmp_total, Bool.Decides.nat_tests}
use Rattle.std.specs.{Cmp.Lexicographic.slice_cmp, List.{AllByRecursion, Sorted.IsStrictlySortedBy}}
use Rattle.std.specs.Ordering.{match_ordering, ordering_reverse}
use Rattle.serde_json.specs.{Data.{Data, Members, no_members, member, put, string}, Find.get_member}
use Rattle.serde_json.proofs.Views.{get_member-put, get_member-put_other}
use Rattle.room_entry.specs.Letters.{mask_text}
use Rattle.room_eval.specs.declared.outcome.Ruling.{Ruling}
use Rattle.http_message.specs.{Bodies.{ruling_text, with_rulings}, Laws.{Lacks, RulingsAreKeys}}
use Rattle.http_message.specs.Laws.{keys_in}

-- ---- what stands under letters

one_then_others : (ms : Members) (rulings others : List (List ℕ × Ruling))
    → with_rulings ms (rulings ++ others) ≡ with_rulings (with_rulings ms rulings) others
one_then_others ms [] others = refl
one_then_others ms (ruling ∷ rulings) others =
    one_then_others (put (mask_text ruling.0) (string (ruling_text ruling.1)) ms) rulings others

passed : (letters : List ℕ) (ms : Members) (rulings : List (List ℕ × Ruling))
    → Lacks letters rulings
    → get_member letters (with_rulings ms rulings) ≡ get_member letters ms
passed letters ms [] lacks = refl
passed letters ms (ruling ∷ rulings) lacks =
    passed letters (put (mask_text ruling.0) (string (ruling_text ruling.1)) ms) rulings lacks.1
    ∙ get_member-put_other letters (mask_text ruling.0) (string (ruling_text ruling.1)) ms lacks.0

found : (rulings others : List (List ℕ × Ruling)) (ruling : List ℕ × Ruling)
    → Lacks (mask_text ruling.0) others
    → get_member (mask_text ruling.0) (with_rulings no_members (rulings ++ ruling ∷ others))
    ≡ Some (string (ruling_text ruling.1))
found rulings others ruling lacks =
    grind (arith, nat_tests, get_member-put, one_then_others, passed)

-- ---- their order

abbrev Above : List ℕ → List ℕ → Type 0
Above low high = slice_cmp nat_cmp low high ≡ Less

above_put : (o : Ordering) (low k l : List ℕ) (d e : Data) (ms : Members) → Above low k
    → AllByRecursion (Above low) (keys_in (member l e ms))
    → AllByRecursion (Above low) (keys_in (put k d ms))
    → AllByRecursion (Above low)
    (keys_in (match_ordering o (member k d (member l e ms)) (member l d ms)
    (member l e (put k d ms))))
above_put Less low k l d e ms is all rest = (is, all)
above_put Equal low k l d e ms is all rest = all
above_put Greater low k l d e ms is all rest = (all.0, rest)

above_all : (low k : List ℕ) (d : Data) (ms : Members) → Above low k
    → AllByRecursion (Above low) (keys_in ms)
    → AllByRecursion (Above low) (keys_in (put k d ms))
above_all low k d no_members is all = (is, tt)
above_all low k d (member l e ms) is all =
    above_put (slice_cmp nat_cmp k l) low k l d e ms is all (above_all low k d ms is all.1)

lower : (k l : List ℕ) (ms : Members) → Above k l → AllByRecursion (Above l) (keys_in ms)
    → AllByRecursion (Above k) (keys_in ms)
lower k l no_members is all = tt
lower k l (member m e ms) is all = (nat_list_cmp_total.trans k l m is all.0, lower k l ms is all.1)

rises_at : (o : Ordering) (k l : List ℕ) (d e : Data) (ms : Members) → slice_cmp nat_cmp k l ≡ o
    → IsStrictlySortedBy (slice_cmp nat_cmp) (keys_in (member l e ms))
    → IsStrictlySortedBy (slice_cmp nat_cmp) (keys_in (put k d ms))
    → IsStrictlySortedBy (slice_cmp nat_cmp)
    (keys_in (match_ordering o (member k d (member l e ms)) (member l d ms)
    (member l e (put k d ms))))
unfolding IsStrictlySortedBy
rises_at Less k l d e ms is sorted rest = ((is, lower k l ms is sorted.0), sorted)
rises_at Equal k l d e ms is sorted rest = sorted
rises_at Greater k l d e ms is sorted rest =
    let low : Above l k = nat_list_cmp_total.antisymm l k ∙ ap ordering_reverse is in
    (above_all l k d ms low sorted.0, rest)

rises : (k : List ℕ) (d : Data) (ms : Members) → IsStrictlySortedBy (slice_cmp nat_cmp) (keys_in ms)
    → IsStrictlySortedBy (slice_cmp nat_cmp) (keys_in (put k d ms))
unfolding IsStrictlySortedBy
rises k d no_members sorted = (tt, tt)
rises k d (member l e ms) sorted =
    rises_at (slice_cmp nat_cmp k l) k l d e ms refl sorted (rises k d ms sorted.1)

all_rise : (ms : Members) (rulings : List (List ℕ × Ruling))
    → IsStrictlySortedBy (slice_cmp nat_cmp) (keys_in ms)
    → IsStrictlySortedBy (slice_cmp nat_cmp) (keys_in (with_rulings ms rulings))
all_rise ms [] sorted = sorted
all_rise ms (ruling ∷ rulings) sorted =
    let value = string (ruling_text ruling.1) in
    all_rise (put (mask_text ruling.0) value ms) rulings
    (rises (mask_text ruling.0) value ms sorted)

none_rises : IsStrictlySortedBy (slice_cmp nat_cmp) (keys_in no_members)
unfolding IsStrictlySortedBy
none_rises = tt

pub are_keys : RulingsAreKeys
are_keys = (search (rules, found, passed, all_rise, none_rises))
