-- How much requests write and read that are carried out in turn.
use Rattle.std.proofs.Common.{rules, ◌≡◌, ◌||◌, ℕ, ◌+◌, ◌<◌, ◌≤◌, Bool, true, false, List, [], ◌∷◌}
use Rattle.std.proofs.Common.{◌++◌, length, take, drop, get_or, Option, Some, None, Result, Ok, Err}
use Rattle.std.proofs.Common.{IfOk, Vec, Global, refl, arith, le_refl}
use Rattle.std.proofs.lemmas.List.{take-append-drop, take_more, Folds.list_any-append}
use Rattle.std.{proofs.lemmas.Bool.Decides.nat_tests, specs.Prelude.{is_some, if◌then◌else◌}}
use Rattle.std.specs.Result.{IsErrAnd}
use Rattle.room_rows.specs.{Keep.KeepLaws, declared.keep.{Keep.Ghosts, KeepFault.KeepFault}}
use Rattle.room_entry.specs.declared.object.Which.TheVariants.{Dacl, Sacl}
use Rattle.room_machine.specs.{Closed.{failure_told, only_reads}, declared.reply.Reply.Reply}
use Rattle.room_machine.specs.declared.request.Request.{Request}
use Rattle.room_judge.specs.{Closed.Performs, Extent.{StaysWithin, Unless, Unsaid, UpTo}}
use Rattle.room_judge.{specs.Extent.WritesUpTo, proofs.Calls.HasDone}
use Rattle.room_desk.specs.{Called.{ReadsFew, calls_for, hands_down}, Counted.OneAndBoth}
use Rattle.room_desk.specs.Counted.{changed_lists, extent_if, extent_of, most_writes}
use Rattle.room_desk.specs.InTurn.{GoInTurn, WritesInTurn, calls_for_all, some_hands_down}
use Rattle.room_desk.{specs.declared.running.Asked.Asked, proofs.Steps.InTurn.goes_more}
use Rattle.room_desk.proofs.Writes.Reading.{reads_on}

-- ---- sums

one_front : (asked : List Asked) (n : ℕ) (one : Asked) → n < length asked
    → one ≡ get_or asked n one → take n asked ++ one ∷ [] ≡ take (n + 1) asked
one_front asked n one below is = grind (arith, nat_tests, take_more)

calls_more : (asked : List Asked) (one : Asked)
    → calls_for_all (asked ++ one ∷ []) ≡ calls_for_all asked + (calls_for one.request + 1)
calls_more [] one = omega arith
calls_more (a ∷ asked) one = omega (arith, calls_more asked one)

calls_front : (front back : List Asked) → calls_for_all front ≤ calls_for_all (front ++ back)
calls_front [] back = omega arith
calls_front (a ∷ front) back = omega (arith, calls_front front back)

or_false : (a : Bool) → a || false ≡ a
or_false true = refl
or_false false = refl

down_more : (asked : List Asked) (one : Asked)
    → some_hands_down (asked ++ one ∷ []) ≡ some_hands_down asked || hands_down one.request
down_more asked one = search (list_any-append, or_false)

neither : (a b : Bool) → a || b ≡ false → (a ≡ false) × (b ≡ false)
neither true b is = absurd (cc)
neither false b is = (refl, is)

down_front : (front back : List Asked) → some_hands_down (front ++ back) ≡ false
    → some_hands_down front ≡ false
down_front front back none = grind (arith, nat_tests, list_any-append, neither)

both_write : (wa wb wc la lb lc m n : ℕ) → wb + la ≤ wa + lb + m → wc + lb ≤ wb + lc + n
    → wc + la ≤ wa + lc + (m + n)
both_write wa wb wc la lb lc m n first last = omega (arith, first, last)

module _ {S : Type 0} (k : Ghosts S) where
  -- ---- writing

  told_within : (told : Option Reply) (a b : S)
      → StaysWithin k.rows k.writes (Unless told OneAndBoth) a b
      → WritesUpTo k.rows k.writes (if is_some told then 0
      else changed_lists Dacl (k.rows a) (k.rows b) + changed_lists Sacl (k.rows a) (k.rows b) + 1)
      a b
  told_within None a b few = search (le_refl)
  told_within (Some failure) a b few = few.1

  reads_within : (reads : Bool) (reply : Reply) (a b : S)
      → StaysWithin k.rows k.writes (extent_if reads reply) a b
      → WritesUpTo k.rows k.writes (if reads || is_some (failure_told reply) then 0
      else changed_lists Dacl (k.rows a) (k.rows b) + changed_lists Sacl (k.rows a) (k.rows b) + 1)
      a b
  reads_within true reply a b few = few.1
  reads_within false reply a b few = told_within (failure_told reply) a b few

  -- a request writes no more than suffices for it
  one_writes : (request : Request) (reply : Reply) (a b : S)
      → StaysWithin k.rows k.writes (extent_of request reply) a b
      → WritesUpTo k.rows k.writes (most_writes request reply (k.rows a) (k.rows b)) a b
  one_writes request reply a b few = reads_within (only_reads request) reply a b few

  -- ---- reading

  -- so many calls read, and so many others
  reads_sum : {X : Type 0} (first last : Bool) (a b c : S) (count more : ℕ)
      (r : Result X KeepFault) → k.writes a ≤ k.writes b → k.writes b ≤ k.writes c
      → ReadsFew k first count a b {X = Unit {0}} (Ok tt) → ReadsFew k last more b c r
      → ReadsFew k (first || last) (count + more) a c r
  reads_sum first last a b c count more r up grows before after = grind (arith, nat_tests, reads_on)

  -- what is said of an answer is said of any
  pub answered : {X Y : Type 0} (down : Bool) (a b : S) (count : ℕ) (x : X) (y : Y)
      → ReadsFew k down count a b {X = X} (Ok x) → ReadsFew k down count a b {X = Y} (Ok y)
  answered true a b count x y few = few
  answered false a b count x y few = few

  -- where there is no answer in the end, it is said only where none of them hands a list down
  halted : {X Y : Type 0} (down first last : Bool) (a b c : S) (count more total : ℕ)
      (r : Result X KeepFault) (e : KeepFault) (end : Result Y KeepFault)
      → (down ≡ false → (first ≡ false) × (last ≡ false)) → count + more ≤ total
      → IsErrAnd end (λ x. x ≡ e) → ReadsFew k first count a b {X = Unit {0}} (Ok tt)
      → ReadsFew k last more b c r → ReadsFew k down total a c end
  halted down first last a b c count more total r e end none fits is before after =
      grind (arith, nat_tests)

  -- ---- the requests so far

  -- these requests are carried out in turn, with these replies
  pub record HasGone (asked : List Asked) (replies : List Reply) (a b : S) : Type 0 where
    pub follows : k.Follows a b
    pub writes : WritesInTurn k asked replies a b
    pub reads : ReadsFew k (some_hands_down asked) (calls_for_all asked) a b {X = Unit {0}} (Ok tt)

  pub done_so : (asked : List Asked) (replies : List Reply) (a b : S) → HasGone asked replies a b
      → HasDone k.rows k.writes k.Follows k.IsTrusted (UpTo Unsaid) a b
      (λ old new. (most : ℕ) × GoInTurn asked replies old new most)
  done_so asked replies a b gone = grind (arith, nat_tests)

  -- there are no replies where there is no answer
  pub no_replies : (asked : List Asked) (a b : S) (r : Result (Vec Reply Global) KeepFault)
      (e : KeepFault) → IsErrAnd r (λ x. x ≡ e)
      → IfOk r (λ replies. WritesInTurn k asked replies.items a b)
  no_replies asked a b (Ok replies) e is = absurd is
  no_replies asked a b (Err f) e is = tt

  pub reads_halted : {X Y : Type 0} (asked : List Asked) (n : ℕ) (one : Asked) (a b c : S)
      (r : Result X KeepFault) (e : KeepFault) (end : Result Y KeepFault) → n < length asked
      → one ≡ get_or asked n one → IsErrAnd end (λ x. x ≡ e)
      → ReadsFew k (some_hands_down (take n asked)) (calls_for_all (take n asked)) a b
      {X = Unit {0}} (Ok tt)
      → ReadsFew k (hands_down one.request) (calls_for one.request + 1) b c r
      → ReadsFew k (some_hands_down asked) (calls_for_all asked) a c end
  reads_halted asked n one a b c r e end below at is before after =
      let longer = one_front asked n one below at in
      let whole = take-append-drop (n + 1) asked in
      let fits = calls_front (take (n + 1) asked) (drop (n + 1) asked) in
      search (rules, calls_more, n, asked, one, longer, down_front, down_more, halted, neither)

  module _ (laws : KeepLaws k.rows k.failures k.writes k.Follows k.IsTrusted) where
    pub none_gone : (replies : List Reply) (a : S) → replies ≡ [] → HasGone [] replies a a
    none_gone replies a none = grind (arith, nat_tests)

    -- one request more
    pub gone_more : (asked : List Asked) (n : ℕ) (one : Asked) (replies all : List Reply)
        (reply : Reply) (a b c : S) → n < length asked → one ≡ get_or asked n one
        → all ≡ replies ++ reply ∷ [] → HasGone (take n asked) replies a b
        → HasDone k.rows k.writes k.Follows k.IsTrusted (extent_of one.request reply) b c
        (λ old new. Performs one.user one.moment one.request old reply new)
        → ReadsFew k (hands_down one.request) (calls_for one.request + 1) b c {X = Reply} (Ok reply)
        → HasGone (take (n + 1) asked) all a c
    gone_more asked n one replies all reply a b c below at made gone done reads =
        let longer = one_front asked n one below at in
        let so_far = take n asked in
        record {
          follows = laws.on a b c gone.follows done.follows;
          writes =
              λ t.
              let first = laws.first a b c gone.follows done.follows t in
              let last = laws.last a b c gone.follows done.follows t in
              let wrote = gone.writes first in (
                wrote.0 + most_writes one.request reply (k.rows b) (k.rows c),
                search (rules, goes_more, one, below, made, wrote.1, done.becomes, last),
                grind (arith, nat_tests, both_write, one_writes),
              );
          reads = grind (arith, nat_tests, answered, calls_more, down_more, reads_sum);
        }
