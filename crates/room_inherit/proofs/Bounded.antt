-- Turns up to a bound, and then up to one that is enough.
use Rattle.std.proofs.Common.{rules, ◌≡◌, ℕ, zero, suc, ◌+◌, ◌<◌, ◌^◌, List, [], ◌∷◌, ◌++◌, length}
use Rattle.std.proofs.Common.{Result, Ok, Err, ap, subst, ◌∙◌, inl, inr, arith}
use Rattle.std.proofs.lemmas.Bool.Decides.{nat_tests}
use Rattle.room_rows.specs.declared.keep.{Keep.Ghosts, KeepFault.{KeepFault, TheVariants.Damaged}}
use Rattle.room_rows.specs.{declared.node.Node.Node, Keep.{IsNever, IsRead, AreNumbers, capped}}
use Rattle.room_rows.{specs.{Keep.KeepLaws, Rows.numbers_of}, proofs.Steps.later_cause}
use Rattle.room_inherit.specs.{Turn.Visits, Turns.{AreTurns, Took, Broke}}
use Rattle.room_inherit.specs.declared.{descent.Descent.Descent, outcome.SpreadFault.SpreadFault}
use Rattle.room_inherit.specs.declared.outcome.SpreadFault.TheVariants.{Keeper}
use Rattle.room_inherit.proofs.{Calls.capped_add, Turns.{Progress, Carried, Turned, turned_on}}
use Rattle.room_inherit.proofs.Turns.{turn_fails, first_turn}
use Rattle.room_entry.proofs.Facts.Members.{no_length}

-- a count added to one that stays at its end
capped_last : (m n : ℕ) → capped (m + capped n) ≡ capped (m + n)
capped_last m n = ap capped (omega arith) ∙ capped_add n m ∙ ap capped (omega arith)

module _ {S : Type 0} (k : Ghosts S)
    (laws : KeepLaws k.rows k.failures k.writes k.Follows k.IsTrusted) (d : Descent) (start : Node)
    (progress : Progress d start) where
  abbrev Done : ℕ → List Node → ℕ → S → S → Type 0
  Done count waiting changed a b = Turned k laws d start progress count waiting changed a b

  abbrev Ends : S → S → Result Rattle.room_inherit.specs.declared.outcome.Spread.Spread SpreadFault
      → Type 0
  Ends a b result = Carried k laws d start progress a b result

  -- the same with equal counts
  as_many : (count count' changed changed' : ℕ) (waiting : List Node) (a b : S) → count ≡ count'
      → changed ≡ changed' → Done count waiting changed a b → Done count' waiting changed' a b
  as_many count count' changed changed' waiting a b e e' sofar = grind (arith, nat_tests)

  turns_on : (n count : ℕ) (waiting next : List Node) (changed more : ℕ) (a b c : S)
      → Done count waiting changed a b → AreTurns k d n waiting next more b c
      → Done (count + n) next (changed + more) a c
  turns_on zero count waiting next changed more a b c sofar are = grind (arith, nat_tests, as_many)
  turns_on (suc n) count waiting next changed more a b c sofar
      (rest, above, first, number, mid, before, visit, total) =
      as_many (count + n + 1) (count + suc n) (changed + first + number) (changed + more) next a c
      (omega arith) (omega (arith, total))
      (turned_on k laws d start progress (count + n) rest above
      (changed + first) number next a mid c
      (turns_on n count waiting (rest ++ above ∷ []) changed first a b mid sofar before) visit)

  -- the keeper goes on along turns
  follows : (n : ℕ) (waiting next : List Node) (more : ℕ) (b c : S)
      → AreTurns k d n waiting next more b c → k.Follows b c
  follows zero waiting next more b c are = subst (λ (s : S). k.Follows b s) are.2 (laws.itself b)
  follows (suc n) waiting next more b c (rest, above, first, number, mid, before, visit, total) =
      laws.on b mid c (follows n waiting (rest ++ above ∷ []) first b mid before) visit.follows

  -- none waits, and few enough lists are written that their count is exact
  over : (count changed total : ℕ) (a b : S) → changed ≡ capped total
      → (k.IsTrusted a b → progress.Given (k.rows a) → total < 2 ^ 63) → Done count [] total a b
      → Ends a b (Ok (record { changed = changed }))
  over count changed total a b is small sofar = grind (arith, nat_tests, capped_last, follows)

  -- one of these turns failed
  fails : (count : ℕ) (waiting : List Node) (changed : ℕ) (next : List Node) (e : SpreadFault)
      (a b c : S) → Done count waiting changed a b → Broke k d waiting next e b c → Ends a c (Err e)
  fails count waiting changed next e a b c sofar broke =
      turn_fails k laws d start progress (count + broke.turns) broke.rest broke.above
      (changed + broke.total) next e a broke.mid c
      (search (turns_on))
      broke.fails

  -- ---- the turns of a call

  module _ (begun : ℕ) (before first : List Node) (none : before ≡ []) (a b : S)
      (visit : Visits k a b d start before first (Ok begun)) where
    one : Done 1 first begun a b
    one = first_turn k laws d start progress begun before first a b none visit

    pub soon_fails : (next : List Node) (e : SpreadFault) (c : S) → Broke k d first next e b c
        → Ends a c (Err e)
    soon_fails next e c broke = fails 1 first begun next e a b c one broke

    module _ (bound soon : ℕ) (next : List Node) (c : S)
        (took : Took k d bound first next soon b c) where
      abbrev count : ℕ
      count = 1 + took.turns

      abbrev changed : ℕ
      changed = begun + took.total

      sofar : Done count next changed a c
      sofar = turns_on took.turns 1 first next begun took.total a b c one took.are

      told_soon : capped (begun + soon) ≡ capped changed
      told_soon = ap (λ n. capped (begun + n)) took.counted ∙ capped_last begun took.total

      pub soon_done : (told : ℕ) → told < 2 ^ 63 → told ≡ capped (begun + soon) → next ≡ []
          → Ends a c (Ok (record { changed = told }))
      soon_done told few is end = grind (arith, nat_tests, over, sofar, told_soon)

      -- no answer came to the numbers
      pub ids_fail : (e : KeepFault) (f : S)
          → IsRead k.rows k.failures k.writes k.Follows k.IsTrusted c f (Err e) IsNever AreNumbers
          → Ends a f (Err (Keeper e))
      ids_fail e f read = grind (arith, nat_tests, follows, later_cause, sofar)

      -- it is known how many objects there are
      module _ (ids : List ℕ) (most : ℕ) (is : most ≡ length ids) (e : S)
          (read : IsRead k.rows k.failures k.writes k.Follows k.IsTrusted c e
          (Ok ids) IsNever AreNumbers) where
        numbered : Done count next changed a e
        numbered = grind (arith, nat_tests, follows, sofar)

        all : k.IsTrusted a e → progress.Given (k.rows a) → most ≡ length (numbers_of (k.rows a))
        all t given =
            let before = laws.first a c e sofar.follows read.follows t in
            is ∙ ap length (read.answers (laws.last a c e sofar.follows read.follows t)
            ∙ progress.numbers count next changed (k.rows a) (k.rows c) (sofar.along before given))

        pub later_fails : (last : List Node) (fault : SpreadFault) (f : S)
            → Broke k d next last fault e f → Ends a f (Err fault)
        later_fails last fault f broke = fails count next changed last fault a e f numbered broke

        module _ (later : ℕ) (last : List Node) (f : S)
            (took_on : Took k d most next last later e f) where
          taken : Done (count + took_on.turns) last (changed + took_on.total) a f
          taken = search (numbered, turns_on)

          known : k.IsTrusted a f → progress.Given (k.rows a)
              → most ≡ length (numbers_of (k.rows a))
          known t given = grind (arith, nat_tests, all, follows, numbered)

          pub later_done : most < 2 ^ 63 → (told : ℕ)
              → told ≡ capped (capped (begun + soon) + later) → last ≡ []
              → Ends a f (Ok (record { changed = told }))
          later_done fits told sum end = grind (arith, nat_tests, over, small, taken, total)
            where
              total : capped (capped (begun + soon) + later) ≡ capped (changed + took_on.total)
              total = grind (arith, nat_tests, capped_add, capped_last, told_soon)

              small : k.IsTrusted a f → progress.Given (k.rows a) → changed + took_on.total < 2 ^ 63
              small t given =
                  let few = progress.few (count + took_on.turns) last (changed + took_on.total)
                  (k.rows a) (k.rows f) (taken.along t given) in search (rules, known, few, fits)

          pub never_too_many : (id : ℕ) → (last ≡ [] → ⊥) → Ends a f (Err (Keeper (Damaged id)))
          never_too_many id more = record {
            follows = taken.follows;
            written = tt;
            becomes = λ t. tt;
            fault = λ t. absurd (more (elim took_on.ends [
              | inl none ↦ none
              | inr past ↦
                  let many = known t.0 t.1 in
                  no_length last (progress.ends (count + took_on.turns) last
                  (changed + took_on.total) (k.rows a) (k.rows f) (omega (arith, many, past))
                  (taken.along t.0 t.1))
            ]));
          }
