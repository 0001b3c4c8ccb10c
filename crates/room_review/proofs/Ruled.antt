-- What a list says of all rights, entry by entry.
use Rattle.std.proofs.Common.{rules, ℕ, ◌+◌, ◌<◌, ◌≤◌, ◌≡◌, ◌∷◌, Bool, true, false, cond, not, ◌&&◌}
use Rattle.std.proofs.Common.{◌||◌, List, [], length, drop, get_or, refl, sym, ap, ◌∙◌, arith}
use Rattle.std.proofs.lemmas.{Bool.{not-true, Decides.nat_tests}, List.drop_all}
use Rattle.std.specs.Prelude.{filter}
use Rattle.room_entry.specs.{Ace.Ace, BitLaws.chosen_agree, Bits.{all_bits, has, shares}}
use Rattle.room_entry.specs.declared.{entry.EntryKind.EntryKind, parties.Caller.Caller}
use Rattle.room_entry.specs.declared.parties.Owners.{Owners}
use Rattle.room_eval.specs.Verdict.{bears_on, counts, ruled_by, ruling_from, ruling_of}
use Rattle.room_eval.specs.declared.outcome.Ruling.{Ruling, TheVariants.Silent}
use Rattle.room_entry.proofs.{Facts.Members.{all_each, each_fails, each_weaker}, Texts.at_bit}
use Rattle.room_machine.proofs.Rights.{has_kept}
use Rattle.room_eval.proofs.Steps.{drop_here, ruling_head, ruling_passed, ruling_records}
use Rattle.room_eval.proofs.Steps.{ruling_without}

-- a bit of one of two masks that share none
apart : (mask other : List ℕ) (bit : ℕ) → shares mask other ≡ false → has mask bit ≡ true
    → has other bit ≡ false
apart mask other bit none it =
    not-true (has other bit)
    (at_bit (λ b. not (has other b)) mask bit
    (all_each (λ b. not (has other b)) mask
    (each_weaker _ _ (λ b fails. ap not fails) mask (each_fails (has other) mask none))) it)

-- of a bit that some entry may still rule, what the rest says counts
where_unruled : (g u : Bool) (s t : Bool) → (u ≡ true → s ≡ t) → (g || (u && s)) ≡ (g || (u && t))
where_unruled g true s t same = ap (λ x. g || x) (same refl)
where_unruled g false s t same = refl

none_left : (g u t : Bool) → t ≡ false → (g || (u && t)) ≡ g
none_left g u true fails = absurd (let wrong : ⊥ = cc in wrong)
none_left true u false fails = refl
none_left false true false fails = refl
none_left false false false fails = refl

module _ (test : Ruling → Bool) where
  -- a ruling that passes is found for the bits of a mask (m) that no entry has ruled (u), beside
  -- those that were found before (g)
  on_pass : (g u m : Bool) (head rest : Ruling) → test head ≡ true
      → (g || (u && test (cond m head rest))) ≡ ((g || (m && u)) || ((not m && u) && test rest))
  on_pass true u m head rest is = refl
  on_pass false true true head rest is = is
  on_pass false true false head rest is = refl
  on_pass false false true head rest is = refl
  on_pass false false false head rest is = refl

  -- one that fails isn't
  on_fail : (g u m : Bool) (head rest : Ruling) → test head ≡ false
      → (g || (u && test (cond m head rest))) ≡ (g || ((not m && u) && test rest))
  on_fail true u m head rest isnt = refl
  on_fail false true true head rest isnt = isnt
  on_fail false true false head rest isnt = refl
  on_fail false false true head rest isnt = refl
  on_fail false false false head rest isnt = refl

  module _ (entries : List Ace) (caller : Caller) (owners : Owners) where
    abbrev pub passes : ℕ → Bool
    passes bit = test (ruling_of entries caller owners bit)

    abbrev says : ℕ → List Ace → ℕ → Ruling
    says place rest bit = ruling_from place rest caller owners bit

    -- The ruling of a bit passes where the bit is found by the entries before a place, or where
    -- none of them rules it and the ruling of the rest passes.
    abbrev pub FoundBefore : List ℕ → List ℕ → ℕ → Type 0
    FoundBefore found unruled i =
        (bit : ℕ) → has all_bits bit ≡ true
        → passes bit
        ≡ (has found bit || (has unruled bit && test (says (i + 1) (drop i entries) bit)))

    -- no entry yet
    pub found_none : (found unruled : List ℕ) → found ≡ [] → unruled ≡ all_bits
        → FoundBefore found unruled 0
    found_none found unruled none whole bit known = grind (arith, nat_tests)

    -- no entry is left
    pub found_all : (found unruled : List ℕ) (i : ℕ) → test Silent ≡ false → length entries ≤ i
        → FoundBefore found unruled i → filter (has found) all_bits ≡ found
        → found ≡ filter passes all_bits
    found_all found unruled i silent past so known =
        sym known
        ∙ chosen_agree (has found) passes (search (rules, so, none_left, drop_all, past, silent))

    module _ (i : ℕ) (entry : Ace) (below : i < length entries)
        (is : entry ≡ get_or entries i entry) (found unruled : List ℕ)
        (so : FoundBefore found unruled i) where
      abbrev rest : List Ace
      rest = drop (i + 1) entries

      here : (bit : ℕ) → has all_bits bit ≡ true
          → passes bit
          ≡ (has found bit || (has unruled bit && test (says (i + 1) (entry ∷ rest) bit)))
      here bit known = grind (arith, nat_tests, drop_here)

      -- an entry that bears on no unruled bit
      pub found_passed : bears_on entry caller owners unruled ≡ false
          → FoundBefore found unruled (i + 1)
      found_passed isnt bit known =
          grind (
            arith,
            nat_tests,
            apart,
            here,
            ruling_passed,
            ruling_records,
            ruling_without,
            where_unruled,
          )

      module _ (bears : bears_on entry caller owners unruled ≡ true) (kind : EntryKind)
          (of_kind : entry.kind ≡ kind) where
        does : counts entry caller owners ≡ true
        does = grind (arith, nat_tests)

        abbrev less : List ℕ
        less = filter (λ bit. not (has entry.mask bit)) unruled

        abbrev more : List ℕ
        more =
            filter (λ bit. has found bit || has (filter (has entry.mask) unruled) bit) all_bits

        has_less : (bit : ℕ) → has less bit ≡ (not (has entry.mask bit) && has unruled bit)
        has_less bit = has_kept (λ b. not (has entry.mask b)) unruled bit

        -- its ruling passes
        pub found_more : (pass : (bit : ℕ)
            → test (ruled_by kind (i + 1) (says (i + 1 + 1) rest bit)) ≡ true)
            → (next left : List ℕ) → next ≡ more → left ≡ less → FoundBefore next left (i + 1)
        found_more pass next left grows shrinks bit known =
            grind (arith, nat_tests, does, has_kept, has_less, here, on_pass, ruling_head)

        -- its ruling fails
        pub found_same : (fail : (bit : ℕ)
            → test (ruled_by kind (i + 1) (says (i + 1 + 1) rest bit)) ≡ false)
            → (next left : List ℕ) → next ≡ found → left ≡ less → FoundBefore next left (i + 1)
        found_same fail next left stays shrinks bit known =
            grind (arith, nat_tests, does, has_less, here, on_fail, ruling_head)
