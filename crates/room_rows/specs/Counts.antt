-- Counts that stay at the greatest number of 64 bits.
use Rattle.std.specs.Prelude.{◌≡◌, ◌≤◌, ◌<◌, ◌-◌, ◌^◌, ◌⊎◌, ℕ}
use Rattle.std.proofs.Common.{arith, inl, inr}
use Rattle.std.proofs.lemmas.Bool.{cases_lt}
use Rattle.std.proofs.Math.Nat.{min-le_right, min-eq_left, min-eq_right}
use Rattle.room_rows.specs.Keep.{capped}

pub capped_ends : (n : ℕ) → capped n ≤ 2 ^ 64 - 1
capped_ends n = min-le_right n (2 ^ 64 - 1)

pub capped_below : (n : ℕ) → n ≤ 2 ^ 64 - 1 → capped n ≡ n
capped_below n h = min-eq_left h

pub capped_past : (n : ℕ) → 2 ^ 64 - 1 ≤ n → capped n ≡ 2 ^ 64 - 1
capped_past n h = min-eq_right h

pub capped_rises : (a b : ℕ) → a ≤ b → capped a ≤ capped b
capped_rises a b h = elim (cases_lt b (2 ^ 64 - 1)) [
  | inl below ↦
      let ea = capped_below a (omega arith) in
      let eb = capped_below b (omega arith) in
      omega (arith, ea, eb, h)
  | inr past ↦ let eb = capped_past b past in let ends = capped_ends a in omega (arith, eb, ends)
]

-- a count that rises, or is at its end, still does with a cap
pub capped_cause : (a b : ℕ) → a ≤ b → (a < b) ⊎ (2 ^ 64 - 1 ≤ a)
    → (capped a < capped b) ⊎ (2 ^ 64 - 1 ≤ capped a)
capped_cause a b up (inr past) = inr (let e = capped_past a past in omega (arith, e))
capped_cause a b up (inl rises) = elim (cases_lt a (2 ^ 64 - 1)) [
  | inl below ↦ inl (elim (cases_lt b (2 ^ 64 - 1)) [
    | inl below_too ↦
        let ea = capped_below a (omega arith) in
        let eb = capped_below b (omega arith) in
        omega (arith, ea, eb, rises)
    | inr past ↦
        let ea = capped_below a (omega arith) in
        let eb = capped_past b past in
        omega (arith, ea, eb, below)
  ])
  | inr past ↦ inr (let e = capped_past a past in omega (arith, e))
]
