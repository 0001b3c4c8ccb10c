use Rattle.std.proofs.Common.{◌≡◌, ℕ, ◌+◌, ◌-◌, ◌*◌, ◌^◌, ◌<◌, ◌≤◌, length}
use Rattle.room_rows.specs.Keep.{capped}
use Rattle.room_inherit.specs.{Turns.AreTurns, declared.descent.Reach.TheVariants.Renewed}
use Rattle.room_inherit.proofs.descent.take_turns.Given as goal

-- this many turns were taken
abbrev pub invariant-turns : goal.invariant-turns
invariant-turns g l =
    record {
      sofar : (total : ℕ)
          × AreTurns g.K.Keep l.descent l._turn l.fn.waiting.items l.waiting.items total l.fn.keep
          l.keep × (l.written ≡ capped total);
      within : l._turn ≤ l.most;
      counted : l.descent.reach ≡ Renewed → l.written < 2 ^ 64 - 1
          → g.K.Keep.reads l.keep + length l.waiting.items
          ≤ g.K.Keep.reads l.fn.keep + length l.fn.waiting.items + 2 * l.written;
    }
