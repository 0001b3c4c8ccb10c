use Rattle.std.proofs.Common.{◌≡◌, [], Ok, map, take}
use Rattle.sqlite.specs.Held.{state}
use Rattle.store_tables.specs.Carries.{CallsInside, NoTables}
use Rattle.store_admin.specs.Operating.{Gathers}
use Rattle.store_admin.proofs.putting.insert_each.Given as goal

-- the pairs so far are put in
abbrev pub invariant-loop-index : goal.invariant-loop-index
invariant-loop-index g l =
    (l.tx.conn.ghost_name ≡ l.fn.tx.conn.ghost_name)
    × CallsInside {X = Unit {0}} (state g.S.Store l.fn.tx.conn.now) (state g.S.Store l.tx.conn.now)
    (Ok tt)
    NoTables (Gathers [] (take l.index (map (λ p. p.now) l.order)))
