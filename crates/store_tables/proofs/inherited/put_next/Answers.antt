use Rattle.std.proofs.Common.{rules, ◌≡◌, ◌+◌, ◌++◌, ◌∷◌, [], ℕ, refl, sym, ap, ◌∙◌}
use Rattle.std.specs.List.{range_with_len}
use Rattle.store_tables.proofs.Putting.{puts_none, run_grows}
use Rattle.store_tables.proofs.inherited.put_next.Goals as goal

pub returns-then-is_next-clause-puts : goal.returns-then-is_next-clause-puts
returns-then-is_next-clause-puts g c =
    let first = c.args.first.now in
    let count = c.args.count.now in
    let is : c.args.id ≡ first + count = (c.is_next.ensures c.if-is_next.true).0 in (
      [],
      sym (run_grows first count) ∙ ap (λ (n : ℕ). range_with_len first count ++ n ∷ []) (sym is),
      search (rules, puts_none),
    )

pub returns-clause-puts : goal.returns-clause-puts
returns-clause-puts g c = (
  range_with_len c.args.first.now c.args.count.now,
  refl,
  c.put_run-done.ensures.puts,
)
