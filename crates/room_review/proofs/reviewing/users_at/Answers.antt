use Rattle.std.{proofs.Common.{List, ℕ, map, refl, subst}, specs.List.flat_map}
use Rattle.room_rows.specs.declared.node.Node.{Node}
use Rattle.room_dump.proofs.Reading.{answered, fails, knows, learns}
use Rattle.room_review.{specs.Users.{Gathers, users_at}, proofs.Tabled.gathers_users}
use Rattle.room_review.proofs.reviewing.users_at.Goals as goal

pub returns : goal.returns
returns g c =
    let k = g.K.Keep in
    let laws = g.met.K.Keep.laws in
    let a = c.args.keep.now in
    let b = c.gather_below.new.keep in
    let pairs = c.args.pairs.now in
    record {
      read = answered k laws a b c.gather_below.new.users
          (learns k laws a a b tt (knows k laws a (λ rows are. are))
          c.in_ok-gather_below.ensures.read
          (λ rows are _ gathers sites starts. gathers_users rows pairs c.args.most c.args.start.now sites
          c.add_paired.new.self c.gather_above.new.users c.gather_below.new.users starts
          (subst (λ (names : List (List ℕ)). Gathers names (map (λ pair. pair.1) pairs)
          c.add_paired.new.self) c.new-users.ensures c.in_ok-add_paired.ensures)
          (subst (λ (nodes : List Node). Gathers c.add_paired.new.self (flat_map users_at nodes)
          c.gather_above.new.users) c.as_slice.ensures c.in_ok-gather_above.ensures)
          gathers));
    }

pub returns-in_err-gather_below : goal.returns-in_err-gather_below
returns-in_err-gather_below g c =
    let k = g.K.Keep in
    let laws = g.met.K.Keep.laws in
    let a = c.args.keep.now in
    record {
      read = fails k laws a a c.gather_below.new.keep c.in_err-gather_below.field-0.0
          c.from_residual-in_err-gather_below.result
          (λ rows are _ row lost sites starts. lost c.args.start.now.path c.args.start.now.node
          starts.there refl)
          (knows k laws a (λ rows are. are)) c.in_err-gather_below.ensures.read
          c.from_residual-in_err-gather_below.ensures.1;
    }
