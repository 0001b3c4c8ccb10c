use Rattle.std.proofs.Common.{length, arith, sym, ap, subst, ◌∙◌}
use Rattle.room_rows.specs.Rows.{Rows}
use Rattle.room_judge.proofs.Calls.{done, fails, none_done, of_read, tail_known}
use Rattle.room_desk.{specs.Relocating.{FailsFrom, RelocatesFrom}, proofs.Moves.Relocated.ends_at}
use Rattle.room_sound.proofs.Blamed.{rootless_damaged}
use Rattle.room_desk.proofs.relocating.place.Goals as goal

pub returns-in_err-found : goal.returns-in_err-found
returns-in_err-found g c =
    let m = g.met.K.Keep in
    record {
      done =
          fails m.laws (none_done m.laws c.args.keep.now) (of_read c.in_err-found.ensures.read)
          (λ old mid at same h. rootless_damaged old mid at same h) c.from_residual.result
          c.from_residual.ensures.1;
    }

-- the walk has met some object
pub unreachable-requires : goal.unreachable-requires
unreachable-requires g c =
    omega (
      arith,
      c.in_ok-found.ensures.some,
      ap length c.into_vec-chain.ensures,
      c.into_vec-chain.result.ok.0,
      c.in-None.ensures.cases.0,
    )

pub returns : goal.returns
returns g c =
    let path = c.args.path.now in
    let to = c.args.to.now in
    let walk = c.in_ok-found.found in
    let target = c.in-Some.target in
    let front = c.pop.new.self.items in
    let chain = sym c.into_vec-chain.ensures ∙ c.in-Some.ensures.items in
    record {
      done =
          tail_known g.met.K.Keep.laws (done (of_read c.in_ok-found.ensures.read))
          c.place_from.ensures.done
          (λ old mid at are both h.
          subst (λ (r : Rows). FailsFrom path target walk.rest r at) both.1 h are
          (ends_at old path walk front target both.0.0 chain))
          (λ old mid reply new are both said.
          subst (λ (r : Rows). RelocatesFrom path to target walk.rest r reply new) both.1 said are
          (ends_at old path walk front target both.0.0 chain));
    }
