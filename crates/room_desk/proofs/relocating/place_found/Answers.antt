use Rattle.std.{proofs.Common.{◌≡◌, ℕ, ◌+◌, length, arith, sym, ap, subst, ◌∙◌}, specs.Prelude.◌-◌}
use Rattle.room_rows.specs.Rows.{Rows}
use Rattle.room_judge.proofs.{Calls.{done, fails, none_done, of_read, tail}, Spots.take_front}
use Rattle.room_machine.specs.Site.{front}
use Rattle.room_desk.specs.Relocating.{EndsAt, FailsInto, RelocatesInto}
use Rattle.room_desk.proofs.Moves.Relocated.{ends_at}
use Rattle.room_sound.proofs.Blamed.{rootless_damaged}
use Rattle.room_desk.proofs.relocating.place_found.Goals as goal

pub place_into-requires-clause-above : goal.place_into-requires-clause-above
place_into-requires-clause-above g c =
    let to = c.args.moving.now.to.now in
    let some = c.requires.there in
    let size : length c.names.result.now ≡ length to = ap length c.names.ensures in
    let deep : length to ≡ (length c.names.result.now - 1) + 1 = omega (arith, some, size) in
    c.in_ok-above.ensures ∙ take_front to (length c.names.result.now - 1) deep

pub returns-in_err-found : goal.returns-in_err-found
returns-in_err-found g c =
    let m = g.met.K.Keep in
    record {
      done =
          fails m.laws (none_done m.laws c.args.keep.now) (of_read c.in_err-found.ensures.read)
          (λ old mid at same h are ends. rootless_damaged old mid at same h)
          c.from_residual-in_err-found.result c.from_residual-in_err-found.ensures.1;
    }

-- the walk has met some object
pub unreachable-requires : goal.unreachable-requires
unreachable-requires g c =
    omega (
      arith,
      c.in_ok-found.ensures.some,
      ap length c.into_vec-chain.ensures,
      c.into_vec-chain.result.ok.0,
      c.in-None.ensures.cases.0,
    )

pub returns : goal.returns
returns g c =
    let moving = c.args.moving.now in
    let path = moving.path.now in
    let to = moving.to.now in
    let target = moving.target.now in
    let walk = c.in_ok-found.found in
    let folder = c.in-Some.folder in
    let before = c.pop.new.self.items in
    let chain = sym c.into_vec-chain.ensures ∙ c.in-Some.ensures.items in
    let some = c.requires.there in
    let size : length c.names.result.now ≡ length to = ap length c.names.ensures in
    let deep : length to ≡ (length c.names.result.now - 1) + 1 = omega (arith, some, size) in
    let above : c.in_ok-above.above ≡ front to = c.in_ok-above.ensures
    ∙ take_front to (length c.names.result.now - 1) deep in
    let way : (old : Rows)
    → walk ≡ Rattle.room_rows.specs.Walk.walk_of old.read c.in_ok-above.above
    → EndsAt (front to) folder walk.rest old = λ old is.
    subst (λ (p : Rattle.std.specs.Prelude.List (Rattle.std.specs.Prelude.List ℕ)).
    EndsAt p folder walk.rest old) above
    (ends_at old c.in_ok-above.above walk before folder is chain) in
    record {
      done =
          tail g.met.K.Keep.laws (done (of_read c.in_ok-found.ensures.read))
          c.place_into.ensures.done
          (λ old mid at both h.
          subst (λ (r : Rows). FailsInto path to target folder walk.rest r at) both.1 h
          (way old both.0.0))
          (λ old mid reply new both said.
          subst (λ (r : Rows). RelocatesInto path to target folder walk.rest r reply new) both.1
          said
          (way old both.0.0));
    }
