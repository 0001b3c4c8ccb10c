use Rattle.std.proofs.Common.{◌≡◌, ℕ, true, false, List, ap, sym, subst, ◌∙◌}
use Rattle.std.specs.Prelude.{is_some}
use Rattle.room_rows.specs.{Content.child_of, Paths.is_object_name, Rows.Rows}
use Rattle.room_judge.proofs.Calls.{done, fails, finish, none_done, of_read, tail}
use Rattle.room_machine.specs.Site.{front, last_name}
use Rattle.room_desk.specs.Moving.{FailsToPlace, IsTaken, PlacesAt, begins}
use Rattle.room_desk.proofs.Moves.{MovingSteps.name_is, Relocated.{below_into, can_go, can_place}}
use Rattle.room_desk.proofs.Moves.Relocated.{placed, taken_into, unsaid_call}
use Rattle.room_sound.proofs.Blamed.{unread_damaged}
use Rattle.room_desk.proofs.relocating.place_in.Goals as goal

pub returns-in_err-is_taken-in-Some : goal.returns-in_err-is_taken-in-Some
returns-in_err-is_taken-in-Some g c =
    let m = g.met.K.Keep in
    record {
      done =
          fails m.laws (none_done m.laws c.args.keep.now) (of_read
          c.in_err-is_taken-in-Some.ensures.read)
          (λ old mid at same h way are ends. unread_damaged old mid at same h)
          c.from_residual.result c.from_residual.ensures.1;
    }

pub returns-then-is_taken : goal.returns-then-is_taken
returns-then-is_taken g c =
    let m = g.met.K.Keep in
    let moving = c.args.moving.now in
    let to = moving.to.now in
    let folder = c.args.folder.now in
    let last = name_is to c.in-Some.field-0-1.now c.in-Some.name.now c.as_str.result.now
    c.in-Some.ensures.parts c.as_str.ensures in
    record {
      done =
          finish m.laws c.in_ok-exists-in-Some.exists (done (of_read
          c.in_ok-is_taken-in-Some.ensures.read))
          (λ old new are both way known ends sound.
          taken_into old known sound moving.path.now to moving.target.now ends c.requires.some
          c.requires.there folder way c.requires.folder c.in_ok-exists-in-Some.exists new
          (ap (λ n. is_some (child_of old.read folder.id n)) (sym last) ∙ sym both.0
          ∙ c.if-is_taken.true) c.in_ok-exists-in-Some.ensures both.1);
    }

pub returns-then-is_below : goal.returns-then-is_below
returns-then-is_below g c =
    let m = g.met.K.Keep in
    let moving = c.args.moving.now in
    let to = moving.to.now in
    let folder = c.args.folder.now in
    let last = name_is to c.in-Some.field-0-1.now c.in-Some.name.now c.as_str.result.now
    c.in-Some.ensures.parts c.as_str.ensures in
    let compared : begins moving.path.now (front to) ≡ c.begins-is_below.result =
    ap (λ p. begins p (front to)) (sym c.names.ensures)
    ∙ ap (λ p. begins c.names.result.now p) (sym c.requires.above ∙ sym c.names-in-Some.ensures)
    ∙ sym c.begins-is_below.ensures in
    record {
      done =
          finish m.laws c.in_ok-looped-in-Some.looped (done (of_read
          c.in_ok-is_taken-in-Some.ensures.read))
          (λ old new are both way known ends sound.
          below_into old known sound moving.path.now to moving.target.now ends c.requires.some
          c.requires.there folder way c.requires.folder
          (ap (λ n. is_some (child_of old.read folder.id n)) (sym last) ∙ sym both.0
          ∙ c.if-is_taken.false) c.in_ok-looped-in-Some.looped new (compared ∙ c.if-is_below.true)
          c.in_ok-looped-in-Some.ensures both.1);
    }

pub returns : goal.returns
returns g c =
    let m = g.met.K.Keep in
    let moving = c.args.moving.now in
    let path = moving.path.now in
    let to = moving.to.now in
    let target = moving.target.now in
    let folder = c.args.folder.now in
    let name = c.as_str-in-Some.result.now in
    let last = name_is to c.in-Some.field-0-1.now c.in-Some.name.now name
    c.in-Some.ensures.parts c.as_str-in-Some.ensures in
    let asked = name_is to c.in-Some.field-0-1.now c.in-Some.name.now c.as_str.result.now
    c.in-Some.ensures.parts c.as_str.ensures in
    let named : is_object_name (last_name to) ≡ true =
    ap is_object_name (sym last ∙ c.as_str-in-Some.ensures) ∙ c.in-Some.ensures.name in
    let compared : begins path (front to) ≡ c.begins-is_below.result =
    ap (λ p. begins p (front to)) (sym c.names.ensures)
    ∙ ap (λ p. begins c.names.result.now p) (sym c.requires.above ∙ sym c.names-in-Some.ensures)
    ∙ sym c.begins-is_below.ensures in
    let apart = compared ∙ c.if-is_below.false in
    let free : (old : Rows)
    → IsTaken folder.id c.as_str.result.now old c.in_ok-is_taken-in-Some.is_taken
    → is_some (child_of old.read folder.id (last_name to)) ≡ false = λ old is.
    ap (λ n. is_some (child_of old.read folder.id n)) (sym asked) ∙ sym is
    ∙ c.if-is_taken.false in
    record {
      done =
          tail m.laws (done (of_read c.in_ok-is_taken-in-Some.ensures.read))
          (unsaid_call c.place_at.ensures.done)
          (λ old mid at both h way known ends.
          unread_damaged old mid at both.1
          (h (subst (λ (r : Rows). Rattle.room_desk.specs.Moving.CanGo target folder name r)
          (sym both.1)
          (subst (λ (n : List ℕ). Rattle.room_desk.specs.Moving.CanGo target folder n old) (sym
          last)
          (can_go old known path to target folder ends way c.requires.folder (free old both.0)
          apart)))))
          (λ old mid reply new both said way known ends sound.
          let there = subst (λ (r : Rows). PlacesAt target folder name r reply new) both.1 said in
          subst (λ r. Rattle.room_desk.specs.Relocating.IsRelocated path to old r new) (sym there.0)
          (placed old known sound path to target ends c.requires.some c.requires.there folder way
          c.requires.folder (free old both.0) apart new
          (subst (λ (n : List ℕ). Rattle.room_desk.specs.Moving.IsPlaced target folder n old new)
          last
          (there.1 (subst (λ (n : List ℕ). Rattle.room_desk.specs.Moving.CanPlace target folder n
          old)
          (sym last)
          (can_place old known sound path to target ends c.requires.some c.requires.there folder way
          c.requires.folder (free old both.0) apart named))))));
    }
