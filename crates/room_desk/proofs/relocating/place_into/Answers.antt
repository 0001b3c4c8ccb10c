use Rattle.std.proofs.Common.{◌≡◌, ℕ, false, arith, ap, sym, subst, ◌∙◌}
use Rattle.std.proofs.lemmas.Bool.Decides.{nat_tests}
use Rattle.room_rows.specs.{Content.is_folder, Rows.Rows}
use Rattle.room_judge.{specs.Judged.ended_at, proofs.Calls.{finish, none_done, tail}}
use Rattle.room_machine.specs.declared.reply.Reply.TheVariants.{Refused}
use Rattle.room_machine.specs.declared.reply.Reason.TheVariants.{NotFolder}
use Rattle.room_desk.specs.Relocating.{FailsInto, RelocatesInto}
use Rattle.room_desk.proofs.Moves.Relocated.{ended_into, no_folder_into}
use Rattle.room_desk.proofs.relocating.place_into.Goals as goal

pub returns-then-is_ended : goal.returns-then-is_ended
returns-then-is_ended g c =
    let m = g.met.K.Keep in
    let moving = c.args.moving.now in
    let folder = c.args.folder.now in
    let above = c.requires.above in
    record {
      done =
          finish m.laws c.in_ok-gone.gone (none_done m.laws c.args.keep.now)
          (λ old new are same way known ends sound.
          ended_into old known sound moving.path.now moving.to.now moving.target.now ends
          c.requires.some c.requires.there folder c.args.rest c.in_ok-gone.gone new
          c.if-is_ended.true way
          (c.in_ok-gone.ensures ∙ ap (λ p. ended_at p folder.kind c.args.rest) above) same);
    }

pub returns-then-is_document : goal.returns-then-is_document
returns-then-is_document g c =
    let m = g.met.K.Keep in
    let moving = c.args.moving.now in
    let folder = c.args.folder.now in
    let none : c.args.rest ≡ 0 = omega (arith, c.if-is_ended.false) in
    let isnt : is_folder folder ≡ false =
    grind (arith, nat_tests, c.is_document-is_document.ensures, c.if-is_document.true) in
    record {
      done =
          finish m.laws c.in_ok-wrong.wrong (none_done m.laws c.args.keep.now)
          (λ old new are same.
          subst (λ (n : ℕ). RelocatesInto moving.path.now moving.to.now moving.target.now folder n
          old
          c.in_ok-wrong.wrong new) (sym none)
          (λ way known ends sound.
          no_folder_into old known sound moving.path.now moving.to.now moving.target.now ends
          c.requires.some c.requires.there folder way c.in_ok-wrong.wrong new isnt
          (c.in_ok-wrong.ensures ∙ ap (λ p. Refused p NotFolder) c.requires.above) same));
    }

pub returns : goal.returns
returns g c =
    let m = g.met.K.Keep in
    let moving = c.args.moving.now in
    let folder = c.args.folder.now in
    let none : c.args.rest ≡ 0 = omega (arith, c.if-is_ended.false) in
    record {
      done =
          tail m.laws (none_done m.laws c.args.keep.now) c.place_in.ensures.done
          (λ old mid at same h.
          subst (λ (n : ℕ). FailsInto moving.path.now moving.to.now moving.target.now folder n old
          at)
          (sym none)
          (subst (λ (r : Rows). FailsInto moving.path.now moving.to.now moving.target.now folder 0
          r at)
          same h))
          (λ old mid reply new same said.
          subst (λ (n : ℕ). RelocatesInto moving.path.now moving.to.now moving.target.now folder n
          old
          reply new) (sym none)
          (subst (λ (r : Rows). RelocatesInto moving.path.now moving.to.now moving.target.now
          folder 0 r
          reply new) same said));
    }
