use Rattle.std.proofs.Common.{rules, ◌≡◌, ℕ, Bool, false, List, refl, length, sym, subst, ap, take}
use Rattle.std.{proofs.{Common.arith, lemmas.Bool.Decides.nat_tests}, specs.Prelude.◌==◌}
use Rattle.room_rows.specs.Content.{is_empty}
use Rattle.room_machine.specs.declared.reply.{Reply.TheVariants.Refused, Reason.TheVariants.Root}
use Rattle.room_machine.specs.declared.request.Request.TheVariants.{Remove}
use Rattle.room_judge.proofs.{Calls.{done, none_done, of_read}, Halts.{faults, halts_first}}
use Rattle.room_judge.{proofs.{Halts.refused_as, UpTo.tail_provided}, specs.Closed.IsServed}
use Rattle.room_judge.specs.Halted.{replied}
use Rattle.room_sound.proofs.Blamed.{noted_unread, rootless_damaged}
use Rattle.room_desk.proofs.Gone.GoneSteps.{remove_done, remove_halted, root_kept}
use Rattle.room_desk.proofs.{Moves.MovingSteps.empty_path, Writes.Sufficing.one_of_both}
use Rattle.room_desk.proofs.Writes.Sufficing.{removable}
use Rattle.room_desk.proofs.removing.remove.Goals as goal

some_names : (path : List (List ℕ)) (is_root : Bool) → is_root ≡ (length path == 0)
    → is_root ≡ false → is_empty path ≡ false
some_names path is_root is holds = grind (arith, nat_tests)

pub returns-in_err-root-clause-done : goal.returns-in_err-root-clause-done
returns-in_err-root-clause-done g c =
    let m = g.met.K.Keep in
    faults m.laws (none_done m.laws c.args.keep.now) (of_read c.in_err-root.ensures.read)
    (λ old mid at are same h. rootless_damaged old mid at same h)
    c.from_residual.result c.from_residual.ensures.1

pub returns-then-is_root-clause-done : goal.returns-then-is_root-clause-done
returns-then-is_root-clause-done g c =
    let asker = c.args.ask.now.asker.now in
    let path = c.args.ask.now.path.now in
    let root = empty_path path c.is_root.result c.is_root.ensures c.if-is_root.true in
    refused_as g.met.K.Keep.laws (done (of_read c.in_ok-root.ensures.read)) c.refusal.result
    (Refused (take 0 path) Root) c.refusal.ensures (λ old new are both.
    subst (λ (p : List (List ℕ)). IsServed asker (Remove p) old (Refused (take 0 path) Root) new)
    (sym root) (root_kept asker _ old new (Refused (take 0 path) Root) are both.0
    (ap (λ (p : List (List ℕ)). Refused (take 0 p) Root) root) both.1))

pub returns-in_err-pair-clause-done : goal.returns-in_err-pair-clause-done
returns-in_err-pair-clause-done g c =
    halts_first g.met.K.Keep.laws _ c.in_err-pair.ensures.done
    (λ old at h. rootless_damaged old old at refl h)
    (remove_halted c.args.ask.now.asker.now c.args.ask.now.path.now)
    c.from_residual-in_err-pair.result c.from_residual-in_err-pair.ensures.1

pub returns-clause-done : goal.returns-clause-done
returns-clause-done g c =
    let m = g.met.K.Keep in
    let path = c.args.ask.now.path.now in
    let target = c.in_ok-pair.pair.target in
    let folder = c.in_ok-pair.pair.folder in
    tail_provided m.laws (done c.in_ok-pair.ensures.done) c.remove_from.ensures.done
    (λ old mid at are paired h. noted_unread old mid _ at paired.judged.notes h)
    (λ old mid outcome new are paired removes.
    remove_done c.args.ask.now.asker.now path old mid folder target are
    (some_names path c.is_root.result c.is_root.ensures c.if-is_root.false) paired new
    (replied outcome) removes) (search (rules, removable, folder, target, one_of_both))
