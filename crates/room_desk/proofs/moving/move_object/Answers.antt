use Rattle.std.proofs.Common.{rules}
use Rattle.std.proofs.Common.{◌≡◌, Some, ap, refl, take, ◌∙◌, Result, Err, arith, length, ◌+◌}
use Rattle.room_rows.specs.{Content.root_of, Rows.Rows}
use Rattle.room_machine.specs.declared.reply.Reply.{Reply, TheVariants.Refused}
use Rattle.room_machine.specs.declared.reply.Reason.TheVariants.{Root}
use Rattle.room_judge.specs.{Halted.settled, Spot.{IsPaired, pair_of}, declared.arrival.Both.Both}
use Rattle.room_judge.proofs.{Calls.{done, none_done, of_read, then}, Halts.{faults, halts}}
use Rattle.room_judge.proofs.{Halts.refused_as, UpTo.tail_provided}
use Rattle.room_desk.proofs.Moves.MovingSteps.{empty_path, root_after, root_stays, rooted_pair}
use Rattle.room_desk.proofs.{Moves.MovingSteps.way_halted, Writes.Placing.stands_unrecorded}
use Rattle.room_desk.proofs.Writes.Reading.{reads_on}
use Rattle.room_sound.proofs.Blamed.{rootless_damaged, unread_damaged}
use Rattle.room_desk.proofs.moving.move_object.Goals as goal

pub returns-then-is_root-clause-done : goal.returns-then-is_root-clause-done
returns-then-is_root-clause-done g c =
    let m = g.met.K.Keep in
    let path = c.args.ask.now.path.now in
    refused_as m.laws (done (of_read c.in_ok-root.ensures.read)) c.refusal.result
    (Refused (take 0 path) Root) c.refusal.ensures
    (λ old new are both.
    root_stays c.args.ask.now.asker.now path c.args.to.now c.in_ok-root.root old new
    (Refused (take 0 path) Root) are
    (empty_path path c.is_root.result c.is_root.ensures c.if-is_root.true) both.0 refl both.1)

pub returns-in_err-root-clause-done : goal.returns-in_err-root-clause-done
returns-in_err-root-clause-done g c =
    let m = g.met.K.Keep in
    faults m.laws (none_done m.laws c.args.keep.now) (of_read c.in_err-root.ensures.read)
    (λ old mid at are same h. rootless_damaged old mid at same h)
    c.from_residual.result c.from_residual.ensures.1

pub returns-in_err-pair-clause-done : goal.returns-in_err-pair-clause-done
returns-in_err-pair-clause-done g c =
    let asker = c.args.ask.now.asker.now in
    let path = c.args.ask.now.path.now in
    halts g.met.K.Keep.laws _ (done (of_read c.in_ok-root.ensures.read)) c.in_err-pair.ensures.done
    (λ old mid at are both h.
    unread_damaged old mid at both.1 (h (ap (λ (r : Rows). root_of r.read) both.1 ∙ both.0)))
    (λ old mid new reply are both halted.
    way_halted asker path c.args.to.now old new reply are
    (rooted_pair asker path c.in_ok-root.root (Err reply) old mid new both.0 both.1 halted))
    c.from_residual-in_err-pair.result c.from_residual-in_err-pair.ensures.1

pub returns-clause-done : goal.returns-clause-done
returns-clause-done g c =
    let m = g.met.K.Keep in
    let asker = c.args.ask.now.asker.now in
    let path = c.args.ask.now.path.now in
    let root = c.in_ok-root.root in
    let folder = c.in_ok-pair.pair.folder in
    let target = c.in_ok-pair.pair.target in
    let pair : Result Both Reply = pair_of folder target in
    tail_provided m.laws {Before = λ old new. (root_of old.read ≡ Some root)
    × IsPaired asker path old pair new}
    (then m.laws (done (of_read c.in_ok-root.ensures.read)) (done c.in_ok-pair.ensures.done)
    (λ old mid new both paired.
    (both.0, rooted_pair asker path root pair old mid new both.0 both.1 paired)))
    c.move_found.ensures.done
    (λ old mid at are both never.
    never (root_after asker path root pair old mid both.0 both.1) old are both.1)
    (λ old mid outcome new are both moved.
    moved (root_after asker path root pair old mid both.0 both.1) old are both.1)
    (λ old mid new more are both enough. (search (rules, stands_unrecorded, root, target.node)))

pub returns-clause-counted : goal.returns-clause-counted
returns-clause-counted g c =
    let laws = g.met.K.Keep.laws in
    let path = c.args.ask.now.path.now in
    let to = c.args.to.now in
    let grows = laws.grow _ _ c.in_ok-root.ensures.read.follows in
    reads_on g.K.Keep (settled c.move_found.result) c.args.keep.now
    c.to_pair_from.new.keep c.move_found.new.keep (length path + 1)
    (length to + 6) (length path + length to + 7)
    (omega (arith, c.in_ok-root.ensures.counted, c.in_ok-pair.ensures.counted))
    (omega (arith, grows, laws.grow _ _ c.in_ok-pair.ensures.done.follows)) (omega arith)
    c.move_found.ensures.counted
