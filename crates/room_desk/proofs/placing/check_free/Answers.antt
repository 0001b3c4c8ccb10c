use Rattle.std.proofs.Common.{◌≡◌, ◌+◌, ◌<◌, length, take, ap, refl, ◌∙◌, arith}
use Rattle.room_desk.specs.Moving.{begins}
use Rattle.room_machine.specs.{Site.front, declared.reply.Reply.TheVariants.Refused}
use Rattle.room_machine.specs.declared.reply.Reason.TheVariants.{Exists, Loop}
use Rattle.room_judge.proofs.{Calls.{finish, done, of_read}, Halts.refused_as, Ways.name_read}
use Rattle.room_desk.proofs.Moves.FreePlaces.{all_free, begun_as, exists_refused, loop_refused}
use Rattle.room_desk.proofs.placing.check_free.Goals as goal

pub returns-then-is_taken-clause-done : goal.returns-then-is_taken-clause-done
returns-then-is_taken-clause-done g c =
    let m = g.met.K.Keep in
    let to = c.args.there.now.path.now in
    let deep : length to ≡ c.args.folder.now.depth + 1 = c.requires in
    let below : c.args.folder.now.depth < length to = omega arith in
    let named =
    name_read to c.names.result.now c.args.folder.now.depth
    c.index-names-folder.result c.as_str.result.now c.names.ensures below
    c.index-names-folder.is c.as_str.ensures in
    let refused = Refused (take (length c.names-then-is_taken.result.now) to) Exists in
    refused_as m.laws (done (of_read c.in_ok-is_taken.ensures.read)) c.refusal.result refused
    c.refusal.ensures (λ old new are both.
    exists_refused to
    (begins c.args.path.now (front to)) c.args.folder.now.node old new refused
    c.in_ok-is_taken.is_taken c.names-then-is_taken.result.now
    c.args.folder.now.depth c.as_str.result.now deep named both.0
    c.if-is_taken.true c.names-then-is_taken.ensures refl both.1)

pub returns-then-is_below-clause-done : goal.returns-then-is_below-clause-done
returns-then-is_below-clause-done g c =
    let m = g.met.K.Keep in
    let to = c.args.there.now.path.now in
    let deep : length to ≡ c.args.folder.now.depth + 1 = c.requires in
    let below : c.args.folder.now.depth < length to = omega arith in
    let named =
    name_read to c.names.result.now c.args.folder.now.depth
    c.index-names-folder.result c.as_str.result.now c.names.ensures below
    c.index-names-folder.is c.as_str.ensures in
    let compared : begins c.args.path.now (front to) ≡ c.begins-is_below.result =
    begun_as c.args.path.now to c.names-2.result.now
    (take c.args.folder.now.depth c.names-3.result.now) c.args.folder.now.depth
    c.begins-is_below.result deep c.names-2.ensures
    (ap (take c.args.folder.now.depth) c.names-3.ensures) c.begins-is_below.ensures in
    let refused = Refused (take (length c.names-then-is_below.result.now) to) Loop in
    refused_as m.laws (done (of_read c.in_ok-is_taken.ensures.read)) c.refusal-then-is_below.result
    refused
    c.refusal-then-is_below.ensures (λ old new are both.
    loop_refused to
    (begins c.args.path.now (front to)) c.args.folder.now.node old new refused
    c.in_ok-is_taken.is_taken c.names-then-is_below.result.now
    c.args.folder.now.depth c.as_str.result.now deep named both.0
    c.if-is_taken.false (compared ∙ c.if-is_below.true) c.names-then-is_below.ensures
    refl both.1)

pub returns-clause-done : goal.returns-clause-done
returns-clause-done g c =
    let m = g.met.K.Keep in
    let to = c.args.there.now.path.now in
    let deep : length to ≡ c.args.folder.now.depth + 1 = c.requires in
    let below : c.args.folder.now.depth < length to = omega arith in
    let named =
    name_read to c.names.result.now c.args.folder.now.depth
    c.index-names-folder.result c.as_str.result.now c.names.ensures below
    c.index-names-folder.is c.as_str.ensures in
    let compared : begins c.args.path.now (front to) ≡ c.begins-is_below.result =
    begun_as c.args.path.now to c.names-2.result.now
    (take c.args.folder.now.depth c.names-3.result.now) c.args.folder.now.depth
    c.begins-is_below.result deep c.names-2.ensures
    (ap (take c.args.folder.now.depth) c.names-3.ensures) c.begins-is_below.ensures in
    finish m.laws _ (done (of_read c.in_ok-is_taken.ensures.read)) (λ old new are both.
    all_free to
    (begins c.args.path.now (front to)) c.args.folder.now.node old new
    c.in_ok-is_taken.is_taken c.args.folder.now.depth c.as_str.result.now deep named both.0
    c.if-is_taken.false (compared ∙ c.if-is_below.false) both.1)
