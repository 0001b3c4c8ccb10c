use Rattle.std.proofs.Common.{rules, take}
use Rattle.room_machine.specs.declared.reply.{Reply.TheVariants.Refused, Reason.TheVariants.Exists}
use Rattle.room_judge.proofs.{Calls.none_done, Halts.refused_as}
use Rattle.room_desk.proofs.Made.{FolderMade.folder_root, ServedItems.name_of_parts}
use Rattle.room_desk.proofs.making.make_folder.Goals as goal

pub make_below-requires : goal.make_below-requires
make_below-requires g c =
    search (rules, name_of_parts, c.in-Some.ensures.parts, c.in-Some.ensures.name)

pub returns-in-None-clause-done : goal.returns-in-None-clause-done
returns-in-None-clause-done g c =
    let m = g.met.K.Keep in
    let path = c.args.ask.now.path.now in
    refused_as m.laws (none_done m.laws c.args.keep.now) c.refusal.result
    (Refused (take 0 path) Exists) c.refusal.ensures
    (search (rules, folder_root, c.in-None.ensures.parts))
