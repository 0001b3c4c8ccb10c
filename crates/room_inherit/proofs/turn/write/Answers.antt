use Rattle.std.proofs.Common.{arith}
use Rattle.room_entry.proofs.Facts.Members.{no_length}
use Rattle.room_inherit.proofs.Calls.{none_written, one_written, only_one}
use Rattle.room_inherit.proofs.turn.write.Goals as goal

pub returns-in-empty-clause-written : goal.returns-in-empty-clause-written
returns-in-empty-clause-written g c =
    grind (arith, none_written, g.K.Keep, g.met.K.Keep.laws, no_length, c.in-empty.len_below)

pub returns-in-len1-clause-written : goal.returns-in-len1-clause-written
returns-in-len1-clause-written g c =
    let up = c.in-len1.len_at_least in
    let below = c.in-len1.len_below in
    one_written g.K.Keep g.met.K.Keep.laws c.args.keep.now c.set_inh.new.self c.set_inh.result
    c.args.which c.args.entries.now c.args.ids.now _
    (only_one c.args.ids.now _ (omega (arith, up, below))) c.set_inh.ensures.written
