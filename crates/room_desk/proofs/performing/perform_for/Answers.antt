use Rattle.std.proofs.Common.{rules}
use Rattle.room_judge.proofs.Halts.{replies}
use Rattle.room_desk.{specs.Called.{calls_for, hands_down}, proofs.Writes.Reading.reads_replied}
use Rattle.room_desk.proofs.performing.perform_for.Goals as goal

pub returns : goal.returns
returns g c =
    let request = c.args.request.now in
    record {
      done = search (rules, replies, g.met.K.Keep.laws, c.serve.ensures.done, c.reply_of.ensures);
      counted = reads_replied g.K.Keep (hands_down request) (calls_for request) c.args.keep.now
          c.serve.new.keep c.serve.result c.reply_of.result c.reply_of.ensures
          c.serve.ensures.counted;
    }
