use Rattle.std.proofs.Common.{arith, rules}
use Rattle.room_dump.proofs.Reading.{Knows, learns, tail}
use Rattle.room_review.specs.Telling.{GathersUsers}
use Rattle.room_review.proofs.reviewing.everybody_at.Goals as goal

pub returns : goal.returns
returns g c =
    let k = g.K.Keep in
    let laws = g.met.K.Keep.laws in
    let a = c.args.keep.now in
    let b = c.users_at.new.keep in
    let users = c.in_ok-users.users in
    let gathered : Knows k laws a b (λ rows.
    GathersUsers c.args.most c.args.start.now c.args.pairs.now rows users) =
    search (rules, learns, c.in_ok-users.ensures.read) in
    record {
      read =
          tail k laws a b c.everybody.new.keep c.everybody.result gathered
          (λ rows are gathers row never. absurd never)
          (λ rows are gathers x is sites starts. record {
            users = users;
            are = record {
              apart = c.is_known.ensures.apart;
              valid = c.is_known.ensures.valid;
              same = gathers sites starts;
            };
            stranger = c.in_ok-stranger.stranger;
            is_other = c.in_ok-stranger.ensures;
            parties_are = grind (arith, c.in_ok-stranger.stranger, c.as_slice.ensures);
          })
          c.everybody.ensures.read;
    }
